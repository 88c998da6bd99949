-- The cases of specs/Cases.antt, computed.
use mathlib.Core.Path.{refl}
use Rattle.calls.specs.Calls.{unless_refused}
use Rattle.tape_model.specs.Ticket.{net}
use Rattle.tape_model.specs.Tape.{total_net, open_tape_refusal}
use Rattle.tape_model.specs.Listing.{decimal_below, numbers, refused_line}
use Rattle.trucks.specs.Words.{count}
use Rattle.pay_sheet.specs.PaySheet.{net_of, sum_to, each, comes_before, rank, pay, exact_share, whole_cents, remainder, cents_left, share, sheet_of}
use Rattle.print_pay_sheet.specs.Printed.{digit_count, has_rate, rate_in, behind_rate, tape_sheet, contractor_lines, sheet_text, printed_sheet, printed}
use Rattle.print_pay_sheet.specs.Cases.{PrintedCases}

pub printed-cases : PrintedCases
unfolding printed printed_sheet sheet_text contractor_lines numbers decimal_below refused_line digit_count has_rate rate_in behind_rate tape_sheet open_tape_refusal unless_refused sheet_of pay share cents_left whole_cents remainder exact_share net_of net total_net each rank comes_before count sum_to
printed-cases =
    record {
      example = refl;
      rates = (refl, refl, refl);
      nineteen = (refl, refl);
      twenty = refl;
      no_rates = (refl, refl, refl, refl, refl);
      refusals = (refl, refl);
    }
