-- The cases of specs/Cases.antt, computed.
use mathlib.Core.Path.{refl}
use native.Mathlib.Omega.{arith}
use Rattle.calls.specs.Calls.{map_replies, unless_refused, written_over}
use Rattle.tape_model.specs.Ticket.{ordered, values_rule, pack_ticket, unpack_ticket}
use Rattle.tape_model.specs.Tape.{pack_tickets, is_tickets_length, unpack_tickets, plain_tickets}
use Rattle.pairing.specs.Pairing.{fits, paired, falls_behind, times_fall, tickets_to_pair, plain_paired, pair_tapes}
use Rattle.pairing.specs.Cases.{PairingCases}

pub pairing_cases : PairingCases
unfolding pair_tapes plain_paired tickets_to_pair paired fits times_fall falls_behind map_replies unless_refused written_over plain_tickets is_tickets_length unpack_tickets unpack_ticket pack_tickets pack_ticket values_rule ordered
pairing_cases =
    record {
      at_120 = (refl, refl);
      at_121 = (refl, refl);
      at_once = refl;
      other_truck = (refl, refl, refl);
      whole_day = (refl, refl);
      two_forms = (refl, refl);
      two_for_one = refl;
      choice_of_two = refl;
      equal_times = refl;
      both_empty = refl;
      one_empty = (refl, refl);
      tapes = refl;
      exchanged = refl;
      from_bytes = refl;
      fall = refl;
      do_not_fall = (refl, refl, refl);
      not_neighbours = refl;
      one_of_falling = refl;
      two_of_falling = record { fit = (refl, (refl, tt)); once-first = ((λ e. omega arith, tt), (tt, tt)); once-second = ((λ e. omega arith, tt), (tt, tt)) };
      first-falls = refl;
      second-falls = refl;
      two_first = (refl, refl, refl, refl);
      then_eight = (refl, refl);
      same-tape = (refl, refl, refl);
      then_twelve = refl;
      pairs_short = refl;
      first_short = refl;
      second_short = refl;
      long_enough = refl;
      longer = refl;
    }
