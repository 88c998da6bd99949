-- `tape_sheet`: by the rate, and then by what opening the tape answers.
use mathlib.Core.Path.{◌≡◌, sym, ap, ◌∙◌}
use native.Mathlib.Omega.{arith}
use borrow.Author.Rules.{rules}
use Rattle.calls.specs.declared.Refusal.{Refusal}
use Rattle.calls.specs.declared.Refusal.TheVariants.{RateTooHigh}
use Rattle.calls.specs.Refusals.{refusal_number}
use Rattle.calls.specs.Calls.{refused, as_reply}
use Rattle.tape_model.proofs.Opening.{few_tickets}
use Rattle.listing.proofs.Opened.{same_answer, as_opened, room-enough}
use Rattle.pay_sheet.specs.declared.PaySheet.{PaySheet}
use Rattle.pay_sheet.specs.Clauses.{sheet_reply, without_pay}
use Rattle.print_pay_sheet.proofs.Sheets.{thirteen_first, refused_sheet, opened_sheet}
use Rattle.print_pay_sheet.proofs.tape_sheet.Goals as goal

sent_back : {sheet : PaySheet} (r : Refusal) → sheet ≡ without_pay r → sheet_reply sheet ≡ refused (refusal_number r)
unfolding sheet_reply
sent_back r e = ap sheet_reply e

pub returns-then-rate-gt-HIGHEST_RATE : goal.returns-then-rate-gt-HIGHEST_RATE
returns-then-rate-gt-HIGHEST_RATE c = sent_back RateTooHigh c.refused.ensures ∙ sym (thirteen_first c.args.key.now c.args.tape.now c.args.rate (omega arith))

pub overflow_mul-totals : goal.overflow_mul-totals
unfolding as_reply
overflow_mul-totals c = let few = few_tickets _ _ _ _ _ (as_opened _ _ _ _ _ c.in-Ok.ensures) in search rules

pub shared_ref_as_front-pay_sheet : goal.shared_ref_as_front-pay_sheet
unfolding as_reply
shared_ref_as_front-pay_sheet c = omega (arith, few_tickets _ _ _ _ _ (as_opened _ _ _ _ _ c.in-Ok.ensures))

pub returns-in-Err : goal.returns-in-Err
unfolding as_reply
returns-in-Err c =
    sent_back _ c.refused-in-Err.ensures
    ∙ sym (refused_sheet _ _ c.args.rate c.args.plain.now _ (omega arith) (room-enough _ _ _ (omega arith)) _ (same_answer _ _ _ _ _ c.in-Err.ensures))

pub returns-in-Ok : goal.returns-in-Ok
unfolding as_reply
returns-in-Ok c =
    c.pay_sheet.ensures.result_value
    ∙ sym (opened_sheet _ _ c.args.rate c.args.plain.now _ (omega arith) (room-enough _ _ _ (omega arith)) _ (as_opened _ _ _ _ _ c.in-Ok.ensures))
