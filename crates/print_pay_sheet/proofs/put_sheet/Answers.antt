-- `put_sheet`: by the sheet's answer.
use mathlib.Core.Path.{◌≡◌, sym, ap, ◌∙◌}
use Prim.Native.Nat.{ℕ}
use native.Mathlib.Omega.{arith}
use borrow.Author.Rules.{rules}
use Rattle.std.specs.Prelude.{Result}
use Rattle.calls.specs.declared.Refusal.{Refusal}
use Rattle.calls.specs.Refusals.{refusal_number}
use Rattle.tape_model.specs.Listing.{refused_line}
use Rattle.listing.proofs.Texts.{wrote_as}
use Rattle.pay_sheet.specs.declared.PaySheet.{PaySheet}
use Rattle.pay_sheet.specs.Clauses.{sheet_reply}
use Rattle.print_pay_sheet.specs.Printed.{sheet_text}
use Rattle.print_pay_sheet.proofs.Texts.{refused_short}
use Rattle.print_pay_sheet.proofs.put_sheet.Goals as goal

pub put_line-requires : goal.put_line-requires
unfolding refused_line
put_line-requires c = omega (arith, refused_short c.from-in-Err.result)

by_answer : {a : Result ℕ Refusal} (sheet : PaySheet) → sheet.answer ≡ a → sheet_text (sheet_reply (record { answer = a; shares = sheet.shares })) ≡ sheet_text (sheet_reply sheet)
by_answer sheet e = ap (λ (a : Result ℕ Refusal). sheet_text (sheet_reply (record { answer = a; shares = sheet.shares }))) (sym e)

pub returns-in-Err : goal.returns-in-Err
unfolding sheet_reply sheet_text refused_line
returns-in-Err c =
    let number : c.from-in-Err.result ≡ refusal_number c.in-Err.refusal = search rules in
    wrote_as (ap refused_line number ∙ by_answer c.args.sheet c.in-Err.is) c.put_line.ensures

pub returns-in-Ok : goal.returns-in-Ok
unfolding sheet_reply sheet_text
returns-in-Ok c = wrote_as (by_answer c.args.sheet c.in-Ok.is) c.put_paid.ensures
