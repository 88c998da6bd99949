-- `put_sheet_of`: the key is the first 16 bytes, or all where there are fewer.
use mathlib.Core.Path.{ap, ap₂, ◌∙◌}
use mathlib.Core.List.{List}
use Prim.Native.Nat.{ℕ}
use native.Mathlib.Omega.{arith}
use Rattle.acorn_model.specs.Machine.{key_length}
use Rattle.listing.proofs.Texts.{wrote_as}
use Rattle.listing.proofs.Inputs.{same_front, same_rest}
use Rattle.print_pay_sheet.specs.Printed.{tape_sheet, sheet_text, printed_sheet}
use Rattle.print_pay_sheet.proofs.put_sheet_of.Goals as goal

pub returns : goal.returns
unfolding printed_sheet
returns c =
    let rest = c.args.rest.now in
    let n = c.min.result in
    let key = c.split_at.ensures.front ∙ same_front rest n key_length (λ h. omega (arith, c.min.ensures)) (λ h. omega (arith, c.min.ensures)) in
    let tape = c.split_at.ensures.back ∙ same_rest rest n key_length (λ h. omega (arith, c.min.ensures)) (λ h. omega (arith, c.min.ensures)) in
    wrote_as (ap sheet_text (c.tape_sheet.ensures ∙ ap₂ (λ (a b : List ℕ). tape_sheet a b c.args.rate) key tape)) c.put_sheet.ensures
