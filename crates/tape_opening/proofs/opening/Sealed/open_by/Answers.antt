-- `open_by` opens as the tag and the tickets decide.
use mathlib.Core.Path.{◌≡◌, refl, sym, ap, ◌∙◌}
use mathlib.Core.List.{List, ◌++◌}
use Prim.Native.Nat.{ℕ, ◌-◌}
use native.Mathlib.Omega.{arith}
use borrow.Author.Rules.{rules}
use Rattle.std.proofs.Common.{Err}
use lib.ListN.{length, take, drop}
use lib.Seq.{length-take-le, take-length}
use Rattle.calls.specs.Calls.{as_reply}
use Rattle.tape_model.specs.Tape.{empty_tape_length}
use Rattle.tape_opening.proofs.ByScratch.{not-copied, copied_out}
use Rattle.tape_opening.proofs.opening.Sealed.open_by.Goals as goal

pub returns-in_err-opened-clause-opens_tape : goal.returns-in_err-opened-clause-opens_tape
unfolding as_reply
returns-in_err-opened-clause-opens_tape c =
    let s = c.args.self.now in
    let e = c.in_err-opened.field-0.0 in
    let passed_on : c.from_residual.result ≡ Err e = search rules in
    rw passed_on (not-copied s.key.now s.tape.now s.passed c.args.scratch.now c.args.out.now c.requires.0 c.requires.1 _ _ c.in_err-opened.ensures _ refl)

pub returns-clause-opens_tape : goal.returns-clause-opens_tape
unfolding as_reply
returns-clause-opens_tape c =
    let s = c.args.self.now in
    let out = c.args.out.now in
    let kept = c.open_text.auto.scratch in
    let n : ℕ = length s.tape.now - empty_tape_length in
    let n-is : c.text_length-n.result ≡ n = omega (arith, c.text_length-n.ensures) in
    let piece : List ℕ = take n c.open_text.new.scratch in
    let size : length piece ≡ n = length-take-le n c.open_text.new.scratch (omega (arith, c.requires.0)) in
    copied_out s.key.now s.tape.now s.passed c.args.scratch.now out c.requires.0 c.requires.1 _ _ c.in_ok-opened.ensures _ refl piece _ refl
    (ap (λ (l : List ℕ). l ++ drop c.text_length-n.result out) (c.copy_from_slice.ensures.after ∙ ap (λ (k : ℕ). take k c.open_text.new.scratch) n-is ∙ sym (take-length piece))
    ∙ ap (λ (k : ℕ). take (length piece) piece ++ drop k out) (n-is ∙ sym size))
