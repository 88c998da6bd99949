-- `open_all`: of no text the tag alone is left.
use mathlib.Core.Path.{◌≡◌, sym, ap, ◌∙◌}
use Prim.Native.Nat.{ℕ, ◌-◌}
use native.Mathlib.Omega.{arith}
use lib.ListN.{length}
use Rattle.calls.specs.Calls.{same_bytes}
use Rattle.acorn_model.specs.Stretches.{through, text_end, tag_bytes}
use Rattle.acorn_kernel.specs.Together.{state_of}
use Rattle.message.proofs.Rest.{tag_alone, nothing_written}
use Rattle.message.proofs.open_all.Goals as goal

pub returns-then-left-eq0 : goal.returns-then-left-eq0
returns-then-left-eq0 c =
    let a = c.args in
    let S = state_of a.s in
    let s = a.sealed.now in
    let tag_length = length s - a.left in
    let none_left : length s ≡ tag_length = omega arith in record {
      value = c.tag_is.ensures ∙ ap (λ (n : ℕ). same_bytes s (tag_bytes n (through text_end S))) none_left ∙ sym (tag_alone S tag_length s none_left);
      out_after = sym (nothing_written S tag_length s none_left a.out.now);
    }
