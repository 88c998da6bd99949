-- `of` gives what key and tape are sent back for by their lengths and the head.
use mathlib.Core.Path.{◌≡◌, refl, sym, ap}
use mathlib.Core.Bool.{Bool, false, not, ◌&&◌}
use mathlib.Core.List.{List}
use Prim.Native.Nat.{ℕ}
use native.Mathlib.Omega.{arith}
use lib.Dec.{eqb}
use lib.ListN.{length, take}
use lib.Seq.{length-take-le}
use borrow.Author.Rules.{rules}
use borrow.Author.Tests.{eq-eqb, ne_eqb}
use Rattle.std.proofs.Common.{Err}
use Rattle.calls.specs.Calls.{refused, as_reply}
use Rattle.calls.specs.Refusals.{refusal_number}
use Rattle.acorn_model.specs.Machine.{key_length}
use Rattle.tape_model.specs.Ticket.{head_length, unpack_head}
use Rattle.tape_model.specs.Tape.{is_tape_length}
use Rattle.tape_model.proofs.Opening.{sizes_told}
use Rattle.tape_opening.specs.Clauses.{sealed_refusal}
use Rattle.tape_opening.proofs.Sizes.{head_refused_by_3}
use Rattle.tape_opening.proofs.opening.Sealed.of.Goals as goal

-- ## Where key and tape have their sizes

module _ (key tape : List ℕ) (b : Bool) (key_is : length key ≡ key_length) (b_is : b ≡ is_tape_length (length tape)) (told : not b ≡ false) where
  sized : not (eqb (length key) key_length && is_tape_length (length tape)) ≡ false
  sized = rw (eq-eqb _ _ key_is, ← b_is) told

  head_size : length (take head_length tape) ≡ head_length
  head_size =
      let size = (sizes_told key (length tape) (is_tape_length (length tape)) refl sized).1 in
      length-take-le head_length tape (omega (arith, size.long))

  -- a head that is refused, by 3
  refused-head : (n : ℕ) → refused n ≡ unpack_head (take head_length tape) → sealed_refusal key tape ≡ n
  unfolding sealed_refusal
  refused-head n r = rw (sized, ← r) (sym (head_refused_by_3 _ n head_size r))

-- ## Its parts

pub returns-then-key-ne-KEY_LENGTH : goal.returns-then-key-ne-KEY_LENGTH
unfolding sealed_refusal
returns-then-key-ne-KEY_LENGTH c = rw (ne_eqb _ _ c.if-key-ne-KEY_LENGTH.true)

pub returns-then-not-is_tape_length : goal.returns-then-not-is_tape_length
unfolding sealed_refusal
returns-then-not-is_tape_length c = rw (eq-eqb _ _ c.if-key-ne-KEY_LENGTH.false, ← c.is_tape_length.ensures, c.if-not-is_tape_length.true)

pub slice_bounds-unpack_head-end : goal.slice_bounds-unpack_head-end
slice_bounds-unpack_head-end c =
    let a = c.args in
    sym (head_size a.key.now a.tape.now _ c.if-key-ne-KEY_LENGTH.false c.is_tape_length.ensures (ap not c.if-not-is_tape_length.false))

pub returns-in_err-unpack_head : goal.returns-in_err-unpack_head
unfolding as_reply
returns-in_err-unpack_head c =
    let a = c.args in
    let e = c.in_err-unpack_head.field-0.0 in
    let passed_on : c.from_residual.result ≡ Err e = search rules in
    rw passed_on
    (refused-head a.key.now a.tape.now _ c.if-key-ne-KEY_LENGTH.false c.is_tape_length.ensures (ap not c.if-not-is_tape_length.false) (refusal_number e) c.in_err-unpack_head.ensures)

pub invariant_of-result : goal.invariant_of-result
unfolding sealed_refusal as_reply
invariant_of-result c =
    let a = c.args in
    record {
      passed = rw (
        sized a.key.now a.tape.now _ c.if-key-ne-KEY_LENGTH.false c.is_tape_length.ensures (ap not c.if-not-is_tape_length.false),
        ← c.in_ok-unpack_head.ensures,
      );
    }
