-- `decrypt_into` runs the text into the buffer and compares the tag.
use mathlib.Core.Path.{sym, ◌∙◌}
use Prim.Native.Nat.{◌-◌}
use native.Mathlib.Omega.{arith}
use lib.Dec.{eqb}
use lib.ListN.{length}
use lib.Seq.{length-take-le}
use borrow.Author.Tests.{eqb-true, lt-leb, le-leb}
use Rattle.calls.proofs.Choices.{both}
use Rattle.acorn_model.specs.Machine.{key_length, nonce_length}
use Rattle.acorn_model.specs.Stretches.{full_tag_length}
use Rattle.message.proofs.Decrypting.{not-decrypted, decrypted_right, decrypted_wrong}
use Rattle.message.proofs.decrypt_into.Goals as goal
use Rattle.message.proofs.decrypt_into.Goals.{then-not-sizes_right-via-then-not-sizes_right, then-not-sizes_right-via-else-not-sizes_right+then-sealed-lt-TAG_LENGTH}

pub returns-then-not-sizes_right : goal.returns-then-not-sizes_right
returns-then-not-sizes_right c =
    let a = c.args in
    elim c.then-not-sizes_right.branch [
      | then-not-sizes_right-via-then-not-sizes_right w ↦ not-decrypted a.key.now a.nonce.now a.«data».now a.sealed.now a.buffer.now (rw (sym c.sizes_right.ensures ∙ w.if-not-sizes_right.true))
      | then-not-sizes_right-via-else-not-sizes_right+then-sealed-lt-TAG_LENGTH w ↦
          not-decrypted a.key.now a.nonce.now a.«data».now a.sealed.now a.buffer.now (rw ((sym c.sizes_right.ensures ∙ w.if-not-sizes_right.false), lt-leb _ _ w.if-sealed-lt-TAG_LENGTH.true))
    ]

pub returns-then-buffer-n : goal.returns-then-buffer-n
returns-then-buffer-n c =
    let a = c.args in
    not-decrypted a.key.now a.nonce.now a.«data».now a.sealed.now a.buffer.now
    (rw ((sym c.sizes_right.ensures ∙ c.if-not-sizes_right.false), le-leb _ _ c.if-sealed-lt-TAG_LENGTH.false, lt-leb _ _ c.if-buffer-n.true))

pub after_data-requires : goal.after_data-requires
after_data-requires c =
    let a = c.args in
    let sizes = both (eqb (length a.key.now) key_length) (eqb (length a.nonce.now) nonce_length) (sym c.sizes_right.ensures ∙ c.if-not-sizes_right.false) in
    (eqb-true _ _ sizes.0, eqb-true _ _ sizes.1)

pub slice_bounds-decrypt-end : goal.slice_bounds-decrypt-end
slice_bounds-decrypt-end c =
    let s = c.args.sealed.now in
    sym (length-take-le (length s - full_tag_length) s (omega arith))

pub returns-then-not-good : goal.returns-then-not-good
returns-then-not-good c =
    let a = c.args in
    decrypted_wrong a.key.now a.nonce.now a.«data».now a.sealed.now a.buffer.now (sym c.sizes_right.ensures ∙ c.if-not-sizes_right.false) c.if-sealed-lt-TAG_LENGTH.false c.if-buffer-n.false
    _ _ _ _ c.after_data.ensures c.decrypt-s.ensures c.tag_is-good.ensures _ (c.if-not-good.true) c.zeroize.ensures

pub returns-else-not-good : goal.returns-else-not-good
returns-else-not-good c =
    let a = c.args in
    decrypted_right a.key.now a.nonce.now a.«data».now a.sealed.now a.buffer.now (sym c.sizes_right.ensures ∙ c.if-not-sizes_right.false) c.if-sealed-lt-TAG_LENGTH.false c.if-buffer-n.false
    _ _ _ _ c.after_data.ensures c.decrypt-s.ensures c.tag_is-good.ensures (c.if-not-good.false)
