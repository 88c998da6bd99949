-- `packed_head` is the packed head: the number of its values in 32 and 40 bits, where what does not fit in 40 runs over.
use Prim.Native.Nat.{ℕ, ◌+◌, ◌*◌, ◌/◌, ◌%◌, ◌^◌}
use mathlib.Core.Path.{◌≡◌, sym, ap, ap₂, ◌∙◌}
use mathlib.Core.List.{List, [], ◌∷◌, ◌++◌}
use native.Mathlib.Omega.{arith}
use lib.ListN.{take, drop}
use borrow.Rule.Slice.PartMut.{put_mid}
use Rattle.tape_model.specs.Format.{join, cut, byte_widths, widths}
use Rattle.tape_model.specs.Ticket.{head_format, head_values, pack_head}
use Rattle.tape_model.proofs.Widths.{cut-above, cut-append}
use Rattle.ticket.proofs.WordBytes.{be_bytes}
use Rattle.ticket.proofs.packed_head.Goals as goal

pub returns : goal.returns
unfolding pack_head
returns c =
    let h = c.args.h in
    let l = h.shift * 2 ^ 20 + h.sheet in
    let rest = l % 2 ^ 40 in
    let top = h.device + l / 2 ^ 40 in
    let e : join (widths head_format) (head_values h) ≡ top * 2 ^ 40 + rest = omega arith in
    let whole : l / 2 ^ 40 * 2 ^ 40 + rest ≡ l = omega arith in
    ap₂ (λ (front back : List ℕ). put_mid 4 5 (front ++ 0 ∷ 0 ∷ 0 ∷ 0 ∷ 0 ∷ []) back)
    (c.copy_from_slice.ensures.after ∙ ap (λ (bytes : List ℕ). take 4 (drop 4 bytes)) (c.to_be_bytes.ensures ∙ be_bytes _ ∙ ap (cut (byte_widths 8)) {y = top} (cc)))
    (c.copy_from_slice-2.ensures.after ∙ ap (λ (bytes : List ℕ). take 5 (drop 3 bytes)) (c.to_be_bytes-2.ensures ∙ be_bytes _ ∙ ap (cut (byte_widths 8)) {y = l} (cc)))
    ∙ sym (ap (cut (byte_widths 9)) e ∙ cut-append (byte_widths 4) (byte_widths 5) top rest (omega arith)
    ∙ ap (λ (bytes : List ℕ). cut (byte_widths 4) top ++ bytes) (sym (cut-above (byte_widths 5) (l / 2 ^ 40) rest) ∙ ap (cut (byte_widths 5)) whole))
