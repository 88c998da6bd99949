-- `ticket_bytes`: the bytes of the two words are those of their number.
use Prim.Native.Nat.{ℕ}
use mathlib.Core.Path.{sym, ap, ap₂, ◌∙◌}
use mathlib.Core.List.{List, [], ◌∷◌, ◌++◌}
use lib.ListN.{take, drop}
use borrow.Rule.Slice.PartMut.{put_mid}
use Rattle.tape_model.specs.Format.{byte_widths}
use Rattle.tape_model.proofs.Widths.{cut-append}
use Rattle.ticket.proofs.WordBytes.{be_bytes}
use Rattle.ticket.proofs.ticket_bytes.Goals as goal

pub returns : goal.returns
returns c =
    let high = c.args.w.high in
    let low = c.args.w.low in
    ap₂ (λ (front back : List ℕ). put_mid 8 5 (front ++ 0 ∷ 0 ∷ 0 ∷ 0 ∷ 0 ∷ []) back)
    (c.copy_from_slice.ensures.after ∙ c.to_be_bytes.ensures ∙ be_bytes high)
    (c.copy_from_slice-2.ensures.after ∙ ap (λ (l : List ℕ). take 5 (drop 3 l)) (c.to_be_bytes-2.ensures ∙ be_bytes low))
    ∙ sym (cut-append (byte_widths 8) (byte_widths 5) high low c.requires)
