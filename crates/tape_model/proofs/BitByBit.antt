-- The reading bit by bit: the bits of packed bytes, each byte from its most significant bit, are the bits of the values.
use Prim.Native.Nat.{ℕ, zero, suc, ◌+◌, ◌*◌, ◌^◌}
use mathlib.Core.Path.{◌≡◌, refl, sym, ap, ap₂, ◌∙◌}
use mathlib.Core.List.{List, [], ◌∷◌, ◌++◌}
use native.Mathlib.Numerals.{one-add}
use lib.ListN.{replicate, replicate-append-replicate}
use Rattle.tape_model.specs.Format.{total_width, join, cut, Fit, byte_widths, pack, bits_of, bit_string}
use Rattle.tape_model.specs.Laws.{FormatLaws}
use Rattle.tape_model.proofs.Widths.{join_lt, cut-fit, rejoin, recut, cut-append}

total_width-ones : (k : ℕ) → total_width (replicate k 1) ≡ k
total_width-ones zero = refl
total_width-ones (suc k) = ap (λ (x : ℕ). 1 + x) (total_width-ones k) ∙ one-add k

-- the number's bits are the values' bits, side by side
pub side_by_side : (ws vs : List ℕ) → Fit ws vs → bits_of (total_width ws) (join ws vs) ≡ bit_string ws vs
side_by_side [] [] f = refl
side_by_side [] (v ∷ vs) f = absurd f
side_by_side (w ∷ ws) [] f = absurd f
side_by_side (w ∷ ws) (v ∷ vs) f =
    let n = total_width ws in
    let e = total_width-ones n in
    ap (λ (us : List ℕ). cut us (v * 2 ^ n + join ws vs)) (sym (replicate-append-replicate w n 1))
    ∙ ap (λ (k : ℕ). cut (replicate w 1 ++ replicate n 1) (v * 2 ^ k + join ws vs)) (sym e)
    ∙ cut-append (replicate w 1) (replicate n 1) v (join ws vs) (rw e (join_lt ws vs f.1))
    ∙ ap (λ (l : List ℕ). bits_of w v ++ l) (side_by_side ws vs f.1)

pub bit-by-bit : (ws : List ℕ) (n : ℕ) (vs : List ℕ) → total_width (byte_widths n) ≡ total_width ws → Fit ws vs
    → bit_string (byte_widths n) (pack ws n vs) ≡ bit_string ws vs
bit-by-bit ws n vs e f =
    sym (side_by_side (byte_widths n) (pack ws n vs) (cut-fit (byte_widths n) (join ws vs)))
    ∙ ap₂ bits_of e (rejoin ws (byte_widths n) vs e f)
    ∙ side_by_side ws vs f

pub format_laws : FormatLaws
format_laws = record { recut = recut; bit-by-bit = bit-by-bit }
