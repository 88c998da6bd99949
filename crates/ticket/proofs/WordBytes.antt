-- Words of 8 bytes: as the library reads and writes them, and where they stand in the number of a longer string.
use Prim.Native.Nat.{ℕ, zero, suc, ◌+◌, ◌-◌, ◌*◌, ◌/◌, ◌%◌, ◌^◌, ◌<◌, ◌≤◌}
use mathlib.Core.Path.{◌≡◌, refl, sym, ap, ap₂, ◌∙◌, subst}
use mathlib.Core.List.{List, [], ◌∷◌}
use native.Mathlib.Omega.{arith}
use lib.ListN.{length, get_or, take, drop, length-drop}
use lib.Seq.{length-take-le, take_all, get_or-drop}
use denote.Ref.{Bor}
use Rattle.std.proofs.Common.{Option, Some}
use Rattle.std.specs.Option.{MatchOption}
use Rattle.std.specs.Array.{IsFirstChunk, IsWholeChunk}
use lib.Pow.{high, low}
use Rattle.calls.specs.Calls.{AreBytes}
use Rattle.calls.proofs.AreBytes.{take_are_bytes}
use Rattle.tape_model.specs.Format.{total_width, join, cut, Fit, byte_widths}
use Rattle.std.specs.Int.{w64, to_be_bytes, from_be_bytes}
use Rattle.tape_model.proofs.Widths.{cons, join_lt, join_parts}
use Rattle.tape_model.proofs.Ranges.{bytes_fit}

-- a string of 8, byte by byte
pub eight : (s : List ℕ) → length s ≡ 8
    → s ≡ get_or s 0 0 ∷ get_or s 1 0 ∷ get_or s 2 0 ∷ get_or s 3 0 ∷ get_or s 4 0 ∷ get_or s 5 0 ∷ get_or s 6 0 ∷ get_or s 7 0 ∷ []
eight s n = sym (spelled s) ∙ ap (λ (k : ℕ). spell k (λ p. get_or s p 0)) n
  where
    spell : ℕ → (ℕ → ℕ) → List ℕ
    spell zero f = []
    spell (suc k) f = f 0 ∷ spell k (λ p. f (suc p))

    spelled : (l : List ℕ) → spell (length l) (λ p. get_or l p 0) ≡ l
    spelled [] = refl
    spelled (x ∷ l) = ap (◌∷◌ x) (spelled l)

-- a string of a + b bytes: the first a are the top of its number, and the last b the rest
module _ (a b : ℕ) (s : List ℕ) (n : length s ≡ a + b) (f : AreBytes s) where
  parts : join (byte_widths (length s)) s ≡ join (byte_widths a) (take a s) * 2 ^ total_width (byte_widths b) + join (byte_widths b) (take b (drop a s))
  parts =
      join_parts a b s n
      ∙ ap₂ (λ (i j : ℕ). join (byte_widths i) (take a s) * 2 ^ total_width (byte_widths b) + join (byte_widths j) (take b (drop a s)))
      (length-take-le a s (omega arith))
      (length-take-le b (drop a s) (simp length-drop (omega arith)))

  rest_lt : join (byte_widths b) (take b (drop a s)) < 2 ^ total_width (byte_widths b)
  rest_lt =
      let l = take b (drop a s) in
      let fit = bytes_fit l (take_are_bytes b (drop a s) (λ p. rw get_or-drop (f (a + p)))) in
      join_lt (byte_widths b) l (subst (λ (k : ℕ). Fit (byte_widths k) l) (length-take-le b (drop a s) (simp length-drop (omega arith))) fit)

  pub first-bytes : join (byte_widths a) (take a s) ≡ join (byte_widths (length s)) s / 2 ^ total_width (byte_widths b)
  first-bytes = sym (ap (λ (x : ℕ). x / 2 ^ total_width (byte_widths b)) parts ∙ high _ _ rest_lt)

  pub last-bytes : join (byte_widths b) (take b (drop a s)) ≡ join (byte_widths (length s)) s % 2 ^ total_width (byte_widths b)
  last-bytes = sym (ap (λ (x : ℕ). x % 2 ^ total_width (byte_widths b)) parts ∙ low _ _ rest_lt)

-- a word's bytes, and the word that bytes are, as the library has them
pub be_bytes : (n : ℕ) → to_be_bytes w64 n ≡ cut (byte_widths 8) n
be_bytes n = cons (omega arith) (cons (omega arith) (cons (omega arith) (cons (omega arith) (cons (omega arith) (cons (omega arith) (cons (omega arith) (cons (omega arith) refl)))))))

pub be_word : (s : List ℕ) → length s ≡ 8 → from_be_bytes w64 s ≡ join (byte_widths 8) s
be_word s n = omega (arith, ap (from_be_bytes w64) (eight s n), ap (join (byte_widths 8)) (eight s n))

-- the number of the first 8 bytes of a string, and of the last 8
pub first-word : (s : List ℕ) (o : Option (Bor (List ℕ))) (y : Bor (List ℕ)) (x : ℕ) → MatchOption o (length s < 8) (λ b. IsFirstChunk s b.now 8) → o ≡ Some y → x ≡ from_be_bytes w64 y.now
    → x ≡ join (byte_widths 8) (take 8 s)
first-word s o y x given here e =
    let whole : IsFirstChunk s y.now 8 = rw here at given in
    e ∙ be_word y.now (ap length whole.same ∙ length-take-le 8 s whole.enough) ∙ ap (join (byte_widths 8)) whole.same

pub last-word : (k : ℕ) (s : List ℕ) (o : Option (Bor (List ℕ))) (y : Bor (List ℕ)) (x : ℕ) → length s ≡ k + 8
    → MatchOption o (length s < 8) (λ b. (8 ≤ length s) × IsWholeChunk (drop (length s - 8) s) b.now 8) → o ≡ Some y → x ≡ from_be_bytes w64 y.now
    → x ≡ join (byte_widths 8) (take 8 (drop k s))
last-word k s o y x n given here e =
    let whole : IsWholeChunk (drop (length s - 8) s) y.now 8 = (rw here at given).1 in
    e ∙ be_word y.now (ap length whole.same ∙ whole.long)
    ∙ ap (join (byte_widths 8)) (whole.same ∙ sym (take_all 8 (drop (length s - 8) s) (omega (arith, whole.long))) ∙ ap (λ (i : ℕ). take 8 (drop i s)) {x = length s - 8} {y = k} (omega arith))
