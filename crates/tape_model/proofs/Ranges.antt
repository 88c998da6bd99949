-- Ranges and rules as facts on numbers, and strings of bytes as values that fit.
use Prim.Native.Nat.{ℕ, zero, suc, ◌≤◌, ◌<◌, ◌^◌}
use mathlib.Core.Path.{◌≡◌, refl, ap, ap₂, ◌∙◌}
use mathlib.Core.Bool.{true, ◌&&◌, false≢true}
use mathlib.Core.List.{List, [], ◌∷◌}
use native.Mathlib.Omega.{arith}
use lib.Dec.{leb}
use lib.ListN.{length, length-replicate}
use borrow.Author.Tests.{leb-true, le-leb}
use Rattle.std.proofs.lemmas.Bool.{and_parts}
use Rattle.calls.specs.Calls.{AreBytes}
use Rattle.tape_model.specs.Format.{Field, ◌bits◌to◌, widths, in_range, in_ranges, join, cut, Fit, byte_widths, pack}
use Rattle.tape_model.proofs.Widths.{cut-fit}

-- ## Ranges

abbrev pub InRange : Field → ℕ → Type 0
InRange (width bits low to high) v = (low ≤ v) × (v ≤ high)

abbrev pub InRanges : List Field → List ℕ → Type 0
InRanges [] [] = Unit {0}
InRanges [] (v ∷ vs) = ⊥
InRanges (f ∷ fs) [] = ⊥
InRanges (f ∷ fs) (v ∷ vs) = InRange f v × InRanges fs vs

in-range : (f : Field) (v : ℕ) → in_range f v ≡ true → InRange f v
in-range (width bits low to high) v h = let p = and_parts (leb low v) (leb v high) h in (leb-true _ _ p.0, leb-true _ _ p.1)

pub in-ranges : (fs : List Field) (vs : List ℕ) → in_ranges fs vs ≡ true → InRanges fs vs
in-ranges [] [] h = tt
in-ranges [] (v ∷ vs) h = absurd (false≢true h)
in-ranges (f ∷ fs) [] h = absurd (false≢true h)
in-ranges (f ∷ fs) (v ∷ vs) h = let p = and_parts (in_range f v) (in_ranges fs vs) h in (in-range f v p.0, in-ranges fs vs p.1)

-- and back
ranges_in_one : (f : Field) (v : ℕ) → InRange f v → in_range f v ≡ true
ranges_in_one (width bits low to high) v r = ap₂ ◌&&◌ (le-leb low v r.0) (le-leb v high r.1)

pub ranges_in : (fs : List Field) (vs : List ℕ) → InRanges fs vs → in_ranges fs vs ≡ true
ranges_in [] [] r = refl
ranges_in [] (v ∷ vs) r = absurd r
ranges_in (f ∷ fs) [] r = absurd r
ranges_in (f ∷ fs) (v ∷ vs) r = ap₂ ◌&&◌ (ranges_in_one f v r.0) (ranges_in fs vs r.1)

-- each field has the bits for its highest value
abbrev pub Roomy : List Field → Type 0
Roomy [] = Unit {0}
Roomy ((width bits low to high) ∷ fs) = (high < 2 ^ width) × Roomy fs

pub ranges_fit : (fs : List Field) (vs : List ℕ) → Roomy fs → InRanges fs vs → Fit (widths fs) vs
ranges_fit [] [] r h = tt
ranges_fit [] (v ∷ vs) r h = absurd h
ranges_fit (f ∷ fs) [] r h = absurd h
ranges_fit ((width bits low to high) ∷ fs) (v ∷ vs) r h = (omega arith, ranges_fit fs vs r.1 h.1)

-- ## Byte strings

pub bytes_fit : (s : List ℕ) → AreBytes s → Fit (byte_widths (length s)) s
bytes_fit [] f = tt
bytes_fit (x ∷ s) f = (f 0, bytes_fit s (λ p. f (suc p)))

fit-bytes : (n : ℕ) (s : List ℕ) → Fit (byte_widths n) s → AreBytes s
fit-bytes zero [] f p = omega arith
fit-bytes zero (x ∷ s) f p = absurd f
fit-bytes (suc n) [] f p = absurd f
fit-bytes (suc n) (x ∷ s) f zero = f.0
fit-bytes (suc n) (x ∷ s) f (suc p) = fit-bytes n s f.1 p

pub pack-bytes : (ws : List ℕ) (n : ℕ) (vs : List ℕ) → AreBytes (pack ws n vs)
pack-bytes ws n vs = fit-bytes n (pack ws n vs) (cut-fit (byte_widths n) (join ws vs))

length_cut : (ws : List ℕ) (n : ℕ) → length (cut ws n) ≡ length ws
length_cut [] n = refl
length_cut (w ∷ ws) n = ap suc (length_cut ws n)

pub pack-length : (ws : List ℕ) (n : ℕ) (vs : List ℕ) → length (pack ws n vs) ≡ n
pack-length ws n vs = length_cut (byte_widths n) (join ws vs) ∙ length-replicate n 8
