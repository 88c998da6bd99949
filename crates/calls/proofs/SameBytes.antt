-- same_bytes is true of two lists exactly when they are equal.
use mathlib.Core.Path.{◌≡◌, refl, ap₂}
use mathlib.Core.Bool.{true, false≢true}
use mathlib.Core.List.{List, [], ◌∷◌}
use Prim.Native.Nat.{ℕ}
use lib.Dec.{eqb}
use borrow.Author.Tests.{eq-eqb, eqb-true}
use Rattle.std.proofs.lemmas.Bool.{and_parts}
use Rattle.calls.specs.Calls.{same_bytes}

pub same-bytes-refl : (l : List ℕ) → same_bytes l l ≡ true
unfolding same_bytes
same-bytes-refl [] = refl
same-bytes-refl (x ∷ l) = rw (eq-eqb x x refl) (same-bytes-refl l)

pub same-bytes-true : (l k : List ℕ) → same_bytes l k ≡ true → l ≡ k
unfolding same_bytes
same-bytes-true [] [] h = refl
same-bytes-true [] (y ∷ k) h = absurd (false≢true h)
same-bytes-true (x ∷ l) [] h = absurd (false≢true h)
same-bytes-true (x ∷ l) (y ∷ k) h = let a = and_parts (eqb x y) (same_bytes l k) h in ap₂ ◌∷◌ (eqb-true x y a.0) (same-bytes-true l k a.1)
