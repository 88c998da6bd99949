-- Two strings compared byte by byte, with the differences gathered in a number.
use mathlib.Core.Path.{◌≡◌, refl, sym, ap, ◌∙◌}
use mathlib.Core.Bool.{Bool, true, false, ◌&&◌, and_assoc, and-true, and-false}
use mathlib.Core.List.{List, [], ◌∷◌}
use Prim.Native.Nat.{ℕ, suc}
use native.Mathlib.Omega.{arith}
use borrow.Author.Tests.{eq-eqb, ne_eqb, eqb-true, eqb-false}
use lib.Bits.{bit_or, bit_xor, and_le_l, and_le_r, or_add_and, xor_add_and, xor_self}
use lib.Dec.{eqb}
use lib.ListN.{length}
use Rattle.std.proofs.lemmas.List.{nil_from_length}
use Rattle.calls.specs.Calls.{same_bytes}

pub other_length : (a b : List ℕ) → (length a ≡ length b → ⊥) → false ≡ same_bytes a b
unfolding same_bytes
other_length [] [] h = absurd (h refl)
other_length [] (y ∷ b) h = refl
other_length (x ∷ a) [] h = refl
other_length (x ∷ a) (y ∷ b) h = rw (← (other_length a b (λ e. h (ap suc e)))) (sym (and-false (eqb x y)))

no_difference : (d x y : ℕ) → bit_or d (bit_xor x y) ≡ 0 → (d ≡ 0) × (x ≡ y)
no_difference d x y e =
    let z = bit_xor x y in
    omega (arith, or_add_and d z, and_le_l d z, and_le_r d z, xor_add_and x y, and_le_l x y, and_le_r x y)

gathered : (d x y : ℕ) → eqb (bit_or d (bit_xor x y)) 0 ≡ (eqb d 0 && eqb x y)
gathered d x y = by (eqb d 0) (eqb x y) refl refl
  where
    by : (t u : Bool) → eqb d 0 ≡ t → eqb x y ≡ u → eqb (bit_or d (bit_xor x y)) 0 ≡ (t && u)
    by true true p q =
        let z : bit_xor x y ≡ 0 = ap (bit_xor x) (sym (eqb-true x y q)) ∙ xor_self x in
        eq-eqb (bit_or d (bit_xor x y)) 0 (omega (arith, or_add_and d (bit_xor x y), eqb-true d 0 p))
    by true false p q = ne_eqb _ 0 (λ e. eqb-false x y q (no_difference d x y e).1)
    by false u p q = ne_eqb _ 0 (λ e. eqb-false d 0 p (no_difference d x y e).0)

-- ## The bytes still to come: the first two looked at, and none left

module _ (d : ℕ) (a b : List ℕ) where
  pub compare_more : (x y : ℕ) {s t : List ℕ} → s ≡ x ∷ a → t ≡ y ∷ b → (eqb (bit_or d (bit_xor x y)) 0 && same_bytes a b) ≡ (eqb d 0 && same_bytes s t)
  unfolding same_bytes
  compare_more x y h g = rw (h, g, gathered d x y) (and_assoc (eqb d 0) (eqb x y) (same_bytes a b))

  pub compare_all : length a ≡ 0 → length b ≡ 0 → eqb d 0 ≡ (eqb d 0 && same_bytes a b)
  unfolding same_bytes
  compare_all h g = rw (nil_from_length a h, nil_from_length b g) (sym (and-true (eqb d 0)))
