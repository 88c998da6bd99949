-- Counts of the numbers below n that are in a set: of equal sets, of one number more, of two stretches, of two sets together.
use mathlib.Core.Path.{◌≡◌, refl, sym, ap, ap₂, ◌∙◌}
use mathlib.Core.Bool.{Bool, true, false, not, ◌&&◌, ◌||◌}
use Prim.Native.Nat.{ℕ, zero, suc, ◌+◌, ◌≤◌, ◌<◌}
use native.Mathlib.Nat.{add-suc, add-zero}
use native.Mathlib.Omega.{arith}
use native.Mathlib.Decide.{dec_le}
use lib.Dec.{eqb}
use borrow.Author.Tests.{eq-eqb, ne_eqb}
use Rattle.calls.specs.Calls.{◌if◌else◌}
use Rattle.trucks.specs.Trucks.{NumberSet}
use Rattle.trucks.specs.Words.{one, count, empty_set, union, intersection, symmetric_difference}

-- a set with one number more
abbrev pub added : ℕ → NumberSet → NumberSet
added n s k = eqb n k || s k

-- the two cases of a test
pub told : (b : Bool) {A : Type 0} → (b ≡ true → A) → (b ≡ false → A) → A
told true f g = f refl
told false f g = g refl

pub count_same : (n : ℕ) (s t : NumberSet) → ((k : ℕ) → k < n → s k ≡ t k) → count n s ≡ count n t
unfolding count
count_same zero s t e = refl
count_same (suc n) s t e = ap₂ (λ (x y : ℕ). x + y) (count_same n s t (λ k h. e k (omega arith))) (ap one (e n (omega arith)))

pub count_none : (n : ℕ) → count n empty_set ≡ 0
unfolding count
count_none zero = refl
count_none (suc n) = omega (arith, count_none n)

one_at_most : (b : Bool) → one b ≤ 1
one_at_most true = omega arith
one_at_most false = omega arith

pub count-at_most : (n : ℕ) (s : NumberSet) → count n s ≤ n
unfolding count
count-at_most zero s = omega arith
count-at_most (suc n) s = omega (arith, count-at_most n s, one_at_most (s n))

-- a number that was not in the set makes one more
pub count-added : (n x : ℕ) (s : NumberSet) → x < n → s x ≡ false → count n (added x s) ≡ count n s + 1
unfolding count
count-added zero x s h e = absurd (omega arith)
count-added (suc n) x s h e = by (λ g. count-added n x s g e) (dec_le n x)
  where
    by : (x < n → count n (added x s) ≡ count n s + 1) → Dec (n ≤ x) → count n (added x s) + one (eqb x n || s n) ≡ count n s + one (s n) + 1
    by below (yes g) =
        let f : x ≡ n = omega arith in
        let c = count_same n (added x s) s (λ k l. rw (ne_eqb x k (λ q. omega arith))) in
        let o : one (eqb x n || s n) ≡ 1 = rw (eq-eqb x n f) in
        let z : one (s n) ≡ 0 = ap (λ (k : ℕ). one (s k)) (sym f) ∙ ap one e in
        omega arith
    by below (no g) =
        let c = below (omega arith) in
        let o : one (eqb x n || s n) ≡ one (s n) = rw (ne_eqb x n (λ q. omega arith)) in
        omega arith

-- the first number, and the others
pub count_front : (n : ℕ) (s : NumberSet) → count (suc n) s ≡ one (s 0) + count n (λ k. s (suc k))
unfolding count
count_front zero s = omega arith
count_front (suc n) s = omega (arith, count_front n s)

-- the first n, and the m behind them
pub count_sum : (n m : ℕ) (s : NumberSet) → count (n + m) s ≡ count n s + count m (λ k. s (n + k))
unfolding count
count_sum n zero s = ap (λ (k : ℕ). count k s) (add-zero n) ∙ omega arith
count_sum n (suc m) s = ap (λ (k : ℕ). count k s) (add-suc n m) ∙ omega (arith, count_sum n m s)

-- either and both are first and second; just one and both are either
module _ (s t : NumberSet) where
  pub either_both : (n : ℕ) → count n (union s t) + count n (intersection s t) ≡ count n s + count n t
  unfolding count
  either_both zero = refl
  either_both (suc n) = omega (arith, either_both n, at (s n) (t n))
    where
      at : (a b : Bool) → one (a || b) + one (a && b) ≡ one a + one b
      at true true = refl
      at true false = refl
      at false true = refl
      at false false = refl

  pub just_one-both : (n : ℕ) → count n (symmetric_difference s t) + count n (intersection s t) ≡ count n (union s t)
  unfolding count
  just_one-both zero = refl
  just_one-both (suc n) = omega (arith, just_one-both n, at (s n) (t n))
    where
      at : (a b : Bool) → one (not b if a else b) + one (a && b) ≡ one (a || b)
      at true true = refl
      at true false = refl
      at false true = refl
      at false false = refl
