-- Sums of a number for each place, compared place by place.
use mathlib.Core.Path.{◌≡◌, refl, sym, ap, ap₂, ◌∙◌}
use mathlib.Core.Bool.{Bool, true, false}
use mathlib.Core.Logic.{◌⊎◌, inl, inr, ⊎_elim}
use Prim.Native.Nat.{ℕ, zero, suc, ◌+◌, ◌*◌, ◌/◌, ◌%◌, ◌≤◌, ◌<◌}
use native.Mathlib.Omega.{arith}
use native.Mathlib.Decide.{dec_lt}
use Rattle.trucks.specs.Words.{one, count}
use Rattle.pay_sheet.specs.PaySheet.{sum_to}

-- below n, or n itself
pub below : (i n : ℕ) → i < suc n → (i < n) ⊎ (i ≡ n)
below i n h = elim (dec_lt i n) [ yes p ↦ inl p | no q ↦ inr (omega arith) ]

pub sum_le : (n : ℕ) (f g : ℕ → ℕ) → ((i : ℕ) → i < n → f i ≤ g i) → sum_to n f ≤ sum_to n g
unfolding sum_to
sum_le zero f g h = omega arith
sum_le (suc n) f g h = omega (arith, sum_le n f g (λ i l. h i (omega arith)), h n (omega arith))

pub sum_eq : (n : ℕ) (f g : ℕ → ℕ) → ((i : ℕ) → i < n → f i ≡ g i) → sum_to n f ≡ sum_to n g
unfolding sum_to
sum_eq zero f g h = refl
sum_eq (suc n) f g h = ap₂ ◌+◌ (sum_eq n f g (λ i l. h i (omega arith))) (h n (omega arith))

pub sum_add : (n : ℕ) (f g : ℕ → ℕ) → sum_to n (λ i. f i + g i) ≡ sum_to n f + sum_to n g
unfolding sum_to
sum_add zero f g = refl
sum_add (suc n) f g = omega (arith, sum_add n f g)

pub sum_mul : (n : ℕ) (f : ℕ → ℕ) (k : ℕ) → sum_to n f * k ≡ sum_to n (λ i. f i * k)
unfolding sum_to
sum_mul zero f k = omega arith
sum_mul (suc n) f k = omega (arith, sum_mul n f k)

-- the sum is 1,000 for each whole thousand of the numbers, and what these leave
pub sum_split : (n : ℕ) (f : ℕ → ℕ) → sum_to n f ≡ 1000 * sum_to n (λ i. f i / 1000) + sum_to n (λ i. f i % 1000)
unfolding sum_to
sum_split zero f = refl
sum_split (suc n) f = omega (arith, sum_split n f)

pub sum_none : (n : ℕ) → sum_to n (λ i. 0) ≡ 0
unfolding sum_to
sum_none zero = refl
sum_none (suc n) = omega (arith, sum_none n)

pub sum_term : (n : ℕ) (f : ℕ → ℕ) (i : ℕ) → i < n → f i ≤ sum_to n f
unfolding sum_to
sum_term zero f i h = absurd (omega arith)
sum_term (suc n) f i h = ⊎_elim (λ l. omega (arith, sum_term n f i l)) (λ e. omega (arith, ap f e)) (below i n h)

-- numbers none of which is above another's, with the same sum, are the same
pub sum_same : (n : ℕ) (f g : ℕ → ℕ) → ((i : ℕ) → i < n → f i ≤ g i) → sum_to n f ≡ sum_to n g → (i : ℕ) → i < n → f i ≡ g i
unfolding sum_to
sum_same zero f g h e i l = absurd (omega arith)
sum_same (suc n) f g h e i l =
    let m : sum_to n f ≤ sum_to n g = sum_le n f g (λ j k. h j (omega arith)) in
    let k : f n ≤ g n = h n (omega arith) in
    ⊎_elim (λ p. sum_same n f g (λ j q. h j (omega arith)) (omega arith) i p) (λ p. ap f p ∙ (let z : f n ≡ g n = omega arith in z) ∙ ap g (sym p)) (below i n l)

-- ## Counts are sums of ones

pub count-is_sum : (n : ℕ) (test : ℕ → Bool) → count n test ≡ sum_to n (λ i. one (test i))
unfolding count sum_to
count-is_sum zero test = refl
count-is_sum (suc n) test = omega (arith, count-is_sum n test)

pub one-true : (b : Bool) → b ≡ true → one b ≡ 1
one-true b h = ap one h

pub one-false : (b : Bool) → b ≡ false → one b ≡ 0
one-false b h = ap one h

pub one-cases : (b : Bool) → ((b ≡ true) × (one b ≡ 1)) ⊎ ((b ≡ false) × (one b ≡ 0))
one-cases true = inl (refl, refl)
one-cases false = inr (refl, refl)

-- two tests that never pass both, each of which makes a third pass
pub one-add : (a b c : Bool) → (a ≡ true → c ≡ true) → (b ≡ true → c ≡ true) → (a ≡ true → b ≡ true → ⊥) → one a + one b ≤ one c
one-add true true c p q r = absurd (r refl refl)
one-add true false c p q r = omega (arith, one-true c (p refl))
one-add false true c p q r = omega (arith, one-true c (q refl))
one-add false false c p q r = omega arith

pub one_mono : (a b : Bool) → (a ≡ true → b ≡ true) → one a ≤ one b
one_mono true b h = omega (arith, one-true b (h refl))
one_mono false b h = omega arith

-- tests of which each passes where another does, and so more often
pub count_le : (n : ℕ) (p q : ℕ → Bool) → ((i : ℕ) → i < n → p i ≡ true → q i ≡ true) → count n p ≤ count n q
count_le n p q h =
    omega (arith, count-is_sum n p, count-is_sum n q, sum_le n (λ i. one (p i)) (λ i. one (q i)) (λ i l. one_mono (p i) (q i) (h i l)))

-- two tests that never pass both, wherever either passes a third does
pub count-both_le : (n : ℕ) (p q r : ℕ → Bool) → ((i : ℕ) → i < n → p i ≡ true → r i ≡ true) → ((i : ℕ) → i < n → q i ≡ true → r i ≡ true)
    → ((i : ℕ) → i < n → p i ≡ true → q i ≡ true → ⊥) → count n p + count n q ≤ count n r
count-both_le n p q r f g h =
    omega (
      arith,
      count-is_sum n p,
      count-is_sum n q,
      count-is_sum n r,
      sum_add n (λ i. one (p i)) (λ i. one (q i)),
      sum_le n (λ i. one (p i) + one (q i)) (λ i. one (r i)) (λ i l. one-add (p i) (q i) (r i) (f i l) (g i l) (h i l)),
    )
