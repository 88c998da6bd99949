-- Numbers that are all different and below n: exactly k of them are below k. Ranks are such numbers.
use mathlib.Core.Path.{◌≡◌, refl, sym, ap, ◌∙◌}
use mathlib.Core.Bool.{Bool, true, false}
use Prim.Native.Nat.{ℕ, zero, suc, ◌+◌, ◌-◌, ◌≤◌, ◌<◌}
use native.Mathlib.Omega.{arith}
use native.Mathlib.Decide.{dec_lt, ℕ_discrete}
use lib.Dec.{ltb, eqb}
use borrow.Author.Tests.{eqb-true, lt-ltb, le-ltb, eq-eqb, ne_eqb}
use Rattle.trucks.specs.Words.{one, count}
use Rattle.trucks.proofs.Counting.{count-at_most}
use Rattle.pay_sheet.proofs.Sums.{sum_eq, sum_add, count-is_sum, one-true, one-false, count-both_le}

-- a number is below k + 1 where it is below k, or is k
one_next : (r k : ℕ) → one (ltb r (suc k)) ≡ one (ltb r k) + one (eqb r k)
one_next r k = elim (dec_lt r k) [
  | yes p ↦ omega (arith, one-true _ (lt-ltb r (suc k) (omega arith)), one-true _ (lt-ltb r k p), one-false _ (ne_eqb r k (λ e. omega arith)))
  | no q ↦ elim (ℕ_discrete r k) [
    | yes e ↦ omega (arith, one-true _ (lt-ltb r (suc k) (omega arith)), one-false _ (le-ltb r k (omega arith)), one-true _ (eq-eqb r k e))
    | no w ↦ omega (arith, one-false _ (le-ltb r (suc k) (omega arith)), one-false _ (le-ltb r k (omega arith)), one-false _ (ne_eqb r k w))
  ]
]

eqb-sym : (a b : ℕ) → eqb a b ≡ eqb b a
eqb-sym a b = elim (ℕ_discrete a b) [ yes e ↦ eq-eqb a b e ∙ sym (eq-eqb b a (sym e)) | no w ↦ ne_eqb a b w ∙ sym (ne_eqb b a (λ e. w (sym e))) ]

-- of the numbers below n exactly one is c, if c is
pub count-one : (n c : ℕ) → count n (λ i. eqb i c) ≡ one (ltb c n)
unfolding count
count-one zero c = sym (one-false _ (le-ltb c 0 (omega arith)))
count-one (suc n) c = omega (arith, count-one n c, one_next c n, ap one (eqb-sym n c))

pub count_of_none : (n : ℕ) (test : ℕ → Bool) → ((i : ℕ) → i < n → test i ≡ false) → count n test ≡ 0
unfolding count
count_of_none zero test h = refl
count_of_none (suc n) test h = omega (arith, count_of_none n test (λ i l. h i (omega arith)), one-false _ (h n (omega arith)))

-- a test that no two places pass is passed by at most one
count_single : (n : ℕ) (test : ℕ → Bool) → ((i j : ℕ) → i < j → j < n → test i ≡ true → test j ≡ true → ⊥) → count n test ≤ 1
unfolding count
count_single zero test h = omega arith
count_single (suc n) test h = go (count_single n test (λ i j l m. h i j l (omega arith))) (test n) refl
  where
    go : count n test ≤ 1 → (b : Bool) → test n ≡ b → count n test + one (test n) ≤ 1
    go r true e = omega (arith, one-true _ e, count_of_none n test (λ i l. other i l (test i) refl))
      where
        other : (i : ℕ) → i < n → (b : Bool) → test i ≡ b → test i ≡ false
        other i l true p = absurd (h i n l (omega arith) p e)
        other i l false p = p
    go r false e = omega (arith, one-false _ e)

module _ (f : ℕ → ℕ) (n : ℕ) (small : (c : ℕ) → c < n → f c < n) (distinct : (c d : ℕ) → c < d → d < n → f c ≡ f d → ⊥) where
  -- how many of the n numbers are below k
  firsts : ℕ → ℕ
  firsts k = count n (λ c. ltb (f c) k)

  firsts_none : firsts 0 ≡ 0
  unfolding firsts
  firsts_none = count_of_none n (λ c. ltb (f c) 0) (λ c l. le-ltb (f c) 0 (omega arith))

  firsts_all : firsts n ≡ n
  unfolding firsts count
  firsts_all = all n (λ c l. l)
    where
      all : (m : ℕ) → ((c : ℕ) → c < m → c < n) → count m (λ c. ltb (f c) n) ≡ m
      all zero h = refl
      all (suc m) h = omega (arith, all m (λ c l. h c (omega arith)), one-true _ (lt-ltb (f m) n (small m (h m (omega arith)))))

  firsts-step : (k : ℕ) → firsts (suc k) ≤ firsts k + 1
  unfolding firsts
  firsts-step k =
      omega (
        arith,
        count-is_sum n (λ c. ltb (f c) (suc k)),
        count-is_sum n (λ c. ltb (f c) k),
        count-is_sum n (λ c. eqb (f c) k),
        sum_eq n (λ c. one (ltb (f c) (suc k))) (λ c. one (ltb (f c) k) + one (eqb (f c) k)) (λ c l. one_next (f c) k),
        sum_add n (λ c. one (ltb (f c) k)) (λ c. one (eqb (f c) k)),
        count_single n (λ c. eqb (f c) k) (λ i j l m p q. distinct i j l m (eqb-true (f i) k p ∙ sym (eqb-true (f j) k q))),
      )

  firsts-up : (k : ℕ) → firsts k ≤ k
  firsts-up zero = omega (arith, firsts_none)
  firsts-up (suc k) = omega (arith, firsts-up k, firsts-step k)

  firsts_down : (k j m : ℕ) → m ≡ k + j → firsts m ≤ firsts k + j
  firsts_down k zero m e = omega (arith, ap firsts (let z : m ≡ k = omega arith in z))
  firsts_down k (suc j) zero e = absurd (omega arith)
  firsts_down k (suc j) (suc m) e = omega (arith, firsts-step m, firsts_down k j m (omega arith))

  pub firsts_are : (k : ℕ) → k ≤ n → count n (λ c. ltb (f c) k) ≡ k
  unfolding firsts
  firsts_are k h = omega (arith, firsts-up k, firsts_down k (n - k) n (omega arith), firsts_all)

-- ## Ranks

-- who comes before whom, told by numbers that are all different
module _ (before : ℕ → ℕ → Bool) (key : ℕ → ℕ) (n : ℕ) (yes_key : (d c : ℕ) → d < n → c < n → before d c ≡ true → key c < key d)
    (no_key : (d c : ℕ) → d < n → c < n → before d c ≡ false → key d ≤ key c) (keys : (c d : ℕ) → c < d → d < n → key c ≡ key d → ⊥) where
  rank_in : ℕ → ℕ
  rank_in c = count n (λ d. before d c)

  module _ (c : ℕ) (hc : c < n) where
    -- all that come before c, and c, pass a test: they are at most as many as pass it
    pub rank-within : (test : ℕ → Bool) → ((e : ℕ) → e < n → before e c ≡ true → test e ≡ true) → test c ≡ true → count n (λ e. before e c) < count n test
    rank-within test others its =
        omega (
          arith,
          count-both_le n (λ e. before e c) (λ e. eqb e c) test others (λ e l p. ap test (eqb-true e c p) ∙ its)
              (λ e l p q. omega (arith, yes_key e c l hc p, ap key (eqb-true e c q))),
          count-one n c,
          one-true _ (lt-ltb c n hc),
        )

    rank-small : rank_in c < n
    unfolding rank_in
    rank-small = omega (arith, rank-within (λ e. true) (λ e l p. refl) refl, count-at_most n (λ e. true))

  -- whoever comes before d comes before each that d comes before, and so does d
  rank_less : (d c : ℕ) → d < n → c < n → key c < key d → rank_in d < rank_in c
  unfolding rank_in
  rank_less d c hd hc h = rank-within d hd (λ e. before e c) (λ e l p. first e l p (before e c) refl) (second (before d c) refl)
    where
      first : (e : ℕ) → e < n → before e d ≡ true → (b : Bool) → before e c ≡ b → before e c ≡ true
      first e l p true q = q
      first e l p false q = absurd (omega (arith, yes_key e d l hd p, no_key e c l hc q))

      second : (b : Bool) → before d c ≡ b → before d c ≡ true
      second true q = q
      second false q = absurd (omega (arith, no_key d c hd hc q))

  rank_distinct : (c d : ℕ) → c < d → d < n → rank_in c ≡ rank_in d → ⊥
  rank_distinct c d l h e =
      elim (dec_lt (key c) (key d)) [
        | yes p ↦ omega (arith, rank_less d c h (omega arith) p)
        | no q ↦ elim (dec_lt (key d) (key c)) [
          | yes p ↦ omega (arith, rank_less c d (omega arith) h p)
          | no r ↦ keys c d l h (omega arith)
        ]
      ]

  -- exactly k have a rank below k
  pub chosen : (k : ℕ) → k ≤ n → count n (λ c. ltb (count n (λ d. before d c)) k) ≡ k
  unfolding rank_in
  chosen k h = firsts_are rank_in n rank-small rank_distinct k h

  -- whose rank is smaller comes before
  pub smaller_before : (c d : ℕ) → c < n → d < n → count n (λ e. before e c) < count n (λ e. before e d) → before c d ≡ true
  unfolding rank_in
  smaller_before c d hc hd l = go (before c d) refl
    where
      differ : ¬ (c ≡ d) → key c ≡ key d → ⊥
      differ s k = elim (dec_lt c d) [ yes p ↦ keys c d p hd k | no q ↦ keys d c (omega arith) hc (sym k) ]

      go : (b : Bool) → before c d ≡ b → before c d ≡ true
      go true e = e
      go false e = elim (dec_lt (key c) (key d)) [
        | yes p ↦ absurd (omega (arith, rank_less d c hd hc p))
        | no q ↦ elim (ℕ_discrete c d) [
          | yes s ↦ absurd (omega (arith, ap rank_in s))
          | no s ↦ absurd (differ s (omega (arith, no_key c d hc hd e)))
        ]
      ]
