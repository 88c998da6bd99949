-- Shares by largest remainder, of any exact shares in thousandths of a cent.
use mathlib.Core.Path.{◌≡◌, refl, sym, ap, ap₂, ◌∙◌}
use mathlib.Core.Bool.{Bool, true, false, ◌&&◌, ◌||◌, false≢true}
use mathlib.Core.Logic.{◌⊎◌, inl, inr, ⊎_elim}
use Prim.Native.Nat.{ℕ, zero, suc, ◌+◌, ◌-◌, ◌*◌, ◌/◌, ◌%◌, ◌≤◌, ◌<◌}
use native.Mathlib.Omega.{arith}
use native.Mathlib.Decide.{dec_lt, ℕ_discrete}
use lib.Dec.{ltb, eqb}
use borrow.Author.Tests.{ltb-true, ltb-false, eqb-true, eqb-false, lt-ltb, le-ltb, eq-eqb}
use Rattle.calls.proofs.Choices.{both, neither}
use Rattle.trucks.specs.Words.{one, count}
use Rattle.trucks.proofs.Counting.{count-at_most}
use Rattle.pay_sheet.specs.PaySheet.{contractors, sum_to, comes_before, rank}
use Rattle.pay_sheet.proofs.Sums.{sum_eq, sum_add, sum_split, sum_same, count-is_sum, count_le, one-cases, one-true, one-false, one_mono}
use Rattle.pay_sheet.proofs.Ranks.{chosen, smaller_before, rank-within}

-- ## Who comes before whom, as one number: the remainder first, then the lower contractor number

or-true : (a b : Bool) → (a || b) ≡ true → (a ≡ true) ⊎ (b ≡ true)
or-true true b h = inl refl
or-true false b h = inr h

and-false : (a b : Bool) → (a && b) ≡ false → (a ≡ false) ⊎ (b ≡ false)
and-false true b h = inr h
and-false false b h = inl refl

or_last : (a : Bool) → (a || true) ≡ true
or_last true = refl
or_last false = refl

-- c has the larger remainder, or the same and the lower number
abbrev pub Before : (ℕ → ℕ) → ℕ → ℕ → Type 0
Before rest c d = (rest d < rest c) ⊎ ((rest c ≡ rest d) × (c < d))

module _ (rest : ℕ → ℕ) where
  key : ℕ → ℕ
  key c = 16 * rest c + (15 - c)

  pub before-told : (d c : ℕ) → comes_before rest d c ≡ true → Before rest d c
  unfolding comes_before
  before-told d c h =
      ⊎_elim (λ p. inl (ltb-true (rest c) (rest d) p))
      (λ p. let q = both (eqb (rest d) (rest c)) (ltb d c) p in inr (eqb-true (rest d) (rest c) q.0, ltb-true d c q.1))
      (or-true (ltb (rest c) (rest d)) (eqb (rest d) (rest c) && ltb d c) h)

  pub before-known : (d c : ℕ) → Before rest d c → comes_before rest d c ≡ true
  unfolding comes_before
  before-known d c h =
      ⊎_elim (λ p. ap (λ (b : Bool). b || (eqb (rest d) (rest c) && ltb d c)) (lt-ltb (rest c) (rest d) p))
      (λ p. ap₂ (λ (a b : Bool). ltb (rest c) (rest d) || (a && b)) (eq-eqb (rest d) (rest c) p.0) (lt-ltb d c p.1) ∙ or_last (ltb (rest c) (rest d))) h

  key_less : (d c : ℕ) → d < 16 → c < 16 → Before rest d c → key c < key d
  unfolding key
  key_less d c hd hc h = ⊎_elim (λ p. omega arith) (λ p. omega (arith, p.0, p.1)) h

  yes_key : (d c : ℕ) → d < 16 → c < 16 → comes_before rest d c ≡ true → key c < key d
  yes_key d c hd hc h = key_less d c hd hc (before-told d c h)

  no_key : (d c : ℕ) → d < 16 → c < 16 → comes_before rest d c ≡ false → key d ≤ key c
  unfolding key comes_before
  no_key d c hd hc h =
      let p = neither (ltb (rest c) (rest d)) (eqb (rest d) (rest c) && ltb d c) h in
      let l = ltb-false (rest c) (rest d) p.0 in
      ⊎_elim (λ q. elim (ℕ_discrete (rest d) (rest c)) [ yes e ↦ absurd (eqb-false (rest d) (rest c) q e) | no w ↦ omega arith ])
      (λ q. omega (arith, ltb-false d c q))
      (and-false (eqb (rest d) (rest c)) (ltb d c) p.1)

  keys : (c d : ℕ) → c < d → d < 16 → key c ≡ key d → ⊥
  unfolding key
  keys c d l h e = omega arith

  -- exactly k have a rank below k, and they come before the others
  rank_chosen : (k : ℕ) → k ≤ 16 → count contractors (λ c. ltb (rank rest c) k) ≡ k
  unfolding rank
  rank_chosen k h = chosen (comes_before rest) key 16 yes_key no_key keys k h

  rank_before : (c d : ℕ) → c < 16 → d < 16 → rank rest c < rank rest d → Before rest c d
  unfolding rank
  rank_before c d hc hd l = before-told c d (smaller_before (comes_before rest) key 16 yes_key no_key keys c d hc hd l)

  -- whoever has a remainder comes before who has none
  none_last : (c : ℕ) → rest c ≡ 0 → count contractors (λ d. ltb 0 (rest d)) ≤ rank rest c
  unfolding rank comes_before
  none_last c e =
      count_le contractors (λ d. ltb 0 (rest d)) (λ d. comes_before rest d c)
      (λ d l p. ap (λ (t : Bool). t || (eqb (rest d) (rest c) && ltb d c)) (lt-ltb (rest c) (rest d) (omega (arith, ltb-true 0 (rest d) p))))

-- numbers of at most 999 add up to at most 999 for each that is not 0
few_rests : (n : ℕ) (f : ℕ → ℕ) → ((i : ℕ) → f i ≤ 999) → sum_to n f ≤ 999 * count n (λ i. ltb 0 (f i))
unfolding count sum_to
few_rests zero f h = omega arith
few_rests (suc n) f h = omega (arith, few_rests n f h, h n, here (f n) (h n))
  where
    here : (x : ℕ) → x ≤ 999 → x ≤ 999 * one (ltb 0 x)
    here x l = elim (dec_lt 0 x) [ yes p ↦ omega (arith, one-true _ (lt-ltb 0 x p)) | no q ↦ omega arith ]

-- ## The cents left

module _ (exact : ℕ → ℕ) where
  abbrev pub whole : ℕ → ℕ
  whole c = exact c / 1000

  abbrev pub rest : ℕ → ℕ
  rest c = exact c % 1000

  abbrev pub total : ℕ
  total = sum_to contractors exact / 1000

  abbrev pub left : ℕ
  left = total - sum_to contractors whole

  -- the contractors with a remainder
  some : ℕ
  some = count contractors (λ d. ltb 0 (rest d))

  pub total-is : sum_to contractors whole + left ≡ total
  total-is = omega (arith, sum_split contractors exact)

  rests_low : sum_to contractors rest ≤ 999 * some
  unfolding some
  rests_low = few_rests contractors rest (λ i. omega arith)

  -- each cent left has a contractor with a remainder
  left-some : left ≤ some
  left-some = omega (arith, sum_split contractors exact, rests_low)

  pub few : left < contractors
  unfolding some
  few = omega (arith, sum_split contractors exact, rests_low, count-at_most contractors (λ d. ltb 0 (rest d)))

  -- ## Who gets one

  abbrev gets : ℕ → Bool
  gets c = ltb (rank rest c) left

  abbrev pub share_of : ℕ → ℕ
  share_of c = whole c + one (gets c)

  gets-left : count contractors gets ≡ left
  gets-left = rank_chosen rest left (omega (arith, few))

  pub shares_sum : sum_to contractors share_of ≡ total
  shares_sum = sum_add contractors whole (λ c. one (gets c)) ∙ omega (arith, gets-left, count-is_sum contractors gets, total-is)

  -- who gets a cent has a remainder
  gets-rest : (c : ℕ) → gets c ≡ true → 0 < rest c
  unfolding some
  gets-rest c h =
      elim (ℕ_discrete (rest c) 0) [ yes e ↦ absurd (omega (arith, ltb-true (rank rest c) left h, none_last rest c e, left-some)) | no w ↦ omega arith ]

  pub share_cases : (c : ℕ) → ((gets c ≡ true) × (share_of c ≡ whole c + 1)) ⊎ ((gets c ≡ false) × (share_of c ≡ whole c))
  share_cases c = ⊎_elim (λ p. inl (p.0, omega (arith, p.1))) (λ p. inr (p.0, omega (arith, p.1))) (one-cases (gets c))

  pub more_rest : (c : ℕ) → share_of c ≡ whole c + 1 → 0 < rest c
  more_rest c h = ⊎_elim (λ p. gets-rest c p.0) (λ p. absurd (omega (arith, p.1, h))) (share_cases c)

  ordered : (c d : ℕ) → c < 16 → d < 16 → gets c ≡ true → gets d ≡ false → Before rest c d
  ordered c d hc hd p q = rank_before rest c d hc hd (omega (arith, ltb-true (rank rest c) left p, ltb-false (rank rest d) left q))

  pub in_order : (c d : ℕ) → c < 16 → d < 16 → share_of c ≡ whole c + 1 → share_of d ≡ whole d → Before rest c d
  in_order c d hc hd p q =
      ordered c d hc hd (⊎_elim (λ s. s.0) (λ s. absurd (omega (arith, s.1, p))) (share_cases c))
      (⊎_elim (λ s. absurd (omega (arith, s.1, q))) (λ s. s.0) (share_cases d))

  pub above : (c : ℕ) → 1000 * share_of c < exact c + 1000
  above c = ⊎_elim (λ p. omega (arith, p.1, gets-rest c p.0)) (λ p. omega (arith, p.1)) (share_cases c)

  pub under : (c : ℕ) → exact c < 1000 * share_of c + 1000
  under c = ⊎_elim (λ p. omega (arith, p.1)) (λ p. omega (arith, p.1)) (share_cases c)

  -- who hauled more gets no less; who hauled as much, at most a cent less
  pub no_less : (c d : ℕ) → c < 16 → d < 16 → exact c < exact d → share_of c ≤ share_of d
  no_less c d hc hd l =
      ⊎_elim
      (λ p. ⊎_elim (λ q. omega (arith, p.1, q.1)) (λ q. ⊎_elim (λ (r : rest d < rest c). omega (arith, p.1, q.1)) (λ r. omega (arith, p.1, q.1, r.0)) (ordered c d hc hd p.0 q.0)) (share_cases d))
      (λ p. ⊎_elim (λ q. omega (arith, p.1, q.1)) (λ q. omega (arith, p.1, q.1)) (share_cases d))
      (share_cases c)

  pub at_most_a_cent : (c d : ℕ) → exact c ≡ exact d → share_of c ≤ share_of d + 1
  at_most_a_cent c d e = ⊎_elim (λ p. ⊎_elim (λ q. omega (arith, p.1, q.1)) (λ q. omega (arith, p.1, q.1)) (share_cases d)) (λ p. ⊎_elim (λ q. omega (arith, p.1, q.1)) (λ q. omega (arith, p.1, q.1)) (share_cases d)) (share_cases c)

  pub nothing : (c : ℕ) → exact c ≡ 0 → share_of c ≡ 0
  nothing c e = omega (arith, above c)

  -- ## No other shares

  module _ (shares : ℕ → ℕ) (adds : sum_to contractors shares ≡ total) (cases : (c : ℕ) → c < 16 → (shares c ≡ whole c) ⊎ (shares c ≡ whole c + 1))
      (fair : (c d : ℕ) → c < 16 → d < 16 → shares c ≡ whole c + 1 → shares d ≡ whole d → Before rest c d) where
    abbrev extra : ℕ → Bool
    extra c = ltb (whole c) (shares c)

    extra_cases : (c : ℕ) → c < 16 → ((extra c ≡ true) × (shares c ≡ whole c + 1)) ⊎ ((extra c ≡ false) × (shares c ≡ whole c))
    extra_cases c h =
        ⊎_elim (λ e. inr (le-ltb (whole c) (shares c) (omega arith), e)) (λ e. inl (lt-ltb (whole c) (shares c) (omega arith), e)) (cases c h)

    extra_is : (c : ℕ) → c < 16 → shares c ≡ whole c + one (extra c)
    extra_is c h = ⊎_elim (λ p. omega (arith, p.1, one-true _ p.0)) (λ p. omega (arith, p.1, one-false _ p.0)) (extra_cases c h)

    extra_left : count contractors extra ≡ left
    extra_left =
        omega (
          arith,
          count-is_sum contractors extra,
          sum_add contractors whole (λ c. one (extra c)),
          sum_eq contractors shares (λ c. whole c + one (extra c)) extra_is,
          adds,
          total-is,
        )

    -- all that come before one that has more have more
    extra_first : (c e : ℕ) → c < 16 → e < 16 → extra c ≡ true → comes_before rest e c ≡ true → extra e ≡ true
    extra_first c e hc he m p =
        ⊎_elim (λ q. q.0)
        (λ q. absurd (omega (
          arith,
          yes_key rest e c he hc p,
          key_less rest c e hc he (fair c e hc he (⊎_elim (λ w. w.1) (λ w. absurd (false≢true (sym w.0 ∙ m))) (extra_cases c hc)) q.1),
        )))
        (extra_cases e he)

    extra_gets : (c : ℕ) → c < 16 → extra c ≡ true → gets c ≡ true
    unfolding rank
    extra_gets c h m =
        lt-ltb (rank rest c) left
        (omega (arith, rank-within (comes_before rest) (key rest) 16 (yes_key rest) (no_key rest) (keys rest) c h extra (λ e l p. extra_first c e h l m p) m, extra_left))

    pub the_only : (c : ℕ) → c < 16 → shares c ≡ share_of c
    the_only c h =
        extra_is c h
        ∙ ap (λ (n : ℕ). whole c + n)
        (sum_same contractors (λ d. one (extra d)) (λ d. one (gets d)) (λ d l. one_mono (extra d) (gets d) (extra_gets d l))
        (sym (count-is_sum contractors extra) ∙ extra_left ∙ sym gets-left ∙ count-is_sum contractors gets) c h)
