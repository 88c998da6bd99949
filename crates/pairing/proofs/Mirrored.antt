-- Exchanging the tapes gives the same pairs, whether times fall or not: the pairing is the only stable one.
use mathlib.Core.Path.{◌≡◌, refl, subst}
use mathlib.Core.Bool.{true}
use mathlib.Core.List.{List, [], ◌∷◌}
use mathlib.Core.Logic.{◌↔◌, ◌⊎◌, inl, inr}
use Prim.Native.Nat.{ℕ, zero, suc, ◌+◌, ◌≤◌, ◌<◌}
use native.Mathlib.Omega.{arith}
use native.Mathlib.Decide.{dec_le, ℕ_discrete}
use Rattle.tape_model.specs.declared.Ticket.{Ticket}
use Rattle.pairing.specs.Pairing.{fits, Pair, paired}
use Rattle.pairing.specs.Laws.{Partners, FreeFor, TakesFirstFree}
use Rattle.pairing.proofs.FirstFree.{the_one}
use Rattle.pairing.proofs.Exchanged.{fits-turned}

-- ## Stable pairings

-- p has a partner no later than q, or q has one no later than p
abbrev AsEarly : (ℕ → ℕ → Type 0) → ℕ → ℕ → Type 0
AsEarly R p q = ((r : ℕ) × (r ≤ q) × R p r) ⊎ ((r : ℕ) × (r ≤ p) × R r q)

-- pairs fit, no position is in two, and of two positions that fit one has a partner no later than the other position
record Stable (ts us : List Ticket) (R : ℕ → ℕ → Type 0) : Type 0 where
  fitting : (p q : ℕ) → R p q → fits ts us p q ≡ true
  one-second : (p q r : ℕ) → R p q → R p r → q ≡ r
  one-first : (p q r : ℕ) → R p q → R r q → p ≡ r
  as_early : (p q : ℕ) → fits ts us p q ≡ true → AsEarly R p q

-- stable pairings have the same pairs: by induction on p + q
agree : (ts us : List Ticket) (R S : ℕ → ℕ → Type 0) → Stable ts us R → Stable ts us S → (n p q : ℕ) → p + q < n → R p q → S p q
agree ts us R S s t zero p q h m = absurd (omega arith)
agree ts us R S s t (suc n) p q h m = by (t.as_early p q (s.fitting p q m)) (agree ts us S R t s n)
  where
    second : (r : ℕ) → r ≤ q → S p r → (r < q → R p r) → Dec (q ≤ r) → S p q
    second r l o back (yes g) = let same : r ≡ q = omega arith in subst (λ (x : ℕ). S p x) same o
    second r l o back (no g) = absurd (omega (arith, s.one-second p q r m (back (omega arith))))

    first : (r : ℕ) → r ≤ p → S r q → (r < p → R r q) → Dec (p ≤ r) → S p q
    first r l o back (yes g) = let same : r ≡ p = omega arith in subst (λ (x : ℕ). S x q) same o
    first r l o back (no g) = absurd (omega (arith, s.one-first p q r m (back (omega arith))))

    by : AsEarly S p q → ((x y : ℕ) → x + y < n → S x y → R x y) → S p q
    by (inl (r, l, o)) back = second r l o (λ g. back p r (omega arith) o) (dec_le q r)
    by (inr (r, l, o)) back = first r l o (λ g. back r q (omega arith) o) (dec_le p r)

-- turned round, a pairing stays stable
turned_stable : (ts us : List Ticket) (R : ℕ → ℕ → Type 0) → Stable us ts R → Stable ts us (λ (p q : ℕ). R q p)
turned_stable ts us R s =
    record {
      fitting = λ p q m. fits-turned us ts q p (s.fitting q p m);
      one-second = λ p q r. s.one-first q p r;
      one-first = λ p q r. s.one-second q p r;
      as_early = λ p q e. by p q (s.as_early q p (fits-turned ts us p q e));
    }
  where
    by : (p q : ℕ) → AsEarly R q p → AsEarly (λ (p q : ℕ). R q p) p q
    by p q (inl x) = inr x
    by p q (inr x) = inl x

-- ## The pairing is stable

-- whether a position of the first tape has a partner, and whether one of the second has
has_second : (pairs : List Pair) (p : ℕ) → Dec ((q : ℕ) × Partners pairs p q)
has_second [] p = no (λ h. h.1)
has_second (x ∷ pairs) p = by (ℕ_discrete x.first p) (has_second pairs p)
  where
    neither : (x.first ≡ p → ⊥) → ((q : ℕ) × Partners pairs p q → ⊥) → (q : ℕ) → Partners (x ∷ pairs) p q → ⊥
    neither d none q (inl e) = d e.0
    neither d none q (inr m) = none (q, m)

    by : Dec (x.first ≡ p) → Dec ((q : ℕ) × Partners pairs p q) → Dec ((q : ℕ) × Partners (x ∷ pairs) p q)
    by (yes e) rest = yes (x.second, inl (e, refl))
    by (no d) (yes h) = yes (h.0, inr h.1)
    by (no d) (no none) = no (λ h. neither d none h.0 h.1)

has_first : (pairs : List Pair) (q : ℕ) → Dec ((p : ℕ) × Partners pairs p q)
has_first [] q = no (λ h. h.1)
has_first (x ∷ pairs) q = by (ℕ_discrete x.second q) (has_first pairs q)
  where
    neither : (x.second ≡ q → ⊥) → ((p : ℕ) × Partners pairs p q → ⊥) → (p : ℕ) → Partners (x ∷ pairs) p q → ⊥
    neither d none p (inl e) = d e.1
    neither d none p (inr m) = none (p, m)

    by : Dec (x.second ≡ q) → Dec ((p : ℕ) × Partners pairs p q) → Dec ((p : ℕ) × Partners (x ∷ pairs) p q)
    by (yes e) rest = yes (x.first, inl (refl, e))
    by (no d) (yes h) = yes (h.0, inr h.1)
    by (no d) (no none) = no (λ h. neither d none h.0 h.1)

module _ (ts us : List Ticket) (pairs : List Pair) (t : TakesFirstFree ts us pairs) where
  not-later : (p q r : ℕ) → Partners pairs p q → Partners pairs p r → q ≤ r
  not-later p q r m o = t.comes_first p q r m (t.fitting p r o) (t.free p r o)

  one-first : (p q r : ℕ) → Partners pairs p q → Partners pairs r q → p ≡ r
  one-first p q r m o = by (dec_le p r) (dec_le r p)
    where
      by : Dec (p ≤ r) → Dec (r ≤ p) → p ≡ r
      by (yes g) (yes h) = omega arith
      by (yes g) (no h) = absurd (t.free r q o p (omega arith) m)
      by (no g) h = absurd (t.free p q m r (omega arith) o)

  -- q is free for p, so p has a partner no later than q
  was_free : (p q : ℕ) → fits ts us p q ≡ true → FreeFor pairs p q → Dec ((r : ℕ) × Partners pairs p r) → AsEarly (Partners pairs) p q
  was_free p q e f (yes (r, m)) = inl (r, t.comes_first p r q m e f, m)
  was_free p q e f (no none) = absurd (t.without p (λ r m. none (r, m)) q e f)

  as_early : (p q : ℕ) → fits ts us p q ≡ true → Dec ((r : ℕ) × Partners pairs r q) → AsEarly (Partners pairs) p q
  as_early p q e (no none) = was_free p q e (λ r l m. none (r, m)) (has_second pairs p)
  as_early p q e (yes (r, m)) = by (dec_le r p)
    where
      by : Dec (r ≤ p) → AsEarly (Partners pairs) p q
      by (yes g) = inr (r, g, m)
      by (no g) = was_free p q e (λ r' l o. omega (arith, one-first r q r' m o)) (has_second pairs p)

  stable : Stable ts us (Partners pairs)
  stable =
      record {
        fitting = t.fitting;
        one-second = λ p q r m o. omega (arith, not-later p q r m o, not-later p r q o m);
        one-first = one-first;
        as_early = λ p q e. as_early p q e (has_first pairs q);
      }

-- ## Of two tapes

paired_stable : (ts us : List Ticket) → Stable ts us (Partners (paired ts us).pairs)
paired_stable ts us = stable ts us (paired ts us).pairs ((the_one ts us _).1 refl)

-- exchanging the tapes gives the same pairs, turned round
pub mirrored : (ts us : List Ticket) (p q : ℕ) → Partners (paired us ts).pairs q p ↔ Partners (paired ts us).pairs p q
mirrored ts us p q = (agree ts us S R t s (suc (p + q)) p q (omega arith), agree ts us R S s t (suc (p + q)) p q (omega arith))
  where
    R : ℕ → ℕ → Type 0
    R = Partners (paired ts us).pairs

    S : ℕ → ℕ → Type 0
    S x y = Partners (paired us ts).pairs y x

    s : Stable ts us R
    s = paired_stable ts us

    t : Stable ts us S
    t = turned_stable ts us (Partners (paired us ts).pairs) (paired_stable us ts)
