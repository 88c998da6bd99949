-- `greedy` makes the most pairs, where two pairs that cross can be exchanged for two that do not.
use mathlib.Core.Path.{◌≡◌, refl, sym, ap, ◌∙◌}
use mathlib.Core.Logic.{◌⊎◌, inl, inr, ⊎_elim}
use mathlib.Core.Bool.{Bool, true, false, false≢true}
use mathlib.Core.List.{List, [], ◌∷◌}
use Prim.Native.Nat.{ℕ, zero, suc, ◌≤◌, ◌<◌}
use native.Mathlib.Omega.{arith}
use lib.ListN.{length}
use Rattle.calls.specs.Calls.{◌if◌else◌}
use Rattle.pairing.specs.Pairing.{Choice, no_partner, partner, keep_free, first_that_fits, takes, greedy}
use Rattle.pairing.specs.Laws.{RisingFrom}

-- ## One number taken out of a list

-- r is l without one x
pub data Taken (x : ℕ) : List ℕ → List ℕ → Type 0 where
  here : {l : List ℕ} → Taken x (x ∷ l) l
  there : {y : ℕ} {l r : List ℕ} → Taken x l r → Taken x (y ∷ l) (y ∷ r)

-- r is without x and s without y: what is left without both
record BothTaken (x y : ℕ) (r s : List ℕ) : Type 0 where
  rest : List ℕ
  of_first : Taken y r rest
  of_second : Taken x s rest

-- two places of one list are the same, or both can be taken
same_or_both : {x y : ℕ} {l r s : List ℕ} → Taken x l r → Taken y l s → ((x ≡ y) × (r ≡ s)) ⊎ BothTaken x y r s
same_or_both here here = inl (refl, refl)
same_or_both here (there t) = inr (record { rest = _; of_first = t; of_second = here })
same_or_both (there t) here = inr (record { rest = _; of_first = here; of_second = t })
same_or_both {x} {y} (there {y = a} t) (there t') = behind (same_or_both t t')
  where
    behind : {r s : List ℕ} → ((x ≡ y) × (r ≡ s)) ⊎ BothTaken x y r s → ((x ≡ y) × ((a ∷ r) ≡ (a ∷ s))) ⊎ BothTaken x y (a ∷ r) (a ∷ s)
    behind (inl e) = inl (e.0, ap (λ (l : List ℕ). a ∷ l) e.1)
    behind (inr b) = inr (record { rest = a ∷ b.rest; of_first = there b.of_first; of_second = there b.of_second })

-- y is taken out of l, and then x
record InTurn (y x : ℕ) (l s : List ℕ) : Type 0 where
  between : List ℕ
  before : Taken y l between
  after : Taken x between s

other_order : {x y : ℕ} {l r s : List ℕ} → Taken x l r → Taken y r s → InTurn y x l s
other_order here t = record { between = _; before = there t; after = here }
other_order (there t) here = record { between = _; before = here; after = t }
other_order (there t) (there t') = let o = other_order t t' in record { between = _; before = there o.before; after = there o.after }

-- ## Rising lists

pub rising_lower : (l : List ℕ) {k m : ℕ} → m ≤ k → RisingFrom k l → RisingFrom m l
rising_lower [] h u = tt
rising_lower (x ∷ l) h u = (omega arith, u.1)

pub rising_taken : {x : ℕ} {l r : List ℕ} → Taken x l r → (k : ℕ) → RisingFrom k l → RisingFrom k r
rising_taken {x} {r} here k u = rising_lower r (omega arith) u.1
rising_taken (there {y = y} t) k u = (u.0, rising_taken t (suc y) u.1)

pub taken-bound : {x : ℕ} {l r : List ℕ} → Taken x l r → (k : ℕ) → RisingFrom k l → k ≤ x
taken-bound here k u = u.0
taken-bound (there {y = y} t) k u = let h = taken-bound t (suc y) u.1 in omega arith

-- ## Pairs that can be made

module _ (fit : ℕ → ℕ → Bool) where
  -- n pairs can be made of these positions and these free ones
  pub data CanPair : List ℕ → List ℕ → ℕ → Type 0 where
    none : {free : List ℕ} → CanPair [] free zero
    skip : {p n : ℕ} {ps free : List ℕ} → CanPair ps free n → CanPair (p ∷ ps) free n
    pair : {p q n : ℕ} {ps free rest : List ℕ} → fit p q ≡ true → Taken q free rest → CanPair ps rest n → CanPair (p ∷ ps) free (suc n)

  -- one free position less costs at most one pair
  one_less : {x n : ℕ} {l r ps : List ℕ} → Taken x l r → CanPair ps l n → (m : ℕ) × (n ≤ suc m) × CanPair ps r m
  one_less t none = (zero, omega arith, none)
  one_less t (skip c) = let d = one_less t c in (d.0, d.1, skip d.2)
  one_less {x} {r = r} t (pair {q = q} {n = n} {rest = s} f t' c) =
      ⊎_elim (λ e. (n, omega arith, skip (rw e.1 c)))
      (λ (b : BothTaken x q r s). let d = one_less {r = b.rest} b.of_second c in (suc d.0, omega arith, pair f b.of_first d.2))
      (same_or_both t t')

  -- y free in place of x costs none, where y fits wherever x does
  in_place : {x y n : ℕ} {l m r ps : List ℕ} → Taken x l r → Taken y m r → (k : ℕ) → RisingFrom k ps
      → ((p : ℕ) → k ≤ p → fit p x ≡ true → fit p y ≡ true) → CanPair ps l n → CanPair ps m n
  in_place t t' k u h none = none
  in_place t t' k u h (skip {p = p} c) = skip (in_place t t' (suc p) u.1 (λ a le. h a (omega arith)) c)
  in_place {x} {y} {r = r} t t' k u h (pair {p = p} {q = q} {rest = s} f t'' c) =
      ⊎_elim (λ e. pair (h p u.0 (rw e.0 f)) t' (rw e.1 c))
      (λ (b : BothTaken x q r s).
      let o = other_order t' b.of_first in
      pair f o.before (in_place {m = o.between} {r = b.rest} b.of_second o.after (suc p) u.1 (λ a le. h a (omega arith)) c))
      (same_or_both t t'')

  -- one pair more, of positions that the others do not use
  pub one_more : {p q n : ℕ} {ps ps' l l' : List ℕ} → Taken p ps ps' → fit p q ≡ true → Taken q l l' → CanPair ps' l' n → CanPair ps l (suc n)
  one_more here f t c = pair f t c
  one_more (there t') f t (skip c) = skip (one_more t' f t c)
  one_more (there t') f t (pair {n = n} f' t'' c) = let o = other_order t t'' in pair f' o.before (one_more {n = n} t' f o.after c)

-- ## What `first_that_fits` gives

-- nobody, where none fits; or the least that fits, and the others
pub data FirstFit (fit : ℕ → Bool) (free : List ℕ) : Choice → Type 0 where
  none_fits : ((x : ℕ) (s : List ℕ) → Taken x free s → fit x ≡ true → ⊥) → FirstFit fit free no_partner
  fitting : {q : ℕ} {others : List ℕ} → fit q ≡ true → Taken q free others → ((x : ℕ) (s : List ℕ) → Taken x free s → fit x ≡ true → q ≤ x)
      → FirstFit fit free (partner q others)

module _ (fit : ℕ → Bool) (q : ℕ) (free : List ℕ) where
  no_other : fit q ≡ false → ((x : ℕ) (s : List ℕ) → Taken x free s → fit x ≡ true → ⊥) → (x : ℕ) (s : List ℕ) → Taken x (q ∷ free) s → fit x ≡ true → ⊥
  no_other e h x s here f = false≢true (sym e ∙ f)
  no_other e h x s (there t) f = h x _ t f

  no_lesser : {r : ℕ} → fit q ≡ false → ((x : ℕ) (s : List ℕ) → Taken x free s → fit x ≡ true → r ≤ x)
      → (x : ℕ) (s : List ℕ) → Taken x (q ∷ free) s → fit x ≡ true → r ≤ x
  no_lesser e h x s here f = absurd (false≢true (sym e ∙ f))
  no_lesser e h x s (there t) f = h x _ t f

  passed : {c : Choice} → fit q ≡ false → FirstFit fit free c → FirstFit fit (q ∷ free) (keep_free q c)
  passed e (none_fits h) = none_fits (no_other e h)
  passed e (fitting f t h) = fitting f (there t) (no_lesser e h)

  by_test : (b : Bool) → fit q ≡ b → (k : ℕ) → RisingFrom k (q ∷ free) → FirstFit fit free (first_that_fits fit free)
      → FirstFit fit (q ∷ free) (partner q free if b else keep_free q (first_that_fits fit free))
  by_test true e k u r = fitting e here (λ x s t f. taken-bound t q (omega arith, u.1))
  by_test false e k u r = passed e r

pub first-fit : (fit : ℕ → Bool) (free : List ℕ) (k : ℕ) → RisingFrom k free → FirstFit fit free (first_that_fits fit free)
first-fit fit [] k u = none_fits (λ x s t f. elim t [ ])
first-fit fit (q ∷ free) k u = by_test fit q free (fit q) refl k u (first-fit fit free (suc q) u.1)

-- ## No more pairs than `greedy` makes

-- p before x and q before y: where p fits both q and y, and x fits q, x fits y
module _ (fit : ℕ → ℕ → Bool)
    (uncross : (p x q y : ℕ) → p < x → q ≤ y → fit p q ≡ true → fit p y ≡ true → fit x q ≡ true → fit x y ≡ true) where
  -- one position, where those behind it are known
  module _ (p : ℕ) (ps free : List ℕ) (u : RisingFrom (suc p) ps) (m : ℕ) (v : RisingFrom m free)
      (largest : (n : ℕ) (l : List ℕ) → RisingFrom m l → CanPair fit ps l n → n ≤ length (greedy fit ps l).pairs) where
    one_position : (c : Choice) → FirstFit (fit p) free c → (n : ℕ) → CanPair fit (p ∷ ps) free n
        → n ≤ length (takes p c free (λ (rest : List ℕ). greedy fit ps rest)).pairs
    one_position no_partner (none_fits h) n (skip c) = largest n free v c
    one_position no_partner (none_fits h) n (pair f t c) = absurd (h _ _ t f)
    one_position (partner q others) (fitting f t h) n (skip c) =
        let d = one_less fit t c in
        let b = largest d.0 others (rising_taken t m v) d.2 in
        omega (arith, d.1)
    one_position (partner q others) (fitting f t h) n (pair {q = y} {n = n'} {rest = s} f' t' c) =
        ⊎_elim (λ (e : (q ≡ y) × (others ≡ s)). let b = largest n' others (rising_taken t m v) (rw e.1 c) in omega arith)
        (λ (o : BothTaken q y others s).
        let d = in_place fit o.of_second o.of_first (suc p) u (λ x le g. uncross p x q y le (h y s t' f') f f' g) c in
        let b = largest n' others (rising_taken t m v) d in
        omega arith)
        (same_or_both t t')

  pub greedy_largest : (ps free : List ℕ) (k m n : ℕ) → RisingFrom k ps → RisingFrom m free → CanPair fit ps free n → n ≤ length (greedy fit ps free).pairs
  greedy_largest [] free k m n u v none = omega arith
  greedy_largest (p ∷ ps) free k m n u v c =
      one_position p ps free u.1 m v (λ n' l v' c'. greedy_largest ps l (suc p) m n' u.1 v' c') (first_that_fits (fit p) free) (first-fit (fit p) free m v) n c
