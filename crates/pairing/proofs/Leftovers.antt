-- The pairs that are given keep the rules, and what is left over is all the rest, in order.
use mathlib.Core.Path.{◌≡◌, refl, ap, ◌∙◌}
use mathlib.Core.Logic.{◌≢◌, ◌⊎◌, inl, inr, ⊎_elim}
use mathlib.Core.Bool.{Bool, ◌&&◌}
use mathlib.Core.List.{List, [], ◌∷◌}
use Prim.Native.Nat.{ℕ, zero, suc, ◌+◌, ◌*◌, ◌≤◌, ◌<◌}
use native.Mathlib.Omega.{arith}
use lib.Dec.{eqb, leb}
use lib.ListN.{length}
use borrow.Author.Tests.{leb-true, leb-false, eq-eqb, ne_eqb}
use Rattle.std.proofs.lemmas.Bool.{cases_lt}
use Rattle.tape_model.specs.declared.Ticket.{Ticket}
use Rattle.trucks.specs.Words.{one}
use Rattle.trucks.specs.Laws.{occurrences}
use Rattle.trucks.proofs.Counting.{told}
use Rattle.pairing.specs.Pairing.{is_position, fits, Pair, firsts, seconds, AllFit, NotIn, Distinct, KeepsRules, positions, Choice, no_partner, partner, first_that_fits, Paired, takes, greedy, paired, pair_numbers}
use Rattle.pairing.specs.Laws.{RisingFrom}
use Rattle.pairing.proofs.Greedy.{Taken, here, there, rising_lower, rising_taken, taken-bound, FirstFit, none_fits, fitting, first-fit}
use Rattle.pairing.proofs.Rules.{rising_positions}

-- ## What `greedy` gives

-- l divided into a and b, each in its order
pub data Divided : List ℕ → List ℕ → List ℕ → Type 0 where
  empty : Divided [] [] []
  to_first : {x : ℕ} {l a b : List ℕ} → Divided l a b → Divided (x ∷ l) (x ∷ a) b
  to_second : {x : ℕ} {l a b : List ℕ} → Divided l a b → Divided (x ∷ l) a (x ∷ b)

-- one after the other taken out of l; s is left
pub data AllTaken : List ℕ → List ℕ → List ℕ → Type 0 where
  none : {l : List ℕ} → AllTaken [] l l
  then : {x : ℕ} {xs l r s : List ℕ} → Taken x l r → AllTaken xs r s → AllTaken (x ∷ xs) l s

pub record Given (fit : ℕ → ℕ → Bool) (ps free : List ℕ) (found : Paired) : Type 0 where
  pub all_fit : AllFit fit found.pairs
  pub first : Divided ps (firsts found.pairs) found.left_first
  pub second : AllTaken (seconds found.pairs) free found.left_second

module _ (fit : ℕ → ℕ → Bool) where
  one_position : (p : ℕ) (ps free : List ℕ) (k : ℕ) → RisingFrom k free → ((l : List ℕ) → RisingFrom k l → Given fit ps l (greedy fit ps l)) → (c : Choice)
      → FirstFit (fit p) free c → Given fit (p ∷ ps) free (takes p c free (λ (rest : List ℕ). greedy fit ps rest))
  one_position p ps free k u given no_partner (none_fits h) = let g = given free u in record { all_fit = g.all_fit; first = to_second g.first; second = g.second }
  one_position p ps free k u given (partner q others) (fitting f t h) =
      let g = given others (rising_taken t k u) in record { all_fit = (f, g.all_fit); first = to_first g.first; second = then t g.second }

  pub given : (ps free : List ℕ) (k : ℕ) → RisingFrom k free → Given fit ps free (greedy fit ps free)
  given [] free k u = record { all_fit = tt; first = empty; second = none }
  given (p ∷ ps) free k u = one_position p ps free k u (λ l v. given ps l k v) (first_that_fits (fit p) free) (first-fit (fit p) free k u)

-- ## In order, and none twice

not-above : (l : List ℕ) (k x : ℕ) → x < k → RisingFrom k l → NotIn x l
not-above [] k x h u = tt
not-above (y ∷ l) k x h u = (omega arith, not-above l (suc y) x (omega arith) u.1)

pub rising_distinct : (l : List ℕ) (k : ℕ) → RisingFrom k l → Distinct l
rising_distinct [] k u = tt
rising_distinct (x ∷ l) k u = (not-above l (suc x) x (omega arith) u.1, rising_distinct l (suc x) u.1)

rising_first : {l a b : List ℕ} → Divided l a b → (k : ℕ) → RisingFrom k l → RisingFrom k a
rising_first empty k u = tt
rising_first (to_first {x = x} d) k u = (u.0, rising_first d (suc x) u.1)
rising_first (to_second {x = x} {a = a} d) k u = rising_lower a (omega arith) (rising_first d (suc x) u.1)

rising_second : {l a b : List ℕ} → Divided l a b → (k : ℕ) → RisingFrom k l → RisingFrom k b
rising_second empty k u = tt
rising_second (to_first {x = x} {b = b} d) k u = rising_lower b (omega arith) (rising_second d (suc x) u.1)
rising_second (to_second {x = x} d) k u = (u.0, rising_second d (suc x) u.1)

rising_rest : {xs l s : List ℕ} → AllTaken xs l s → (k : ℕ) → RisingFrom k l → RisingFrom k s
rising_rest none k u = u
rising_rest (then t a) k u = rising_rest a k (rising_taken t k u)

-- a number that is not in l is none of those taken out of it
not_taken : {y : ℕ} {l r : List ℕ} (x : ℕ) → Taken y l r → NotIn x l → (y ≢ x) × NotIn x r
not_taken x here d = d
not_taken x (there t) d = let e = not_taken x t d.1 in (e.0, (d.0, e.1))

none_taken : {ys l s : List ℕ} (x : ℕ) → AllTaken ys l s → NotIn x l → NotIn x ys
none_taken x none d = tt
none_taken x (then t a) d = let e = not_taken x t d in (e.0, none_taken x a e.1)

not_left : {x : ℕ} {l r : List ℕ} → Taken x l r → (k : ℕ) → RisingFrom k l → NotIn x r
not_left {x} {r = r} here k u = not-above r (suc x) x (omega arith) u.1
not_left {x} (there {y = y} t) k u = let h = taken-bound t (suc y) u.1 in (omega arith, not_left t (suc y) u.1)

taken_distinct : {xs l s : List ℕ} → AllTaken xs l s → (k : ℕ) → RisingFrom k l → Distinct xs
taken_distinct none k u = tt
taken_distinct (then {x = x} t a) k u = (none_taken x a (not_left t k u), taken_distinct a k (rising_taken t k u))

-- ## Counted

divided_length : {l a b : List ℕ} → Divided l a b → length a + length b ≡ length l
divided_length empty = refl
divided_length (to_first d) = let h = divided_length d in omega arith
divided_length (to_second d) = let h = divided_length d in omega arith

taken-length : {x : ℕ} {l r : List ℕ} → Taken x l r → suc (length r) ≡ length l
taken-length here = refl
taken-length (there t) = ap suc (taken-length t)

all_taken-length : {xs l s : List ℕ} → AllTaken xs l s → length xs + length s ≡ length l
all_taken-length none = omega arith
all_taken-length (then t a) = omega (arith, taken-length t, all_taken-length a)

divided_occurrences : {l a b : List ℕ} (k : ℕ) → Divided l a b → occurrences k a + occurrences k b ≡ occurrences k l
unfolding occurrences
divided_occurrences k empty = refl
divided_occurrences k (to_first d) = let h = divided_occurrences k d in omega arith
divided_occurrences k (to_second d) = let h = divided_occurrences k d in omega arith

taken-occurrences : {x : ℕ} {l r : List ℕ} (k : ℕ) → Taken x l r → one (eqb x k) + occurrences k r ≡ occurrences k l
unfolding occurrences
taken-occurrences k here = refl
taken-occurrences k (there t) = let h = taken-occurrences k t in omega arith

all_taken-occurrences : {xs l s : List ℕ} (k : ℕ) → AllTaken xs l s → occurrences k xs + occurrences k s ≡ occurrences k l
unfolding occurrences
all_taken-occurrences k none = omega arith
all_taken-occurrences k (then t a) = omega (arith, taken-occurrences k t, all_taken-occurrences k a)

length-positions : (n k : ℕ) → length (positions k n) ≡ n
length-positions zero k = refl
length-positions (suc n) k = ap suc (length-positions n (suc k))

outside : (n k p : ℕ) → (p < k) ⊎ (k + n ≤ p) → occurrences p (positions k n) ≡ 0
unfolding occurrences
outside zero k p h = refl
outside (suc n) k p (inl h) = rw (ne_eqb k p (λ e. omega arith)) (omega (arith, outside n (suc k) p (inl (omega arith))))
outside (suc n) k p (inr h) = rw (ne_eqb k p (λ e. omega arith)) (omega (arith, outside n (suc k) p (inr (omega arith))))

inside : (n k p : ℕ) → k ≤ p → p < k + n → occurrences p (positions k n) ≡ 1
unfolding occurrences
inside zero k p h l = absurd (omega arith)
inside (suc n) k p h l =
    ⊎_elim (λ (m : k < p). rw (ne_eqb k p (λ e. omega arith)) (omega (arith, inside n (suc k) p m (omega arith))))
    (λ (m : p ≤ k). rw (eq-eqb k p (omega arith)) (omega (arith, outside n (suc k) p (inl (omega arith)))))
    (cases_lt k p)

-- each position once
each_position : (n p : ℕ) → occurrences p (positions 1 n) ≡ one (leb 1 p && leb p n)
each_position n p =
    told (leb 1 p)
    (λ e.
    told (leb p n) (λ f. rw (e, f) (inside n 1 p (leb-true 1 p e) (omega (arith, leb-true p n f))))
    (λ f. rw (e, f) (outside n 1 p (inr (omega (arith, leb-false p n f))))))
    (λ e. rw e (outside n 1 p (inl (leb-false 1 p e))))

length-firsts : (pairs : List Pair) → length (firsts pairs) ≡ length pairs
length-firsts [] = refl
length-firsts (x ∷ pairs) = ap suc (length-firsts pairs)

length-seconds : (pairs : List Pair) → length (seconds pairs) ≡ length pairs
length-seconds [] = refl
length-seconds (x ∷ pairs) = ap suc (length-seconds pairs)

-- two numbers a pair
pub room : (pairs : List Pair) → length (pair_numbers pairs) ≡ 2 * length pairs
room [] = refl
room (x ∷ pairs) = omega (arith, room pairs)

-- ## The pairing of two tapes

module _ (ts us : List Ticket) where
  all_given : Given (fits ts us) (positions 1 (length ts)) (positions 1 (length us)) (paired ts us)
  unfolding paired
  all_given = given (fits ts us) (positions 1 (length ts)) (positions 1 (length us)) 1 (rising_positions (length us) 1)

  pub pairs_order : RisingFrom 1 (firsts (paired ts us).pairs)
  pairs_order = rising_first all_given.first 1 (rising_positions (length ts) 1)

  pub first_order : RisingFrom 1 (paired ts us).left_first
  first_order = rising_second all_given.first 1 (rising_positions (length ts) 1)

  pub second_order : RisingFrom 1 (paired ts us).left_second
  second_order = rising_rest all_given.second 1 (rising_positions (length us) 1)

  pub keeps_rules : KeepsRules ts us (paired ts us).pairs
  keeps_rules =
      record {
        fit = all_given.all_fit;
        once-first = rising_distinct (firsts (paired ts us).pairs) 1 pairs_order;
        once-second = taken_distinct all_given.second 1 (rising_positions (length us) 1);
      }

  pub each_of_first : (p : ℕ) → occurrences p (firsts (paired ts us).pairs) + occurrences p (paired ts us).left_first ≡ one (is_position ts p)
  each_of_first p = divided_occurrences p all_given.first ∙ each_position (length ts) p

  pub each_of_second : (q : ℕ) → occurrences q (seconds (paired ts us).pairs) + occurrences q (paired ts us).left_second ≡ one (is_position us q)
  each_of_second q = all_taken-occurrences q all_given.second ∙ each_position (length us) q

  pub first_sum : length (paired ts us).pairs + length (paired ts us).left_first ≡ length ts
  first_sum = omega (arith, divided_length all_given.first, length-firsts (paired ts us).pairs, length-positions (length ts) 1)

  pub second_sum : length (paired ts us).pairs + length (paired ts us).left_second ≡ length us
  second_sum = omega (arith, all_taken-length all_given.second, length-seconds (paired ts us).pairs, length-positions (length us) 1)
