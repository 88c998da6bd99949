-- The different numbers of a list are counted by their places.
use mathlib.Core.Path.{◌≡◌, refl, sym, ap, ap₂, ◌∙◌}
use mathlib.Core.Bool.{Bool, true, false, not, ◌&&◌, ◌||◌, or_assoc, false≢true}
use mathlib.Core.List.{List, [], ◌∷◌, ◌++◌}
use Prim.Native.Nat.{ℕ, suc, ◌+◌, ◌≤◌, ◌<◌}
use native.Mathlib.Omega.{arith}
use lib.Dec.{eqb}
use lib.ListN.{length}
use borrow.Author.Tests.{eq-eqb, eqb-true}
use Rattle.calls.specs.Calls.{◌if◌else◌}
use Rattle.trucks.specs.Trucks.{NumberSet, on, different, filter, except, on_both, on_either, on_just_one}
use Rattle.trucks.specs.Words.{one, count, intersection, union, symmetric_difference}
use Rattle.trucks.specs.Laws.{occurrences}
use Rattle.trucks.proofs.Counting.{added, told, count_same, count_none, count-added}

-- ## One list

-- a number that is on the list already changes no membership
pub again : (x : ℕ) (l : List ℕ) (k : ℕ) → on l x ≡ true → added x (on l) k ≡ on l k
again x l k e = told (eqb x k) (λ q. rw q (sym (ap (on l) (sym (eqb-true x k q)) ∙ e))) (λ q. rw q)

pub on-joined : (l m : List ℕ) (k : ℕ) → on (l ++ m) k ≡ (on l k || on m k)
unfolding on
on-joined [] m k = refl
on-joined (x ∷ l) m k = ap (λ b. eqb x k || b) (on-joined l m k) ∙ sym (or_assoc (eqb x k) (on l k) (on m k))

on-filter : (s : NumberSet) (l : List ℕ) (k : ℕ) → on (filter s l) k ≡ (on l k && s k)
unfolding on filter
on-filter s [] k = refl
on-filter s (x ∷ l) k = told (s x) (λ e. rw e (ap (λ b. eqb x k || b) (on-filter s l k) ∙ inside e)) (λ e. rw e (on-filter s l k ∙ outside e))
  where
    inside : s x ≡ true → (eqb x k || on l k && s k) ≡ ((eqb x k || on l k) && s k)
    inside e = told (eqb x k) (λ q. rw q (sym (ap s (sym (eqb-true x k q)) ∙ e))) (λ q. rw q)

    no : (b : Bool) → (b && false) ≡ false
    no true = refl
    no false = refl

    outside : s x ≡ false → (on l k && s k) ≡ ((eqb x k || on l k) && s k)
    outside e = told (eqb x k) (λ q. rw (q, sym (ap s (eqb-true x k q)) ∙ e) (no (on l k))) (λ q. rw q)

-- each number of the list is once among the different ones, and no other is
pub once : (l : List ℕ) (k : ℕ) → occurrences k (different l) ≡ one (on l k)
unfolding on different occurrences
once [] k = refl
once (x ∷ l) k =
    told (on l x)
    (λ e. rw e (once l k ∙ ap one (sym (again x l k e))))
    (λ e. rw e (ap (λ (n : ℕ). one (eqb x k) + n) (once l k) ∙ first e))
  where
    first : on l x ≡ false → one (eqb x k) + one (on l k) ≡ one (eqb x k || on l k)
    first e = told (eqb x k) (λ q. rw (q, sym (ap (on l) (eqb-true x k q)) ∙ e)) (λ q. rw q (omega arith))

-- all numbers of the list are below n
abbrev pub Below : ℕ → List ℕ → Type 0
Below n l = (k : ℕ) → on l k ≡ true → k < n

pub none_below : (n : ℕ) → Below n []
unfolding on
none_below n k e = absurd (false≢true e)

pub one_below : (n x : ℕ) (l : List ℕ) → x < n → Below n l → Below n (x ∷ l)
unfolding on
one_below n x l h b k e = told (eqb x k) (λ q. omega (arith, eqb-true x k q)) (λ q. b k (rw q at e))

below-behind : (n x : ℕ) (l : List ℕ) → Below n (x ∷ l) → (x < n) × Below n l
unfolding on
below-behind n x l b = (b x (rw (eq-eqb x x refl)), λ k e. b k (rw e (right (eqb x k))))
  where
    right : (b : Bool) → (b || true) ≡ true
    right true = refl
    right false = refl

-- the different ones, counted by their places
pub by_places : (n : ℕ) (l : List ℕ) → Below n l → length (different l) ≡ count n (on l)
unfolding different on
by_places n [] h = sym (count_none n)
by_places n (x ∷ l) h =
    let b = below-behind n x l h in
    let behind = by_places n l b.1 in
    told (on l x)
    (λ e. rw e (behind ∙ count_same n (on l) (added x (on l)) (λ k _. sym (again x l k e))))
    (λ e. rw e (ap suc behind ∙ omega (arith, count-added n x (on l) b.0 e)))

-- a number above every one of a list
abbrev top : List ℕ → ℕ
top [] = 0
top (x ∷ l) = suc x + top l

below_more : (n m : ℕ) (l : List ℕ) → n ≤ m → Below n l → Below m l
below_more n m l h b k e = omega (arith, b k e)

below_top : (l : List ℕ) → Below (top l) l
below_top [] = none_below 0
below_top (x ∷ l) = one_below (suc x + top l) x l (omega arith) (below_more (top l) (suc x + top l) l (omega arith) (below_top l))

-- above every one of two
abbrev pub bound : List ℕ → List ℕ → ℕ
bound l m = top l + top m

pub below_left : (l m : List ℕ) → Below (bound l m) l
below_left l m = below_more (top l) (bound l m) l (omega arith) (below_top l)

pub below_right : (l m : List ℕ) → Below (bound l m) m
below_right l m = below_more (top m) (bound l m) m (omega arith) (below_top m)

-- ## Two lists

module _ (l m : List ℕ) where
  pub member-both : (k : ℕ) → on (filter (on m) l) k ≡ intersection (on l) (on m) k
  member-both k = on-filter (on m) l k

  pub on-just-one : (k : ℕ) → on (except (on m) l ++ except (on l) m) k ≡ symmetric_difference (on l) (on m) k
  unfolding except
  on-just-one k =
      on-joined (except (on m) l) (except (on l) m) k
      ∙ ap₂ (λ a b. a || b) (on-filter (λ j. not (on m j)) l k) (on-filter (λ j. not (on l j)) m k)
      ∙ either (on l k) (on m k)
    where
      either : (a b : Bool) → (a && not b || b && not a) ≡ (not b if a else b)
      either true true = refl
      either true false = refl
      either false true = refl
      either false false = refl

  -- a list with the members of a set made of the two, whose numbers are below n
  module _ (n : ℕ) (bl : Below n l) (bm : Below n m) where
    placed : (made : List ℕ) (s : NumberSet) → ((k : ℕ) → on made k ≡ s k) → ((k : ℕ) → s k ≡ true → k < n) → length (different made) ≡ count n s
    placed made s e h = by_places n made (λ k f. h k (sym (e k) ∙ f)) ∙ count_same n (on made) s (λ k _. e k)

    pub both_places : length (on_both l m) ≡ count n (intersection (on l) (on m))
    unfolding on_both
    both_places = placed (filter (on m) l) (intersection (on l) (on m)) member-both (λ k h. bl k (left (on l k) (on m k) h))
      where
        left : (a b : Bool) → (a && b) ≡ true → a ≡ true
        left true b h = refl
        left false b h = h

    pub either_places : length (on_either l m) ≡ count n (union (on l) (on m))
    unfolding on_either
    either_places = placed (l ++ m) (union (on l) (on m)) (on-joined l m) (λ k h. told (on l k) (λ e. bl k e) (λ e. bm k (rw e at h)))

    pub just_one_places : length (on_just_one l m) ≡ count n (symmetric_difference (on l) (on m))
    unfolding on_just_one
    just_one_places =
        placed (except (on m) l ++ except (on l) m) (symmetric_difference (on l) (on m)) on-just-one (λ k h. told (on l k) (λ e. bl k e) (λ e. bm k (rw e at h)))
