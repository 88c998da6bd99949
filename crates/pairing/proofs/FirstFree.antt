-- The pairing that is given is the one that document 02 names, and no other is.
use mathlib.Core.Path.{◌≡◌, refl, sym, ap, ap₂, subst, ◌∙◌}
use mathlib.Core.Bool.{Bool, true}
use mathlib.Core.List.{List, [], ◌∷◌}
use mathlib.Core.Logic.{◌↔◌, inl, inr}
use Prim.Native.Nat.{ℕ, zero, suc, ◌+◌, ◌≤◌, ◌<◌}
use native.Mathlib.Omega.{arith}
use native.Mathlib.Decide.{dec_le}
use lib.ListN.{length}
use Rattle.tape_model.specs.declared.Ticket.{Ticket}
use Rattle.pairing.specs.Pairing.{fits, Pair, firsts, positions, Choice, no_partner, partner, first_that_fits, takes, greedy, paired}
use Rattle.pairing.specs.Laws.{RisingFrom, Partners, FreeFor, TakesFirstFree}
use Rattle.pairing.proofs.Greedy.{Taken, here, there, rising_lower, rising_taken, taken-bound, FirstFit, none_fits, fitting, first-fit}
use Rattle.pairing.proofs.Rules.{fits_means, rising_positions}

-- ## Positions that are free

-- w stands on a list
abbrev In : ℕ → List ℕ → Type 0
In w l = (r : List ℕ) × Taken w l r

in_positions : (n k w : ℕ) → k ≤ w → w < k + n → In w (positions k n)
in_positions zero k w h l = absurd (omega arith)
in_positions (suc n) k w h l = by (dec_le w k) (λ g. in_positions n (suc k) w g (omega arith))
  where
    by : Dec (w ≤ k) → (k < w → In w (positions (suc k) n)) → In w (positions k (suc n))
    by (yes g) rest = let same : k ≡ w = omega arith in subst (λ (x : ℕ). In x (positions k (suc n))) same (_, here)
    by (no g) rest = (_, there (rest (omega arith)).1)

-- one that is free after q was taken was free before, and is not q
free_before : {q w : ℕ} {l r s : List ℕ} → Taken q l r → Taken w r s → In w l
free_before here i = (_, there i)
free_before (there t) here = (_, here)
free_before (there t) (there i) = (_, there (free_before t i).1)

not_taken : {q w : ℕ} {l r s : List ℕ} → Taken q l r → Taken w r s → (k : ℕ) → RisingFrom k l → w ≡ q → ⊥
not_taken {q} here i k u e = let h = taken-bound i (suc q) u.1 in omega arith
not_taken (there {y = y} t) here k u e = let h = taken-bound t (suc y) u.1 in omega arith
not_taken (there {y = y} t) (there i) k u e = not_taken t i (suc y) u.1 e

-- and every other one is still free
free_after : {q w : ℕ} {l r s : List ℕ} → Taken q l r → Taken w l s → (w ≡ q → ⊥) → In w r
free_after here here d = absurd (d refl)
free_after here (there i) d = (_, i)
free_after (there t) here d = (_, here)
free_after (there t) (there i) d = (_, there (free_after t i d).1)

partner_from : (pairs : List Pair) (k p q : ℕ) → RisingFrom k (firsts pairs) → Partners pairs p q → k ≤ p
partner_from [] k p q u m = absurd m
partner_from (x ∷ pairs) k p q u (inl e) = omega arith
partner_from (x ∷ pairs) k p q u (inr m) = let h = partner_from pairs (suc x.first) p q u.1 m in omega arith

-- ## Positions k to k + n - 1 of the first tape, and those of the second that are free

record TakesFrom (fit : ℕ → ℕ → Bool) (k n : ℕ) (free : List ℕ) (pairs : List Pair) : Type 0 where
  in_order : RisingFrom k (firsts pairs)
  fitting : (p q : ℕ) → Partners pairs p q → (fit p q ≡ true) × (p < k + n) × In q free
  free_for : (p q : ℕ) → Partners pairs p q → FreeFor pairs p q
  comes_first : (p q r : ℕ) → Partners pairs p q → fit p r ≡ true → In r free → FreeFor pairs p r → q ≤ r
  without : (p : ℕ) → k ≤ p → p < k + n → ((q : ℕ) → Partners pairs p q → ⊥) → (q : ℕ) → fit p q ≡ true → In q free → FreeFor pairs p q → ⊥

-- none begins at k
above : (pairs : List Pair) {k : ℕ} → RisingFrom k (firsts pairs) → ((p q : ℕ) → Partners pairs p q → k < p) → RisingFrom (suc k) (firsts pairs)
above [] u h = tt
above (x ∷ pairs) u h = (h x.first x.second (inl (refl, refl)), u.1)

-- k and q, and the other pairs
abbrev with_first : ℕ → ℕ → List Pair → List Pair
with_first k q rest = record { first = k; second = q } ∷ rest

module _ (fit : ℕ → ℕ → Bool) (k n : ℕ) (free : List ℕ) where
  -- where nobody fits k, the others' pairing is the whole one
  module _ (alone : (w : ℕ) (r : List ℕ) → Taken w free r → fit k w ≡ true → ⊥) (pairs : List Pair) where
    unpaired : TakesFrom fit (suc k) n free pairs → TakesFrom fit k (suc n) free pairs
    unpaired t =
        record {
          in_order = rising_lower (firsts pairs) (omega arith) t.in_order;
          fitting = λ p q m. let h = t.fitting p q m in (h.0, omega (arith, h.1), h.2);
          free_for = t.free_for;
          comes_first = t.comes_first;
          without = λ p l h d q g m f. by p (dec_le p k) l h d q g m f;
        }
      where
        by : (p : ℕ) → Dec (p ≤ k) → k ≤ p → p < k + suc n → ((q : ℕ) → Partners pairs p q → ⊥) → (q : ℕ) → fit p q ≡ true → In q free → FreeFor pairs p q → ⊥
        by p (yes y) l h d q g m f = let same : p ≡ k = omega arith in alone q m.0 m.1 (ap (λ (x : ℕ). fit x q) (sym same) ∙ g)
        by p (no y) l h d q g m f = t.without p (omega arith) (omega arith) d q g m f

    not_k : TakesFrom fit k (suc n) free pairs → (p q : ℕ) → Partners pairs p q → k < p
    not_k t p q m = by (dec_le p k)
      where
        by : Dec (p ≤ k) → k < p
        by (yes y) =
            let h = t.fitting p q m in
            let l = partner_from pairs k p q t.in_order m in
            let same : p ≡ k = omega arith in absurd (alone q h.2.0 h.2.1 (ap (λ (x : ℕ). fit x q) (sym same) ∙ h.0))
        by (no y) = omega arith

    unpaired-back : TakesFrom fit k (suc n) free pairs → TakesFrom fit (suc k) n free pairs
    unpaired-back t =
        record {
          in_order = above pairs t.in_order (not_k t);
          fitting = λ p q m. let h = t.fitting p q m in (h.0, omega (arith, h.1), h.2);
          free_for = t.free_for;
          comes_first = t.comes_first;
          without = λ p l h d q g m f. t.without p (omega arith) (omega arith) d q g m f;
        }

  -- where q is the first that fits k, the others' pairing follows k's pair
  module _ (q : ℕ) (others : List ℕ) (fitting_k : fit k q ≡ true) (taken : Taken q free others)
      (least : (w : ℕ) (r : List ℕ) → Taken w free r → fit k w ≡ true → q ≤ w) (j : ℕ) (rising : RisingFrom j free) where
    joined : (rest : List Pair) → TakesFrom fit (suc k) n others rest → TakesFrom fit k (suc n) free (with_first k q rest)
    joined rest t =
        record {
          in_order = (omega arith, t.in_order);
          fitting = fitting;
          free_for = free_for;
          comes_first = comes_first;
          without = λ p l h d r g i f. by p (dec_le p k) l h d r g i f;
        }
      where
        whole : List Pair
        whole = with_first k q rest

        later : (p r : ℕ) → Partners rest p r → k < p
        later p r m = partner_from rest (suc k) p r t.in_order m

        -- who comes after k finds q taken
        still_free : (p r : ℕ) → k < p → In r free → FreeFor whole p r → In r others
        still_free p r l i f = free_after taken i.1 (λ e. f k l (inl (refl, sym e)))

        fitting : (p r : ℕ) → Partners whole p r → (fit p r ≡ true) × (p < k + suc n) × In r free
        fitting p r (inl e) =
            (ap₂ fit (sym e.0) (sym e.1) ∙ fitting_k, omega (arith, e.0), subst (λ (x : ℕ). In x free) e.1 (others, taken))
        fitting p r (inr m) = let h = t.fitting p r m in (h.0, omega (arith, h.1), free_before taken h.2.1)

        free_for : (p r : ℕ) → Partners whole p r → FreeFor whole p r
        free_for p r (inl e) earlier l (inl f) = omega arith
        free_for p r (inl e) earlier l (inr m) = let h = later earlier r m in omega arith
        free_for p r (inr m) earlier l (inl f) = not_taken taken (t.fitting p r m).2.1 j rising (sym f.1)
        free_for p r (inr m) earlier l (inr o) = t.free_for p r m earlier l o

        comes_first : (p r s : ℕ) → Partners whole p r → fit p s ≡ true → In s free → FreeFor whole p s → r ≤ s
        comes_first p r s (inl e) g i f = let h = least s i.0 i.1 (ap (λ (x : ℕ). fit x s) e.0 ∙ g) in omega arith
        comes_first p r s (inr m) g i f = t.comes_first p r s m g (still_free p s (later p r m) i f) (λ earlier l o. f earlier l (inr o))

        by : (p : ℕ) → Dec (p ≤ k) → k ≤ p → p < k + suc n → ((r : ℕ) → Partners whole p r → ⊥) → (r : ℕ) → fit p r ≡ true → In r free → FreeFor whole p r → ⊥
        by p (yes y) l h d r g i f = d q (inl (omega arith, refl))
        by p (no y) l h d r g i f =
            t.without p (omega arith) (omega arith) (λ s o. d s (inr o)) r g (still_free p r (omega arith) i f) (λ earlier b o. f earlier b (inr o))

    joined_back : (rest : List Pair) → TakesFrom fit k (suc n) free (with_first k q rest) → TakesFrom fit (suc k) n others rest
    joined_back rest t =
        record {
          in_order = t.in_order.1;
          fitting = fitting;
          free_for = λ p r m earlier l o. t.free_for p r (inr m) earlier l (inr o);
          comes_first = λ p r s m g i f. t.comes_first p r s (inr m) g (free_before taken i.1) (free_yet p s i f);
          without = λ p l h d r g i f. t.without p (omega arith) (omega arith) (nobody_yet p l d) r g (free_before taken i.1) (free_yet p r i f);
        }
      where
        whole : List Pair
        whole = with_first k q rest

        later : (p r : ℕ) → Partners rest p r → k < p
        later p r m = partner_from rest (suc k) p r t.in_order.1 m

        fitting : (p r : ℕ) → Partners rest p r → (fit p r ≡ true) × (p < suc k + n) × In r others
        fitting p r m =
            let h = t.fitting p r (inr m) in
            (h.0, omega (arith, h.1), free_after taken h.2.1 (λ e. t.free_for p r (inr m) k (later p r m) (inl (refl, sym e))))

        free_yet : (p r : ℕ) → In r others → FreeFor rest p r → FreeFor whole p r
        free_yet p r i f earlier l (inl e) = not_taken taken i.1 j rising (sym e.1)
        free_yet p r i f earlier l (inr m) = f earlier l m

        nobody_yet : (p : ℕ) → k < p → ((r : ℕ) → Partners rest p r → ⊥) → (r : ℕ) → Partners whole p r → ⊥
        nobody_yet p l d r (inl e) = omega arith
        nobody_yet p l d r (inr m) = d r m

    -- k's pair stands first
    begins : (pairs : List Pair) → TakesFrom fit k (suc n) free pairs → (rest : List Pair) × (pairs ≡ with_first k q rest)
    begins [] t = absurd (t.without k (omega arith) (omega arith) (λ r m. m) q fitting_k (others, taken) (λ earlier l m. m))
    begins (x ∷ rest) t = (rest, λ i. record { first = at_k i; second = same i } ∷ rest)
      where
        none_before : (r : ℕ) → FreeFor (x ∷ rest) k r
        none_before r earlier l m = let h = partner_from (x ∷ rest) k earlier r t.in_order m in omega arith

        by : Dec (x.first ≤ k) → x.first ≡ k
        by (yes y) = omega (arith, t.in_order.0)
        by (no y) =
            let alone : (r : ℕ) → Partners (x ∷ rest) k r → ⊥ = λ r m. let h = partner_from (x ∷ rest) (suc k) k r (omega arith, t.in_order.1) m in omega arith in
            absurd (t.without k (omega arith) (omega arith) alone q fitting_k (others, taken) (none_before q))

        at_k : x.first ≡ k
        at_k = by (dec_le x.first k)

        own : Partners (x ∷ rest) k x.second
        own = inl (at_k, refl)

        same : x.second ≡ q
        same =
            let h = t.fitting k x.second own in
            omega (arith, t.comes_first k x.second q own fitting_k (others, taken) (none_before q), least x.second h.2.0 h.2.1 h.0)

-- ## By all the positions

module _ (fit : ℕ → ℕ → Bool) (j : ℕ) where
  given : (n k : ℕ) (free : List ℕ) → RisingFrom j free → TakesFrom fit k n free (greedy fit (positions k n) free).pairs
  given zero k free u =
      record {
        in_order = tt;
        fitting = λ p q m. absurd m;
        free_for = λ p q m. absurd m;
        comes_first = λ p q r m. absurd m;
        without = λ p l h. absurd (omega arith);
      }
  given (suc n) k free u = by (first_that_fits (fit k) free) (first-fit (fit k) free j u) (given n (suc k))
    where
      by : (c : Choice) → FirstFit (fit k) free c
          → ((l : List ℕ) → RisingFrom j l → TakesFrom fit (suc k) n l (greedy fit (positions (suc k) n) l).pairs)
          → TakesFrom fit k (suc n) free (takes k c free (λ (l : List ℕ). greedy fit (positions (suc k) n) l)).pairs
      by no_partner (none_fits h) rest = unpaired fit k n free h _ (rest free u)
      by (partner q others) (fitting f t h) rest = joined fit k n free q others f t h j u _ (rest others (rising_taken t j u))

  only : (n k : ℕ) (free : List ℕ) → RisingFrom j free → (pairs : List Pair) → TakesFrom fit k n free pairs → pairs ≡ (greedy fit (positions k n) free).pairs
  only zero k free u [] t = refl
  only zero k free u (x ∷ rest) t =
      let h = t.fitting x.first x.second (inl (refl, refl)) in absurd (omega (arith, h.1, t.in_order.0))
  only (suc n) k free u pairs t = by (first_that_fits (fit k) free) (first-fit (fit k) free j u) (only n (suc k))
    where
      by : (c : Choice) → FirstFit (fit k) free c
          → ((l : List ℕ) → RisingFrom j l → (rest : List Pair) → TakesFrom fit (suc k) n l rest → rest ≡ (greedy fit (positions (suc k) n) l).pairs)
          → pairs ≡ (takes k c free (λ (l : List ℕ). greedy fit (positions (suc k) n) l)).pairs
      by no_partner (none_fits h) rest = rest free u pairs (unpaired-back fit k n free h pairs t)
      by (partner q others) (fitting f i h) rest =
          let b = begins fit k n free q others f i h j u pairs t in
          let t' = joined_back fit k n free q others f i h j u b.0 (subst (λ (l : List Pair). TakesFrom fit k (suc n) free l) b.1 t) in
          b.1 ∙ ap (with_first k q) (rest others (rising_taken i j u) b.0 t')

-- ## Of two tapes

module _ (ts us : List Ticket) where
  stands : (p q : ℕ) → fits ts us p q ≡ true → In q (positions 1 (length us))
  stands p q e = let h = fits_means ts us p q e in in_positions (length us) 1 q h.second-low (omega arith)

  abbrev TakesAll : List Pair → Type 0
  TakesAll = TakesFrom (fits ts us) 1 (length ts) (positions 1 (length us))

  to_all : (pairs : List Pair) → TakesFirstFree ts us pairs → TakesAll pairs
  to_all pairs t =
      record {
        in_order = t.in_order;
        fitting = λ p q m. let e = t.fitting p q m in (e, omega (arith, (fits_means ts us p q e).first-high), stands p q e);
        free_for = t.free;
        comes_first = λ p q r m e i f. t.comes_first p q r m e f;
        without = λ p l h d q e i f. t.without p d q e f;
      }

  from_all : (pairs : List Pair) → TakesAll pairs → TakesFirstFree ts us pairs
  from_all pairs t =
      record {
        in_order = t.in_order;
        fitting = λ p q m. (t.fitting p q m).0;
        free = t.free_for;
        comes_first = λ p q r m e f. t.comes_first p q r m e (stands p r e) f;
        without = λ p d q e f. let h = fits_means ts us p q e in t.without p h.first-low (omega arith) d q e (stands p q e) f;
      }

  pub the_one : (pairs : List Pair) → TakesFirstFree ts us pairs ↔ (pairs ≡ (paired ts us).pairs)
  unfolding paired
  the_one pairs = (
    λ t. only (fits ts us) 1 (length ts) 1 (positions 1 (length us)) (rising_positions (length us) 1) pairs (to_all pairs t),
    λ e. subst (TakesFirstFree ts us) (sym e) (from_all _ (given (fits ts us) 1 (length ts) 1 (positions 1 (length us)) (rising_positions (length us) 1))),
  )
