-- No pairing that keeps the rules has more pairs, where no times fall.
use mathlib.Core.Path.{◌≡◌, sym, ◌∙◌}
use mathlib.Core.Logic.{◌≢◌, ⊎_elim}
use mathlib.Core.Bool.{Bool, true, false, ◌&&◌}
use mathlib.Core.List.{List, [], ◌∷◌, Memᴰ}
use Prim.Native.Nat.{ℕ, zero, suc, ◌+◌, ◌≤◌, ◌<◌}
use native.Mathlib.Omega.{arith}
use lib.Dec.{leb, eqb}
use lib.ListN.{length}
use borrow.Author.Tests.{leb-true, eqb-true, le-leb, eq-eqb}
use Rattle.std.proofs.lemmas.Bool.{cases_lt, and_parts}
use Rattle.tape_model.specs.declared.Ticket.{Ticket}
use Rattle.pairing.specs.Pairing.{at, is_position, may_pair, fits, Pair, firsts, seconds, AllFit, NotIn, Distinct, KeepsRules, positions, paired, times_fall}
use Rattle.pairing.specs.Laws.{RisingFrom, Fits}
use Rattle.pairing.proofs.Times.{times_by_position}
use Rattle.pairing.proofs.Greedy.{Taken, here, there, CanPair, none, skip, one_more, greedy_largest}

-- ## What `fits` says

module _ (ts us : List Ticket) (p q : ℕ) where
  pub fits_means : fits ts us p q ≡ true → Fits ts us p q
  unfolding fits
  fits_means e =
      let f = and_parts (is_position ts p && is_position us q) (may_pair (at ts p) (at us q)) e in
      let on = and_parts (is_position ts p) (is_position us q) f.0 in
      let first = and_parts (leb 1 p) (leb p (length ts)) on.0 in
      let second = and_parts (leb 1 q) (leb q (length us)) on.1 in
      let may = and_parts (eqb (at ts p).truck (at us q).truck) _ f.1 in
      let times = and_parts (leb (at ts p).tipped ((at us q).tipped + 120)) (leb (at us q).tipped ((at ts p).tipped + 120)) may.1 in
      record {
        first-low = leb-true 1 p first.0;
        first-high = leb-true p (length ts) first.1;
        second-low = leb-true 1 q second.0;
        second-high = leb-true q (length us) second.1;
        truck = eqb-true _ _ may.0;
        first_late = leb-true _ _ times.0;
        second_late = leb-true _ _ times.1;
      }

  pub means_fits : Fits ts us p q → fits ts us p q ≡ true
  unfolding fits
  means_fits f =
      rw (
        le-leb 1 p f.first-low,
        le-leb p (length ts) f.first-high,
        le-leb 1 q f.second-low,
        le-leb q (length us) f.second-high,
        eq-eqb _ _ f.truck,
        le-leb _ _ f.first_late,
        le-leb _ _ f.second_late,
      )

-- p before x on the first tape and q before y on the second: where p fits both q and y, and x fits q, x fits y
module _ (ts us : List Ticket) (e : times_fall ts ≡ false) (e' : times_fall us ≡ false) where
  uncross : (p x q y : ℕ) → p < x → q ≤ y → fits ts us p q ≡ true → fits ts us p y ≡ true → fits ts us x q ≡ true → fits ts us x y ≡ true
  uncross p x q y h k f g m =
      let pq = fits_means ts us p q f in
      let py = fits_means ts us p y g in
      let xq = fits_means ts us x q m in
      let first = times_by_position ts e p x pq.first-low h xq.first-high (pq.truck ∙ sym xq.truck) in
      let second : (at us q).tipped ≤ (at us y).tipped = later pq.second-low py.second-high (sym pq.truck ∙ py.truck) in
      means_fits ts us x y
      (record {
        first-low = xq.first-low;
        first-high = xq.first-high;
        second-low = py.second-low;
        second-high = py.second-high;
        truck = xq.truck ∙ sym pq.truck ∙ py.truck;
        first_late = omega arith;
        second_late = omega arith;
      })
    where
      later : 1 ≤ q → y ≤ length us → (at us q).truck ≡ (at us y).truck → (at us q).tipped ≤ (at us y).tipped
      later low high same =
          ⊎_elim (λ (l : q < y). times_by_position us e' q y low l high same) (λ (l : y ≤ q). let s : q ≡ y = omega arith in rw s (omega arith)) (cases_lt q y)

-- ## The pairs of any pairing that keeps the rules can be made one after the other

-- every one of these is in l
abbrev AllIn : List ℕ → List ℕ → Type 0
AllIn l [] = Unit
AllIn l (x ∷ xs) = Memᴰ x l × AllIn l xs

still_in : {x y : ℕ} {l r : List ℕ} → Taken y l r → Memᴰ x l → x ≢ y → Memᴰ x r
still_in here (Memᴰ.head e) d = absurd (d e)
still_in here (Memᴰ.tail m) d = m
still_in (there t) (Memᴰ.head e) d = Memᴰ.head e
still_in (there t) (Memᴰ.tail m) d = Memᴰ.tail (still_in t m d)

all_still_in : {y : ℕ} {l r : List ℕ} (xs : List ℕ) → Taken y l r → NotIn y xs → AllIn l xs → AllIn r xs
all_still_in [] t d h = tt
all_still_in (x ∷ xs) t d h = (still_in t h.0 d.0, all_still_in xs t d.1 h.1)

take_out : {x : ℕ} {l : List ℕ} → Memᴰ x l → (r : List ℕ) × Taken x l r
take_out (Memᴰ.head {xs = l} e) = rw e (l, here)
take_out (Memᴰ.tail m) = let t = take_out m in (_, there t.1)

module _ (fit : ℕ → ℕ → Bool) where
  no_pairs : (ps free : List ℕ) → CanPair fit ps free zero
  no_pairs [] free = none
  no_pairs (p ∷ ps) free = skip (no_pairs ps free)

  can_pair : (pairs : List Pair) (ps free : List ℕ) → AllFit fit pairs → Distinct (firsts pairs) → Distinct (seconds pairs)
      → AllIn ps (firsts pairs) → AllIn free (seconds pairs) → CanPair fit ps free (length pairs)
  can_pair [] ps free f d d' h h' = no_pairs ps free
  can_pair (x ∷ pairs) ps free f d d' h h' =
      let t = take_out h.0 in
      let t' = take_out h'.0 in
      one_more fit t.1 f.0 t'.1
      (can_pair pairs t.0 t'.0 f.1 d.1 d'.1 (all_still_in (firsts pairs) t.1 d.0 h.1) (all_still_in (seconds pairs) t'.1 d'.0 h'.1))

in_positions : (n k x : ℕ) → k ≤ x → x < k + n → Memᴰ x (positions k n)
in_positions zero k x h l = absurd (omega arith)
in_positions (suc n) k x h l =
    ⊎_elim (λ (m : k < x). Memᴰ.tail (in_positions n (suc k) x m (omega arith))) (λ (m : x ≤ k). Memᴰ.head (omega arith)) (cases_lt k x)

pub rising_positions : (n k : ℕ) → RisingFrom k (positions k n)
rising_positions zero k = tt
rising_positions (suc n) k = (omega arith, rising_positions n (suc k))

module _ (ts us : List Ticket) where
  first-positions : (pairs : List Pair) → AllFit (fits ts us) pairs → AllIn (positions 1 (length ts)) (firsts pairs)
  first-positions [] f = tt
  first-positions (x ∷ pairs) f =
      let m = fits_means ts us x.first x.second f.0 in
      (in_positions (length ts) 1 x.first m.first-low (omega arith), first-positions pairs f.1)

  second-positions : (pairs : List Pair) → AllFit (fits ts us) pairs → AllIn (positions 1 (length us)) (seconds pairs)
  second-positions [] f = tt
  second-positions (x ∷ pairs) f =
      let m = fits_means ts us x.first x.second f.0 in
      (in_positions (length us) 1 x.second m.second-low (omega arith), second-positions pairs f.1)

  pub none_has_more : times_fall ts ≡ false → times_fall us ≡ false → (pairs : List Pair) → KeepsRules ts us pairs → length pairs ≤ length (paired ts us).pairs
  unfolding paired
  none_has_more e e' pairs k =
      let ps = positions 1 (length ts) in
      let free = positions 1 (length us) in
      let c = can_pair (fits ts us) pairs ps free k.fit k.once-first k.once-second (first-positions pairs k.fit) (second-positions pairs k.fit) in
      greedy_largest (fits ts us) (uncross ts us e e') ps free 1 1 (length pairs) (rising_positions (length ts) 1) (rising_positions (length us) 1) c
