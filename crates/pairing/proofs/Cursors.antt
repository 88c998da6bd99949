-- A cursor for each truck: from it on the truck's tickets are free, and what is free before it fits no ticket to come. So the first ticket from it on that is
-- not tipped too early is, where it is not tipped too late, the first free one that fits; and else none fits.
use mathlib.Core.Path.{◌≡◌, refl, sym, ap, ◌∙◌}
use mathlib.Core.Bool.{Bool, true, false}
use mathlib.Core.List.{List, [], ◌∷◌}
use Prim.Native.Nat.{ℕ, zero, suc, ◌+◌, ◌≤◌, ◌<◌}
use native.Mathlib.Omega.{arith}
use native.Mathlib.Decide.{dec_lt, ℕ_discrete}
use lib.ListN.{length, get_or, set}
use lib.Seq.{get_or-set_same, get_or-set_other}
use Rattle.calls.specs.Calls.{◌if◌else◌}
use Rattle.tape_model.specs.declared.Ticket.{Ticket}
use Rattle.pairing.specs.Pairing.{fits, positions, no_partner, partner, keep_free, first_that_fits, times_fall}
use Rattle.pairing.specs.Clauses.{truck_of, tipped_of, FirstOf, Linked, LinkedFrom, FirstNotEarly, unpaired}
use Rattle.pairing.specs.Laws.{Fits}
use Rattle.pairing.proofs.Rules.{fits_means, means_fits}
use Rattle.pairing.proofs.Times.{times_by-place}

-- ## The free positions, by their partners

unfit : (fit : ℕ → Bool) (q : ℕ) → (fit q ≡ true → ⊥) → fit q ≡ false
unfit fit q h = by (fit q) h
  where
    by : (b : Bool) → (b ≡ true → ⊥) → b ≡ false
    by true d = absurd (d refl)
    by false d = refl

pass : (fit : ℕ → Bool) (q : ℕ) (free : List ℕ) → (fit q ≡ true → ⊥) → first_that_fits fit (q ∷ free) ≡ keep_free q (first_that_fits fit free)
pass fit q free h = ap (λ (b : Bool). partner q free if b else keep_free q (first_that_fits fit free)) (unfit fit q h)

-- what is said of places k + j, from the next place on
on : (fit : ℕ → Bool) (k j : ℕ) → fit (suc k + j) ≡ true → fit (k + suc j) ≡ true
on fit k j e = let s : k + suc j ≡ suc k + j = omega arith in rw s e

here : (fit : ℕ → Bool) (k : ℕ) → fit k ≡ true → fit (k + 0) ≡ true
here fit k e = let s : k + 0 ≡ k = omega arith in rw s e

pub none_fits : (fit : ℕ → Bool) (l : List ℕ) (k : ℕ) → ((j : ℕ) → j < length l → get_or l j 0 ≡ 0 → fit (k + j) ≡ true → ⊥) → first_that_fits fit (unpaired k l) ≡ no_partner
none_fits fit [] k h = refl
none_fits fit (zero ∷ l) k h =
    pass fit k (unpaired (suc k) l) (λ e. h 0 (omega arith) refl (here fit k e))
    ∙ ap (keep_free k) (none_fits fit l (suc k) (λ j i z e. h (suc j) (omega arith) z (on fit k j e)))
none_fits fit (suc x ∷ l) k h = none_fits fit l (suc k) (λ j i z e. h (suc j) (omega arith) z (on fit k j e))

pub one-fits : (fit : ℕ → Bool) (l : List ℕ) (k r v : ℕ) → r < length l → get_or l r 0 ≡ 0 → fit (k + r) ≡ true
    → ((j : ℕ) → j < r → get_or l j 0 ≡ 0 → fit (k + j) ≡ true → ⊥)
    → first_that_fits fit (unpaired k l) ≡ partner (k + r) (unpaired k (set l r (suc v)))
one-fits fit [] k r v i z e h = absurd (omega arith)
one-fits fit (zero ∷ l) k zero v i z e h =
    let w : k + 0 ≡ k = omega arith in
    ap (λ (b : Bool). partner k (unpaired (suc k) l) if b else keep_free k (first_that_fits fit (unpaired (suc k) l))) (rw w at e)
    ∙ ap (λ (q : ℕ). partner q (unpaired (suc k) l)) (sym w)
one-fits fit (suc x ∷ l) k zero v i z e h = absurd (omega arith)
one-fits fit (zero ∷ l) k (suc r) v i z e h =
    let w : k + suc r ≡ suc k + r = omega arith in
    pass fit k (unpaired (suc k) l) (λ q. h 0 (omega arith) refl (here fit k q))
    ∙ ap (keep_free k) (one-fits fit l (suc k) r v (omega arith) z (rw w at e) (λ j m y q. h (suc j) (omega arith) y (on fit k j q)))
    ∙ ap (λ (q : ℕ). partner q (k ∷ unpaired (suc k) (set l r (suc v)))) (sym w)
one-fits fit (suc x ∷ l) k (suc r) v i z e h =
    let w : k + suc r ≡ suc k + r = omega arith in
    one-fits fit l (suc k) r v (omega arith) z (rw w at e) (λ j m y q. h (suc j) (omega arith) y (on fit k j q))
    ∙ ap (λ (q : ℕ). partner q (unpaired (suc k) (set l r (suc v)))) (sym w)

pub all_free : (l : List ℕ) (k : ℕ) → ((j : ℕ) → get_or l j 0 ≡ 0) → unpaired k l ≡ positions k (length l)
all_free [] k h = refl
all_free (zero ∷ l) k h = ap (λ (m : List ℕ). k ∷ m) (all_free l (suc k) (λ j. h (suc j)))
all_free (suc x ∷ l) k h = let z : suc x ≡ 0 = h 0 in absurd (omega arith)

-- ## The cursors

module _ (ts us : List Ticket) where
  -- before ticket i of the first tape: `taken` has 0 for each free ticket of the second
  pub record Ready (i : ℕ) (taken cursors : List ℕ) : Type 0 where
    pub ahead : (j : ℕ) → get_or cursors (truck_of us j) 0 ≤ j → get_or taken j 0 ≡ 0
    pub behind : (x j : ℕ) → i ≤ x → j < get_or cursors (truck_of us j) 0 → get_or taken j 0 ≡ 0 → fits ts us (suc x) (suc j) ≡ true → ⊥
    pub within : (t : ℕ) → t < 1024 → get_or cursors t 0 ≤ length us
    pub own : (t : ℕ) → t < 1024 → get_or cursors t 0 < length us → truck_of us (get_or cursors t 0) ≡ t

  pub ready_start : (taken next cursors : List ℕ) → ((j : ℕ) → get_or taken j 0 ≡ 0) → ((j : ℕ) → j < length us → truck_of us j < 1024) → LinkedFrom us 0 next cursors
      → Ready 0 taken cursors
  ready_start taken next cursors clear small l =
      record {
        ahead = λ j h. clear j;
        behind = λ x j h m z e. let k = fits_means ts us (suc x) (suc j) e in (l.first (truck_of us j) (small j (omega (arith, k.second-high)))).passed j (omega arith) m refl;
        within = λ t h. (l.first t h).high;
        own = λ t h. (l.first t h).here;
      }

  module _ (ts_order : times_fall ts ≡ false) (us_order : times_fall us ≡ false) (i : ℕ) (taken cursors : List ℕ) (c : Ready i taken cursors) (small : truck_of ts i < 1024)
      (trucks : length cursors ≡ 1024) (r : ℕ) (s : FirstNotEarly us (truck_of ts i) (get_or cursors (truck_of ts i) 0) (tipped_of ts i) r) where
    abbrev truck : ℕ
    truck = truck_of ts i

    -- what is free and passed fits neither this ticket nor a later one of the truck
    passed_over : (x j : ℕ) → i ≤ x → truck_of ts x ≡ truck → j < r → get_or taken j 0 ≡ 0 → fits ts us (suc x) (suc j) ≡ true → ⊥
    passed_over x j h t l z e = by (dec_lt j (get_or cursors (truck_of us j) 0)) (dec_lt i x)
      where
        f : Fits ts us (suc x) (suc j)
        f = fits_means ts us (suc x) (suc j) e

        same : truck_of us j ≡ truck
        same = sym f.truck ∙ t

        too_early : tipped_of ts i ≤ tipped_of ts x → get_or cursors (truck_of us j) 0 ≤ j → ⊥
        too_early m g = omega (arith, s.passed j (rw same at g) l same, f.first_late)

        by : Dec (j < get_or cursors (truck_of us j) 0) → Dec (i < x) → ⊥
        by (yes y) d = c.behind x j h y z e
        by (no y) (yes d) = too_early (times_by-place ts ts_order i x d f.first-high (sym t)) (omega arith)
        by (no y) (no d) = let w : i ≡ x = omega arith in too_early (rw w (omega arith)) (omega arith)

    -- the truck's cursor moves on to v, and the partners on the second tape become `marks`
    module _ (marks : List ℕ) (v : ℕ) (low : r ≤ v) (high : v ≤ length us) (its : v < length us → truck_of us v ≡ truck)
        (stay : (j : ℕ) → get_or taken j 0 ≡ 0 → (truck_of us j ≡ truck → v ≤ j) → get_or marks j 0 ≡ 0)
        (were : (j : ℕ) → get_or marks j 0 ≡ 0 → get_or taken j 0 ≡ 0)
        (past : (j : ℕ) → truck_of us j ≡ truck → j < v → get_or marks j 0 ≡ 0 → j < r) where
      abbrev moved : List ℕ
      moved = set cursors truck v

      at_truck : (t : ℕ) → t ≡ truck → get_or moved t 0 ≡ v
      at_truck t e = rw e (get_or-set_same cursors truck v 0 (omega (arith, trucks)))

      elsewhere : (t : ℕ) → (t ≡ truck → ⊥) → get_or moved t 0 ≡ get_or cursors t 0
      elsewhere t d = get_or-set_other cursors truck t v 0 d

      ahead' : (j : ℕ) → Dec (truck_of us j ≡ truck) → get_or moved (truck_of us j) 0 ≤ j → get_or marks j 0 ≡ 0
      ahead' j (yes y) h =
          let u : v ≤ j = omega (arith, at_truck (truck_of us j) y) in
          let w : get_or cursors (truck_of us j) 0 ≤ j = rw y (omega (arith, s.low)) in
          stay j (c.ahead j w) (λ e. u)
      ahead' j (no y) h = stay j (c.ahead j (omega (arith, elsewhere (truck_of us j) y))) (λ e. absurd (y e))

      behind' : (x j : ℕ) → Dec (truck_of us j ≡ truck) → i < x → j < get_or moved (truck_of us j) 0 → get_or marks j 0 ≡ 0 → fits ts us (suc x) (suc j) ≡ true → ⊥
      behind' x j (yes y) h l z e =
          let u : j < v = omega (arith, at_truck (truck_of us j) y) in
          passed_over x j (omega arith) ((fits_means ts us (suc x) (suc j) e).truck ∙ y) (past j y u z) (were j z) e
      behind' x j (no y) h l z e = c.behind x j (omega arith) (omega (arith, elsewhere (truck_of us j) y)) (were j z) e

      within' : (t : ℕ) → t < 1024 → Dec (t ≡ truck) → get_or moved t 0 ≤ length us
      within' t l (yes y) = omega (arith, at_truck t y)
      within' t l (no y) = omega (arith, elsewhere t y, c.within t l)

      own' : (t : ℕ) → t < 1024 → Dec (t ≡ truck) → get_or moved t 0 < length us → truck_of us (get_or moved t 0) ≡ t
      own' t l (yes y) h = let e = at_truck t y in rw (e, y) (its (omega arith))
      own' t l (no y) h = let e = elsewhere t y in rw e (c.own t l (omega arith))

      moves_on : Ready (i + 1) marks moved
      moves_on =
          record {
            ahead = λ j h. ahead' j (ℕ_discrete (truck_of us j) truck) h;
            behind = λ x j h l z e. behind' x j (ℕ_discrete (truck_of us j) truck) (omega arith) l z e;
            within = λ t l. within' t l (ℕ_discrete t truck);
            own = λ t l h. own' t l (ℕ_discrete t truck) h;
          }

    -- nobody: the search came to the end, or to a ticket that is tipped too late
    module _ (flags : length taken ≡ length us) (late : r < length us → tipped_of us r ≤ tipped_of ts i + 120 → ⊥) where
      fits_none : (j : ℕ) → j < length taken → get_or taken j 0 ≡ 0 → fits ts us (suc i) (suc j) ≡ true → ⊥
      fits_none j l z e = by (dec_lt j r) (dec_lt r j)
        where
          f : Fits ts us (suc i) (suc j)
          f = fits_means ts us (suc i) (suc j) e

          by : Dec (j < r) → Dec (r < j) → ⊥
          by (yes y) d = passed_over i j (omega arith) refl y z e
          by (no y) (no d) = let w : j ≡ r = omega arith in late (omega (arith, f.second-high)) (rw w at f.second_late)
          by (no y) (yes d) =
              let inside : r < length us = omega (arith, f.second-high) in
              late inside (omega (arith, times_by-place us us_order r j d f.second-high ((s.here inside).0 ∙ f.truck), f.second_late))

      pub nobody_fits : first_that_fits (fits ts us (suc i)) (unpaired 1 taken) ≡ no_partner
      nobody_fits = none_fits (fits ts us (suc i)) taken 1 (λ j l z e. let w : 1 + j ≡ suc j = omega arith in fits_none j l z (rw w at e))

      pub ready_without : Ready (i + 1) taken (set cursors truck r)
      ready_without = moves_on taken r (omega arith) s.high (λ h. (s.here h).0) (λ j z h. z) (λ j z. z) (λ j t l z. l)

    -- a partner: the search came to a ticket that is not tipped too late
    module _ (flags : length taken ≡ length us) (there : i < length ts) (inside : r < length us) (near : tipped_of us r ≤ tipped_of ts i + 120) where
      fitting : fits ts us (suc i) (suc r) ≡ true
      fitting =
          let h = s.here inside in
          means_fits ts us (suc i) (suc r)
          (record {
            first-low = omega arith;
            first-high = there;
            second-low = omega arith;
            second-high = inside;
            truck = sym h.0;
            first_late = h.1;
            second_late = near;
          })

      free : get_or taken r 0 ≡ 0
      free = c.ahead r (let e = (s.here inside).0 in rw e s.low)

      module _ (v : ℕ) where
        pub partner_fits : first_that_fits (fits ts us (suc i)) (unpaired 1 taken) ≡ partner (suc r) (unpaired 1 (set taken r (suc v)))
        partner_fits =
            let w : 1 + r ≡ suc r = omega arith in
            rw w at
            (one-fits (fits ts us (suc i)) taken 1 r v (omega arith) free (rw w fitting)
            (λ j l z e. let u : 1 + j ≡ suc j = omega arith in passed_over i j (omega arith) refl l z (rw u at e)))

        marked : get_or (set taken r (suc v)) r 0 ≡ suc v
        marked = get_or-set_same taken r (suc v) 0 (omega arith)

        other : (j : ℕ) → get_or (set taken r (suc v)) j 0 ≡ 0 → j ≡ r → ⊥
        other j z e = let w : get_or (set taken r (suc v)) r 0 ≡ 0 = rw e at z in omega (arith, marked)

        pub ready_with : (next : List ℕ) → Linked us 0 next → Ready (i + 1) (set taken r (suc v)) (set cursors truck (get_or next r 0))
        ready_with next linked =
            let f = linked r (omega arith) inside in
            let t = (s.here inside).0 in
            moves_on (set taken r (suc v)) (get_or next r 0) (omega (arith, f.low)) f.high (λ h. f.here h ∙ t)
            (λ j z h. get_or-set_other taken r j (suc v) 0 (λ e. let l = h (ap (truck_of us) e ∙ t) in omega (arith, f.low)) ∙ z)
            (λ j z. sym (get_or-set_other taken r j (suc v) 0 (other j z)) ∙ z)
            (λ j y l z. before f t j y l (other j z) (dec_lt j r))
          where
            before : FirstOf us (truck_of us r) (r + 1) (get_or next r 0) → truck_of us r ≡ truck → (j : ℕ) → truck_of us j ≡ truck → j < get_or next r 0 → (j ≡ r → ⊥)
                → Dec (j < r) → j < r
            before f t j y l d (yes e) = e
            before f t j y l d (no e) = absurd (f.passed j (omega (arith, d)) l (y ∙ sym t))
