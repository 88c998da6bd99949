-- The search for pairs: the partners found so far, and what `greedy` has yet to give, are together what `paired` gives.
use mathlib.Core.Path.{◌≡◌, refl, sym, ap, ◌∙◌}
use mathlib.Core.Bool.{Bool, true, false, false≢true}
use mathlib.Core.List.{List, [], ◌∷◌, ◌++◌}
use Prim.Native.Nat.{ℕ, zero, suc, ◌+◌, ◌-◌, ◌≤◌, ◌<◌}
use native.Mathlib.Omega.{arith}
use native.Mathlib.Numerals.{add-one}
use lib.Dec.{leb, ltb}
use lib.ListN.{length, get_or, set, take, length-set, length-append}
use lib.Seq.{length-take-le, take-suc-set, append_snoc}
use borrow.Author.Tests.{ltb-true, leb-true, lt-ltb, le-leb}
use Rattle.std.proofs.lemmas.Bool.{and_parts}
use Rattle.tape_model.specs.declared.Ticket.{Ticket}
use Rattle.pairing.specs.Pairing.{fits, Pair, positions, Choice, no_partner, first_that_fits, Paired, with_pair, with_left, takes, greedy, paired, times_fall}
use Rattle.pairing.specs.Clauses.{truck_of, tipped_of, Linked, LinkedFrom, FirstNotEarly, Seeks, not_late, unpaired, pairs_in}
use Rattle.pairing.proofs.Cursors.{all_free, Ready, ready_start, nobody_fits, ready_without, partner_fits, ready_with}

-- ## Partners, one more at the end

pairs_snoc : (l : List ℕ) (k q : ℕ) → pairs_in k (l ++ suc q ∷ []) ≡ pairs_in k l ++ record { first = k + length l; second = suc q } ∷ []
pairs_snoc [] k q = let e : k ≡ k + 0 = omega arith in ap (λ (p : ℕ). record { first = p; second = suc q } ∷ []) e
pairs_snoc (zero ∷ l) k q = let e : suc k + length l ≡ k + suc (length l) = omega arith in rw (← e) (pairs_snoc l (suc k) q)
pairs_snoc (suc x ∷ l) k q =
    let e : suc k + length l ≡ k + suc (length l) = omega arith in
    rw (← e) (ap (λ (m : List Pair). record { first = k; second = suc x } ∷ m) (pairs_snoc l (suc k) q))

pairs_snoc_none : (l : List ℕ) (k : ℕ) → pairs_in k (l ++ 0 ∷ []) ≡ pairs_in k l
pairs_snoc_none [] k = refl
pairs_snoc_none (zero ∷ l) k = pairs_snoc_none l (suc k)
pairs_snoc_none (suc x ∷ l) k = ap (λ (m : List Pair). record { first = k; second = suc x } ∷ m) (pairs_snoc_none l (suc k))

left_snoc : (l : List ℕ) (k : ℕ) → unpaired k (l ++ 0 ∷ []) ≡ unpaired k l ++ (k + length l) ∷ []
left_snoc [] k = let e : k ≡ k + 0 = omega arith in ap (λ (p : ℕ). p ∷ []) e
left_snoc (zero ∷ l) k =
    let e : suc k + length l ≡ k + suc (length l) = omega arith in rw (← e) (ap (λ (m : List ℕ). k ∷ m) (left_snoc l (suc k)))
left_snoc (suc x ∷ l) k = let e : suc k + length l ≡ k + suc (length l) = omega arith in rw (← e) (left_snoc l (suc k))

left_snoc_none : (l : List ℕ) (k q : ℕ) → unpaired k (l ++ suc q ∷ []) ≡ unpaired k l
left_snoc_none [] k q = refl
left_snoc_none (zero ∷ l) k q = ap (λ (m : List ℕ). k ∷ m) (left_snoc_none l (suc k) q)
left_snoc_none (suc x ∷ l) k q = left_snoc_none l (suc k) q

pairs_few : (l : List ℕ) (k : ℕ) → length (pairs_in k l) ≤ length l
pairs_few [] k = omega arith
pairs_few (zero ∷ l) k = omega (arith, pairs_few l (suc k))
pairs_few (suc x ∷ l) k = omega (arith, pairs_few l (suc k))

positions_next : (n i : ℕ) → i < n → positions (suc i) (n - i) ≡ suc i ∷ positions (suc (i + 1)) (n - (i + 1))
positions_next n i h = let e : n - i ≡ suc (n - (i + 1)) = omega arith in let f : suc (suc i) ≡ suc (i + 1) = omega arith in rw (e, f)

-- ## The state before ticket i of the first tape

module _ (ts us : List Ticket) where
  -- what is yet to be found
  abbrev pub rest : ℕ → List ℕ → Paired
  rest i taken = greedy (fits ts us) (positions (suc i) (length ts - i)) (unpaired 1 taken)

  pub record Search (partners taken cursors : List ℕ) (count i : ℕ) : Type 0 where
    pub far : i ≤ length ts
    pub first-room : length partners ≡ length ts
    pub second-room : length taken ≡ length us
    pub trucks : length cursors ≡ 1024
    pub ready : Ready ts us i taken cursors
    pub pairs : pairs_in 1 (take i partners) ++ (rest i taken).pairs ≡ (paired ts us).pairs
    pub left-first : unpaired 1 (take i partners) ++ (rest i taken).left_first ≡ (paired ts us).left_first
    pub left-second : (rest i taken).left_second ≡ (paired ts us).left_second
    pub counted : count ≡ length (pairs_in 1 (take i partners))

  -- at most one pair a ticket
  pub search_few : {partners taken cursors : List ℕ} {count i : ℕ} → Search partners taken cursors count i → count ≤ i
  search_few {partners} {i = i} s = omega (arith, s.counted, pairs_few (take i partners) 1, length-take-le i partners (omega (arith, s.far, s.first-room)))

  pub search_start : (partners taken next cursors : List ℕ) → length partners ≡ length ts → length taken ≡ length us → ((j : ℕ) → get_or taken j 0 ≡ 0)
      → ((j : ℕ) → j < length us → truck_of us j < 1024) → LinkedFrom us 0 next cursors → Search partners taken cursors 0 0
  unfolding paired
  search_start partners taken next cursors ep et clear small l =
      record {
        far = omega arith;
        first-room = ep;
        second-room = et;
        trucks = l.trucks;
        ready = ready_start ts us taken next cursors clear small l;
        pairs = ap (λ (o : Paired). o.pairs) all;
        left-first = ap (λ (o : Paired). o.left_first) all;
        left-second = ap (λ (o : Paired). o.left_second) all;
        counted = refl;
      }
    where
      all : rest 0 taken ≡ greedy (fits ts us) (positions 1 (length ts)) (positions 1 (length us))
      all = let n : length ts - 0 ≡ length ts = omega arith in rw (n, all_free taken 1 clear, et)

  -- ## One turn

  module _ {partners taken cursors : List ℕ} {count i : ℕ} (s : Search partners taken cursors count i) (there : i < length ts)
      (ts_order : times_fall ts ≡ false) (us_order : times_fall us ≡ false) (next : List ℕ) (linked : Linked us 0 next)
      (small : truck_of ts i < 1024) (r : ℕ) (sought : FirstNotEarly us (truck_of ts i) (get_or cursors (truck_of ts i) 0) (tipped_of ts i) r) where
    one_turn : (choice : Choice) → first_that_fits (fits ts us (suc i)) (unpaired 1 taken) ≡ choice
        → rest i taken ≡ takes (suc i) choice (unpaired 1 taken) (λ (free : List ℕ). greedy (fits ts us) (positions (suc (i + 1)) (length ts - (i + 1))) free)
    one_turn choice e =
        ap (λ (l : List ℕ). greedy (fits ts us) l (unpaired 1 taken)) (positions_next (length ts) i there)
        ∙ ap
        (λ (x : Choice). takes (suc i) x (unpaired 1 taken) (λ (free : List ℕ). greedy (fits ts us) (positions (suc (i + 1)) (length ts - (i + 1))) free))
        e

    -- the partners after this turn, with v at place i
    after : (v : ℕ) → take (i + 1) (set partners i v) ≡ take i partners ++ v ∷ []
    after v = rw add-one (take-suc-set partners i v (omega (arith, s.first-room)))

    here : 1 + length (take i partners) ≡ suc i
    here = omega (arith, length-take-le i partners (omega (arith, s.first-room)))

    module _ (inside : r < length us) (near : tipped_of us r ≤ tipped_of ts i + 120) where
      found : (v : ℕ) → rest i taken ≡ with_pair (suc i) (suc r) (rest (i + 1) (set taken r (suc v)))
      found v = one_turn _ (partner_fits ts us ts_order us_order i taken cursors s.ready small s.trucks r sought s.second-room there inside near v)

      grown : pairs_in 1 (take (i + 1) (set partners i (suc r))) ≡ pairs_in 1 (take i partners) ++ record { first = suc i; second = suc r } ∷ []
      grown = ap (pairs_in 1) (after (suc r)) ∙ pairs_snoc (take i partners) 1 r ∙ ap (λ (p : ℕ). pairs_in 1 (take i partners) ++ record { first = p; second = suc r } ∷ []) here

      pub search_found : (v : ℕ) → Search (set partners i (suc r)) (set taken r (suc v)) (set cursors (truck_of ts i) (get_or next r 0)) (count + 1) (i + 1)
      search_found v =
          record {
            far = omega arith;
            first-room = length-set partners i (suc r) ∙ s.first-room;
            second-room = length-set taken r (suc v) ∙ s.second-room;
            trucks = length-set cursors (truck_of ts i) (get_or next r 0) ∙ s.trucks;
            ready = ready_with ts us ts_order us_order i taken cursors s.ready small s.trucks r sought s.second-room there inside near v next linked;
            pairs =
                ap (λ (l : List Pair). l ++ (rest (i + 1) (set taken r (suc v))).pairs) grown
                ∙ append_snoc (pairs_in 1 (take i partners)) (record { first = suc i; second = suc r }) (rest (i + 1) (set taken r (suc v))).pairs
                ∙ ap (λ (o : Paired). pairs_in 1 (take i partners) ++ o.pairs) (sym (found v)) ∙ s.pairs;
            left-first =
                ap (λ (l : List ℕ). l ++ (rest (i + 1) (set taken r (suc v))).left_first) (ap (unpaired 1) (after (suc r)) ∙ left_snoc_none (take i partners) 1 r)
                ∙ ap (λ (o : Paired). unpaired 1 (take i partners) ++ o.left_first) (sym (found v)) ∙ s.left-first;
            left-second = ap (λ (o : Paired). o.left_second) (sym (found v)) ∙ s.left-second;
            counted = omega (arith, s.counted, ap length grown, length-append (pairs_in 1 (take i partners)) (record { first = suc i; second = suc r } ∷ []));
          }

    module _ (late : r < length us → tipped_of us r ≤ tipped_of ts i + 120 → ⊥) where
      alone : rest i taken ≡ with_left (suc i) (rest (i + 1) taken)
      alone = one_turn no_partner (nobody_fits ts us ts_order us_order i taken cursors s.ready small s.trucks r sought s.second-room late)

      pub search_left : Search (set partners i 0) taken (set cursors (truck_of ts i) r) count (i + 1)
      search_left =
          record {
            far = omega arith;
            first-room = length-set partners i 0 ∙ s.first-room;
            second-room = s.second-room;
            trucks = length-set cursors (truck_of ts i) r ∙ s.trucks;
            ready = ready_without ts us ts_order us_order i taken cursors s.ready small s.trucks r sought s.second-room late;
            pairs =
                ap (λ (l : List Pair). l ++ (rest (i + 1) taken).pairs) (ap (pairs_in 1) (after 0) ∙ pairs_snoc_none (take i partners) 1)
                ∙ ap (λ (o : Paired). pairs_in 1 (take i partners) ++ o.pairs) (sym alone) ∙ s.pairs;
            left-first =
                ap (λ (l : List ℕ). l ++ (rest (i + 1) taken).left_first)
                (ap (unpaired 1) (after 0) ∙ left_snoc (take i partners) 1 ∙ ap (λ (p : ℕ). unpaired 1 (take i partners) ++ p ∷ []) here)
                ∙ append_snoc (unpaired 1 (take i partners)) (suc i) (rest (i + 1) taken).left_first
                ∙ ap (λ (o : Paired). unpaired 1 (take i partners) ++ o.left_first) (sym alone) ∙ s.left-first;
            left-second = ap (λ (o : Paired). o.left_second) (sym alone) ∙ s.left-second;
            counted = s.counted ∙ ap length (sym (ap (pairs_in 1) (after 0) ∙ pairs_snoc_none (take i partners) 1));
          }

-- ## One turn, with what the code has

-- truck, time and cursor of ticket i, the place r that was found, and whether the ticket there is not tipped too late
pub record Turn (ts us : List Ticket) (next partners taken cursors : List ℕ) (count i truck tipped start r : ℕ) (good : Bool) : Type 0 where
  pub search : Search ts us partners taken cursors count i
  pub there : i < length ts
  pub first_few : length ts ≤ 5000
  pub second_few : length us ≤ 5000
  pub first_order : times_fall ts ≡ false
  pub second_order : times_fall us ≡ false
  pub linked : Linked us 0 next
  pub truck_is : truck ≡ truck_of ts i
  pub tipped_is : tipped ≡ tipped_of ts i
  pub small : truck < 1024
  pub start_is : start ≡ get_or cursors truck 0
  pub seeks : Seeks us start tipped r
  pub good_is : good ≡ not_late us r tipped

module _ {ts us : List Ticket} {next partners taken cursors : List ℕ} {count i truck tipped start r : ℕ} {good : Bool}
    (t : Turn ts us next partners taken cursors count i truck tipped start r good) where
  truck_small : truck_of ts i < 1024
  truck_small = omega (arith, t.small, t.truck_is)

  sought : FirstNotEarly us (truck_of ts i) (get_or cursors (truck_of ts i) 0) (tipped_of ts i) r
  sought =
      let at : start ≡ get_or cursors (truck_of ts i) 0 = t.start_is ∙ ap (λ (x : ℕ). get_or cursors x 0) t.truck_is in
      let time : tipped ≡ tipped_of ts i = t.tipped_is in
      rw (at, time) at (t.seeks (truck_of ts i) (λ h. ap (truck_of us) at ∙ t.search.ready.own (truck_of ts i) truck_small (omega arith)))

  -- the place found is at most the end, and, where the ticket there is a partner, before it
  pub found-high : r ≤ length us
  found-high = sought.high

  pub found_inside : good ≡ true → (r < length us) × (tipped_of us r ≤ tipped_of ts i + 120)
  found_inside y =
      let b = and_parts (ltb r (length us)) (leb (tipped_of us r) (tipped + 120)) (sym t.good_is ∙ y) in
      (ltb-true r (length us) b.0, omega (arith, leb-true (tipped_of us r) (tipped + 120) b.1, t.tipped_is))

  too-late : good ≡ false → r < length us → tipped_of us r ≤ tipped_of ts i + 120 → ⊥
  too-late n h k =
      let k' : tipped_of us r ≤ tipped + 120 = omega (arith, t.tipped_is) in
      false≢true (sym (sym t.good_is ∙ n) ∙ rw (lt-ltb r (length us) h, le-leb (tipped_of us r) (tipped + 120) k'))

  -- the state after it, with what was stored
  pub found-again : good ≡ true → (q p : ℕ) → q ≡ r + 1 → p ≡ i + 1 → (partners' taken' cursors' : List ℕ) (count' : ℕ) → partners' ≡ set partners i q → taken' ≡ set taken r p
      → cursors' ≡ set cursors truck (get_or next r 0) → count' ≡ count + 1 → Search ts us partners' taken' cursors' count' (i + 1)
  found-again y q p eq ep partners' taken' cursors' count' e₁ e₂ e₃ e₄ =
      let f = found_inside y in
      let eq' : q ≡ suc r = omega arith in
      let ep' : p ≡ suc i = omega arith in
      let et = t.truck_is in
      rw (e₁, e₂, e₃, e₄, eq', ep', et)
      (search_found ts us t.search t.there t.first_order t.second_order next t.linked truck_small r sought f.0 f.1 i)

  pub left-again : good ≡ false → (q : ℕ) → q ≡ r → (partners' taken' cursors' : List ℕ) (count' : ℕ) → partners' ≡ set partners i 0 → taken' ≡ taken
      → cursors' ≡ set cursors truck q → count' ≡ count → Search ts us partners' taken' cursors' count' (i + 1)
  left-again n q eq partners' taken' cursors' count' e₁ e₂ e₃ e₄ =
      let et = t.truck_is in
      rw (e₁, e₂, e₃, e₄, eq, et)
      (search_left ts us t.search t.there t.first_order t.second_order next t.linked truck_small r sought (too-late n))
