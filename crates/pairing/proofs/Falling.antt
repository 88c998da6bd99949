-- Whether the times of a truck fall, found in one pass with the last time of each truck.
use mathlib.Core.Path.{◌≡◌, refl, sym, ap, ap₂, ◌∙◌, fun_ext}
use mathlib.Core.Bool.{Bool, true, false, ◌&&◌, ◌||◌, or-false}
use mathlib.Core.List.{List, [], ◌∷◌}
use Prim.Native.Nat.{ℕ, zero, suc, ◌≤◌, ◌<◌}
use native.Mathlib.Omega.{arith}
use lib.Dec.{eqb, ltb}
use lib.ListN.{length, get_or, set, replicate}
use lib.Seq.{get_or-set_same, get_or-set_other}
use borrow.Author.Tests.{ltb-true, ltb-false, eqb-true, eqb-false, lt-ltb, le-ltb}
use Rattle.calls.specs.Calls.{◌if◌else◌, Reply, refused, done, map_reply}
use Rattle.tape_model.specs.declared.Ticket.{Ticket}
use Rattle.tape_model.specs.Tape.{plain_tickets, tickets_in, of_plain}
use Rattle.pairing.specs.Pairing.{falls_behind, times_fall, unless_falling, tickets_to_pair}
use Rattle.pairing.specs.Clauses.{tickets_of}

-- the last time of each truck
abbrev pub Times : Type 0
Times = ℕ → ℕ

abbrev pub updated : Times → ℕ → ℕ → Times
updated last truck time k = time if eqb k truck else last k

-- whether a ticket is tipped before the last time of its truck, with the times brought up to date
pub falls_from : Times → List Ticket → Bool
falls_from last [] = false
falls_from last (t ∷ ts) = ltb t.tipped (last t.truck) || falls_from (updated last t.truck t.tipped) ts

-- and with the times as they are
below : Times → List Ticket → Bool
below last [] = false
below last (t ∷ ts) = ltb t.tipped (last t.truck) || below last ts

-- ## The pass finds what the definition says

grouped : (x a b p q : Bool) → x ≡ (a || b) → (x || (p || q)) ≡ ((a || p) || (b || q))
grouped x true b p q e = ap (λ (y : Bool). y || (p || q)) e
grouped x false true true q e = ap (λ (y : Bool). y || (true || q)) e
grouped x false true false q e = ap (λ (y : Bool). y || q) e
grouped x false false true q e = ap (λ (y : Bool). y || (true || q)) e
grouped x false false false q e = ap (λ (y : Bool). y || q) e

assoc : (a b c : Bool) → (a || (b || c)) ≡ ((a || b) || c)
assoc true b c = refl
assoc false b c = refl

module _ (last : Times) (t : Ticket) (up : last t.truck ≤ t.tipped) where
  after_one : (u : Ticket) (same : Bool) → eqb u.truck t.truck ≡ same
      → ltb u.tipped (t.tipped if same else last u.truck) ≡ (ltb u.tipped (last u.truck) || (same && ltb u.tipped t.tipped))
  after_one u false e = sym (or-false (ltb u.tipped (last u.truck)))
  after_one u true e = by (ltb u.tipped (last u.truck)) refl
    where
      place : last u.truck ≡ last t.truck
      place = ap last (eqb-true u.truck t.truck e)

      by : (earlier : Bool) → ltb u.tipped (last u.truck) ≡ earlier → ltb u.tipped t.tipped ≡ (earlier || ltb u.tipped t.tipped)
      by false f = refl
      by true f = let l = ltb-true u.tipped (last u.truck) f in lt-ltb u.tipped t.tipped (omega (arith, place))

  after-all : (ts : List Ticket) → below (updated last t.truck t.tipped) ts ≡ (below last ts || falls_behind t ts)
  unfolding below falls_behind
  after-all [] = refl
  after-all (u ∷ us) =
      ap (λ (b : Bool). ltb u.tipped (updated last t.truck t.tipped u.truck) || b) (after-all us)
      ∙ grouped _ (ltb u.tipped (last u.truck)) (eqb u.truck t.truck && ltb u.tipped t.tipped) (below last us) (falls_behind t us)
      (after_one u (eqb u.truck t.truck) refl)

falls-from : (ts : List Ticket) (last : Times) → falls_from last ts ≡ (below last ts || times_fall ts)
unfolding falls_from below times_fall
falls-from [] last = refl
falls-from (t ∷ ts) last =
    ap (λ (b : Bool). ltb t.tipped (last t.truck) || b) (falls-from ts (updated last t.truck t.tipped)) ∙ by (ltb t.tipped (last t.truck)) refl
  where
    by : (fell : Bool) → ltb t.tipped (last t.truck) ≡ fell
        → (fell || (below (updated last t.truck t.tipped) ts || times_fall ts)) ≡ ((fell || below last ts) || (falls_behind t ts || times_fall ts))
    by true e = refl
    by false e =
        ap (λ (b : Bool). b || times_fall ts) (after-all last t (ltb-false t.tipped (last t.truck) e) ts)
        ∙ sym (assoc (below last ts) (falls_behind t ts) (times_fall ts))

none_below : (ts : List Ticket) → below (λ k. 0) ts ≡ false
unfolding below
none_below [] = refl
none_below (t ∷ ts) = ap₂ ◌||◌ (le-ltb t.tipped 0 (omega arith)) (none_below ts)

-- ## In the loop

-- whether times have fallen, or fall on the tickets that are left
abbrev pub fell_or_falls : Bool → List ℕ → List Ticket → Bool
fell_or_falls fell last ts = fell || falls_from (λ k. get_or last k 0) ts

zeros : (n k : ℕ) → ◌≡◌ {A = ℕ} (get_or (replicate n 0) k 0) 0
zeros zero k = refl
zeros (suc n) zero = refl
zeros (suc n) (suc k) = zeros n k

pub nothing_fell : (last : List ℕ) (n : ℕ) → last ≡ replicate n 0 → (r : Reply (List Ticket)) → map_reply (fell_or_falls false last) r ≡ map_reply times_fall r
nothing_fell last n e r =
    ap (λ (f : List Ticket → Bool). map_reply f r)
    (fun_ext (λ ts.
    ap (λ (times : Times). falls_from times ts) (fun_ext (λ k. ap (λ (l : List ℕ). get_or l k 0) e ∙ zeros n k))
    ∙ falls-from ts (λ k. 0) ∙ ap (λ (b : Bool). b || times_fall ts) (none_below ts)))

pub one_more : (fell : Bool) (last : List ℕ) (t : Ticket) → t.truck < length last → (ts : List Ticket)
    → fell_or_falls fell last (t ∷ ts) ≡ fell_or_falls (fell || ltb t.tipped (get_or last t.truck 0)) (set last t.truck t.tipped) ts
unfolding falls_from
one_more fell last t small ts =
    ap (λ (times : Times). fell || (ltb t.tipped (get_or last t.truck 0) || falls_from times ts)) (fun_ext (λ k. at_place k (eqb k t.truck) refl))
    ∙ assoc fell (ltb t.tipped (get_or last t.truck 0)) (falls_from (λ k. get_or (set last t.truck t.tipped) k 0) ts)
  where
    at_place : (k : ℕ) (same : Bool) → eqb k t.truck ≡ same → (t.tipped if same else get_or last k 0) ≡ get_or (set last t.truck t.tipped) k 0
    at_place k true e =
        sym (ap (λ (j : ℕ). get_or (set last t.truck t.tipped) j 0) (eqb-true k t.truck e) ∙ get_or-set_same last t.truck t.tipped 0 small)
    at_place k false e = sym (get_or-set_other last t.truck k t.tipped 0 (eqb-false k t.truck e))

pub none_behind : (fell : Bool) (last : List ℕ) → fell ≡ fell_or_falls fell last []
unfolding falls_from
none_behind fell last = sym (or-false fell)

-- ## The tape

pub number_refused : (plain : List ℕ) (n : ℕ) → refused n ≡ of_plain times_fall plain → tickets_to_pair plain ≡ refused n
unfolding of_plain tickets_to_pair map_reply
number_refused plain n = by (plain_tickets plain)
  where
    by : (r : Reply (List Ticket)) → refused n ≡ map_reply times_fall r → unless_falling r ≡ refused n
    by (refused m) e = let same : n ≡ m = cc in ap refused (sym same)
    by (done ts) e = absurd (let z : ◌≡◌ {A = ℕ} 0 1 = cc in omega arith)

module _ (plain : List ℕ) (fell : Bool) (e : done fell ≡ of_plain times_fall plain) where
  pub twelve : fell ≡ true → tickets_to_pair plain ≡ refused 12
  unfolding of_plain tickets_to_pair map_reply
  twelve f = by (plain_tickets plain) e
    where
      by : (r : Reply (List Ticket)) → done fell ≡ map_reply times_fall r → unless_falling r ≡ refused 12
      by (refused m) e = absurd (let z : ◌≡◌ {A = ℕ} 0 1 = cc in omega arith)
      by (done ts) e = let same : times_fall ts ≡ true = cc in rw same

  pub in_time : fell ≡ false → tickets_to_pair plain ≡ done (tickets_of plain)
  unfolding of_plain tickets_to_pair map_reply
  in_time f = by (plain_tickets plain) e
    where
      by : (r : Reply (List Ticket)) → done fell ≡ map_reply times_fall r → unless_falling r ≡ done (tickets_in r)
      by (refused m) e = absurd (let z : ◌≡◌ {A = ℕ} 0 1 = cc in omega arith)
      by (done ts) e = let same : times_fall ts ≡ false = cc in rw same
