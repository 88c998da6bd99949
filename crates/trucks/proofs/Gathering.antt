-- A tape's trucks taken in one after the other, and the answers that are made from their set.
use mathlib.Core.Path.{◌≡◌, refl, sym, ap, ap₂, subst, ◌∙◌, fun_ext}
use mathlib.Core.Bool.{Bool, true, false, ◌&&◌, ◌||◌, or-false, false≢true}
use mathlib.Core.List.{List, [], ◌∷◌}
use Prim.Native.Nat.{ℕ, zero, suc, ◌/◌, ◌≤◌, ◌<◌}
use native.Mathlib.Omega.{arith}
use lib.Dec.{eqb}
use lib.ListN.{length, take, drop}
use borrow.Author.Tests.{eqb-true}
use Rattle.std.proofs.lemmas.Bool.{and_parts}
use Rattle.calls.specs.Calls.{Reply, refused, done, map_reply, is_refused}
use Rattle.tape_model.specs.declared.Ticket.{Ticket}
use Rattle.tape_model.specs.Ticket.{unpack_ticket}
use Rattle.tape_model.specs.Tape.{is_tickets_length, unpack_tickets, plain_tickets, of_plain, tickets_in}
use Rattle.tape_model.specs.Laws.{Valid}
use Rattle.tape_model.proofs.Tickets.{truck_range, valid_truck}
use Rattle.tape_model.proofs.Unpacking.{taken-apart, held-unpack}
use Rattle.tape_model.proofs.Plain.{plain-laws, of_plain-laws, of_two_plain-laws}
use Rattle.trucks.specs.Trucks.{NumberSet, truck_numbers, on, truck_count, TrucksOfTwo, trucks_of_two, truck_set, plain_truck_set, plain_trucks, plain_trucks_of_two}
use Rattle.trucks.specs.Words.{held, set_words, AreWords, count, empty_set, intersection, union, symmetric_difference, set_or_empty}
use Rattle.trucks.proofs.Counting.{added, told}
use Rattle.trucks.proofs.Lists.{Below, by_places, both_places, either_places, just_one_places}
use Rattle.trucks.proofs.Words.{held-words, words_back}

pub same-counts : {a a' b b' c c' : ℕ} → a ≡ a' → b ≡ b' → c ≡ c'
    → ◌≡◌ {A = TrucksOfTwo} (record { both = a; either = b; just_one = c }) (record { both = a'; either = b'; just_one = c' })
same-counts p q r = rw (p, q, r)

-- ## In the loop

-- the set of the trucks taken in, and of those on the tickets that are left
abbrev pub set_after : NumberSet → List Ticket → NumberSet
set_after s ts = union s (truck_set ts)

pub none_before : (s : NumberSet) (r : Reply (List Ticket)) → s ≡ empty_set → map_reply (set_after s) r ≡ map_reply truck_set r
none_before s r e = ap (λ (t : NumberSet). map_reply (set_after t) r) e

pub one_more : (s next : NumberSet) (t : Ticket) → next ≡ added t.truck s → (ts : List Ticket) → set_after s (t ∷ ts) ≡ set_after next ts
unfolding truck_set truck_numbers on
one_more s next t e ts =
    fun_ext (λ k. turned (s k) (eqb t.truck k) (on (truck_numbers ts) k) ∙ ap (λ (n : NumberSet). n k || on (truck_numbers ts) k) (sym e))
  where
    turned : (x y z : Bool) → (x || (y || z)) ≡ ((y || x) || z)
    turned true true z = refl
    turned true false z = refl
    turned false true z = refl
    turned false false z = refl

pub none_behind : (s : NumberSet) → s ≡ set_after s []
unfolding truck_set truck_numbers on
none_behind s = fun_ext (λ k. sym (or-false (s k)))

-- ## Truck numbers are 1 to 1,023

abbrev pub Trucks : NumberSet → Type 0
Trucks s = (k : ℕ) → s k ≡ true → (1 ≤ k) × (k ≤ 1023)

no_trucks : Trucks (truck_set [])
unfolding truck_set truck_numbers on
no_trucks k e = absurd (false≢true e)

one_truck : (t : Ticket) (ts : List Ticket) → (1 ≤ t.truck) × (t.truck ≤ 1023) → Trucks (truck_set ts) → Trucks (truck_set (t ∷ ts))
unfolding truck_set truck_numbers on
one_truck t ts r h k e = told (eqb t.truck k) (λ q. let same = eqb-true t.truck k q in (omega (arith, r.0), omega (arith, r.1))) (λ q. h k (rw q at e))

unpacked_trucks : (n : ℕ) (s : List ℕ) (ts : List Ticket) → unpack_tickets n s ≡ done ts → Trucks (truck_set ts)
unfolding unpack_tickets
unpacked_trucks zero s ts e = subst (λ (us : List Ticket). Trucks (truck_set us)) (ap tickets_in e) no_trucks
unpacked_trucks (suc n) s ts e =
    taken-apart (λ us. Trucks (truck_set us)) (unpack_ticket (take 13 s)) (unpack_tickets n (drop 13 s)) ts e
    (λ t us f g. one_truck t us (truck_range (take 13 s) t f) (unpacked_trucks n (drop 13 s) us g))

pub held-trucks : (plain : List ℕ) (ts : List Ticket) → plain_tickets plain ≡ done ts → Trucks (truck_set ts)
held-trucks plain ts e = unpacked_trucks (length plain / 13) plain ts (held-unpack plain ts e)

pub valid-trucks : (ts : List Ticket) → Valid ts → Trucks (truck_set ts)
valid-trucks [] v = no_trucks
valid-trucks (t ∷ ts) v = one_truck t ts (valid_truck t v.0) (valid-trucks ts v.1)

-- so they are below 1,024
pub trucks-below : (ts : List Ticket) → Trucks (truck_set ts) → Below 1024 (truck_numbers ts)
unfolding truck_set
trucks-below ts h k e = omega (arith, (h k e).1)

pub set_below : (ts : List Ticket) → Trucks (truck_set ts) → (k : ℕ) → truck_set ts k ≡ true → k < 1024
set_below ts h k e = omega (arith, (h k e).1)

-- ## The numbers, from sets

module _ (ts : List Ticket) (b : Trucks (truck_set ts)) where
  pub count-by-set : truck_count ts ≡ count 1024 (truck_set ts)
  unfolding truck_count truck_set
  count-by-set = by_places 1024 (truck_numbers ts) (trucks-below ts b)

  module _ (us : List Ticket) (d : Trucks (truck_set us)) where
    pub counts-by_sets : trucks_of_two ts us
        ≡ record {
          both = count 1024 (intersection (truck_set ts) (truck_set us));
          either = count 1024 (union (truck_set ts) (truck_set us));
          just_one = count 1024 (symmetric_difference (truck_set ts) (truck_set us));
        }
    unfolding trucks_of_two truck_set
    counts-by_sets =
        same-counts (both_places (truck_numbers ts) (truck_numbers us) 1024 (trucks-below ts b) (trucks-below us d))
        (either_places (truck_numbers ts) (truck_numbers us) 1024 (trucks-below ts b) (trucks-below us d))
        (just_one_places (truck_numbers ts) (truck_numbers us) 1024 (trucks-below ts b) (trucks-below us d))

-- ## The answers of one tape

module _ (plain : List ℕ) where
  -- the words of its set, or a number, where that is of the tape's set
  pub words_refused : (n : ℕ) → refused n ≡ plain_truck_set plain → refused n ≡ map_reply set_words (plain_truck_set plain)
  unfolding map_reply
  words_refused n e = ap (map_reply set_words) e

  pub words-done : (words : List ℕ) → length words ≡ 16 → AreWords words → done (held words) ≡ plain_truck_set plain → done words ≡ map_reply set_words (plain_truck_set plain)
  unfolding map_reply
  words-done words sixteen small e = ap done (sym (words_back words sixteen small)) ∙ ap (map_reply set_words) e

  -- a set of the tape's trucks is that of its tickets' trucks
  pub found-tickets : (s : NumberSet) → done s ≡ plain_truck_set plain → (ts : List Ticket) × (plain_tickets plain ≡ done ts) × (s ≡ truck_set ts)
  unfolding plain_truck_set of_plain map_reply
  found-tickets s e = by (plain_tickets plain) refl e
    where
      by : (r : Reply (List Ticket)) → plain_tickets plain ≡ r → done s ≡ map_reply truck_set r → (ts : List Ticket) × (plain_tickets plain ≡ done ts) × (s ≡ truck_set ts)
      by (refused m) h f = absurd (let z : ◌≡◌ {A = ℕ} 0 1 = cc in omega arith)
      by (done ts) h f = (ts, h, let same : s ≡ truck_set ts = cc in same)

  -- what a number tells
  module _ (n : ℕ) (answered : refused n ≡ map_reply set_words (plain_truck_set plain)) where
    pub refused_told : plain_tickets plain ≡ refused n
    unfolding plain_truck_set of_plain map_reply
    refused_told = by (plain_tickets plain) answered
      where
        by : (r : Reply (List Ticket)) → refused n ≡ map_reply set_words (map_reply truck_set r) → r ≡ refused n
        by (refused m) e = let same : n ≡ m = cc in ap refused (sym same)
        by (done ts) e = absurd (let z : ◌≡◌ {A = ℕ} 0 1 = cc in omega arith)

    pub count_refused : refused n ≡ plain_trucks plain
    unfolding plain_trucks
    count_refused = sym (((of_plain-laws truck_count).number plain n).1 refused_told)

    pub set_refused : set_words empty_set ≡ set_words (set_or_empty (plain_truck_set plain))
    unfolding plain_truck_set
    set_refused = ap (λ (r : Reply NumberSet). set_words (set_or_empty r)) (sym (((of_plain-laws truck_set).number plain n).1 refused_told))

  -- and words
  module _ (words : List ℕ) (answered : done words ≡ map_reply set_words (plain_truck_set plain)) where
    pub words_told : (ts : List Ticket) × (plain_tickets plain ≡ done ts) × (words ≡ set_words (truck_set ts))
    unfolding plain_truck_set of_plain map_reply
    words_told = by (plain_tickets plain) refl answered
      where
        by : (r : Reply (List Ticket)) → plain_tickets plain ≡ r → done words ≡ map_reply set_words (map_reply truck_set r)
            → (ts : List Ticket) × (plain_tickets plain ≡ done ts) × (words ≡ set_words (truck_set ts))
        by (refused n) e f = absurd (let z : ◌≡◌ {A = ℕ} 0 1 = cc in omega arith)
        by (done ts) e f = (ts, e, let same : words ≡ set_words (truck_set ts) = cc in same)

    pub set_told : (ts : List Ticket) × (plain_tickets plain ≡ done ts) × (held words ≡ truck_set ts)
    set_told =
        let p = words_told in
        (p.0, p.1, ap held p.2 ∙ held-words (truck_set p.0) (set_below p.0 (held-trucks plain p.0 p.1)))

    pub count_done : (r : ℕ) → r ≡ count 1024 (held words) → done r ≡ plain_trucks plain
    unfolding plain_trucks
    count_done r counted =
        let p = set_told in
        ap done (counted ∙ ap (count 1024) p.2 ∙ sym (count-by-set p.0 (held-trucks plain p.0 p.1))) ∙ sym ((of_plain-laws truck_count).answered plain p.0 p.1)

    pub set_done : words ≡ set_words (set_or_empty (plain_truck_set plain))
    unfolding plain_truck_set
    set_done = let p = words_told in p.2 ∙ ap (λ (r : Reply NumberSet). set_words (set_or_empty r)) (sym ((of_plain-laws truck_set).answered plain p.0 p.1))

-- ## The answers of two

module _ (first second : List ℕ) where
  pub lengths_told : (is_tickets_length (length first) && is_tickets_length (length second)) ≡ false → refused 2 ≡ plain_trucks_of_two first second
  unfolding plain_trucks_of_two
  lengths_told h = sym (((of_two_plain-laws trucks_of_two).two first second).1 h)

  -- both lengths are right, and the first tape is refused, or the second
  module _ (right : (is_tickets_length (length first) && is_tickets_length (length second)) ≡ true) (n : ℕ) where
    eight : n ≡ 8 → (is_refused (plain_tickets first) || is_refused (plain_tickets second)) ≡ true → refused n ≡ plain_trucks_of_two first second
    unfolding plain_trucks_of_two
    eight e h = ap refused e ∙ sym (((of_two_plain-laws trucks_of_two).eight first second).1 (right, h))

    pub first_told : refused n ≡ map_reply set_words (plain_truck_set first) → refused n ≡ plain_trucks_of_two first second
    first_told e =
        let t = refused_told first n e in
        eight (plain-laws.no_other first n t (and_parts (is_tickets_length (length first)) _ right).0) (ap (λ (r : Reply (List Ticket)). is_refused r || is_refused (plain_tickets second)) t)

    pub second_told : refused n ≡ map_reply set_words (plain_truck_set second) → refused n ≡ plain_trucks_of_two first second
    second_told e =
        let t = refused_told second n e in
        eight (plain-laws.no_other second n t (and_parts (is_tickets_length (length first)) _ right).1)
        (ap (λ (r : Reply (List Ticket)). is_refused (plain_tickets first) || is_refused r) t ∙ by (is_refused (plain_tickets first)))
      where
        by : (b : Bool) → (b || true) ≡ true
        by true = refl
        by false = refl

  -- v and w: the words of the two tapes' sets
  pub counts-told : (v w : List ℕ) → done v ≡ map_reply set_words (plain_truck_set first) → done w ≡ map_reply set_words (plain_truck_set second)
      → {a b c : ℕ} → (x : NumberSet) → x ≡ intersection (held v) (held w) → a ≡ count 1024 x → (y : NumberSet) → y ≡ union (held v) (held w) → b ≡ count 1024 y
      → (z : NumberSet) → z ≡ symmetric_difference (held v) (held w) → c ≡ count 1024 z
      → done (record { both = a; either = b; just_one = c }) ≡ plain_trucks_of_two first second
  unfolding plain_trucks_of_two
  counts-told v w v-is w-is x ex ea y ey eb z ez ec =
      let f = set_told first v v-is in
      let g = set_told second w w-is in
      ap done
      (same-counts (ea ∙ ap (count 1024) (ex ∙ ap₂ intersection f.2 g.2)) (eb ∙ ap (count 1024) (ey ∙ ap₂ union f.2 g.2))
      (ec ∙ ap (count 1024) (ez ∙ ap₂ symmetric_difference f.2 g.2))
      ∙ sym (counts-by_sets f.0 (held-trucks first f.0 f.1) g.0 (held-trucks second g.0 g.1)))
      ∙ sym ((of_two_plain-laws trucks_of_two).answered first second f.0 g.0 f.1 g.1)
