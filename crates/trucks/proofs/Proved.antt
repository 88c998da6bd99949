-- The statements of specs/Laws.antt and specs/Cases.antt, proved.
use mathlib.Core.Path.{◌≡◌, refl, sym, ap, ap₂, ◌∙◌}
use mathlib.Core.Bool.{Bool, true, false, ◌||◌, and_comm, or_assoc, or_comm, false≢true}
use mathlib.Core.List.{List, [], ◌∷◌, ◌++◌}
use mathlib.Core.Logic.{◌↔◌}
use Prim.Native.Nat.{ℕ, ◌+◌, ◌/◌, ◌%◌, ◌≤◌}
use native.Mathlib.Omega.{arith}
use lib.Dec.{eqb, leb}
use lib.ListN.{get_or}
use borrow.Author.Tests.{eq-eqb, eqb-true, leb-true, leb-false, le-leb}
use Rattle.calls.specs.Calls.{◌if◌else◌, Reply, refused, done, map_reply, map_replies, unless_refused}
use Rattle.acorn_model.specs.Bits.{bit, number}
use Rattle.tape_model.specs.declared.Ticket.{Ticket}
use Rattle.tape_model.specs.Ticket.{pack_ticket, unpack_ticket, values_rule, ordered}
use Rattle.tape_model.specs.Tape.{pack_tickets, is_tickets_length, unpack_tickets, plain_tickets, of_plain, of_two_plain}
use Rattle.tape_model.specs.Laws.{OfTwoPlainLaws}
use Rattle.tape_model.proofs.Plain.{plain-laws, of_plain-laws, of_two_plain-laws}
use Rattle.trucks.specs.Trucks.{NumberSet, truck_numbers, on, different, filter, except, truck_count, TrucksOfTwo, trucks_in, on_both, on_either, on_just_one, trucks_of_two, truck_set, plain_trucks, plain_trucks_of_two, plain_truck_set}
use Rattle.trucks.specs.Words.{held, set_bits, one, words_of, set_words, count, intersection, union, difference, symmetric_difference}
use Rattle.trucks.specs.Laws.{occurrences, HasTruck, SameTrucks, TruckLaws, WordLaws}
use Rattle.trucks.specs.Cases.{TruckCases}
use Rattle.trucks.proofs.Counting.{told, count_same, either_both, just_one-both}
use Rattle.trucks.proofs.Lists.{Below, again, on-joined, member-both, on-just-one, once, by_places, both_places, either_places, just_one_places, bound, below_left, below_right}
use Rattle.trucks.proofs.Words.{bit_power, in_word, set_bits_16, sixteen-words, held-words, words_back}
use Rattle.trucks.proofs.Gathering.{same-counts, held-trucks, valid-trucks, found-tickets, count-by-set, counts-by_sets}

-- ## What is counted

in_set : (tickets : List Ticket) (k : ℕ) → (truck_set tickets k ≡ true) ↔ HasTruck tickets k
unfolding truck_set truck_numbers on
in_set tickets k = (found tickets, λ h. has h.0 h.1 h.2 tickets h.3 h.4)
  where
    found : (ts : List Ticket) → truck_set ts k ≡ true → HasTruck ts k
    found [] e = absurd (false≢true e)
    found (t ∷ ts) e =
        told (eqb t.truck k) (λ q. ([], t, ts, refl, eqb-true t.truck k q))
        (λ q. let p = found ts (rw q at e) in (t ∷ p.0, p.1, p.2, ap (λ (us : List Ticket). t ∷ us) p.3, p.4))

    right : (b : Bool) → (b || true) ≡ true
    right true = refl
    right false = refl

    inside : (before : List Ticket) (t : Ticket) (behind : List Ticket) → t.truck ≡ k → truck_set (before ++ t ∷ behind) k ≡ true
    inside [] t behind q = rw (eq-eqb t.truck k q)
    inside (u ∷ before) t behind q = rw (inside before t behind q) (right (eqb u.truck k))

    has : (before : List Ticket) (t : Ticket) (behind ts : List Ticket) → ts ≡ before ++ t ∷ behind → t.truck ≡ k → truck_set ts k ≡ true
    has before t behind ts e q = ap (λ (us : List Ticket). truck_set us k) e ∙ inside before t behind q

each-once : (tickets : List Ticket) (k : ℕ) → occurrences k (trucks_in tickets) ≡ one (truck_set tickets k)
unfolding truck_set
each-once tickets k = once (truck_numbers tickets) k

module _ (ts us : List Ticket) where
  abbrev l : List ℕ
  l = truck_numbers ts

  abbrev m : List ℕ
  m = truck_numbers us

  once-both : (k : ℕ) → occurrences k (on_both l m) ≡ one (intersection (truck_set ts) (truck_set us) k)
  unfolding on_both truck_set
  once-both k = once (filter (on m) l) k ∙ ap one (member-both l m k)

  once_either : (k : ℕ) → occurrences k (on_either l m) ≡ one (union (truck_set ts) (truck_set us) k)
  unfolding on_either truck_set
  once_either k = once (l ++ m) k ∙ ap one (on-joined l m k)

  once_just_one : (k : ℕ) → occurrences k (on_just_one l m) ≡ one (symmetric_difference (truck_set ts) (truck_set us) k)
  unfolding on_just_one truck_set
  once_just_one k = once (except (on m) l ++ except (on l) m) k ∙ ap one (on-just-one l m k)

-- ## Opened tapes

of_tickets : (plain : List ℕ) (ts : List Ticket) → plain_tickets plain ≡ done ts → (plain_trucks plain ≡ done (truck_count ts)) × (plain_truck_set plain ≡ done (truck_set ts))
unfolding plain_trucks plain_truck_set
of_tickets plain ts e = ((of_plain-laws truck_count).answered plain ts e, (of_plain-laws truck_set).answered plain ts e)

number-told : (plain : List ℕ) (n : ℕ)
    → ((plain_trucks plain ≡ refused n) ↔ (plain_tickets plain ≡ refused n)) × ((plain_truck_set plain ≡ refused n) ↔ (plain_tickets plain ≡ refused n))
unfolding plain_trucks plain_truck_set
number-told plain n = ((of_plain-laws truck_count).number plain n, (of_plain-laws truck_set).number plain n)

two_laws : OfTwoPlainLaws trucks_of_two
two_laws = of_two_plain-laws trucks_of_two

-- ## Counted by set bits

trucks-only : (plain : List ℕ) (s : NumberSet) (k : ℕ) → plain_truck_set plain ≡ done s → s k ≡ true → (1 ≤ k) × (k ≤ 1023)
trucks-only plain s k e h =
    let p = found-tickets plain s (sym e) in held-trucks plain p.0 p.1 k (ap (λ (t : NumberSet). t k) (sym p.2) ∙ h)

of_words : (plain : List ℕ) (s : NumberSet) → plain_truck_set plain ≡ done s → plain_trucks plain ≡ done (set_bits (set_words s))
of_words plain s e =
    let p = found-tickets plain s (sym e) in
    let trucks = held-trucks plain p.0 p.1 in
    let are = sixteen-words s in
    let holds = held-words s (λ k h. omega (arith, (trucks-only plain s k e h).1)) in
    (of_tickets plain p.0 p.1).0
    ∙ ap done (count-by-set p.0 trucks ∙ ap (count 1024) (sym p.2 ∙ sym holds) ∙ sym (set_bits_16 (set_words s) are.0 are.1))

of_sets : (first second : List ℕ) (s t : NumberSet) → plain_truck_set first ≡ done s → plain_truck_set second ≡ done t
    → plain_trucks_of_two first second
    ≡ done (record { both = count 1024 (intersection s t); either = count 1024 (union s t); just_one = count 1024 (symmetric_difference s t) })
unfolding plain_trucks_of_two
of_sets first second s t e f =
    let p = found-tickets first s (sym e) in
    let q = found-tickets second t (sym f) in
    two_laws.answered first second p.0 q.0 p.1 q.1
    ∙ ap done (counts-by_sets p.0 (held-trucks first p.0 p.1) q.0 (held-trucks second q.0 q.1)
    ∙ sym (same-counts (ap (count 1024) (ap₂ intersection p.2 q.2)) (ap (count 1024) (ap₂ union p.2 q.2)) (ap (count 1024) (ap₂ symmetric_difference p.2 q.2))))

-- ## The numbers fit

-- of any two lists of tickets, counted below a number above every truck
module _ (ts us : List Ticket) where
  abbrev n : ℕ
  n = bound (truck_numbers ts) (truck_numbers us)

  abbrev a : Below n (truck_numbers ts)
  a = below_left (truck_numbers ts) (truck_numbers us)

  abbrev b : Below n (truck_numbers us)
  b = below_right (truck_numbers ts) (truck_numbers us)

  either_and-both : (trucks_of_two ts us).either + (trucks_of_two ts us).both ≡ truck_count ts + truck_count us
  unfolding trucks_of_two truck_count
  either_and-both =
      ap₂ (λ (x y : ℕ). x + y) (either_places (truck_numbers ts) (truck_numbers us) n a b) (both_places (truck_numbers ts) (truck_numbers us) n a b)
      ∙ either_both (on (truck_numbers ts)) (on (truck_numbers us)) n
      ∙ sym (ap₂ (λ (x y : ℕ). x + y) (by_places n (truck_numbers ts) a) (by_places n (truck_numbers us) b))

  just_one-and-both : (trucks_of_two ts us).just_one + (trucks_of_two ts us).both ≡ (trucks_of_two ts us).either
  unfolding trucks_of_two
  just_one-and-both =
      ap₂ (λ (x y : ℕ). x + y) (just_one_places (truck_numbers ts) (truck_numbers us) n a b) (both_places (truck_numbers ts) (truck_numbers us) n a b)
      ∙ just_one-both (on (truck_numbers ts)) (on (truck_numbers us)) n
      ∙ sym (either_places (truck_numbers ts) (truck_numbers us) n a b)

-- as they are answered
answers-fit : (first second : List ℕ) (a b : ℕ) (n : TrucksOfTwo) → plain_trucks first ≡ done a → plain_trucks second ≡ done b
    → plain_trucks_of_two first second ≡ done n → (n.either + n.both ≡ a + b) × (n.just_one + n.both ≡ n.either)
unfolding plain_trucks plain_trucks_of_two of_plain of_two_plain map_reply map_replies
answers-fit first second a b n = by (plain_tickets first) (plain_tickets second)
  where
    by : (r q : Reply (List Ticket)) → map_reply truck_count r ≡ done a → map_reply truck_count q ≡ done b → map_replies trucks_of_two r q ≡ done n
        → (n.either + n.both ≡ a + b) × (n.just_one + n.both ≡ n.either)
    by (refused k) q e f g = absurd (let z : ◌≡◌ {A = ℕ} 0 1 = cc in omega arith)
    by (done ts) (refused k) e f g = absurd (let z : ◌≡◌ {A = ℕ} 0 1 = cc in omega arith)
    by (done ts) (done us) e f g =
        let numbers : trucks_of_two ts us ≡ n = cc in
        let one : truck_count ts ≡ a = cc in
        let other : truck_count us ≡ b = cc in (
          ap (λ (x : TrucksOfTwo). x.either + x.both) (sym numbers) ∙ either_and-both ts us ∙ ap₂ (λ (x y : ℕ). x + y) one other,
          ap (λ (x : TrucksOfTwo). x.just_one + x.both) (sym numbers) ∙ just_one-and-both ts us ∙ ap (λ (x : TrucksOfTwo). x.either) numbers,
        )

answered : (first second : List ℕ) → ((n : TrucksOfTwo) × (plain_trucks_of_two first second ≡ done n))
    ↔ (((a : ℕ) × (plain_trucks first ≡ done a)) × ((b : ℕ) × (plain_trucks second ≡ done b)))
unfolding plain_trucks plain_trucks_of_two of_plain of_two_plain map_reply map_replies
answered first second = by (plain_tickets first) (plain_tickets second)
  where
    by : (r q : Reply (List Ticket)) → ((n : TrucksOfTwo) × (map_replies trucks_of_two r q ≡ done n))
        ↔ (((a : ℕ) × (map_reply truck_count r ≡ done a)) × ((b : ℕ) × (map_reply truck_count q ≡ done b)))
    by (refused k) (refused j) = (λ h. absurd (let e = h.1 in let z : ◌≡◌ {A = ℕ} 0 1 = cc in omega arith), λ h. absurd (let e = h.0.1 in let z : ◌≡◌ {A = ℕ} 0 1 = cc in omega arith))
    by (refused k) (done us) = (λ h. absurd (let e = h.1 in let z : ◌≡◌ {A = ℕ} 0 1 = cc in omega arith), λ h. absurd (let e = h.0.1 in let z : ◌≡◌ {A = ℕ} 0 1 = cc in omega arith))
    by (done ts) (refused j) = (λ h. absurd (let e = h.1 in let z : ◌≡◌ {A = ℕ} 0 1 = cc in omega arith), λ h. absurd (let e = h.1.1 in let z : ◌≡◌ {A = ℕ} 0 1 = cc in omega arith))
    by (done ts) (done us) = (λ h. ((truck_count ts, refl), (truck_count us, refl)), λ h. (trucks_of_two ts us, refl))

-- ## Order and repeats

-- numbers below n are so among the same ones
below-same : (n : ℕ) (ts us : List Ticket) → SameTrucks ts us → Below n (truck_numbers ts) → Below n (truck_numbers us)
unfolding truck_set
below-same n ts us s b k e = b k (s k ∙ e)

same_count : (ts us : List Ticket) → SameTrucks ts us → truck_count ts ≡ truck_count us
unfolding truck_count truck_set
same_count ts us s =
    let n = bound (truck_numbers ts) (truck_numbers ts) in
    let b = below_left (truck_numbers ts) (truck_numbers ts) in
    by_places n (truck_numbers ts) b ∙ count_same n (on (truck_numbers ts)) (on (truck_numbers us)) (λ k _. s k)
    ∙ sym (by_places n (truck_numbers us) (below-same n ts us s b))

-- numbers of two pairs of tapes by places, where the sets at each place agree
module _ (ts us ts' us' : List Ticket) (n : ℕ) (a : Below n (truck_numbers ts)) (b : Below n (truck_numbers us)) (a' : Below n (truck_numbers ts'))
    (b' : Below n (truck_numbers us')) where
  alike : ((k : ℕ) → intersection (truck_set ts) (truck_set us) k ≡ intersection (truck_set ts') (truck_set us') k)
      → ((k : ℕ) → union (truck_set ts) (truck_set us) k ≡ union (truck_set ts') (truck_set us') k)
      → ((k : ℕ) → symmetric_difference (truck_set ts) (truck_set us) k ≡ symmetric_difference (truck_set ts') (truck_set us') k)
      → trucks_of_two ts us ≡ trucks_of_two ts' us'
  unfolding trucks_of_two truck_set
  alike e f g =
      same-counts
      (both_places (truck_numbers ts) (truck_numbers us) n a b ∙ count_same n _ _ (λ k _. e k) ∙ sym (both_places (truck_numbers ts') (truck_numbers us') n a' b'))
      (either_places (truck_numbers ts) (truck_numbers us) n a b ∙ count_same n _ _ (λ k _. f k) ∙ sym (either_places (truck_numbers ts') (truck_numbers us') n a' b'))
      (just_one_places (truck_numbers ts) (truck_numbers us) n a b ∙ count_same n _ _ (λ k _. g k) ∙ sym (just_one_places (truck_numbers ts') (truck_numbers us') n a' b'))

same_two : (ts ts' us us' : List Ticket) → SameTrucks ts ts' → SameTrucks us us' → trucks_of_two ts us ≡ trucks_of_two ts' us'
same_two ts ts' us us' s t =
    let n = bound (truck_numbers ts) (truck_numbers us) in
    let a = below_left (truck_numbers ts) (truck_numbers us) in
    let b = below_right (truck_numbers ts) (truck_numbers us) in
    alike ts us ts' us' n a b (below-same n ts ts' s a) (below-same n us us' t b) (λ k. rw (s k, t k)) (λ k. rw (s k, t k)) (λ k. rw (s k, t k))

turned : (ts us : List Ticket) → trucks_of_two ts us ≡ trucks_of_two us ts
turned ts us =
    let n = bound (truck_numbers ts) (truck_numbers us) in
    let a = below_left (truck_numbers ts) (truck_numbers us) in
    let b = below_right (truck_numbers ts) (truck_numbers us) in
    alike ts us us ts n a b b a (λ k. and_comm (truck_set ts k) (truck_set us k)) (λ k. or_comm (truck_set ts k) (truck_set us k)) (λ k. turn (truck_set ts k) (truck_set us k))
  where
    turn : (x y : Bool) → symmetric_difference (λ k. x) (λ k. y) 0 ≡ symmetric_difference (λ k. y) (λ k. x) 0
    turn true true = refl
    turn true false = refl
    turn false true = refl
    turn false false = refl

-- replies of two tapes, either of them first
either_order : (first second : List ℕ) → plain_trucks_of_two first second ≡ plain_trucks_of_two second first
unfolding plain_trucks_of_two of_two_plain map_replies
either_order first second = by (plain_tickets first) (plain_tickets second)
  where
    smaller : (n m : ℕ) → (n if leb n m else m) ≡ (m if leb m n else n)
    smaller n m = told (leb n m) (λ e. told (leb m n) (λ f. rw (e, f) (omega (arith, leb-true n m e, leb-true m n f))) (λ f. rw (e, f))) (λ e. rw (e, le-leb m n (omega (arith, leb-false n m e))))

    by : (r q : Reply (List Ticket)) → map_replies trucks_of_two r q ≡ map_replies trucks_of_two q r
    by (refused n) (refused m) = ap refused (smaller n m)
    by (refused n) (done us) = refl
    by (done ts) (refused m) = refl
    by (done ts) (done us) = ap done (turned ts us)

swapped : (ts us : List Ticket) (t u : Ticket) → SameTrucks (ts ++ t ∷ u ∷ us) (ts ++ u ∷ t ∷ us)
unfolding truck_set truck_numbers on
swapped [] us t u k = turn (eqb t.truck k) (eqb u.truck k) (truck_set us k)
  where
    turn : (a b c : Bool) → (a || (b || c)) ≡ (b || (a || c))
    turn true true c = refl
    turn true false c = refl
    turn false b c = refl
swapped (v ∷ ts) us t u k = ap (λ (b : Bool). eqb v.truck k || b) (swapped ts us t u k)

repeated : (ts : List Ticket) (t : Ticket) → truck_set ts t.truck ≡ true → SameTrucks (t ∷ ts) ts
unfolding truck_set truck_numbers on
repeated ts t e k = again t.truck (truck_numbers ts) k e

joined : (ts us : List Ticket) (k : ℕ) → truck_set (ts ++ us) k ≡ union (truck_set ts) (truck_set us) k
unfolding truck_set truck_numbers on
joined [] us k = refl
joined (t ∷ ts) us k = ap (λ (b : Bool). eqb t.truck k || b) (joined ts us k) ∙ sym (or_assoc (eqb t.truck k) (truck_set ts k) (truck_set us k))

pub truck_laws : TruckLaws
unfolding plain_trucks_of_two
truck_laws =
    record {
      in_set = in_set;
      once = each-once;
      once-both = once-both;
      once_either = once_either;
      once_just_one = once_just_one;
      of_tickets = of_tickets;
      of_two_tapes = two_laws.answered;
      packed = λ ts v n. (of_tickets (pack_tickets ts) ts (plain-laws.packed ts v n)).0;
      number = number-told;
      two = two_laws.two;
      eight = two_laws.eight;
      no_other = two_laws.no_other;
      trucks-only = trucks-only;
      of_one = λ ts v. count-by-set ts (valid-trucks ts v);
      of_two = λ ts us v w. counts-by_sets ts (valid-trucks ts v) us (valid-trucks us w);
      of_sets = of_sets;
      of_words = of_words;
      either_and-both = either_and-both;
      just_one-and-both = just_one-and-both;
      answers-fit = answers-fit;
      answered = answered;
      same_count = same_count;
      same_two = same_two;
      swapped = swapped;
      again = repeated;
      joined = joined;
      either_order = either_order;
    }

word_by_word : (f : Bool → Bool → Bool) (us vs ws : List ℕ) → ((i j : ℕ) → bit (get_or ws i 0) j ≡ f (bit (get_or us i 0) j) (bit (get_or vs i 0) j))
    → (k : ℕ) → held ws k ≡ f (held us k) (held vs k)
unfolding held
word_by_word f us vs ws e k = e (k / 64) (k % 64)

pub word_laws : WordLaws
word_laws =
    record {
      weight = bit_power;
      place = in_word;
      set-bits = set_bits_16;
      are_words = sixteen-words;
      held-words = held-words;
      words_back = words_back;
      word_by_word = word_by_word;
      rest = λ s t k. rest (s k) (t k);
      differences = λ s t k. by (s k) (t k);
    }
  where
    rest : (a b : Bool) → union (difference (λ k. a) (λ k. b)) (intersection (λ k. a) (λ k. b)) 0 ≡ a
    rest true true = refl
    rest true false = refl
    rest false b = refl

    by : (a b : Bool) → symmetric_difference (λ k. a) (λ k. b) 0 ≡ union (difference (λ k. a) (λ k. b)) (difference (λ k. b) (λ k. a)) 0
    by true true = refl
    by true false = refl
    by false true = refl
    by false false = refl

pub truck_cases : TruckCases
unfolding plain_trucks plain_trucks_of_two of_plain of_two_plain map_reply map_replies plain_tickets is_tickets_length unpack_tickets unpack_ticket unless_refused pack_tickets pack_ticket values_rule ordered trucks_of_two truck_count on_both on_either on_just_one different filter except truck_set on truck_numbers words_of number held bit
truck_cases =
    record {
      each-once = refl;
      one-tape = (refl, refl);
      two_tapes = refl;
      no_tickets = (refl, refl);
      first-words = refl;
      in_words = (refl, refl, refl);
      not_in_words = (refl, refl, refl, refl);
      refusals = (refl, refl, refl);
      first_refused = refl;
      second_refused = refl;
      two_before_eight = (refl, refl);
    }
