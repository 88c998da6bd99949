-- What is shown of the definitions of `Trucks` and `Words`: the statements, to be read without their proofs.
use Rattle.std.specs.Prelude.{◌≡◌, Bool, true, false, ◌&&◌, ◌||◌, List, [], ◌∷◌, ◌++◌, ◌↔◌, ◌⊎◌, ℕ, ◌+◌, ◌*◌, ◌^◌, ◌≤◌, ◌<◌, eqb, length, get_or}
use Rattle.calls.specs.Calls.{is_refused, refused, done}
use Rattle.acorn_model.specs.Bits.{bit}
use Rattle.tape_model.specs.declared.Ticket.{Ticket}
use Rattle.tape_model.specs.Laws.{Valid}
use Rattle.tape_model.specs.Tape.{ticket_limit, pack_tickets, is_tickets_length, plain_tickets}
use Rattle.trucks.specs.Trucks.{NumberSet, TrucksOfTwo, truck_numbers, trucks_in, truck_count, on_both, on_either, on_just_one, trucks_of_two, truck_set, plain_trucks, plain_trucks_of_two, plain_truck_set}
use Rattle.trucks.specs.Words.{held, set_bits, AreWords, one, set_words, count, intersection, union, difference, symmetric_difference}

-- how often a number is on a list
unfoldable pub occurrences : ℕ → List ℕ → ℕ
occurrences k [] = 0
occurrences k (x ∷ l) = one (eqb x k) + occurrences k l

-- one of the tickets has this truck
abbrev pub HasTruck : List Ticket → ℕ → Type 0
HasTruck tickets k = (before : List Ticket) × (t : Ticket) × (behind : List Ticket) × (tickets ≡ before ++ t ∷ behind) × (t.truck ≡ k)

-- tickets with the same trucks, in any order and however often
abbrev pub SameTrucks : List Ticket → List Ticket → Type 0
SameTrucks ts us = (k : ℕ) → truck_set ts k ≡ truck_set us k

pub record TruckLaws : Type 0 where
  -- ## What is counted

  -- a number is in the set of a tape's trucks exactly where a ticket has it
  pub in_set : (tickets : List Ticket) (k : ℕ) → (truck_set tickets k ≡ true) ↔ HasTruck tickets k
  -- the list of a tape's trucks has each number of its set once, and no other; and so the lists of two tapes
  pub once : (tickets : List Ticket) (k : ℕ) → occurrences k (trucks_in tickets) ≡ one (truck_set tickets k)
  pub once-both : (ts us : List Ticket) (k : ℕ) → occurrences k (on_both (truck_numbers ts) (truck_numbers us)) ≡ one (intersection (truck_set ts) (truck_set us) k)
  pub once_either : (ts us : List Ticket) (k : ℕ) → occurrences k (on_either (truck_numbers ts) (truck_numbers us)) ≡ one (union (truck_set ts) (truck_set us) k)
  pub once_just_one : (ts us : List Ticket) (k : ℕ)
      → occurrences k (on_just_one (truck_numbers ts) (truck_numbers us)) ≡ one (symmetric_difference (truck_set ts) (truck_set us) k)
  -- ## Opened tapes

  -- what is answered where the bytes hold tickets; the plain bytes of at most 5,000 valid tickets do
  pub of_tickets : (plain : List ℕ) (ts : List Ticket) → plain_tickets plain ≡ done ts
      → (plain_trucks plain ≡ done (truck_count ts)) × (plain_truck_set plain ≡ done (truck_set ts))
  pub of_two_tapes : (first second : List ℕ) (ts us : List Ticket) → plain_tickets first ≡ done ts → plain_tickets second ≡ done us
      → plain_trucks_of_two first second ≡ done (trucks_of_two ts us)
  pub packed : (ts : List Ticket) → Valid ts → length ts ≤ ticket_limit → plain_trucks (pack_tickets ts) ≡ done (truck_count ts)
  -- one tape is refused with the number that its plain bytes have (2 or 8: `PlainLaws` of tape_model)
  pub number : (plain : List ℕ) (n : ℕ)
      → ((plain_trucks plain ≡ refused n) ↔ (plain_tickets plain ≡ refused n)) × ((plain_truck_set plain ≡ refused n) ↔ (plain_tickets plain ≡ refused n))
  -- two with 2 exactly where one has a wrong length, with 8 exactly where both lengths are right and a ticket of one does not unpack, and with no other
  pub two : (first second : List ℕ) → (plain_trucks_of_two first second ≡ refused 2)
      ↔ ((is_tickets_length (length first) && is_tickets_length (length second)) ≡ false)
  pub eight : (first second : List ℕ) → (plain_trucks_of_two first second ≡ refused 8)
      ↔ (((is_tickets_length (length first) && is_tickets_length (length second)) ≡ true)
      × ((is_refused (plain_tickets first) || is_refused (plain_tickets second)) ≡ true))
  pub no_other : (first second : List ℕ) (n : ℕ) → plain_trucks_of_two first second ≡ refused n → (n ≡ 2) ⊎ (n ≡ 8)
  -- ## Counted by set bits

  -- a tape's set has truck numbers alone, 1 to 1,023
  pub trucks-only : (plain : List ℕ) (s : NumberSet) (k : ℕ) → plain_truck_set plain ≡ done s → s k ≡ true → (1 ≤ k) × (k ≤ 1023)
  -- so each number is how many numbers below 1,024 are in a set
  pub of_one : (ts : List Ticket) → Valid ts → truck_count ts ≡ count 1024 (truck_set ts)
  pub of_two : (ts us : List Ticket) → Valid ts → Valid us
      → trucks_of_two ts us
      ≡ record {
        both = count 1024 (intersection (truck_set ts) (truck_set us));
        either = count 1024 (union (truck_set ts) (truck_set us));
        just_one = count 1024 (symmetric_difference (truck_set ts) (truck_set us));
      }
  pub of_sets : (first second : List ℕ) (s t : NumberSet) → plain_truck_set first ≡ done s → plain_truck_set second ≡ done t
      → plain_trucks_of_two first second
      ≡ done (record { both = count 1024 (intersection s t); either = count 1024 (union s t); just_one = count 1024 (symmetric_difference s t) })
  -- and the set bits of the words that hold a tape's set are the number of its different trucks
  pub of_words : (plain : List ℕ) (s : NumberSet) → plain_truck_set plain ≡ done s → plain_trucks plain ≡ done (set_bits (set_words s))
  -- ## The numbers fit

  pub either_and-both : (ts us : List Ticket) → (trucks_of_two ts us).either + (trucks_of_two ts us).both ≡ truck_count ts + truck_count us
  pub just_one-and-both : (ts us : List Ticket) → (trucks_of_two ts us).just_one + (trucks_of_two ts us).both ≡ (trucks_of_two ts us).either
  -- as they are answered of two opened tapes and of each by itself
  pub answers-fit : (first second : List ℕ) (a b : ℕ) (n : TrucksOfTwo) → plain_trucks first ≡ done a → plain_trucks second ≡ done b
      → plain_trucks_of_two first second ≡ done n → (n.either + n.both ≡ a + b) × (n.just_one + n.both ≡ n.either)
  -- of two tapes they are answered exactly where they are of each
  pub answered : (first second : List ℕ) → ((n : TrucksOfTwo) × (plain_trucks_of_two first second ≡ done n))
      ↔ (((a : ℕ) × (plain_trucks first ≡ done a)) × ((b : ℕ) × (plain_trucks second ≡ done b)))
  -- ## Order and repeats do not matter

  pub same_count : (ts us : List Ticket) → SameTrucks ts us → truck_count ts ≡ truck_count us
  pub same_two : (ts ts' us us' : List Ticket) → SameTrucks ts ts' → SameTrucks us us' → trucks_of_two ts us ≡ trucks_of_two ts' us'
  pub swapped : (ts us : List Ticket) (t u : Ticket) → SameTrucks (ts ++ t ∷ u ∷ us) (ts ++ u ∷ t ∷ us)
  pub again : (ts : List Ticket) (t : Ticket) → truck_set ts t.truck ≡ true → SameTrucks (t ∷ ts) ts
  -- the trucks of two lists joined are those of one or the other
  pub joined : (ts us : List Ticket) (k : ℕ) → truck_set (ts ++ us) k ≡ union (truck_set ts) (truck_set us) k
  -- nor does it matter which tape is the first
  pub either_order : (first second : List ℕ) → plain_trucks_of_two first second ≡ plain_trucks_of_two second first

-- words as sets, and sets as words
pub record WordLaws : Type 0 where
  -- bit j has weight 2 ^ j, and word i has the numbers from 64 i on
  pub weight : (n j : ℕ) → bit (2 ^ n) j ≡ eqb n j
  pub place : (words : List ℕ) (i j : ℕ) → j < 64 → held words (64 * i + j) ≡ bit (get_or words i 0) j
  -- the set bits of sixteen words, summed, are how many numbers below 1,024 they hold
  pub set-bits : (words : List ℕ) → length words ≡ 16 → AreWords words → set_bits words ≡ count 1024 (held words)
  -- the words of a set are sixteen of 64 bits, and hold it where all its numbers are below 1,024
  pub are_words : (s : NumberSet) → (length (set_words s) ≡ 16) × AreWords (set_words s)
  pub held-words : (s : NumberSet) → ((k : ℕ) → s k ≡ true → k < 1024) → held (set_words s) ≡ s
  -- and sixteen words are those of the set that they hold, so no two hold the same
  pub words_back : (words : List ℕ) → length words ≡ 16 → AreWords words → set_words (held words) ≡ words
  -- a word made of two bit by bit is the set made of theirs number by number, and so with all words
  pub word_by_word : (f : Bool → Bool → Bool) (us vs ws : List ℕ) → ((i j : ℕ) → bit (get_or ws i 0) j ≡ f (bit (get_or us i 0) j) (bit (get_or vs i 0) j))
      → (k : ℕ) → held ws k ≡ f (held us k) (held vs k)
  -- a set is what it has without another, and what it has in common with it; the numbers in just one of two sets are those in one without the other
  pub rest : (s t : NumberSet) (k : ℕ) → union (difference s t) (intersection s t) k ≡ s k
  pub differences : (s t : NumberSet) (k : ℕ) → symmetric_difference s t k ≡ union (difference s t) (difference t s) k
