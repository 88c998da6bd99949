-- Document 02, P1: the different trucks on an opened tape, and on two.
use Rattle.std.specs.Prelude.{Bool, false, not, ◌||◌, List, [], ◌∷◌, ◌++◌, ℕ, eqb, length}
use Rattle.calls.specs.Calls.{◌if◌else◌, Reply}
use Rattle.tape_model.specs.declared.Ticket.{Ticket}
use Rattle.tape_model.specs.Tape.{of_plain, of_two_plain}
pub use Rattle.trucks.specs.declared.TrucksOfTwo.{TrucksOfTwo}

-- a set of numbers: whether each is in it
abbrev pub NumberSet : Type 0
NumberSet = ℕ → Bool

-- ## Different trucks

-- the truck numbers of tickets
unfoldable pub truck_numbers : List Ticket → List ℕ
truck_numbers [] = []
truck_numbers (t ∷ ts) = t.truck ∷ truck_numbers ts

-- the numbers on a list
unfoldable pub on : List ℕ → NumberSet
on [] k = false
on (x ∷ l) k = eqb x k || on l k

-- a list without repeats: a number that comes again later is left out
unfoldable pub different : List ℕ → List ℕ
different [] = []
different (x ∷ l) = different l if on l x else x ∷ different l

-- the trucks that hauled, each once; and how many
abbrev pub trucks_in : List Ticket → List ℕ
trucks_in tickets = different (truck_numbers tickets)

unfoldable pub truck_count : List Ticket → ℕ
truck_count tickets = length (trucks_in tickets)

-- ## Two tapes

-- those numbers of a list that are in a set, and those that are not
unfoldable pub filter : NumberSet → List ℕ → List ℕ
filter s [] = []
filter s (x ∷ l) = x ∷ filter s l if s x else filter s l

unfoldable pub except : NumberSet → List ℕ → List ℕ
except s l = filter (λ k. not (s k)) l

-- the numbers on both of two lists, on either, and on just one, each once
unfoldable pub on_both : List ℕ → List ℕ → List ℕ
on_both l m = different (filter (on m) l)

unfoldable pub on_either : List ℕ → List ℕ → List ℕ
on_either l m = different (l ++ m)

unfoldable pub on_just_one : List ℕ → List ℕ → List ℕ
on_just_one l m = different (except (on m) l ++ except (on l) m)

-- how many there are of each
unfoldable pub trucks_of_two : List Ticket → List Ticket → TrucksOfTwo
trucks_of_two first second =
    record {
      both = length (on_both (truck_numbers first) (truck_numbers second));
      either = length (on_either (truck_numbers first) (truck_numbers second));
      just_one = length (on_just_one (truck_numbers first) (truck_numbers second));
    }

-- ## Opened tapes: 2 for a wrong length, 8 where a ticket does not unpack; of two tapes the smallest number that applies

unfoldable pub plain_trucks : List ℕ → Reply ℕ
plain_trucks plain = of_plain truck_count plain

unfoldable pub plain_trucks_of_two : List ℕ → List ℕ → Reply TrucksOfTwo
plain_trucks_of_two first second = of_two_plain trucks_of_two first second

-- the set of the trucks on a tape
unfoldable pub truck_set : List Ticket → NumberSet
truck_set tickets k = on (truck_numbers tickets) k

unfoldable pub plain_truck_set : List ℕ → Reply NumberSet
plain_truck_set plain = of_plain truck_set plain
