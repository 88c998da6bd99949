-- What the code's words and answers stand for.
use Rattle.std.specs.Prelude.{Result, Ok, Err, Bool, false, not, ◌&&◌, ◌||◌, List, [], ◌∷◌, ℕ, zero, suc, ◌+◌, ◌/◌, ◌%◌, ◌^◌, ◌<◌, get_or}
use Rattle.std.specs.Int.Count.{ones}
use Rattle.calls.specs.declared.Refusal.{Refusal}
use Rattle.calls.specs.Refusals.{refusal_number}
use Rattle.calls.specs.Calls.{◌if◌else◌, Reply, refused, done}
use Rattle.acorn_model.specs.Bits.{bit, number}
use Rattle.trucks.specs.declared.TruckSet.{TruckSet}
use Rattle.trucks.specs.Trucks.{NumberSet}

-- ## One bit for each number

-- the set that words of 64 bits hold: k is in it where bit k % 64 of word k / 64 is set
unfoldable pub held : List ℕ → NumberSet
held words k = bit (get_or words (k / 64) 0) (k % 64)

-- the set bits of all words
unfoldable pub set_bits : List ℕ → ℕ
set_bits [] = 0
set_bits (w ∷ ws) = ones w + set_bits ws

-- words of 64 bits
abbrev pub AreWords : List ℕ → Type 0
AreWords words = (i : ℕ) → get_or words i 0 < 2 ^ 64

-- 1 for true, and 0 for false
abbrev pub one : Bool → ℕ
one b = 1 if b else 0

-- n words that hold a set's numbers below 64 n; and the sixteen that hold trucks
unfoldable pub words_of : ℕ → NumberSet → List ℕ
words_of zero s = []
words_of (suc n) s = number 64 s ∷ words_of n (λ k. s (64 + k))

abbrev pub set_words : NumberSet → List ℕ
set_words s = words_of 16 s

-- ## Sets

-- how many numbers below n are in a set
unfoldable pub count : ℕ → NumberSet → ℕ
count zero s = 0
count (suc n) s = count n s + one (s n)

abbrev pub empty_set : NumberSet
empty_set k = false

abbrev pub intersection : NumberSet → NumberSet → NumberSet
intersection s t k = s k && t k

abbrev pub union : NumberSet → NumberSet → NumberSet
union s t k = s k || t k

abbrev pub difference : NumberSet → NumberSet → NumberSet
difference s t k = s k && not (t k)

abbrev pub symmetric_difference : NumberSet → NumberSet → NumberSet
symmetric_difference s t k = not (t k) if s k else t k

-- ## Document 02's number, or the words, for each of the answers in code

unfoldable pub words_reply : Result TruckSet Refusal → Reply (List ℕ)
words_reply (Err r) = refused (refusal_number r)
words_reply (Ok set) = done set.words

-- the set that is handed back with an answer: empty where that is a refusal
abbrev pub set_or_empty : Reply NumberSet → NumberSet
set_or_empty (refused n) = empty_set
set_or_empty (done s) = s
