-- What the code's answers stand for; and what its parts, which nobody else calls, are asked and give.
use Rattle.std.specs.Prelude.{◌≡◌, Result, Bool, ◌&&◌, List, [], ◌∷◌, ℕ, zero, suc, ◌+◌, ◌≤◌, ◌<◌, leb, ltb, length, get_or}
use Rattle.calls.specs.declared.Refusal.{Refusal}
use Rattle.calls.specs.Calls.{as_reply}
use Rattle.tape_model.specs.declared.Ticket.{Ticket}
use Rattle.tape_model.specs.Ticket.{no_ticket}
use Rattle.tape_model.specs.Tape.{plain_tickets, tickets_in}
use Rattle.pairing.specs.Pairing.{seconds_apart, Pair, paired, Outputs, Counts, pair_tapes}

-- ## The call

abbrev pub outputs : List ℕ → List ℕ → List ℕ → Outputs
outputs pairs left_first left_second = record { pairs = pairs; left_first = left_first; left_second = left_second }

-- the call's contract: with outputs that held `out`, its answer r and its outputs `after` are those of `pair_tapes`
abbrev pub PairsTapes : (first second : List ℕ) → Outputs → Result Counts Refusal → Outputs → Type 0
PairsTapes first second out r after = record { answer = as_reply r; out = after } ≡ pair_tapes first second out

-- ## Tickets by their place, counted from 0

-- the tickets in plain bytes
abbrev pub tickets_of : List ℕ → List Ticket
tickets_of plain = tickets_in (plain_tickets plain)

abbrev pub truck_of : List Ticket → ℕ → ℕ
truck_of ts i = (get_or ts i no_ticket).truck

abbrev pub tipped_of : List Ticket → ℕ → ℕ
tipped_of ts i = (get_or ts i no_ticket).tipped

-- r is the first place, from `start` on, of a ticket of this truck, or the number of tickets where there is none
pub record FirstOf (us : List Ticket) (truck start r : ℕ) : Type 0 where
  pub low : start ≤ r
  pub high : r ≤ length us
  pub passed : (j : ℕ) → start ≤ j → j < r → truck_of us j ≡ truck → ⊥
  pub here : r < length us → truck_of us r ≡ truck

-- for each place from `start` on the next one of the same truck
abbrev pub Linked : List Ticket → ℕ → List ℕ → Type 0
Linked us start next = (k : ℕ) → start ≤ k → k < length us → FirstOf us (truck_of us k) (k + 1) (get_or next k 0)

-- and for each truck its first place from there on
pub record LinkedFrom (us : List Ticket) (start : ℕ) (next cursors : List ℕ) : Type 0 where
  pub places : length next ≡ 5000
  pub trucks : length cursors ≡ 1024
  pub linked : Linked us start next
  pub first : (truck : ℕ) → truck < 1024 → FirstOf us truck start (get_or cursors truck 0)

-- r is the first place, from `start` on, of a ticket of this truck that is not tipped too early, or the number of tickets where there is none
pub record FirstNotEarly (us : List Ticket) (truck start tipped r : ℕ) : Type 0 where
  pub low : start ≤ r
  pub high : r ≤ length us
  pub passed : (j : ℕ) → start ≤ j → j < r → truck_of us j ≡ truck → tipped_of us j + seconds_apart < tipped
  pub here : r < length us → (truck_of us r ≡ truck) × (tipped ≤ tipped_of us r + seconds_apart)

-- so for the truck of the ticket at `start`; where `start` is the end, for every truck
abbrev pub Seeks : List Ticket → (start tipped r : ℕ) → Type 0
Seeks us start tipped r = (truck : ℕ) → (start < length us → truck_of us start ≡ truck) → FirstNotEarly us truck start tipped r

-- there is a ticket at a place, and it is not tipped too late
abbrev pub not_late : List Ticket → ℕ → ℕ → Bool
not_late us j tipped = ltb j (length us) && leb (tipped_of us j) (tipped + seconds_apart)

-- ## Partners by their place: the position of each ticket's partner on the other tape, or 0

-- positions from k on that have none
abbrev pub unpaired : ℕ → List ℕ → List ℕ
unpaired k [] = []
unpaired k (zero ∷ l) = k ∷ unpaired (suc k) l
unpaired k (suc q ∷ l) = unpaired (suc k) l

-- positions from k on that have one, with it
abbrev pub pairs_in : ℕ → List ℕ → List Pair
pairs_in k [] = []
pairs_in k (zero ∷ l) = pairs_in (suc k) l
pairs_in k (suc q ∷ l) = record { first = k; second = suc q } ∷ pairs_in (suc k) l

-- what the search for pairs asks: an entry for each ticket, and no ticket of the second tape has a partner yet
pub record ToPair (ts us : List Ticket) (partners taken : List ℕ) : Type 0 where
  pub first-room : length partners ≡ length ts
  pub second-room : length taken ≡ length us
  pub clear : (j : ℕ) → get_or taken j 0 ≡ 0

-- and what it gives: how many pairs, and the partners on either tape
pub record Finds (ts us : List Ticket) (partners taken : List ℕ) (count : ℕ) : Type 0 where
  pub first-room : length partners ≡ length ts
  pub second-room : length taken ≡ length us
  pub count-is : count ≡ length (paired ts us).pairs
  pub pairs_are : pairs_in 1 partners ≡ (paired ts us).pairs
  pub first-left : unpaired 1 partners ≡ (paired ts us).left_first
  pub second-left : unpaired 1 taken ≡ (paired ts us).left_second
