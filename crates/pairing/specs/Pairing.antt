-- Document 02, P7: the tickets of two opened tapes, one of the cab and one of the crusher, in pairs.
use Rattle.std.specs.Prelude.{◌≡◌, Bool, true, false, ◌&&◌, ◌||◌, List, [], ◌∷◌, ℕ, zero, suc, ◌+◌, eqb, leb, ltb, length, get_or}
use Rattle.calls.specs.Calls.{◌if◌else◌, Reply, refused, done, map_replies, written_over}
use Rattle.tape_model.specs.declared.Ticket.{Ticket}
use Rattle.tape_model.specs.Ticket.{no_ticket}
use Rattle.tape_model.specs.Tape.{plain_tickets}
pub use Rattle.pairing.specs.declared.Counts.{Counts}

-- ## The rules

-- the ticket at a position, counted from 1 as in the listing; position 0, and those past the end, have none
abbrev pub at : List Ticket → ℕ → Ticket
at tickets p = get_or (no_ticket ∷ tickets) p no_ticket

abbrev pub is_position : List Ticket → ℕ → Bool
is_position tickets p = leb 1 p && leb p (length tickets)

-- the seconds that the two clocks may be apart
abbrev pub seconds_apart : ℕ
seconds_apart = 120

-- same truck, and tipped at most so far apart, whichever is earlier
abbrev pub may_pair : Ticket → Ticket → Bool
may_pair t u = eqb t.truck u.truck && (leb t.tipped (u.tipped + seconds_apart) && leb u.tipped (t.tipped + seconds_apart))

-- whether the tickets at a position of the first tape and one of the second may be a pair
unfoldable pub fits : List Ticket → List Ticket → ℕ → ℕ → Bool
fits ts us p q = (is_position ts p && is_position us q) && may_pair (at ts p) (at us q)

-- a position of the first tape, and one of the second
pub record Pair : Type 0 where
  pub first : ℕ
  pub second : ℕ

abbrev pub firsts : List Pair → List ℕ
firsts [] = []
firsts (x ∷ pairs) = x.first ∷ firsts pairs

abbrev pub seconds : List Pair → List ℕ
seconds [] = []
seconds (x ∷ pairs) = x.second ∷ seconds pairs

-- every pair fits
abbrev pub AllFit : (ℕ → ℕ → Bool) → List Pair → Type 0
AllFit fit [] = Unit
AllFit fit (x ∷ pairs) = (fit x.first x.second ≡ true) × AllFit fit pairs

-- none of these is k; and no number stands on a list twice
abbrev pub NotIn : ℕ → List ℕ → Type 0
NotIn k [] = Unit
NotIn k (x ∷ l) = (x ≡ k → ⊥) × NotIn k l

abbrev pub Distinct : List ℕ → Type 0
Distinct [] = Unit
Distinct (x ∷ l) = NotIn x l × Distinct l

-- any list of pairs that keeps the rules: every pair fits, and no ticket of either tape is in two
pub record KeepsRules (ts us : List Ticket) (pairs : List Pair) : Type 0 where
  pub fit : AllFit (fits ts us) pairs
  pub once-first : Distinct (firsts pairs)
  pub once-second : Distinct (seconds pairs)

-- ## The pairing that is given

-- n positions from k on
abbrev pub positions : ℕ → ℕ → List ℕ
positions k zero = []
positions k (suc n) = k ∷ positions (suc k) n

-- of the free positions the first that fits, and the others; or none
pub data Choice : Type 0 where
  no_partner : Choice
  partner : ℕ → List ℕ → Choice

abbrev pub keep_free : ℕ → Choice → Choice
keep_free q no_partner = no_partner
keep_free q (partner r others) = partner r (q ∷ others)

abbrev pub first_that_fits : (ℕ → Bool) → List ℕ → Choice
first_that_fits fit [] = no_partner
first_that_fits fit (q ∷ free) = partner q free if fit q else keep_free q (first_that_fits fit free)

-- the pairs in the first tape's order, and the positions left over on either tape
pub record Paired : Type 0 where
  pub pairs : List Pair
  pub left_first : List ℕ
  pub left_second : List ℕ

abbrev pub with_pair : ℕ → ℕ → Paired → Paired
with_pair p q rest = record { pairs = record { first = p; second = q } ∷ rest.pairs; left_first = rest.left_first; left_second = rest.left_second }

abbrev pub with_left : ℕ → Paired → Paired
with_left p rest = record { pairs = rest.pairs; left_first = p ∷ rest.left_first; left_second = rest.left_second }

-- position p takes its choice, and the others go on with what is then free
abbrev pub takes : ℕ → Choice → List ℕ → (List ℕ → Paired) → Paired
takes p no_partner free others = with_left p (others free)
takes p (partner q rest) free others = with_pair p q (others rest)

-- in this order, each of these positions of the first tape takes, of those of the second that are free, the first that fits
abbrev pub greedy : (ℕ → ℕ → Bool) → List ℕ → List ℕ → Paired
greedy fit [] free = record { pairs = []; left_first = []; left_second = free }
greedy fit (p ∷ ps) free = takes p (first_that_fits (fit p) free) free (λ (rest : List ℕ). greedy fit ps rest)

unfoldable pub paired : List Ticket → List Ticket → Paired
paired ts us = greedy (fits ts us) (positions 1 (length ts)) (positions 1 (length us))

-- ## Times that fall

-- a ticket behind t has its truck and is tipped before it; equal times do not fall
unfoldable pub falls_behind : Ticket → List Ticket → Bool
falls_behind t [] = false
falls_behind t (u ∷ us) = (eqb u.truck t.truck && ltb u.tipped t.tipped) || falls_behind t us

unfoldable pub times_fall : List Ticket → Bool
times_fall [] = false
times_fall (t ∷ ts) = falls_behind t ts || times_fall ts

-- ## Opened tapes

-- the tickets of an opened tape: 2 and 8 as for every opened tape, then 12 where the times of a truck fall
abbrev pub unless_falling : Reply (List Ticket) → Reply (List Ticket)
unless_falling (refused n) = refused n
unless_falling (done ts) = refused 12 if times_fall ts else done ts

unfoldable pub tickets_to_pair : List ℕ → Reply (List Ticket)
tickets_to_pair plain = unless_falling (plain_tickets plain)

-- of two tapes the smaller number, so that each number is tried on both before the next
unfoldable pub plain_paired : List ℕ → List ℕ → Reply Paired
plain_paired first second = map_replies paired (tickets_to_pair first) (tickets_to_pair second)

-- ## The call

-- what the call is lent for the pairs, two numbers each, and for the positions left over on the first tape and on the second
pub record Outputs : Type 0 where
  pub pairs : List ℕ
  pub left_first : List ℕ
  pub left_second : List ℕ

abbrev pub pair_numbers : List Pair → List ℕ
pair_numbers [] = []
pair_numbers (x ∷ pairs) = x.first ∷ x.second ∷ pair_numbers pairs

-- an output is shorter than what is to be written into it
abbrev pub too_short : Paired → Outputs → Bool
too_short found out =
    ltb (length out.pairs) (length (pair_numbers found.pairs))
    || (ltb (length out.left_first) (length found.left_first) || ltb (length out.left_second) (length found.left_second))

abbrev pub put : Paired → Outputs → Outputs
put found out =
    record {
      pairs = written_over (pair_numbers found.pairs) out.pairs;
      left_first = written_over found.left_first out.left_first;
      left_second = written_over found.left_second out.left_second;
    }

-- how many pairs, and how many left over on either tape
abbrev pub counts : Paired → Counts
counts found = record { pairs = length found.pairs; left_first = length found.left_first; left_second = length found.left_second }

-- its answer, and its outputs after it
pub record PairingResult : Type 0 where
  pub answer : Reply Counts
  pub out : Outputs

-- 6 is tried last; a refused call writes nothing
abbrev pub put_unless_short : Reply Paired → Outputs → PairingResult
put_unless_short (refused n) out = record { answer = refused n; out = out }
put_unless_short (done found) out = record { answer = refused 6; out = out } if too_short found out else record { answer = done (counts found); out = put found out }

unfoldable pub pair_tapes : List ℕ → List ℕ → Outputs → PairingResult
pair_tapes first second out = put_unless_short (plain_paired first second) out
