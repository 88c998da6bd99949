-- Document 01, "Ticket, head, tape", on tapes: what a tape is, and what opening one gives.
use Rattle.std.specs.Prelude.{Bool, not, ◌&&◌, List, [], ◌∷◌, ◌++◌, ℕ, zero, suc, ◌+◌, ◌-◌, ◌*◌, ◌/◌, ◌%◌, leb, ltb, eqb, length, take, drop, replicate}
use Rattle.calls.specs.Calls.{is_refused, ◌if◌else◌, Reply, refused, done, map_reply, map_replies, accepted, Result, result_of}
use Rattle.acorn_model.specs.Machine.{key_length}
use Rattle.acorn_model.specs.Message.{sealed, tag_matches, opened}
use Rattle.tape_model.specs.declared.Ticket.{Ticket}
use Rattle.tape_model.specs.declared.Head.{Head}
pub use Rattle.tape_model.specs.declared.Totals.{Totals}
use Rattle.tape_model.specs.Ticket.{ticket_length, net, pack_ticket, unpack_ticket, head_length, pack_head, unpack_head}

-- ## What a tape is

-- the most tickets on a tape
abbrev pub ticket_limit : ℕ
ticket_limit = 5000

-- the bytes of a tape's tag
abbrev pub tape_tag_length : ℕ
tape_tag_length = 16

-- the nonce that goes with a head's bytes: they are filled up to 16 with zeros
abbrev pub nonce_of : List ℕ → List ℕ
nonce_of head_bytes = head_bytes ++ replicate 7 0

-- the plain bytes of tickets
unfoldable pub pack_tickets : List Ticket → List ℕ
pack_tickets [] = []
pack_tickets (t ∷ ts) = pack_ticket t ++ pack_tickets ts

-- the head, and then the packed tickets sealed with the head as data
unfoldable pub tape_of : List ℕ → Head → List Ticket → List ℕ
tape_of key head tickets = pack_head head ++ sealed key (nonce_of (pack_head head)) (pack_head head) (pack_tickets tickets)

-- ## Opened bytes

-- whether n bytes are 13 for each of at most 5,000 tickets
unfoldable pub is_tickets_length : ℕ → Bool
is_tickets_length n = eqb (n % ticket_length) 0 && leb (n / ticket_length) ticket_limit

-- a ticket before others; the first refusal is the answer
abbrev pub ticket_then : Reply Ticket → Reply (List Ticket) → Reply (List Ticket)
ticket_then (refused n) others = refused n
ticket_then (done t) (refused n) = refused n
ticket_then (done t) (done ts) = done (t ∷ ts)

-- the n tickets in plain bytes, by what the bytes of one unpack to
abbrev pub unpack_tickets_by : (List ℕ → Reply Ticket) → ℕ → List ℕ → Reply (List Ticket)
unpack_tickets_by one zero string = done []
unpack_tickets_by one (suc n) string = ticket_then (one (take ticket_length string)) (unpack_tickets_by one n (drop ticket_length string))

unfoldable pub unpack_tickets : ℕ → List ℕ → Reply (List Ticket)
unpack_tickets n string = unpack_tickets_by unpack_ticket n string

-- the tickets that opened bytes hold, by what the bytes unpack to: 2 for a wrong length, 8 where a ticket does not unpack
abbrev pub plain_tickets_by : Reply (List Ticket) → List ℕ → Reply (List Ticket)
plain_tickets_by tickets string = refused 2 if not (is_tickets_length (length string)) else tickets

unfoldable pub plain_tickets : List ℕ → Reply (List Ticket)
plain_tickets string = plain_tickets_by (unpack_tickets (length string / ticket_length) string) string

-- a function of tickets, taken of those that opened bytes hold: 2 and 8 as above
unfoldable pub of_plain : {A : Type 0} → (List Ticket → A) → List ℕ → Reply A
of_plain f string = map_reply f (plain_tickets string)

-- and of two opened tapes: where both are refused, the smaller number
unfoldable pub of_two_plain : {A : Type 0} → (List Ticket → List Ticket → A) → List ℕ → List ℕ → Reply A
of_two_plain f first second = map_replies f (plain_tickets first) (plain_tickets second)

abbrev pub tickets_in : Reply (List Ticket) → List Ticket
tickets_in (refused n) = []
tickets_in (done ts) = ts

unfoldable pub total_net : List Ticket → ℕ
total_net [] = 0
total_net (t ∷ ts) = net t + total_net ts

abbrev pub totals_of : List Ticket → Totals
totals_of tickets = record { tickets = length tickets; net = total_net tickets }

unfoldable pub plain_totals : List ℕ → Reply Totals
plain_totals string = of_plain totals_of string

-- ## Opening

-- the bytes of a tape of no tickets
abbrev pub empty_tape_length : ℕ
empty_tape_length = head_length + tape_tag_length

-- whether n bytes are those of a tape: 25 and 13 for each of at most 5,000 tickets
unfoldable pub is_tape_length : ℕ → Bool
is_tape_length n = leb empty_tape_length n && is_tickets_length (n - empty_tape_length)

abbrev pub head_bytes : List ℕ → List ℕ
head_bytes tape = take head_length tape

abbrev pub sealed_bytes : List ℕ → List ℕ
sealed_bytes tape = drop head_length tape

abbrev pub ticket_count : List ℕ → ℕ
ticket_count tape = (length tape - empty_tape_length) / ticket_length

module _ (key tape : List ℕ) where
  unfoldable pub plain_bytes : List ℕ
  plain_bytes = opened key (nonce_of (head_bytes tape)) (head_bytes tape) (sealed_bytes tape)

  -- by what the plain bytes unpack to
  abbrev pub open_tape_refusal_by : Reply (List Ticket) → List ℕ → ℕ
  open_tape_refusal_by tickets out =
      2 if not (eqb (length key) key_length && is_tape_length (length tape)) else
      3 if is_refused (unpack_head (head_bytes tape)) else
      6 if ltb (length out) (ticket_length * ticket_count tape) else
      7 if not (tag_matches key (nonce_of (head_bytes tape)) (head_bytes tape) (sealed_bytes tape)) else
      8 if is_refused tickets else
      accepted

  unfoldable pub open_tape_refusal : List ℕ → ℕ
  open_tape_refusal out = open_tape_refusal_by (unpack_tickets (ticket_count tape) plain_bytes) out

  -- the plain bytes are written, and the number of tickets and their total net answered; or a number refuses
  abbrev pub open_tape_unless : ℕ → Reply (List Ticket) → List ℕ → Result Totals
  open_tape_unless number tickets out = result_of number (record { tickets = ticket_count tape; net = total_net (tickets_in tickets) }) plain_bytes out

  unfoldable pub open_tape : List ℕ → Result Totals
  open_tape out = open_tape_unless (open_tape_refusal out) (unpack_tickets (ticket_count tape) plain_bytes) out
