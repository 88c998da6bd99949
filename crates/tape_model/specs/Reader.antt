-- Document 01, "Ticket, head, tape", on the reader: it hands out the tickets of opened bytes in turn.
use Rattle.std.specs.Prelude.{Result, Ok, Err, Option, Some, None, not, List, ℕ, ◌+◌, ◌*◌, ◌/◌, leb, length, take, drop}
use Rattle.calls.specs.declared.Refusal.{Refusal}
use Rattle.calls.specs.Refusals.{refusal_number}
use Rattle.calls.specs.Calls.{◌if◌else◌, Reply, refused, done}
use Rattle.tape_model.specs.declared.Ticket.{Ticket}
use Rattle.tape_model.specs.Ticket.{ticket_length, unpack_ticket}
use Rattle.tape_model.specs.Tape.{is_tickets_length}

-- what a reader hands out
pub data Reading : Type 0 where
  ticket : Ticket → Reading
  at_end : Reading

-- the bytes that it is over, and how many tickets it has handed out
pub record Reader : Type 0 where
  pub string : List ℕ
  pub position : ℕ

-- a fresh reader, over whatever bytes
unfoldable pub reader_over : List ℕ → Reader
reader_over string = record { string = string; position = 0 }

pub record ReadOutcome : Type 0 where
  pub next : Reader
  pub answer : Reply Reading

abbrev pub stays : Reader → Reply Reading → ReadOutcome
stays r answer = record { next = r; answer = answer }

-- by what the next bytes unpack to: the reader goes on past the ticket, or stays where it is with the number
unfoldable pub handed_out : Reply Ticket → Reader → ReadOutcome
handed_out (refused n) r = stays r (refused n)
handed_out (done t) r = record { next = record { string = r.string; position = r.position + 1 }; answer = done (ticket t) }

-- the next ticket, by what the bytes of one unpack to: 2 where the bytes are not 13n, with n at most 5,000; 8 where a ticket does not unpack
abbrev pub read_next_by : (List ℕ → Reply Ticket) → Reader → ReadOutcome
read_next_by one r =
    stays r (refused 2) if not (is_tickets_length (length r.string)) else
    stays r (done at_end) if leb (length r.string / ticket_length) r.position else
    handed_out (one (take ticket_length (drop (ticket_length * r.position) r.string))) r

unfoldable pub read_next : Reader → ReadOutcome
read_next r = read_next_by unpack_ticket r

-- document 01's number and values for each case of the answer in code
unfoldable pub next_reply : Result (Option Ticket) Refusal → Reply Reading
next_reply (Err r) = refused (refusal_number r)
next_reply (Ok (Some t)) = done (ticket t)
next_reply (Ok None) = done at_end
