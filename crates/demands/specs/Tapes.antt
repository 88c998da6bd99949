-- Demand 2, of tapes: tickets come back, from the writer's calls by way of opening to the reader's calls, each by the contract of its function and
-- by nothing else.
use Rattle.std.specs.Prelude.{◌≡◌, true, List, [], ◌∷◌, ℕ, ◌*◌, ◌≤◌, length, take, Result}
use Rattle.std.specs.Borrow.{Bor}
use Rattle.calls.specs.declared.Refusal.{Refusal}
use Rattle.calls.specs.Calls.{Work, done, written_over, as_reply}
use Rattle.calls.specs.Lists.{Entry, calls_of, AllAccepted}
use Rattle.acorn_model.specs.Machine.{key_length}
use Rattle.tape_model.specs.declared.Ticket.{Ticket}
use Rattle.tape_model.specs.declared.Head.{Head}
use Rattle.tape_model.specs.declared.Totals.{Totals}
use Rattle.tape_model.specs.declared.WriterPhase.TheVariants.{Closed}
use Rattle.tape_model.specs.Ticket.{ticket_length, head_rule}
use Rattle.tape_model.specs.Tape.{ticket_limit, pack_tickets, tape_of, total_net}
use Rattle.tape_model.specs.Writer.{WriterCall}
use Rattle.tape_model.specs.WriterLists.{Started, writer_log}
use Rattle.tape_model.specs.Reader.{at_end}
use Rattle.tape_model.specs.Laws.{Writable}
use Rattle.call_lists.specs.WriterLists.{TapeOutputs, RoomFor, tape_calls}
use Rattle.tape_writer.specs.declared.Writer.{Writer}
use Rattle.tape_writer.specs.Clauses.{writer_of}
use Rattle.reader.specs.Reading.{HandsOut}
use Rattle.demands.specs.Writers.{WriterList}
use Rattle.tape_opening.specs.Clauses.{OpensTape}

-- the bytes `written` are the tape of this key, head and tickets, and these come back from it
pub record ComesBack (key : List ℕ) (head : Head) (tickets : List Ticket) (written : List ℕ) : Type 0 where
  pub is-tape : written ≡ tape_of key head tickets
  -- opening it into an output long enough answers the number of tickets and their total net, and writes the plain bytes
  pub opened : (out after : List ℕ) (r : Result Totals Refusal) → ticket_length * length tickets ≤ length out → OpensTape key written out r after
      → (as_reply r ≡ done (record { tickets = length tickets; net = total_net tickets })) × (after ≡ written_over (pack_tickets tickets) out)
  -- and a reader over what it wrote hands out these tickets in turn, and then stays at the end
  pub read : (out after : List ℕ) (r : Result Totals Refusal) → ticket_length * length tickets ≤ length out → OpensTape key written out r after
      → (bytes : Bor (List ℕ)) → bytes.now ≡ take (ticket_length * length tickets) after → HandsOut bytes tickets (done at_end)

-- every list of calls that closed the writer, refused calls among them: with the key and head of the accepted start and the tickets added
abbrev pub ClosedComesBack : Type 0
ClosedComesBack = (es : List (Entry WriterCall Work)) (e : Writer) → WriterList es e → (writer_of e).phase ≡ Closed
    → (s : Started) × ((writer_log es).starts ≡ (s ∷ [])) × ComesBack s.key s.head (writer_log es).tickets (writer_log es).written

-- for every key of 16 bytes, head in its ranges and at most 5,000 tickets that may be written, as every valid one may: start, an add for each ticket
-- and finish, from a fresh writer, each with an output of its own that is long enough, are all accepted, and the tickets come back from what they
-- wrote (such calls can be made, and opened: `Examples.writers`, `opening_replies`)
abbrev pub TicketsComeBack : Type 0
TicketsComeBack = (key : List ℕ) (head : Head) (tickets : List Ticket)
    → length key ≡ key_length → head_rule head ≡ true → Writable tickets → length tickets ≤ ticket_limit
    → (outs : TapeOutputs) → RoomFor (length tickets) outs
    → (es : List (Entry WriterCall Work)) (e : Writer) → WriterList es e → calls_of es ≡ tape_calls key head tickets outs
    → AllAccepted es × ComesBack key head tickets (writer_log es).written
