-- Document 01, "Ticket, head, tape", on the plain writer: a sealing one-step machine, the writer's phase and the number of tickets added.
use Rattle.std.specs.Prelude.{Bool, true, false, not, List, ℕ, ◌+◌, leb, ltb, eqb, length}
use Rattle.acorn_model.specs.declared.Kind.TheVariants.{Sealing}
use Rattle.calls.specs.Calls.{◌if◌else◌, Reply, refused, done, Work, accepted, unless_refused, written_over, Outcome, refused_with}
use Rattle.acorn_model.specs.Machine.{Machine, fresh, begin, data_call, seal_text, seal_close, key_length, call}
use Rattle.tape_model.specs.declared.Ticket.{Ticket}
use Rattle.tape_model.specs.declared.Head.{Head}
use Rattle.tape_model.specs.declared.WriterPhase.{WriterPhase}
use Rattle.tape_model.specs.declared.WriterPhase.TheVariants.{Fresh, Open, Closed}
use Rattle.tape_model.specs.Ticket.{ticket_length, write_rule, pack_ticket, head_length, head_rule, pack_head}
use Rattle.tape_model.specs.Tape.{ticket_limit, tape_tag_length, nonce_of}

pub record PlainWriter : Type 0 where
  pub machine : Machine
  pub phase : WriterPhase
  pub tickets : ℕ

unfoldable pub fresh_writer : PlainWriter
fresh_writer = record { machine = fresh Sealing; phase = Fresh; tickets = 0 }

-- A call with its arguments and its output as it stands.
pub data WriterCall : Type 0 where
  start : (key : List ℕ) (head : Head) (out : List ℕ) → WriterCall
  add : (ticket : Ticket) (out : List ℕ) → WriterCall
  finish : (out : List ℕ) → WriterCall

unfoldable pub output_of : WriterCall → List ℕ
output_of (start key head out) = out
output_of (add ticket out) = out
output_of (finish out) = out

-- ## What sends a call back

abbrev pub is_fresh : WriterPhase → Bool
is_fresh Fresh = true
is_fresh Open = false
is_fresh Closed = false

abbrev pub is_open : WriterPhase → Bool
is_open Fresh = false
is_open Open = true
is_open Closed = false

-- 1
unfoldable pub phase_allows : WriterPhase → WriterCall → Bool
phase_allows phase (start key head out) = is_fresh phase
phase_allows phase (add ticket out) = is_open phase
phase_allows phase (finish out) = is_open phase

-- 2
unfoldable pub key_right : WriterCall → Bool
key_right (start key head out) = eqb (length key) key_length
key_right (add ticket out) = true
key_right (finish out) = true

-- 3
unfoldable pub head_right : WriterCall → Bool
head_right (start key head out) = head_rule head
head_right (add ticket out) = true
head_right (finish out) = true

-- 4
unfoldable pub ticket_right : WriterCall → Bool
ticket_right (start key head out) = true
ticket_right (add ticket out) = write_rule ticket
ticket_right (finish out) = true

-- 5
unfoldable pub tape_full : ℕ → WriterCall → Bool
tape_full tickets (start key head out) = false
tape_full tickets (add ticket out) = leb ticket_limit tickets
tape_full tickets (finish out) = false

-- 6
unfoldable pub output_short : WriterCall → Bool
output_short (start key head out) = ltb (length out) head_length
output_short (add ticket out) = ltb (length out) ticket_length
output_short (finish out) = ltb (length out) tape_tag_length

-- the smallest number that applies
unfoldable pub refusal : PlainWriter → WriterCall → ℕ
refusal w c =
    1 if not (phase_allows w.phase c) else
    2 if not (key_right c) else
    3 if not (head_right c) else
    4 if not (ticket_right c) else
    5 if tape_full w.tickets c else
    6 if output_short c else
    accepted

-- ## What an accepted call does

-- By what the machine's call answered: the writer's call goes on; or, where the machine refuses it, as it never does for a writer that was
-- fresh at first, that is the answer and nothing changes.
unfoldable pub on_answer : Reply Work → (Work → Outcome PlainWriter Work) → PlainWriter → List ℕ → Outcome PlainWriter Work
on_answer (refused n) go_on w out = refused_with n w out
on_answer (done work) go_on w out = go_on work

-- the machine's call is the writer's: its answer, its output, and a writer in this phase with so many tickets
unfoldable pub passed_on : Outcome Machine Work → WriterPhase → ℕ → PlainWriter → List ℕ → Outcome PlainWriter Work
passed_on o phase tickets w out =
    on_answer o.answer (λ work. record { next = record { machine = o.next; phase = phase; tickets = tickets }; answer = done work; out = o.out }) w out

-- start: begin, then data with the head; the head is written
unfoldable pub started : Outcome Machine Work → Outcome Machine Work → Head → PlainWriter → List ℕ → Outcome PlainWriter Work
started begun taken head w out =
    on_answer begun.answer
    (λ begin_work. on_answer taken.answer
    (λ data_work. record {
      next = record { machine = taken.next; phase = Open; tickets = w.tickets };
      answer = done (record { bytes = head_length; steps = data_work.steps });
      out = written_over (pack_head head) out;
    }) w out) w out

unfoldable pub work : PlainWriter → WriterCall → Outcome PlainWriter Work
work w (start key head out) =
    let begun : Outcome Machine Work = call w.machine (begin key (nonce_of (pack_head head)) tape_tag_length) in
    started begun (call begun.next (data_call (pack_head head))) head w out
work w (add ticket out) = passed_on (call w.machine (seal_text (pack_ticket ticket) out)) Open (w.tickets + 1) w out
work w (finish out) = passed_on (call w.machine (seal_close out)) Closed w.tickets w out

-- ## One call

unfoldable pub writer_call : PlainWriter → WriterCall → Outcome PlainWriter Work
writer_call w c = unless_refused (refusal w c) (work w c) (refused_with (refusal w c) w (output_of c))
