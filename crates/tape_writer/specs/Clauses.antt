-- How a writer is held against document 01's plain writer: the one equation that every method's contract is.
use Rattle.std.specs.Prelude.{◌≡◌, List, ℕ}
use Rattle.calls.specs.declared.Answer.{Answer}
use Rattle.calls.specs.declared.Answer.TheVariants.{Refused, Done}
use Rattle.calls.specs.declared.Refusal.{Refusal}
use Rattle.calls.specs.Calls.{◌if◌else◌, Reply, refused, done, Work, Outcome, answer_reply, is_refused}
use Rattle.acorn_model.specs.Machine.{Machine, begin, data_call, call}
use Rattle.tape_model.specs.declared.WriterPhase.{WriterPhase}
use Rattle.tape_model.specs.Tape.{tape_tag_length, nonce_of}
use Rattle.tape_model.specs.Writer.{PlainWriter, WriterCall, writer_call}
use Rattle.session.specs.declared.Reply.{Reply as SessionReply}
use Rattle.session.specs.Clauses.{machine_of, wrapped_machine, wrapped_reply}
use Rattle.tape_writer.specs.declared.Writer.{Writer}
use Rattle.tape_writer.specs.declared.WriterReply.{WriterReply}

-- the plain writer that a writer stands for: every value of the struct stands for one
unfoldable pub writer_of : Writer → PlainWriter
writer_of w = record { machine = machine_of w.session; phase = w.phase; tickets = w.tickets }

-- what a call's reply, and its output after it, come to
unfoldable pub writer_outcome : WriterReply → List ℕ → Outcome PlainWriter Work
writer_outcome r out = record { next = writer_of r.writer; answer = answer_reply r.answer; out = out }

-- ## Counting in 64 bits: the session's count of steps wraps around at 2 ^ 64, but a refused call changes nothing

unfoldable pub wrapped_writer : PlainWriter → PlainWriter
wrapped_writer w = record { machine = wrapped_machine w.machine; phase = w.phase; tickets = w.tickets }

unfoldable pub wrapped_writer_outcome : Outcome PlainWriter Work → Outcome PlainWriter Work
wrapped_writer_outcome o = record { next = o.next if is_refused o.answer else wrapped_writer o.next; answer = wrapped_reply o.answer; out = o.out }

-- ## The contract of a call

-- the call c of the writer w gave the reply r and left `out` in its output
abbrev pub WriterCalled : Writer → WriterCall → WriterReply → List ℕ → Type 0
WriterCalled w c r out = writer_outcome r out ≡ wrapped_writer_outcome (writer_call (writer_of w) c)

-- ## What the private functions cite

-- the reply with a refusal
abbrev pub refused_reply : Refusal → Writer → WriterReply
refused_reply refusal w = record { answer = Refused refusal; writer = w }

-- by the session's answer: what stays where it is refused, or what comes after it
abbrev pub unless_answer_refused : {A : Type 0} → Answer → A → A → A
unless_answer_refused (Refused refusal) stays after = stays
unless_answer_refused (Done bytes steps) stays after = after

-- the session's reply r passed on: where it did its call, the writer w has the session after it, so many tickets and this phase
abbrev pub passed_reply : SessionReply → ℕ → WriterPhase → Writer → WriterReply
passed_reply r tickets phase w = record { answer = r.answer; writer = unless_answer_refused r.answer w (record { session = r.session; tickets = tickets; phase = phase }) }

-- begin and then data with a head's bytes; begin alone where it is refused
abbrev pub unless_begun : Reply Work → Outcome Machine Work → Outcome Machine Work → Outcome Machine Work
unless_begun (refused n) begun taken = begun
unless_begun (done work) begun taken = taken

unfoldable pub head_taken : Machine → List ℕ → List ℕ → Outcome Machine Work
head_taken m key head =
    let begun : Outcome Machine Work = call m (begin key (nonce_of head) tape_tag_length) in
    unless_begun begun.answer begun (call begun.next (data_call head))

-- the session's reply r has the answer of the outcome o and, where it is accepted, hands on a session that stands for the machine of o
abbrev pub Gives : SessionReply → Outcome Machine Work → Type 0
Gives r o = (answer_reply r.answer ≡ wrapped_reply o.answer) × ((bytes steps : ℕ) → r.answer ≡ Done bytes steps → machine_of r.session ≡ wrapped_machine o.next)
