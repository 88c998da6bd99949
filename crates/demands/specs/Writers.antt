-- Demand 3 on the tape writer: over all lists of a writer's calls, whichever are refused.
use Rattle.std.specs.Prelude.{◌≡◌, List, [], ◌∷◌, ◌++◌, ◌≤◌, ◌^◌, ◌<◌, length}
use Rattle.acorn_model.specs.declared.Kind.TheVariants.{Sealing}
use Rattle.calls.specs.Calls.{Work, answer_reply}
use Rattle.calls.specs.Lists.{Entry, calls_of, entries, handed_on, CallsMade, AllAccepted}
use Rattle.acorn_model.specs.Machine.{fresh, call}
use Rattle.acorn_model.specs.Lists.{log_of}
use Rattle.tape_model.specs.declared.WriterPhase.TheVariants.{Closed}
use Rattle.tape_model.specs.Tape.{ticket_limit, tape_of}
use Rattle.tape_model.specs.Writer.{PlainWriter, WriterCall, fresh_writer, writer_call}
use Rattle.tape_model.specs.WriterLists.{Started, writer_log, heads_of}
use Rattle.tape_model.specs.Laws.{Writable, TapeLaws}
use Rattle.call_lists.specs.WriterLists.{StartsRight}
use Rattle.tape_writer.specs.declared.Writer.{Writer}
use Rattle.tape_writer.specs.declared.WriterReply.{WriterReply}
use Rattle.tape_writer.specs.Clauses.{writer_of, WriterCalled}

-- What is demanded of a list of calls from a fresh writer, whoever made the calls: `es` are the calls with their answers and outputs, and w is the
-- plain writer that the writer stands for at the end.
pub record WriterFacts (es : List (Entry WriterCall Work)) (w : PlainWriter) : Type 0 where
  -- the writer answers and counts as the plain writer does: over the whole list the answers and outputs are the plain writer's, and at its end
  -- phase, tickets added, steps and (before closed) the 293 bits are
  pub as_plain : (es ≡ entries writer_call fresh_writer (calls_of es)) × (w ≡ handed_on writer_call fresh_writer (calls_of es))
  -- it has counted the tickets added, at most 5,000
  pub tickets : (w.tickets ≡ length (writer_log es).tickets) × (length (writer_log es).tickets ≤ ticket_limit)
  -- what was accepted is as the rules say, and at most one start was
  pub right : StartsRight (writer_log es).starts × Writable (writer_log es).tickets
  pub once : length (writer_log es).starts ≤ 1
  -- the one-step machine accepts each call that the accepted ones make of it, and the writer's is that machine
  pub accepts : AllAccepted (entries call (fresh Sealing) (writer_log es).machine_calls)
  pub machine : w.machine ≡ handed_on call (fresh Sealing) (writer_log es).machine_calls
  -- whose count of steps stays far below what 64 bits hold
  pub small : w.machine.counts.steps < 2 ^ 64
  -- the bytes written: those of every accepted head, and then what the one-step machine writes for these calls
  pub written : (writer_log es).written ≡ heads_of (writer_log es).starts ++ (log_of (entries call (fresh Sealing) (writer_log es).machine_calls)).written
  -- nothing is written before an accepted start
  pub none : (writer_log es).starts ≡ [] → (writer_log es).written ≡ []
  -- a finished writer was started once; it has written the tape of that key, that head and the tickets added, and these come back from it
  pub tape : w.phase ≡ Closed
      → (s : Started) × ((writer_log es).starts ≡ (s ∷ [])) × ((writer_log es).written ≡ tape_of s.key s.head (writer_log es).tickets)
      × TapeLaws s.key s.head (writer_log es).tickets

-- a list of calls from a fresh writer, which led to the writer e
pub record WriterList (es : List (Entry WriterCall Work)) (e : Writer) : Type 0 where
  pub first : Writer
  pub is_fresh : writer_of first ≡ fresh_writer
  pub calls : CallsMade {R = WriterReply} (λ r. r.writer) (λ r. answer_reply r.answer) WriterCalled first es e

abbrev pub WriterDemand : Type 0
WriterDemand = (es : List (Entry WriterCall Work)) (e : Writer) → WriterList es e → WriterFacts es (writer_of e)
