-- A writer in twelve words, for callers that cannot hold the struct. Any twelve words stand for a writer.
use Rattle.std.specs.Prelude.{List, [], ◌∷◌, ◌++◌, ℕ, eqb, get_or}
use Rattle.calls.specs.Calls.{◌if◌else◌}
use Rattle.tape_model.specs.declared.WriterPhase.{WriterPhase}
use Rattle.tape_model.specs.declared.WriterPhase.TheVariants.{Fresh, Open, Closed}
use Rattle.tape_model.specs.Tape.{tape_tag_length}
use Rattle.tape_model.specs.Writer.{PlainWriter}
use Rattle.session.specs.declared.Session.{Session}
use Rattle.session.specs.Words as session
use Rattle.tape_writer.specs.declared.Writer.{Writer}
use Rattle.tape_writer.specs.Clauses.{writer_of}

-- ## The phase as a number: any but those listed is closed

abbrev pub phase_number : WriterPhase → ℕ
phase_number Fresh = 0
phase_number Open = 1
phase_number Closed = 2

abbrev pub phase_in : ℕ → WriterPhase
phase_in n =
    Fresh if eqb n 0 else
    Open if eqb n 1 else
    Closed

-- ## The twelve words

-- a tape's tag is full, so its session's length is not among the words
abbrev pub with_full_tag : Session → Session
with_full_tag s =
    record {
      state = s.state;
      data_bytes = s.data_bytes;
      text_bytes = s.text_bytes;
      steps = s.steps;
      kind = s.kind;
      phase = s.phase;
      tag_length = tape_tag_length;
    }

-- the session's first ten, the tickets added, the number of the phase
unfoldable pub writer_in : List ℕ → Writer
writer_in words = record { session = with_full_tag (session.session_in words); tickets = get_or words 10 0; phase = phase_in (get_or words 11 0) }

-- the plain writer that twelve words stand for
unfoldable pub plain_writer_in : List ℕ → PlainWriter
plain_writer_in words = writer_of (writer_in words)

-- the twelve words that are stored for a plain writer
unfoldable pub writer_words_for : PlainWriter → List ℕ
writer_words_for w = session.first_ten (session.session_for w.machine) ++ (w.tickets ∷ phase_number w.phase ∷ [])
