-- The plain writer comes back from the words that are stored for it.
use mathlib.Core.Path.{◌≡◌, refl, sym, ap, ◌∙◌}
use Rattle.tape_model.specs.declared.WriterPhase.{WriterPhase}
use Rattle.tape_model.specs.declared.WriterPhase.TheVariants.{Fresh, Open, Closed}
use Rattle.tape_model.specs.Writer.{PlainWriter}
use Rattle.session.specs.Clauses.{length_of, machine_of}
use Rattle.acorn_model.specs.Machine.{with_tag_length}
use Rattle.tape_model.specs.Tape.{tape_tag_length}
use Rattle.session.specs.Words.{first_ten, words_of, words_for, session_for, session_in, machine_in}
use Rattle.session.proofs.WordsBack.{Clear, words_stand}
use Rattle.tape_writer.specs.Clauses.{writer_of}
use Rattle.tape_writer.specs.Words.{phase_number, phase_in, with_full_tag, writer_in, plain_writer_in, writer_words_for}

phase_back : (p : WriterPhase) → phase_in (phase_number p) ≡ p
phase_back Fresh = refl
phase_back Open = refl
phase_back Closed = refl

-- the first ten of a writer's words are its session's, and its tag is full
machine_back : (w : PlainWriter) → Clear w.machine → w.machine.tag_length ≡ tape_tag_length → machine_of (with_full_tag (session_in (writer_words_for w))) ≡ w.machine
unfolding machine_in machine_of length_of writer_words_for session_in session_for words_for words_of first_ten
machine_back w h full = ap (with_tag_length tape_tag_length) (words_stand w.machine h) ∙ ap (λ n. with_tag_length n w.machine) (sym full)

pub writer_words_stand : (w : PlainWriter) → Clear w.machine → w.machine.tag_length ≡ tape_tag_length → plain_writer_in (writer_words_for w) ≡ w
unfolding plain_writer_in writer_of writer_in writer_words_for first_ten
writer_words_stand w h full = rw (machine_back w h full, phase_back w.phase)
