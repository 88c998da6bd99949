-- `Writer::from_words` meets its contract.
use Rattle.session.specs.Words.{session_in}
use Rattle.tape_writer.specs.Words.{writer_in}
use Rattle.tape_writer.proofs.Writer.from_words.Goals as goal

pub returns : goal.returns
unfolding writer_in session_in
returns c = rw (c.phase_in.ensures, c.from_words.ensures)
