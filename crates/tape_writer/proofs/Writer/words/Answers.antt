-- `Writer::words` meets its contract.
use Rattle.session.specs.Words.{first_ten, words_of, words_for}
use Rattle.tape_writer.specs.Clauses.{writer_of}
use Rattle.tape_writer.specs.Words.{writer_words_for}
use Rattle.tape_writer.proofs.Writer.words.Goals as goal

pub returns : goal.returns
unfolding writer_words_for writer_of words_for words_of first_ten
returns c = rw (c.words-s.ensures, c.phase_number.ensures)
