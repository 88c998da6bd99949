-- `Writer::fresh` meets its contract.
use Rattle.tape_model.specs.Writer.{fresh_writer}
use Rattle.tape_writer.specs.Clauses.{writer_of}
use Rattle.tape_writer.proofs.Writer.fresh.Goals as goal

pub returns : goal.returns
unfolding writer_of fresh_writer
returns c = rw c.fresh.ensures
