-- `Session::fresh` meets its contract.
use Rattle.acorn_model.specs.Machine.{fresh}
use Rattle.session.specs.Clauses.{length_of, machine_of}
use Rattle.session.proofs.Session.fresh.Goals as goal

pub returns : goal.returns
unfolding machine_of length_of fresh
returns c = rw c.zeros.ensures
