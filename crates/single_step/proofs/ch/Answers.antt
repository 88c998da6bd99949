-- `ch` meets its contract.
use Rattle.single_step.proofs.Places.{ch-is}
use Rattle.single_step.proofs.ch.Goals as goal

pub returns : goal.returns
returns c = ch-is _ _ _
