-- `maj` meets its contract.
use Rattle.single_step.proofs.Places.{maj-is}
use Rattle.single_step.proofs.maj.Goals as goal

pub returns : goal.returns
returns c = maj-is _ _ _
