-- `fbk128` meets its contract: every place is one of the 293, and the formula is that of the definition.
use Rattle.single_step.proofs.Places.{fbk128-is}
use Rattle.single_step.proofs.fbk128.Goals as goal

pub returns : goal.returns
returns c = rw c.maj.ensures (fbk128-is _ _ _ _)
