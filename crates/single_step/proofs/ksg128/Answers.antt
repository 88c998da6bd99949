-- `ksg128` meets its contract: every place is one of the 293, and the formula is that of the definition.
use Rattle.single_step.proofs.Places.{ksg128-is}
use Rattle.single_step.proofs.ksg128.Goals as goal

pub returns : goal.returns
returns c = rw (c.maj.ensures, c.ch.ensures) (ksg128-is _)
