-- `load_valid` is its chain of tests.
use mathlib.Core.Path.{refl}
use Rattle.ticket.specs.Rule.{load_rule}
use Rattle.ticket.proofs.load_valid.Goals as goal

pub returns : goal.returns
unfolding load_rule
returns c = refl
