-- `contains`: the truck's bit in its word; there is no word from 1,024 on.
use mathlib.Core.Path.{sym}
use native.Mathlib.Omega.{arith}
use borrow.Author.Rules.{rules}
use Rattle.acorn_model.specs.Bits.{bit}
use Rattle.trucks.specs.Words.{held}
use Rattle.trucks.proofs.Words.{held-above}
use Rattle.trucks.proofs.TruckSet.contains.Goals as goal

pub returns-then-truck-gt1023 : goal.returns-then-truck-gt1023
returns-then-truck-gt1023 c = sym (held-above _ _ (search rules) (omega arith))

pub returns : goal.returns
unfolding held bit
returns c = search rules
