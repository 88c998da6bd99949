-- `len` is the number of tickets, which are at most 5,000.
use mathlib.Core.Path.{sym}
use native.Mathlib.Omega.{arith}
use Rattle.pairing.proofs.Held.{count, size}
use Rattle.pairing.proofs.Tickets.len.Goals as goal

pub returns : goal.returns
returns c = let few = size _ c.args.self.accepted in (sym (count _ c.args.self.accepted), omega arith)
