use Prim.Native.Nat.{◌-◌}
use lib.ListN.{length}
use Rattle.pairing.specs.Clauses.{tickets_of}
use Rattle.pairing.proofs.Links.{Sought}
use Rattle.pairing.proofs.Tickets.seek.Given as goal

abbrev pub invariant-loop-j : goal.invariant-loop-j
invariant-loop-j l = Sought (tickets_of l.self.plain.now) l.start l.tipped l.j

abbrev pub decreases-loop-j : goal.decreases-loop-j
decreases-loop-j l = length (tickets_of l.self.plain.now) - l.j
