use Rattle.pairing.specs.Clauses.{tickets_of, LinkedFrom}
use Rattle.pairing.proofs.Tickets.link.Given as goal

abbrev pub invariant-loop-j : goal.invariant-loop-j
invariant-loop-j l = LinkedFrom (tickets_of l.self.plain.now) l.j l.next l.cursors
