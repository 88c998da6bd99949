use Rattle.pairing.specs.Clauses.{tickets_of}
use Rattle.pairing.proofs.Search.{Search}
use Rattle.pairing.proofs.find_pairs.Given as goal

abbrev pub invariant-loop-i : goal.invariant-loop-i
invariant-loop-i l = Search (tickets_of l.first.plain.now) (tickets_of l.second.plain.now) l.partners l.taken l.cursors l.found l.i
