use lib.ListN.{take}
use Rattle.tape_model.specs.Listing.{numbers}
use Rattle.listing.specs.Clauses.{Wrote}
use Rattle.listing.proofs.text.put_numbers.Given as goal

abbrev pub invariant-loop-n : goal.invariant-loop-n
invariant-loop-n l = Wrote (numbers (take l.n-index l.ns)) l.initial.out l.at l.out
