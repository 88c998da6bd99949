-- `empty` has the words of the empty set.
use Rattle.trucks.proofs.Words.{no_words}
use Rattle.trucks.proofs.TruckSet.empty.Goals as goal

pub returns : goal.returns
returns c = no_words
