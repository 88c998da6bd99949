-- `zeroize`: the halves get shorter.
use lib.ListN.{length}
use Rattle.zeroize.proofs.+zeroize.Given as goal

abbrev pub decreases-zeroize : goal.decreases-zeroize
decreases-zeroize l = length l.bytes.now
