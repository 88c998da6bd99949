-- `open_rest`: the bytes of the text left get fewer.
use Rattle.message.proofs.+open_rest.Given as goal

abbrev pub decreases-open_rest : goal.decreases-open_rest
decreases-open_rest l = l.left
