-- `acorn_kernel::updated` meets its contract.
use Rattle.acorn_kernel.proofs.WordBits.{bit-xor}
use Rattle.acorn_kernel.proofs.StepWords.{xor_assoc}
use Rattle.acorn_kernel.proofs.updated.Goals as goal

pub returns : goal.returns
returns c j h = simp (bit-xor, xor_assoc, c.from.ensures j h, c.from-2.ensures j h, c.from-3.ensures j h)
