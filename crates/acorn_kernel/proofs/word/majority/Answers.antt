-- `acorn_kernel::word::majority` meets its contract.
use Rattle.acorn_kernel.proofs.WordBits.{bit-xor, bit-and}
use Rattle.acorn_kernel.proofs.StepWords.{maj-is}
use Rattle.acorn_kernel.proofs.word.majority.Goals as goal

pub returns : goal.returns
returns c j = simp (bit-xor, bit-and, maj-is)
