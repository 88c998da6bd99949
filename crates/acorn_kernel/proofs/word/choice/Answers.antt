-- `acorn_kernel::word::choice` meets its contract.
use Rattle.acorn_kernel.proofs.WordBits.{bit-xor, bit-and}
use Rattle.acorn_kernel.proofs.StepWords.{ch-is}
use Rattle.acorn_kernel.proofs.word.choice.Goals as goal

pub returns : goal.returns
returns c j = simp (bit-xor, bit-and, ch-is)
