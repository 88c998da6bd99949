-- `acorn_kernel::word::shifted` meets its contract.
use Rattle.acorn_kernel.proofs.ShiftedBits.{bit_shifted}
use borrow.Author.Rules.{rules}
use Rattle.acorn_kernel.proofs.word.shifted.Goals as goal

pub returns : goal.returns
returns c j h = bit_shifted c.args.w c.args.u c.args.k j (search rules) (search rules) h
