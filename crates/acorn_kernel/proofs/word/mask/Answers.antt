-- `acorn_kernel::word::mask` meets its contract.
use mathlib.Core.Path.{sym, ◌∙◌}
use Prim.Native.Nat.{zero-le}
use lib.Dec.{lit<}
use Rattle.acorn_kernel.proofs.WordBits.{bit-ones, bit-above}
use Rattle.acorn_kernel.proofs.word.mask.Goals as goal

pub returns-then-b : goal.returns-then-b
returns-then-b c j h = bit-ones 32 j h ∙ sym c.if-b.true

pub returns-else-b : goal.returns-else-b
returns-else-b c j h = bit-above 0 0 j (lit< tt) zero-le ∙ sym c.if-b.false
