-- `acorn_kernel::word::half` meets its contract.
use mathlib.Core.Path.{ap, ◌∙◌}
use Prim.Native.Nat.{ℕ}
use lib.Bits.{and_mask}
use Rattle.acorn_model.specs.Bits.{bit}
use Rattle.acorn_model.proofs.Numbers.{bit_mod}
use Rattle.acorn_kernel.proofs.word.half.Goals as goal

pub returns : goal.returns
returns c j h = ap (λ (x : ℕ). bit x j) (and_mask c.args.w 32) ∙ bit_mod c.args.w 32 j h
