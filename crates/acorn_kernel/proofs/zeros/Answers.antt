-- `acorn_kernel::zeros` meets its contract.
use mathlib.Core.Path.{refl}
use Rattle.acorn_kernel.proofs.StateWords.{state_zeros}
use Rattle.acorn_kernel.proofs.zeros.Goals as goal

pub returns : goal.returns
returns c = state_zeros _ refl refl refl refl refl refl
