-- `tape_pay`: the product of a tape's net and a rate fits.
use mathlib.Core.Path.{ap}
use Prim.Native.Nat.{ℕ, ◌*◌, ◌/◌}
use native.Mathlib.Omega.{arith}
use Rattle.pay_sheet.proofs.Filled.{total-fits}
use Rattle.pay_sheet.proofs.NetsAtRate.tape_pay.Goals as goal

pub sum-requires : goal.sum-requires
sum-requires c = omega (arith, c.args.self.in_range.weight)

pub overflow_mul-result : goal.overflow_mul-result
overflow_mul-result c = omega (arith, total-fits c.args.self.nets c.args.self.rate c.args.self.in_range, ap (λ (n : ℕ). n * c.args.self.rate) c.sum.ensures)

pub returns : goal.returns
returns c = ap (λ (n : ℕ). n * c.args.self.rate / 1000) c.sum.ensures
