-- `sum`: of the array's numbers as a list.
use Rattle.std.proofs.Common.{rules, arith, ◌≡◌, ◌<◌, ◌^◌, sum, sym, ◌∙◌}
use Rattle.pay_sheet.proofs.Filled.{sum_to-sum}
use Rattle.pay_sheet.proofs.sum.Goals as goal

pub sum-requires-clause-fits : goal.sum-requires-clause-fits
sum-requires-clause-fits c =
    let fits : sum c.args.ns < 2 ^ 64 = omega (arith, c.requires, sum_to-sum c.args.ns 16 (omega arith)) in
    search rules

pub returns : goal.returns
returns c =
    let e : c.sum.result ≡ sum c.args.ns = search rules in
    e ∙ sym (sum_to-sum c.args.ns 16 (omega arith))
