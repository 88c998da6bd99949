-- `exact_shares`: the products fit.
use Rattle.std.proofs.Common.{rules, tests, arith, ◌*◌, ◌<◌, ◌^◌}
use Rattle.pay_sheet.proofs.Filled.{product_fits}
use Rattle.pay_sheet.proofs.Calls.{mapped, each-number}
use Rattle.pay_sheet.proofs.NetsAtRate.exact_shares.Goals as goal

pub map-requires : goal.map-requires
map-requires c = (
  omega arith,
  (
    omega arith,
    (
      omega arith,
      each-number c.args.self.nets (λ x q k. search (rules, tests)) (
          λ x k l e.
          let fits : x * c.args.self.rate < 2 ^ 64 = rw e (omega (arith, product_fits c.args.self.nets c.args.self.rate c.args.self.in_range k (omega arith))) in
          search rules
          ),
    ),
  ),
)

pub returns : goal.returns
returns c = mapped _ (λ n. n * c.args.self.rate) _ (λ x y q k. search (rules, tests)) c.args.self.nets _ 16 c.map.ensures.items
