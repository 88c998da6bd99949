-- `with_cents_left`: what the closure gives for each contractor.
use Rattle.std.proofs.Common.{rules, tests, ltb, ◌+◌}
use Rattle.trucks.specs.Words.{one}
use Rattle.pay_sheet.specs.PaySheet.{rank}
use Rattle.pay_sheet.specs.Clauses.{at}
use Rattle.pay_sheet.proofs.Calls.{made}
use Rattle.pay_sheet.proofs.with_cents_left.Goals as goal

pub returns : goal.returns
returns c = made _ (λ k. at c.args.whole k + one (ltb (rank (at c.args.rests.now) k) c.args.left)) _ 16 (λ x y q l k. search (rules, tests)) _ c.from_fn.ensures.items
