-- `rate_of`: the number that the first i digits make, before each turn of the loop.
use mathlib.Core.Path.{ap, ◌∙◌}
use native.Mathlib.Omega.{arith}
use lib.Seq.{take_all}
use borrow.Author.Rules.{rules}
use Rattle.tape_model.specs.Laws.{value_after}
use Rattle.print_pay_sheet.proofs.Rates.{value_more, value_small, value_below}
use Rattle.print_pay_sheet.proofs.rate_of.Goals as goal

pub overflow_mul-rate : goal.overflow_mul-rate
overflow_mul-rate c =
    let l = c.loop-digit in
    let small = value_small l.rate l.digit-index l.invariant.1 (omega (arith, c.requires.few)) in
    search rules

pub overflow_sub-digit : goal.overflow_sub-digit
overflow_sub-digit c = c.requires.least c.loop-digit.digit-index (omega arith)

pub overflow_add-rate : goal.overflow_add-rate
overflow_add-rate c =
    let l = c.loop-digit in
    let small = value_small l.rate l.digit-index l.invariant.1 (omega (arith, c.requires.few)) in
    omega (arith, c.requires.most l.digit-index (omega arith), c.from.ensures)

pub loop-digit-preserved : goal.loop-digit-preserved
loop-digit-preserved c =
    let l = c.loop-digit in (
      omega (arith, value_more c.args.digits.now l.digit-index (omega arith), c.from.ensures),
      value_below l.rate _ l.digit-index l.invariant.1 (omega (arith, c.requires.most l.digit-index (omega arith), c.from.ensures)),
    )

pub returns : goal.returns
returns c =
    c.loop-digit.invariant.0 ∙ ap (value_after 0) (take_all c.loop-digit.digit-index c.args.digits.now (omega arith))
