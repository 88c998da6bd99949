-- `same_bytes` meets its contract.
use Rattle.std.proofs.Common.{arith, ◌∙◌}
use Rattle.compare.proofs.Compared.{other_length, compare_more, compare_all}
use Rattle.compare.proofs.same_bytes.Goals as goal

pub returns-then-a-b : goal.returns-then-a-b
returns-then-a-b c = other_length _ _ c.if-a-b.true

pub loop-x-preserved : goal.loop-x-preserved
loop-x-preserved c =
    let h = c.in-Some.ensures.steps in
    record { lengths = grind (arith, h); told = compare_more _ _ _ _ _ h.0 h.1 ∙ c.loop-x.invariant.told }

pub returns : goal.returns
returns c = let h = c.in-None.ensures.steps in compare_all _ _ _ (grind (arith, h)) (grind (arith, h)) ∙ c.loop-x.invariant.told
