-- `acorn::stretch::leading_one` meets its contract.
use Rattle.acorn.proofs.FixedRuns.{one_now, one_past}
use Rattle.acorn.proofs.stretch.leading_one.Goals as goal

pub returns-then-n-eq0 : goal.returns-then-n-eq0
returns-then-n-eq0 c i = one_now _ i c.if-n-eq0.true

pub returns-else-n-eq0 : goal.returns-else-n-eq0
returns-else-n-eq0 c i = one_past _ i c.if-n-eq0.false
