-- `put_left` writes the positions without a partner: those before i are written, and those from i on are the rest.
use native.Mathlib.Omega.{arith}
use Rattle.pairing.proofs.Filling.{fill_start, left-room, left-written, left-kept, left_ended}
use Rattle.pairing.proofs.put_left.Goals as goal
use Rattle.pairing.proofs.put_left.Goals.{then-partner-eq0, else-partner-eq0}

pub loop-i-init : goal.loop-i-init
loop-i-init c = (c.requires.0, fill_start _ _ c.requires.1)

pub bounds-out-n : goal.bounds-out-n
bounds-out-n c = left-room _ _ c.loop-i-test.true c.loop-i.invariant.1 c.if-partner-eq0.true

pub overflow_add-n : goal.overflow_add-n
overflow_add-n c = omega (arith, left-room _ _ c.loop-i-test.true c.loop-i.invariant.1 c.if-partner-eq0.true)

pub loop-i-preserved : goal.loop-i-preserved
loop-i-preserved c = (
  c.loop-i.invariant.0,
  elim c.if-partner-eq0.branch [
    | then-partner-eq0 w ↦ left-written _ _ c.loop-i-test.true c.loop-i.invariant.1 w.if-partner-eq0.true w.position.result w.position.ensures c.if-partner-eq0.out c.if-partner-eq0.n w.out-is w.n-is
    | else-partner-eq0 w ↦ left-kept _ _ c.loop-i-test.true c.loop-i.invariant.1 w.if-partner-eq0.false c.if-partner-eq0.out c.if-partner-eq0.n w.out-is w.n-is
  ],
)

pub returns : goal.returns
returns c = left_ended _ _ c.loop-i-test.false c.loop-i.invariant.1
