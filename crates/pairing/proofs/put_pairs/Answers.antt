-- `put_pairs` writes the pairs: those before place i are written, and those from it on are the rest.
use mathlib.Core.Path.{refl}
use Rattle.pairing.proofs.Filling.{pair-written, pairs_kept, pairs_ended}
use Rattle.pairing.proofs.put_pairs.Goals as goal
use Rattle.pairing.proofs.put_pairs.Goals.{then-partner-ne0, else-partner-ne0}

pub loop-i-preserved : goal.loop-i-preserved
loop-i-preserved c = (
  c.loop-i.invariant.0,
  elim c.if-partner-ne0.branch [
    | then-partner-ne0 w ↦ pair-written _ _ c.loop-i-test.true c.loop-i.invariant.1 w.if-partner-ne0.true w.position.result _ w.position.ensures refl c.if-partner-ne0.out c.if-partner-ne0.n w.out-is w.n-is
    | else-partner-ne0 w ↦ pairs_kept _ _ c.loop-i-test.true c.loop-i.invariant.1 w.if-partner-ne0.false c.if-partner-ne0.out c.if-partner-ne0.n w.out-is w.n-is
  ],
)

pub returns : goal.returns
returns c = pairs_ended _ _ c.loop-i-test.false c.loop-i.invariant.1
