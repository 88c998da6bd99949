use Prim.Native.Nat.{◌≤◌, ◌-◌}
use lib.ListN.{length}
use Rattle.receptions.specs.Laws.{AgreeBefore}
use Rattle.receptions.proofs.parting.Given as goal

abbrev pub invariant-loop-i : goal.invariant-loop-i
invariant-loop-i l = ((l.shorter ≤ length l.first) × (l.shorter ≤ length l.second)) × (l.i ≤ l.shorter) × AgreeBefore l.i l.first l.second

abbrev pub decreases-loop-i : goal.decreases-loop-i
decreases-loop-i l = l.shorter - l.i
