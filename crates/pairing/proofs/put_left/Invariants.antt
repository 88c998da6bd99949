use Prim.Native.Nat.{suc, ◌≤◌}
use lib.ListN.{length, drop}
use Rattle.pairing.specs.Clauses.{unpaired}
use Rattle.pairing.proofs.Filling.{Filled}
use Rattle.pairing.proofs.put_left.Given as goal

abbrev pub invariant-loop-i : goal.invariant-loop-i
invariant-loop-i l =
    (length l.partners ≤ 5000) × Filled l.initial.out (unpaired 1 l.partners) l.out l.n (unpaired (suc l.i) (drop l.i l.partners))
