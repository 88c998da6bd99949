use Prim.Native.Nat.{suc, ◌≤◌}
use lib.ListN.{length, drop}
use Rattle.pairing.specs.Pairing.{pair_numbers}
use Rattle.pairing.specs.Clauses.{pairs_in}
use Rattle.pairing.proofs.Filling.{Filled}
use Rattle.pairing.proofs.put_pairs.Given as goal

abbrev pub invariant-loop-i : goal.invariant-loop-i
invariant-loop-i l =
    (length l.partners ≤ 5000) × Filled l.initial.out (pair_numbers (pairs_in 1 l.partners)) l.out l.n (pair_numbers (pairs_in (suc l.i) (drop l.i l.partners)))
