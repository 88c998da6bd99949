use Prim.Native.Nat.{◌+◌}
use mathlib.Core.Path.{◌≡◌}
use lib.ListN.{drop}
use Rattle.trucks.specs.Words.{set_bits}
use Rattle.trucks.proofs.TruckSet.count.Given as goal

abbrev pub invariant-loop-word : goal.invariant-loop-word
invariant-loop-word l = l.n + set_bits (drop l.word-index l.word-items) ≡ set_bits l.word-items
