use Prim.Native.Nat.{ℕ, ◌≤◌, ◌<◌}
use mathlib.Core.Path.{◌≡◌}
use lib.ListN.{length, get_or}
use Rattle.trucks.proofs.TruckSet.combined.Given as goal

abbrev pub invariant-loop-w : goal.invariant-loop-w
invariant-loop-w g l =
    (length l.word-items ≡ 16)
    × ((q : ℕ) → q < l.w → goal.F-post g l.f (get_or l.initial.word-items q 0) (get_or l.other.words q 0) (get_or l.word-items q 0))
    × ((q : ℕ) → l.w ≤ q → get_or l.word-items q 0 ≡ get_or l.initial.word-items q 0)
