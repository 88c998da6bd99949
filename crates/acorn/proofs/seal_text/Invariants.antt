use mathlib.Core.Path.{◌≡◌}
use mathlib.Core.Bool.{false}
use Prim.Native.Nat.{◌-◌, ◌%◌, ◌≤◌}
use Rattle.acorn_kernel.specs.Together.{state_of}
use Rattle.acorn.specs.Runs.{TextUpTo}
use Rattle.acorn.proofs.seal_text.Given as goal

-- i bytes of the piece are run and written
abbrev pub invariant-loop-i : goal.invariant-loop-i
invariant-loop-i l = record {
  place : l.i % 4 ≡ 0;
  within : l.i ≤ l.whole;
  run : TextUpTo false (state_of l.initial.t) l.piece l.initial.out l.i (state_of l.t) l.out;
}

abbrev pub decreases-loop-i : goal.decreases-loop-i
decreases-loop-i l = l.whole - l.i
