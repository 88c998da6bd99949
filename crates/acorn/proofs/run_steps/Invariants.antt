use mathlib.Core.Path.{◌≡◌}
use Prim.Native.Nat.{ℕ, ◌+◌, ◌-◌, ◌%◌, ◌≤◌}
use Rattle.acorn_model.specs.Bits.{Bits}
use Rattle.acorn_model.specs.Step.{run}
use Rattle.acorn_model.specs.Stretches.{Stretch, inputs}
use Rattle.acorn_kernel.specs.Together.{state_of}
use Rattle.acorn.specs.Runs.{Takes}
use Rattle.acorn.proofs.run_steps.Given as goal

-- the steps before step n are run
abbrev pub invariant-loop-n : goal.invariant-loop-n
invariant-loop-n g l = record {
  place : (l.n - l.first) % 32 ≡ 0;
  within : l.n ≤ l.last;
  reached : (row : Stretch) (done : ℕ) (S : Bits) → Takes (λ n x. goal.F-post g l.message n x) l.first l.last row done → state_of l.initial.t ≡ run (inputs row) done S
      → state_of l.t ≡ run (inputs row) (done + (l.n - l.first)) S;
}

abbrev pub decreases-loop-n : goal.decreases-loop-n
decreases-loop-n g l = l.last - l.n
