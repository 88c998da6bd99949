use mathlib.Core.Path.{◌≡◌}
use Prim.Native.Nat.{◌*◌}
use Rattle.acorn_model.specs.Step.{run}
use Rattle.acorn_model.specs.Stretches.{inputs, keystream, final}
use Rattle.acorn_kernel.specs.Together.{state_of}
use Rattle.acorn.specs.Runs.{Written}
use Rattle.acorn.proofs.write_tag.Given as goal

-- k words of the tag are written
abbrev pub invariant-loop-k : goal.invariant-loop-k
invariant-loop-k l = record {
  state : state_of l.t ≡ run (inputs final) (32 * l.k) (state_of l.initial.t);
  output : Written (keystream final (state_of l.initial.t)) l.initial.out (4 * l.k) l.out;
}
