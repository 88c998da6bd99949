use mathlib.Core.Path.{◌≡◌}
use mathlib.Core.Bool.{not}
use lib.Dec.{eqb}
use Prim.Native.Nat.{◌-◌, ◌*◌, ◌%◌, ◌≤◌}
use Rattle.acorn_model.specs.Bits.{bits_in}
use Rattle.acorn_model.specs.Step.{run}
use Rattle.acorn_kernel.specs.Together.{state_of, inputs_from}
use Rattle.acorn.proofs.absorb.Given as goal

-- i bytes of the piece are run
abbrev pub invariant-loop-i : goal.invariant-loop-i
invariant-loop-i g l = record {
  place : l.i % 4 ≡ 0;
  within : l.i ≤ l.whole;
  reached : state_of l.t ≡ run (inputs_from (not (eqb g.row.OPENING 0)) l.controls.ca l.controls.cb (bits_in l.piece)) (8 * l.i) (state_of l.initial.t);
}

abbrev pub decreases-loop-i : goal.decreases-loop-i
decreases-loop-i g l = l.whole - l.i
