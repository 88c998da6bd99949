-- `acorn::absorb` meets its contract.
use mathlib.Core.Path.{refl}
use Prim.Native.Nat.{◌-◌, ◌%◌}
use native.Mathlib.Omega.{arith}
use lib.ListN.{length}
use Rattle.acorn.proofs.StretchRuns.{state_none, state_at, piece_more}
use Rattle.acorn.proofs.absorb.Goals as goal

pub loop-i-init : goal.loop-i-init
loop-i-init g c = record { place = omega arith; within = omega arith; reached = state_none _ _ }

pub loop-i-preserved : goal.loop-i-preserved
loop-i-preserved g c = record {
  place = omega arith;
  within = omega arith;
  reached = piece_more _ _ _ _ _ _ _ c.loop-i.i 4 32 _ _ (omega arith) (omega arith) c.load_word.ensures c.loop-i.invariant.reached c.together_word.ensures refl;
}

pub returns-in_default : goal.returns-in_default
returns-in_default g c =
    let k = length c.args.piece.now % 4 in
    piece_more _ _ _ _ _ _ _ (length c.args.piece.now - k) k _ _ _ (omega arith) (omega arith) c.load_rest-x.ensures (state_at _ _ _ (omega arith) c.loop-i.invariant.reached)
    c.together_rest.ensures (omega arith)
