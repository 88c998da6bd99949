-- `acorn::decrypt` meets its contract.
use native.Mathlib.Omega.{arith}
use Rattle.acorn_kernel.specs.Together.{state_of}
use Rattle.acorn.specs.Table.{first_step}
use Rattle.acorn.proofs.StretchRuns.{text_none, text_further, text_all}
use Rattle.acorn.proofs.decrypt.Goals as goal

pub loop-i-init : goal.loop-i-init
loop-i-init c = record { place = omega arith; within = omega arith; run = text_none _ _ _ _ }

pub loop-i-preserved : goal.loop-i-preserved
unfolding first_step
loop-i-preserved c =
    let controls = c.controls_at.ensures in
    record {
      place = omega arith;
      within = omega arith;
      run = text_further _ (state_of c.args.s) c.args.piece.now c.args.out.now c.loop-i.i 4 32 c.load_word-x.result c.together_word-m.result.ks _ _ _ _ _ _
          (omega arith) (omega arith) controls.ca_is controls.cb_is c.loop-i.invariant.run c.load_word-x.ensures c.together_word-m.ensures c.store_word.ensures;
    }

pub returns-then-i-piece : goal.returns-then-i-piece
returns-then-i-piece c = text_all _ _ _ _ _ _ _ (omega arith) (omega arith) (c.text_rest-t.ensures _ _ c.loop-i.invariant.run)

pub returns-else-i-piece : goal.returns-else-i-piece
returns-else-i-piece c = text_all _ _ _ _ _ _ _ (omega arith) (omega arith) c.loop-i.invariant.run
