-- `acorn::run_steps` meets its contract.
use mathlib.Core.Path.{ap, ◌∙◌}
use native.Mathlib.Omega.{arith}
use Rattle.acorn_kernel.specs.Together.{state_of}
use Rattle.acorn.proofs.StretchRuns.{state_at, steps_more}
use Rattle.acorn.proofs.run_steps.Goals as goal
use Rattle.acorn.proofs.run_steps.Goals.{else-loop-n-test, then-loop-n-test+else-last-n-gt32}

pub loop-n-preserved : goal.loop-n-preserved
loop-n-preserved g c =
    let v = c.loop-n in
    let controls = c.controls_at.ensures in
    record {
      place = omega arith;
      within = omega arith;
      reached = λ row done S takes reached.
          steps_more (λ n x. goal.F-post g c.args.message n x) row S _ _ _ _ done _ _ _ takes (omega arith) c.loop-n-test.true v.invariant.place c.message.ensures
          controls.ca_is controls.cb_is (v.invariant.reached row done S takes reached) c.together_word.ensures;
    }

pub returns : goal.returns
returns g c row done S takes reached =
    let v = c.loop-n in
    elim c.loop-n-test.branch [
      | else-loop-n-test w ↦ ap state_of w.t-is ∙ state_at _ _ _ (omega arith) (v.invariant.reached row done S takes reached)
      | then-loop-n-test+else-last-n-gt32 w ↦
          let controls = w.controls_at.ensures in
          ap state_of w.t-is ∙ state_at _ _ _ (omega arith)
          (steps_more (λ n x. goal.F-post g c.args.message n x) row S _ _ _ _ done _ _ _ takes (omega arith) w.loop-n-test.true v.invariant.place w.message.ensures
          controls.ca_is controls.cb_is (v.invariant.reached row done S takes reached) w.together_word.ensures)
    ]
