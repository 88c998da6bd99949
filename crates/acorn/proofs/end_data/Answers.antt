-- `acorn::end_data` meets its contract.
use mathlib.Core.Path.{◌≡◌, sym, ap, ◌∙◌}
use mathlib.Core.Bool.{true}
use Prim.Native.Nat.{ℕ, ◌+◌, ◌-◌}
use native.Mathlib.Omega.{arith}
use borrow.Author.Rules.{rules}
use lib.Dec.{eqb}
use Rattle.acorn_model.specs.Bits.{bit}
use Rattle.acorn_model.specs.Stretches.{data_end}
use Rattle.acorn.specs.Table.{first_step, row_of, ca_at, cb_at}
use Rattle.acorn.specs.declared.stretch.StretchName.TheVariants.{DataEnd}
use Rattle.acorn.proofs.StretchRuns.{state_none, state_all}
use Rattle.acorn.proofs.ControlTable.{steps_of, ca_of_row, cb_of_row}
use Rattle.acorn.proofs.FixedRuns.{end_takes}
use Rattle.acorn.proofs.end_data.Goals as goal

pub returns : goal.returns
unfolding first_step row_of steps_of
returns c =
    state_all data_end _ _ 256 (omega arith)
    (c.run_steps.ensures data_end 0 _
    (λ n x l h d p.
    let step : 526080 + (n - 526080) ≡ n = omega arith in
    let one : (i : ℕ) → bit x i ≡ eqb (n - 526080 + i) 0 = search rules in
    end_takes true n (n - 526080) x (omega arith) d (ap ca_at (sym step) ∙ ca_of_row (n - 526080) DataEnd (omega arith)) (ap cb_at (sym step) ∙ cb_of_row (n - 526080) DataEnd (omega arith)) one)
    (state_none _ _))
