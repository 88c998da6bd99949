-- `acorn::stretch::controls_at` meets its contract.
use mathlib.Core.Path.{sym, ◌∙◌}
use Prim.Native.Nat.{◌-◌}
use native.Mathlib.Omega.{arith}
use borrow.Author.Tests.{lt-ltb, le-ltb}
use Rattle.acorn.specs.Table.{row_of, first_step}
use Rattle.acorn.specs.declared.stretch.StretchName.TheVariants.{Start, Data, DataEnd, Text, TextEnd, Final}
use Rattle.acorn.proofs.ControlTable.{in_start, in_data, in_data-end, in-text, in_text-end, in_final, controls_in}
use Rattle.acorn.proofs.stretch.controls_at.Goals as goal

pub returns-in-0-to-1791 : goal.returns-in-0-to-1791
unfolding row_of first_step
returns-in-0-to-1791 c =
    let n = c.args.step in
    let row = c.row.ensures in
    controls_in n Start (in_start n (omega arith)) _ _ _ row.0 row.1 row.2

pub returns-in-1792-to-526079 : goal.returns-in-1792-to-526079
unfolding row_of first_step
returns-in-1792-to-526079 c =
    let n = c.args.step in
    let row = c.row-in-1792-to-526079.ensures in
    controls_in n Data (in_data n (omega arith) (omega arith)) _ _ _ row.0 row.1 row.2

pub returns-in-526080-to-526207 : goal.returns-in-526080-to-526207
unfolding row_of first_step
returns-in-526080-to-526207 c =
    let n = c.args.step in
    let row = c.row-in-526080-to-526207.ensures in
    controls_in n DataEnd (in_data-end n (omega arith) (omega arith)) _ _ _ row.0 (row.1 ∙ sym (lt-ltb (n - 526080) 128 (omega arith))) row.2

pub returns-in-526208-to-526335 : goal.returns-in-526208-to-526335
unfolding row_of first_step
returns-in-526208-to-526335 c =
    let n = c.args.step in
    let row = c.row-in-526208-to-526335.ensures in
    controls_in n DataEnd (in_data-end n (omega arith) (omega arith)) _ _ _ row.0 (row.1 ∙ sym (le-ltb (n - 526080) 128 (omega arith))) row.2

pub returns-in-526336-to-1050623 : goal.returns-in-526336-to-1050623
unfolding row_of first_step
returns-in-526336-to-1050623 c =
    let n = c.args.step in
    let row = c.row-in-526336-to-1050623.ensures in
    controls_in n Text (in-text n (omega arith) (omega arith)) _ _ _ row.0 row.1 row.2

pub returns-in-1050624-to-1050751 : goal.returns-in-1050624-to-1050751
unfolding row_of first_step
returns-in-1050624-to-1050751 c =
    let n = c.args.step in
    let row = c.row-in-1050624-to-1050751.ensures in
    controls_in n TextEnd (in_text-end n (omega arith) (omega arith)) _ _ _ row.0 (row.1 ∙ sym (lt-ltb (n - 1050624) 128 (omega arith))) row.2

pub returns-in-1050752-to-1050879 : goal.returns-in-1050752-to-1050879
unfolding row_of first_step
returns-in-1050752-to-1050879 c =
    let n = c.args.step in
    let row = c.row-in-1050752-to-1050879.ensures in
    controls_in n TextEnd (in_text-end n (omega arith) (omega arith)) _ _ _ row.0 (row.1 ∙ sym (le-ltb (n - 1050624) 128 (omega arith))) row.2

pub returns-in_default : goal.returns-in_default
unfolding row_of first_step
returns-in_default c =
    let n = c.args.step in
    let row = c.row-in_default.ensures in
    controls_in n Final (in_final n (omega arith)) _ _ _ row.0 row.1 row.2
