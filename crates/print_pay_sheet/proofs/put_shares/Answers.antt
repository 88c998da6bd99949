-- `put_shares`: c lines are written before each turn of the loop.
use mathlib.Core.Path.{ap}
use native.Mathlib.Omega.{arith}
use lib.Seq.{take_all}
use borrow.Author.Rules.{rules}
use Rattle.listing.proofs.Texts.{wrote_nothing, wrote_as}
use Rattle.print_pay_sheet.specs.Printed.{contractor_lines}
use Rattle.print_pay_sheet.proofs.Texts.{line-start, line-room, line_wrote, line-within}
use Rattle.print_pay_sheet.proofs.put_shares.Goals as goal

pub loop-c-init : goal.loop-c-init
unfolding contractor_lines
loop-c-init c = wrote_nothing c.args.text.now

pub slice_bounds-put_share-count : goal.slice_bounds-put_share-count
slice_bounds-put_share-count c =
    line-start c.args.shares.now c.args.text.now c.loop-c.text c.loop-c.c c.loop-c.at (omega arith) c.requires c.loop-c.invariant

pub slice_bounds-put_share-start : goal.slice_bounds-put_share-start
slice_bounds-put_share-start c = slice_bounds-put_share-count c

pub put_share-at-requires : goal.put_share-at-requires
put_share-at-requires c = line-room c.args.shares.now c.args.text.now c.loop-c.text c.loop-c.c c.loop-c.at (omega arith) c.requires c.loop-c.invariant

pub overflow_add-at : goal.overflow_add-at
overflow_add-at c =
    let within = line-within c.args.shares.now c.args.text.now c.loop-c.text c.loop-c.c c.loop-c.at (omega arith) c.requires c.loop-c.invariant _ _ c.put_share-at.ensures in
    search rules

pub loop-c-preserved : goal.loop-c-preserved
loop-c-preserved c =
    line_wrote c.args.shares.now c.args.text.now c.loop-c.text c.loop-c.c c.loop-c.at (omega arith) c.requires c.loop-c.invariant _ _ c.put_share-at.ensures

pub returns : goal.returns
returns c = wrote_as (ap (contractor_lines 0) (take_all c.loop-c.c c.args.shares.now (omega arith))) c.loop-c.invariant
