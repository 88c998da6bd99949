-- `put_numbers`: i numbers are written before each turn of the loop.
use native.Mathlib.Omega.{arith}
use borrow.Author.Rules.{rules}
use Rattle.tape_model.specs.Listing.{numbers}
use Rattle.listing.proofs.Texts.{wrote_nothing, number-start, number-room, number-wrote, number-within}
use Rattle.listing.proofs.text.put_numbers.Goals as goal

pub loop-n-init : goal.loop-n-init
unfolding numbers
loop-n-init c = wrote_nothing c.args.out.now

pub slice_bounds-put_number-count : goal.slice_bounds-put_number-count
slice_bounds-put_number-count c = number-start c.args.ns.now c.args.out.now c.loop-n.out c.loop-n.n-index c.loop-n.at (omega arith) c.requires c.loop-n.invariant

pub slice_bounds-put_number-start : goal.slice_bounds-put_number-start
slice_bounds-put_number-start c = number-start c.args.ns.now c.args.out.now c.loop-n.out c.loop-n.n-index c.loop-n.at (omega arith) c.requires c.loop-n.invariant

pub put_number-at-requires : goal.put_number-at-requires
put_number-at-requires c = number-room c.args.ns.now c.args.out.now c.loop-n.out c.loop-n.n-index c.loop-n.at (omega arith) c.requires c.loop-n.invariant

pub overflow_add-at : goal.overflow_add-at
overflow_add-at c =
    let within = number-within c.args.ns.now c.args.out.now c.loop-n.out c.loop-n.n-index c.loop-n.at (omega arith) c.requires c.loop-n.invariant _ _ c.put_number-at.ensures in
    search rules

pub loop-n-preserved : goal.loop-n-preserved
loop-n-preserved c =
    number-wrote c.args.ns.now c.args.out.now c.loop-n.out c.loop-n.n-index c.loop-n.at (omega arith) c.requires c.loop-n.invariant _ _ c.put_number-at.ensures
