-- `room_behind_line`: the word, i numbers and what is left are the room before each turn of the loop.
use native.Mathlib.Omega.{arith}
use borrow.Author.Rules.{rules}
use Rattle.tape_model.specs.Listing.{numbers}
use Rattle.listing.proofs.LineLengths.{counted_more, number_too_long}
use Rattle.listing.proofs.lengths.room_behind_line.Goals as goal

pub loop-n-init : goal.loop-n-init
unfolding numbers
loop-n-init c = search rules

pub returns-in_err-left-2 : goal.returns-in_err-left-2
returns-in_err-left-2 c =
    let short = number_too_long c.args.word c.args.ns.now c.args.room c.loop-n.n-index c.loop-n.left c.loop-n.invariant (omega arith) (omega (arith, c.in_err-left-2.ensures, c.decimal_length.ensures)) in
    rw c.from_residual-in_err-left-2.ensures (λ fits. omega (arith, short, fits))

pub loop-n-preserved : goal.loop-n-preserved
loop-n-preserved c =
    omega (arith, counted_more c.args.word c.args.ns.now c.args.room c.loop-n.n-index c.loop-n.left c.loop-n.invariant (omega arith), c.in_ok-left-2.ensures, c.decimal_length.ensures)
