-- `decimal_length`: the digits counted and those of what is left are one more than all.
use native.Mathlib.Omega.{arith}
use borrow.Author.Rules.{rules}
use Rattle.listing.proofs.LineLengths.{one_digit, digit_more, digits_room}
use Rattle.listing.proofs.lengths.decimal_length.Goals as goal

pub overflow_add-digits : goal.overflow_add-digits
overflow_add-digits c = let few = digits_room 20 c.args.n in search rules

pub loop-left-preserved : goal.loop-left-preserved
loop-left-preserved c = omega (arith, digit_more c.loop-left.left (omega arith) (omega arith))

pub returns : goal.returns
returns c = omega (arith, one_digit c.loop-left.left (omega arith), digits_room 20 c.args.n)
