-- `put_decimal`: one digit, or those of the tenth part and then the last.
use native.Mathlib.Omega.{arith}
use borrow.Author.Rules.{rules}
use Rattle.listing.proofs.Texts.{one_digit_start, one_digit_wrote, digits_before_room, last_digit_start, last_digit_wrote}
use Rattle.listing.proofs.text.+put_decimal.Goals as goal

-- ## One digit

pub bounds-out-0 : goal.bounds-out-0
bounds-out-0 t c = one_digit_start c.args.n c.args.out.now c.requires c.if-n-lt10.true

pub returns-then-n-lt10 : goal.returns-then-n-lt10
returns-then-n-lt10 t c = one_digit_wrote c.args.n c.args.out.now c.requires c.if-n-lt10.true

-- ## The digits of the tenth part, and the last

pub put_decimal-k-requires : goal.put_decimal-k-requires
put_decimal-k-requires t c = (omega arith, digits_before_room c.args.n c.args.out.now c.requires c.if-n-lt10.false (omega arith))

pub bounds-out-k : goal.bounds-out-k
bounds-out-k t c = last_digit_start c.args.n c.args.out.now c.requires c.if-n-lt10.false (omega arith) _ _ c.put_decimal-k.ensures

pub overflow_add-result : goal.overflow_add-result
overflow_add-result t c =
    let room = last_digit_start c.args.n c.args.out.now c.requires c.if-n-lt10.false (omega arith) _ _ c.put_decimal-k.ensures in
    search rules

pub returns : goal.returns
returns t c = last_digit_wrote c.args.n c.args.out.now c.requires c.if-n-lt10.false (omega arith) _ _ c.put_decimal-k.ensures
