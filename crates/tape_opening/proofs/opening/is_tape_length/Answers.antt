-- `is_tape_length` is the rule for a tape's length.
use borrow.Author.Tests.{le-leb, lt-leb}
use native.Mathlib.Omega.{arith}
use Rattle.tape_model.specs.Tape.{empty_tape_length, is_tape_length}
use Rattle.tape_opening.proofs.opening.is_tape_length.Goals as goal

pub returns-then-n-lt-EMPTY_TAPE_LENGTH : goal.returns-then-n-lt-EMPTY_TAPE_LENGTH
unfolding is_tape_length
returns-then-n-lt-EMPTY_TAPE_LENGTH c = rw (lt-leb empty_tape_length c.args.n (omega (arith, c.if-n-lt-EMPTY_TAPE_LENGTH.true)))

pub returns : goal.returns
unfolding is_tape_length
returns c = rw (le-leb empty_tape_length c.args.n (omega (arith, c.if-n-lt-EMPTY_TAPE_LENGTH.false))) c.is_tickets_length.ensures
