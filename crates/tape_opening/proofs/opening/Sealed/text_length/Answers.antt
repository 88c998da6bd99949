-- `text_length` is the length of the tape without head and tag.
use native.Mathlib.Omega.{arith}
use Rattle.tape_opening.proofs.Sizes.{tape_size}
use Rattle.tape_opening.proofs.opening.Sealed.text_length.Goals as goal

pub overflow_sub-result : goal.overflow_sub-result
overflow_sub-result c = let s = c.args.self.now in (tape_size s.key.now s.tape.now s.passed).long

pub returns : goal.returns
returns c = let s = c.args.self.now in omega (arith, (tape_size s.key.now s.tape.now s.passed).long)
