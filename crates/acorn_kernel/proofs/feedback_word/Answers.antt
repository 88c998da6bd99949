-- `acorn_kernel::feedback_word` meets its contract.
use mathlib.Core.Path.{◌∙◌}
use Rattle.acorn_kernel.specs.Together.{state_of}
use Rattle.acorn_kernel.proofs.StepWords.{f_word}
use borrow.Author.Rules.{rules}
use Rattle.acorn_kernel.proofs.feedback_word.Goals as goal

pub returns : goal.returns
returns c j h =
    f_word (state_of c.args.s) j h c.args.controls.ca c.args.controls.cb c.args.z c.half.result c.half-2.result c.half-3.result c.half-4.result c.half-5.result c.majority.result c.mask.result c.half-6.result c.mask-2.result
    (search rules) (c.requires j h) (c.half.ensures j h ∙ c.from.ensures j h) (c.half-2.ensures j h ∙ c.updated.ensures j h)
    (c.half-3.ensures j h ∙ c.from-2.ensures j h) (c.half-4.ensures j h ∙ c.from-3.ensures j h)
    (c.half-5.ensures j h ∙ c.from-4.ensures j h) (c.majority.ensures j) (c.mask.ensures j h) (c.half-6.ensures j h ∙ c.from-5.ensures j h) (c.mask-2.ensures j h)
