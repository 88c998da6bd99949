-- `acorn_kernel::keystream_word` meets its contract.
use mathlib.Core.Path.{◌∙◌}
use Rattle.acorn_kernel.specs.Together.{state_of}
use Rattle.acorn_kernel.proofs.StepWords.{ks_word}
use Rattle.acorn_kernel.proofs.keystream_word.Goals as goal

pub returns : goal.returns
returns c j h =
    ks_word (state_of c.args.s) j c.half.result c.half-2.result c.half-3.result c.half-4.result c.half-5.result c.majority.result c.half-6.result c.half-7.result c.half-8.result c.choice.result
    (c.half.ensures j h ∙ c.from.ensures j h) (c.half-2.ensures j h ∙ c.updated.ensures j h)
    (c.half-3.ensures j h ∙ c.from-2.ensures j h) (c.half-4.ensures j h ∙ c.updated-2.ensures j h)
    (c.half-5.ensures j h ∙ c.updated-3.ensures j h) (c.majority.ensures j)
    (c.half-6.ensures j h ∙ c.updated-4.ensures j h) (c.half-7.ensures j h ∙ c.from-3.ensures j h)
    (c.half-8.ensures j h ∙ c.from-4.ensures j h) (c.choice.ensures j)
