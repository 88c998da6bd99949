-- `acorn_kernel::together` meets its contract.
use mathlib.Core.Path.{ap₂, ◌∙◌}
use Rattle.acorn_model.specs.Bits.{◌⊕◌}
use Rattle.acorn_kernel.proofs.WordBits.{bit-xor}
use Rattle.acorn_kernel.proofs.TogetherSteps.{together_steps}
use Rattle.acorn_kernel.proofs.together.Goals as goal

pub returns : goal.returns
returns c =
    let a = c.args in
    together_steps a.s a.x a.opening a.controls.ca a.controls.cb a.k c.requires.1 c.keystream_word-z.result c.feedback_word-f.result c.mask.result
    c.keystream_word-z.ensures c.feedback_word-f.ensures c.mask.ensures _
    c.updated.result c.updated-2.result c.updated-3.result c.updated-4.result c.updated-5.result _
    c.updated.ensures c.shifted.ensures c.updated-2.ensures c.shifted-2.ensures c.updated-3.ensures c.shifted-3.ensures c.updated-4.ensures c.shifted-4.ensures
    c.updated-5.ensures c.shifted-5.ensures
    (λ q l. bit-xor c.from.result c.from-2.result q ∙ ap₂ ◌⊕◌ (c.from.ensures q l) (c.from-2.ensures q l)) c.shifted_last.ensures.0 c.shifted_last.ensures.1
