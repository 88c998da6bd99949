-- `acorn::stretch::key_again` meets its contract.
use mathlib.Core.Path.{sym, ap₂, ◌∙◌}
use Rattle.acorn_model.specs.Bits.{◌⊕◌}
use Rattle.acorn_kernel.proofs.WordBits.{bit-xor}
use Rattle.acorn.proofs.FixedRuns.{start-again}
use Rattle.acorn.proofs.stretch.key_again.Goals as goal

pub returns : goal.returns
returns c nonce i h =
    bit-xor c.load_word.result c.leading_one.result i ∙ ap₂ ◌⊕◌ (c.load_word.ensures i h) (c.leading_one.ensures i)
    ∙ sym (start-again c.args.key.now nonce c.args.n i c.requires.2 h c.requires.1)
