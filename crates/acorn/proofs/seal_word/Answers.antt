-- `acorn::seal_word` meets its contract.
use mathlib.Core.Bool.{false}
use native.Mathlib.Omega.{arith}
use Rattle.acorn.specs.Table.{first_step}
use Rattle.acorn.proofs.StretchRuns.{text_further}
use Rattle.acorn.proofs.seal_word.Goals as goal

pub returns : goal.returns
unfolding first_step
returns c S out₀ u =
    let controls = c.controls_at.ensures in
    text_further false S c.args.piece.now out₀ c.args.at 4 32 c.load_word-x.result c.together_word-ks.result.ks _ _ _ _ _ _
    (omega arith) (omega arith) controls.ca_is controls.cb_is u c.load_word-x.ensures c.together_word-ks.ensures c.store_word.ensures
