-- `acorn::text_rest` meets its contract.
use native.Mathlib.Omega.{arith}
use Rattle.acorn.specs.Table.{first_step}
use Rattle.acorn.proofs.StretchRuns.{text_further}
use Rattle.acorn.proofs.text_rest.Goals as goal

pub returns : goal.returns
unfolding first_step
returns g c S out₀ u =
    let controls = c.controls_at.ensures in
    text_further _ S c.args.piece.now out₀ c.args.at c.args.k _ c.load_rest-x.result c.together_rest-ks.result.ks _ _ _ _ _ _
    (omega arith) (omega arith) controls.ca_is controls.cb_is u c.load_rest-x.ensures c.together_rest-ks.ensures c.store_rest.ensures
