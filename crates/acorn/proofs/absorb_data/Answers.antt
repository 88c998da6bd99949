-- `acorn::absorb_data` meets its contract.
use Rattle.acorn.specs.Table.{first_step}
use Rattle.acorn.proofs.StretchRuns.{data_all}
use Rattle.acorn.proofs.absorb_data.Goals as goal

pub returns : goal.returns
unfolding first_step
returns c = data_all _ _ _ c.controls_at.ensures.ca_is c.controls_at.ensures.cb_is c.absorb.ensures
