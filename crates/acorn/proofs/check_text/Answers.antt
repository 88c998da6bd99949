-- `acorn::check_text` meets its contract.
use Rattle.acorn.specs.Table.{first_step}
use Rattle.acorn.proofs.StretchRuns.{checked_all}
use Rattle.acorn.proofs.check_text.Goals as goal

pub returns : goal.returns
unfolding first_step
returns c = checked_all _ _ _ c.controls_at.ensures.ca_is c.controls_at.ensures.cb_is c.absorb.ensures
