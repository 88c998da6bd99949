-- `state_update128` meets its contract.
use borrow.Author.Rules.{rules}
use Rattle.single_step.proofs.Places.{step_made}
use Rattle.single_step.proofs.state_update128.Goals as goal

pub returns : goal.returns
returns c =
    let a = c.args in
    let keystream = c.ksg128-ks in
    let feedback = c.fbk128-f in
    step_made a.s c.copy_from_slice.new.self a.m a.ca a.cb keystream.result feedback.result (search rules) keystream.ensures feedback.ensures
    c.copy_from_slice.ensures.after
