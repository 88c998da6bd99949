-- `Session::closed` meets its contract.
use Rattle.session.proofs.NextSession.{closed_session}
use Rattle.session.proofs.Session.closed.Goals as goal

pub returns : goal.returns
returns c = closed_session c.args.self c.zeros.result _ c.data_end_steps.ensures c.zeros.ensures
