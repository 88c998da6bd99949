-- `Session::text_taken` meets its contract.
use Rattle.session.proofs.NextSession.{text_session}
use Rattle.session.proofs.Session.text_taken.Goals as goal

pub returns : goal.returns
returns c state = let a = c.args in text_session a.self a.state _ c.data_end_steps.ensures a.piece.now state
