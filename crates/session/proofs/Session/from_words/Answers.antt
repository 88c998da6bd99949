-- `Session::from_words` meets its contract.
use Rattle.session.specs.Words.{session_in}
use Rattle.session.proofs.Session.from_words.Goals as goal

pub returns : goal.returns
unfolding session_in
returns c = rw (c.phase_in.ensures, c.kind_in.ensures)
