-- Demand 3 on sessions, and demand 2: over all lists of a session's calls, of either kind, whatever their pieces and whichever are refused.
use Rattle.std.specs.Prelude.{◌≡◌, List}
use Rattle.acorn_model.specs.declared.Kind.{Kind}
use Rattle.calls.specs.Calls.{Work, answer_reply}
use Rattle.calls.specs.Lists.{Entry, CallsMade}
use Rattle.acorn_model.specs.Machine.{Call, fresh}
use Rattle.session.specs.declared.Session.{Session}
use Rattle.session.specs.declared.Reply.{Reply as SessionReply}
use Rattle.session.specs.Clauses.{machine_of, Called}
use Rattle.demands.specs.SessionFacts.{SessionFacts, CutsAgree}

-- a list of calls from a fresh session of this kind, which led to the session e
pub record SessionList (kind : Kind) (es : List (Entry Call Work)) (e : Session) : Type 0 where
  pub first : Session
  pub is_fresh : machine_of first ≡ fresh kind
  pub calls : CallsMade {R = SessionReply} (λ r. r.session) (λ r. answer_reply r.answer) Called first es e

pub record SessionDemand : Type 0 where
  -- what is demanded holds of every list, with the machine that the session stands for at its end
  pub lists : (kind : Kind) (es : List (Entry Call Work)) (e : Session) → SessionList kind es e → SessionFacts kind es (machine_of e)
  -- wherever the pieces are cut
  pub cuts : (kind : Kind) (es es' : List (Entry Call Work)) (e e' : Session) → SessionList kind es e → SessionList kind es' e'
      → CutsAgree kind es (machine_of e) es' (machine_of e')
