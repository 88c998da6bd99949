-- Demands 3 and 2 on sessions, from the contracts of the methods and from what the machine is after a list.
use mathlib.Core.Path.{◌≡◌, refl, sym, subst}
use mathlib.Core.List.{List}
use Prim.Native.Nat.{ℕ, ◌<◌, ◌^◌}
use Rattle.acorn_model.specs.declared.Kind.{Kind}
use Rattle.calls.specs.Calls.{Work, answer_reply}
use Rattle.calls.specs.Lists.{Entry, calls_of, entries, handed_on}
use Rattle.acorn_model.specs.Machine.{Machine, Call, fresh, call}
use Rattle.acorn_model.specs.Lists.{Log}
use Rattle.call_lists.proofs.Reached.{Reached, fresh_reached, reached_small}
use Rattle.call_lists.proofs.After.{call_kept}
use Rattle.session.specs.declared.Session.{Session}
use Rattle.session.specs.declared.Reply.{Reply as SessionReply}
use Rattle.session.specs.Clauses.{machine_of, session_outcome, Called}
use Rattle.session.proofs.Wrapping.{called-within}
use Rattle.demands.specs.SessionFacts.{AsMachine}
use Rattle.demands.specs.Sessions.{SessionList, SessionDemand}
use Rattle.demands.proofs.SessionFacts.{session_facts, cuts_agree}
use Rattle.calls.proofs.Made.{as_model}

-- a machine that a list of calls led to
pub record HasRun (m : Machine) : Type 0 where
  pub log : Log
  pub reached : Reached m log

pub has_run-fresh : (kind : Kind) → HasRun (fresh kind)
has_run-fresh kind = record { log = _; reached = fresh_reached kind }

pub runs_on : (m : Machine) (c : Call) → HasRun m → HasRun (call m c).next
runs_on m c h = record { log = _; reached = call_kept m c h.log h.reached }

-- its count of steps does not wrap around
pub run_small : (m : Machine) → HasRun m → m.counts.steps < 2 ^ 64
run_small m h = reached_small m h.log h.reached

says : (s : Session) (c : Call) (r : SessionReply) (out : List ℕ) → HasRun (machine_of s) → Called s c r out
    → record { next = machine_of r.session; answer = answer_reply r.answer; out = out } ≡ call (machine_of s) c
unfolding session_outcome
says s c r out h k = called-within s c r out (machine_of s) refl (run_small _ (runs_on (machine_of s) c h)) k

module _ (kind : Kind) (es : List (Entry Call Work)) (e : Session) (l : SessionList kind es e) where
  as_machine : AsMachine kind es (machine_of e)
  as_machine =
      subst (λ (m : Machine). (es ≡ entries call m (calls_of es)) × (machine_of e ≡ handed_on call m (calls_of es))) l.is_fresh
      (as_model (λ (r : SessionReply). r.session) (λ (r : SessionReply). answer_reply r.answer) Called call machine_of HasRun says runs_on l.first e es
      (subst HasRun (sym l.is_fresh) (has_run-fresh kind)) l.calls)

pub session_demand : SessionDemand
session_demand =
    record {
      lists = λ kind es e l. session_facts kind es (machine_of e) (as_machine kind es e l);
      cuts = λ kind es es' e e' l l'. cuts_agree kind es (machine_of e) es' (machine_of e') (as_machine kind es e l) (as_machine kind es' e' l');
    }
