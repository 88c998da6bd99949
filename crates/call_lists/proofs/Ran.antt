-- The sealing machine below a writer: fresh at first, and every call on it accepted.
use mathlib.Core.Path.{◌≡◌, refl, sym, ap, ap₂, ◌∙◌}
use mathlib.Core.List.{List, [], ◌∷◌, ◌++◌}
use Rattle.acorn_model.specs.declared.Kind.TheVariants.{Sealing}
use Rattle.calls.specs.Calls.{done, Work, Outcome}
use Rattle.calls.specs.Lists.{Entry, entries, handed_on, AllAccepted}
use Rattle.acorn_model.specs.Machine.{Machine, fresh, Call, work, call}
use Rattle.acorn_model.specs.Lists.{Log, nothing, logged, join_logs, log_of}
use Rattle.acorn_model.proofs.Refusals.{Passed, works}
use Rattle.calls.proofs.Lists.{entry_of, handed_append, entries_append}
use Rattle.call_lists.proofs.Logs.{added, work-adds, log_last}
use Rattle.call_lists.proofs.Reached.{Reached}
use Rattle.call_lists.proofs.After.{reached_after, kind_after}

-- m is the fresh sealing machine after these calls, each of which it accepted, and they amount to this log
pub record Ran (m : Machine) (calls : List Call) (log : Log) : Type 0 where
  pub machine : m ≡ handed_on call (fresh Sealing) calls
  pub accepts : AllAccepted (entries call (fresh Sealing) calls)
  pub log_is : log ≡ log_of (entries call (fresh Sealing) calls)

all_append : (es fs : List (Entry Call Work)) → AllAccepted es → AllAccepted fs → AllAccepted (es ++ fs)
all_append [] fs h g = g
all_append (e ∷ es) fs h g = (h.0, all_append es fs h.1 g)

module _ (m : Machine) (calls : List Call) (log : Log) (r : Ran m calls log) where
  pub ran_reached : Reached m log
  ran_reached = rw (r.machine, r.log_is) (reached_after Sealing calls)

  pub ran_kind : m.kind ≡ Sealing
  ran_kind = ap (λ (x : Machine). x.kind) r.machine ∙ kind_after Sealing calls

  last_entry : (c : Call) → entries call (fresh Sealing) (calls ++ (c ∷ [])) ≡ entries call (fresh Sealing) calls ++ (entry_of call m c ∷ [])
  unfolding entries
  last_entry c =
      entries_append call (fresh Sealing) calls (c ∷ [])
      ∙ ap (λ (x : Machine). entries call (fresh Sealing) calls ++ (entry_of call x c ∷ [])) (sym r.machine)

  -- one more call that it accepts
  pub ran_on : (c : Call) (w : Work) → Passed m c → (work m c).answer ≡ done w → Ran (work m c).next (calls ++ (c ∷ [])) (join_logs log (added m c))
  unfolding handed_on
  ran_on c w p a =
      let o : call m c ≡ work m c = works m c p in
      record {
        machine =
            ap (λ (x : Outcome Machine Work). x.next) (sym o) ∙ ap (λ (x : Machine). (call x c).next) r.machine
            ∙ sym (handed_append call (fresh Sealing) calls (c ∷ []));
        accepts =
            rw (last_entry c)
            (all_append (entries call (fresh Sealing) calls) (entry_of call m c ∷ []) r.accepts ((w, ap (λ (x : Outcome Machine Work). x.answer) o ∙ a), tt));
        log_is =
            ap₂ join_logs r.log_is (sym (ap (λ (x : Outcome Machine Work). logged (record { call = c; answer = x.answer; out = x.out })) o ∙ work-adds m c))
            ∙ sym (ap log_of (last_entry c) ∙ log_last (entries call (fresh Sealing) calls) (entry_of call m c));
      }

pub ran_fresh : Ran (fresh Sealing) [] nothing
unfolding handed_on entries log_of
ran_fresh = record { machine = refl; accepts = tt; log_is = refl }
