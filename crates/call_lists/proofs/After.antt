-- Every call keeps what `Reached` says, and so does every list of calls; and the kind stays.
use mathlib.Core.Path.{◌≡◌, refl, ◌∙◌}
use mathlib.Core.List.{List}
use Rattle.acorn_model.specs.declared.Kind.{Kind}
use Rattle.calls.specs.Calls.{Work, Outcome, refused_with}
use Rattle.calls.specs.Lists.{Entry}
use Rattle.acorn_model.specs.Machine.{Machine, fresh, Call, begin, data_call, seal_text, check_text, seal_close, check_close, output_of, refusal, run_through, enter, cleared, count_data, count_text, begun, data_taken, text_taken, text_ended, closed, wrote, work, call}
use Rattle.acorn_model.specs.Lists.{Log, logged, join_logs, log_of}
use Rattle.call_lists.specs.MachineLists.{machine_after, log_from}
use Rattle.acorn_model.proofs.Refusals.{passed, never_7}
use Rattle.calls.proofs.Refusals.{by_number}
use Rattle.calls.proofs.Lists.{entry_of, kept-by_list}
use Rattle.call_lists.proofs.Logs.{followed_by-nothing, log_last, refused_adds, work-adds}
use Rattle.call_lists.proofs.Reached.{Reached, fresh_reached}
use Rattle.call_lists.proofs.Kept.{ended_kind, work-kept}

-- ## One call

pub call_kept : (m : Machine) (c : Call) (log : Log) → Reached m log → Reached (call m c).next (join_logs log (logged (entry_of call m c)))
unfolding call refused_with
call_kept m c log r =
    by_number (λ (o : Outcome Machine Work). Reached o.next (join_logs log (logged (record { call = c; answer = o.answer; out = o.out }))))
    (refusal m c) (work m c) (refused_with (refusal m c) m (output_of c))
    (λ e. rw (work-adds m c) (work-kept m c log (passed m c e) r))
    (λ _. rw (refused_adds c (refusal m c) (output_of c) (never_7 m c), followed_by-nothing) r)

work_kind : (m : Machine) (c : Call) → (work m c).next.kind ≡ m.kind
unfolding work wrote begun data_taken text_taken text_ended closed enter cleared count_data count_text run_through
work_kind m (begin key nonce n) = refl
work_kind m (data_call piece) = refl
work_kind m (seal_text piece out) = ended_kind m
work_kind m (check_text piece) = ended_kind m
work_kind m (seal_close out) = ended_kind m
work_kind m (check_close tag) = ended_kind m

pub call_kind : (m : Machine) (c : Call) → (call m c).next.kind ≡ m.kind
unfolding call refused_with
call_kind m c =
    by_number (λ (o : Outcome Machine Work). o.next.kind ≡ m.kind)
    (refusal m c) (work m c) (refused_with (refusal m c) m (output_of c)) (λ _. work_kind m c) (λ _. refl)

-- ## A list of calls from a fresh machine

module _ (kind : Kind) (calls : List Call) where
  pub reached_after : Reached (machine_after kind calls) (log_from kind calls)
  unfolding log_of
  reached_after =
      kept-by_list call (λ (m : Machine) (es : List (Entry Call Work)). Reached m (log_of es))
      (λ m c es r. rw (log_last es (entry_of call m c)) (call_kept m c (log_of es) r)) (fresh kind) calls (fresh_reached kind)

  pub kind_after : (machine_after kind calls).kind ≡ kind
  kind_after =
      kept-by_list call (λ (m : Machine) (es : List (Entry Call Work)). m.kind ≡ kind)
      (λ m c es k. call_kind m c ∙ k) (fresh kind) calls (unfold fresh in refl)
