-- Counts that wrap around at 2 ^ 64. A call on a machine whose count wrapped around comes to the same once every count wraps around
-- (`wrapped-call`); an outcome whose count is below 2 ^ 64 stays as it is (`call-within`), and what a session's call comes to is then what the
-- machine does.
use Rattle.std.proofs.Common.{◌≡◌, ℕ, zero, suc, ◌+◌, ◌%◌, ◌^◌, ◌<◌, Bool, true, false, List, [], length, sym, refl, ap, ◌∙◌, ap₂, mod-eq_of_lt, arith, ne_eqb}
use Rattle.acorn_model.specs.declared.Phase.TheVariants.{Data, Text, Closed}
use Rattle.calls.specs.Calls.{◌if◌else◌, Work, unless_refused, left_unchanged, same_bytes, Outcome, refused_with}
use Rattle.acorn_model.specs.Stretches.{Stretch, through, start, data_piece, data_end, text_piece, text_end, final, text_out, tag_bytes}
use Rattle.acorn_model.specs.Machine.{Machine, with_tag_length, with_steps, with_state, with_counts, Call, begin, data_call, seal_text, check_text, seal_close, check_close, output_of, is_checking, is_data, phase_allows, sizes_right, over_limit, output_short, refusal, run_through, enter, cleared, count_data, count_text, begun, data_taken, data_ended, text_taken, text_ended, closed, answered, wrote, verdict, work, call}
use Rattle.session.specs.declared.Session.{Session}
use Rattle.session.specs.declared.Reply.{Reply as SessionReply}
use Rattle.session.specs.Clauses.{machine_of, session_outcome, wrapped, wrapped_machine, wrapped_reply, wrapped_outcome, Called}

-- ## Outcomes wrap around with their machine

-- good or 7: what a checking close that led to the machine m comes to
abbrev pub judged : Bool → Machine → Outcome Machine Work
judged good m = record { next = m; answer = verdict good m; out = [] }

pub wrote-wrapped : (written out : List ℕ) (m : Machine) → wrapped_outcome (wrote written m out) ≡ wrote written (wrapped_machine m) out
unfolding wrapped_outcome wrapped_machine wrapped_reply wrote answered left_unchanged
wrote-wrapped written out m = refl

pub judged-wrapped : (good : Bool) (m : Machine) → wrapped_outcome (judged good m) ≡ judged good (wrapped_machine m)
unfolding wrapped_outcome wrapped_machine wrapped_reply verdict answered left_unchanged
judged-wrapped true m = refl
judged-wrapped false m = refl

-- a call that was sent back left the machine as it was
pub refused_stays : (n : ℕ) (out : List ℕ) (m : Machine) → (n ≡ 7 → ⊥) → wrapped_outcome (refused_with n m out) ≡ refused_with n m out
unfolding wrapped_outcome wrapped_reply refused_with left_unchanged
refused_stays n out m h = rw (ne_eqb n 7 h)

-- every count wrapped around, also that of a call that was sent back
abbrev pub all_wrapped : Outcome Machine Work → Outcome Machine Work
all_wrapped o = record { next = wrapped_machine o.next; answer = wrapped_reply o.answer; out = o.out }

wrote_all : (written out : List ℕ) (m : Machine) → all_wrapped (wrote written m out) ≡ wrote written (wrapped_machine m) out
unfolding wrapped_machine wrapped_reply wrote answered
wrote_all written out m = refl

wrote-same : (v w out : List ℕ) (a b : Machine) → v ≡ w → wrapped_machine a ≡ wrapped_machine b → all_wrapped (wrote v a out) ≡ all_wrapped (wrote w b out)
wrote-same v w out a b d e = wrote_all v out a ∙ ap₂ (λ (x : List ℕ) (m : Machine). wrote x m out) d e ∙ sym (wrote_all w out b)

judged_all : (good : Bool) (m : Machine) → all_wrapped (judged good m) ≡ judged good (wrapped_machine m)
unfolding wrapped_machine wrapped_reply verdict answered
judged_all true m = refl
judged_all false m = refl

refused_all : (n : ℕ) (out : List ℕ) (m : Machine) → all_wrapped (refused_with n m out) ≡ refused_with n (wrapped_machine m) out
unfolding wrapped_reply refused_with
refused_all n out m = refl

-- ## Two machines that are the same once their counts wrap around

wrapped_add : (n k : ℕ) → wrapped (wrapped n + k) ≡ wrapped (n + k)
unfolding wrapped
wrapped_add n k = omega arith

wrapped-twice : (m : Machine) → wrapped_machine (wrapped_machine m) ≡ wrapped_machine m
unfolding wrapped_machine wrapped
wrapped-twice m = let e : m.counts.steps % 2 ^ 64 % 2 ^ 64 ≡ m.counts.steps % 2 ^ 64 = omega arith in rw e

runs : (stretch : Stretch) (a b : Machine) → wrapped_machine a ≡ wrapped_machine b → wrapped_machine (run_through stretch a) ≡ wrapped_machine (run_through stretch b)
unfolding wrapped_machine run_through
runs stretch a b e = λ i. with_counts (with_steps (steps i) (e i).counts) (with_state (through stretch (e i).state) (e i))
  where
    steps : wrapped (a.counts.steps + stretch.steps) ≡ wrapped (b.counts.steps + stretch.steps)
    steps =
        sym (wrapped_add a.counts.steps stretch.steps) ∙ ap (λ (m : Machine). wrapped (m.counts.steps + stretch.steps)) e
        ∙ wrapped_add b.counts.steps stretch.steps

module _ (a b : Machine) (e : wrapped_machine a ≡ wrapped_machine b) where
  same-refusal : (c : Call) → refusal a c ≡ refusal b c
  unfolding wrapped_machine refusal phase_allows sizes_right over_limit output_short
  same-refusal (begin key nonce n) = ap (λ (m : Machine). refusal m (begin key nonce n)) e
  same-refusal (data_call piece) = ap (λ (m : Machine). refusal m (data_call piece)) e
  same-refusal (seal_text piece out) = ap (λ (m : Machine). refusal m (seal_text piece out)) e
  same-refusal (check_text piece) = ap (λ (m : Machine). refusal m (check_text piece)) e
  same-refusal (seal_close out) = ap (λ (m : Machine). refusal m (seal_close out)) e
  same-refusal (check_close tag) = ap (λ (m : Machine). refusal m (check_close tag)) e

  same-begun : (key nonce : List ℕ) (n : ℕ) → wrapped_machine (begun key nonce n a) ≡ wrapped_machine (begun key nonce n b)
  unfolding wrapped_machine begun cleared enter
  same-begun key nonce n = ap (λ (m : Machine). with_tag_length n (enter Data m)) (runs (start key nonce) (cleared a) (cleared b) (ap cleared e))

  same-data : (piece : List ℕ) → wrapped_machine (data_taken piece a) ≡ wrapped_machine (data_taken piece b)
  unfolding wrapped_machine data_taken count_data
  same-data piece = ap (count_data (length piece)) (runs (data_piece piece) a b e)

  same_ended : wrapped_machine (data_ended a) ≡ wrapped_machine (data_ended b)
  unfolding wrapped_machine data_ended
  same_ended = by (is_data a.phase) ∙ ap (λ (m : Machine). wrapped_machine (run_through data_end b if is_data m.phase else b)) e
    where
      by : (t : Bool) → wrapped_machine (run_through data_end a if t else a) ≡ wrapped_machine (run_through data_end b if t else b)
      by true = runs data_end a b e
      by false = e

  same_text : (piece : List ℕ) → wrapped_machine (text_taken piece a) ≡ wrapped_machine (text_taken piece b)
  unfolding wrapped_machine text_taken count_text enter
  same_text piece =
      ap (λ (m : Machine). enter Text (count_text (length piece) m))
      (runs (text_piece (is_checking a.kind) piece) (data_ended a) (data_ended b) same_ended
      ∙ ap (λ (m : Machine). wrapped_machine (run_through (text_piece (is_checking m.kind) piece) (data_ended b))) e)

  same-text_ended : wrapped_machine (text_ended a) ≡ wrapped_machine (text_ended b)
  unfolding text_ended
  same-text_ended = runs text_end (data_ended a) (data_ended b) same_ended

  same-closed : wrapped_machine (closed a) ≡ wrapped_machine (closed b)
  unfolding wrapped_machine closed cleared enter
  same-closed = ap (λ (m : Machine). enter Closed (cleared m)) (runs final (text_ended a) (text_ended b) same-text_ended)

  same_tag : tag_bytes a.tag_length (text_ended a).state ≡ tag_bytes b.tag_length (text_ended b).state
  unfolding wrapped_machine
  same_tag = ap₂ (λ (m t : Machine). tag_bytes m.tag_length t.state) e same-text_ended

  same-work : (c : Call) → all_wrapped (work a c) ≡ all_wrapped (work b c)
  unfolding work wrapped_machine
  same-work (begin key nonce n) = wrote-same _ _ [] _ _ refl (same-begun key nonce n)
  same-work (data_call piece) = wrote-same _ _ [] _ _ refl (same-data piece)
  same-work (seal_text piece out) = wrote-same _ _ out _ _ (ap (λ (m : Machine). text_out false piece m.state) same_ended) (same_text piece)
  same-work (check_text piece) = wrote-same _ _ [] _ _ refl (same_text piece)
  same-work (seal_close out) = wrote-same _ _ out _ _ same_tag same-closed
  same-work (check_close tag) =
      judged_all _ (closed a) ∙ ap₂ judged (ap (same_bytes tag) same_tag) same-closed ∙ sym (judged_all _ (closed b))

  same-unless_refused : (n : ℕ) (c : Call)
      → all_wrapped (unless_refused n (work a c) (refused_with n a (output_of c))) ≡ all_wrapped (unless_refused n (work b c) (refused_with n b (output_of c)))
  unfolding unless_refused
  same-unless_refused zero c = same-work c
  same-unless_refused (suc n) c =
      refused_all (suc n) (output_of c) a ∙ ap (λ (m : Machine). refused_with (suc n) m (output_of c)) e ∙ sym (refused_all (suc n) (output_of c) b)

  -- a call's outcomes are the same, once the counts wrap around
  pub same-call : (c : Call) → all_wrapped (call a c) ≡ all_wrapped (call b c)
  unfolding call
  same-call c =
      same-unless_refused (refusal a c) c
      ∙ ap (λ (n : ℕ). all_wrapped (unless_refused n (work b c) (refused_with n b (output_of c)))) (same-refusal c)

pub wrapped-call : (m : Machine) (c : Call) → all_wrapped (call (wrapped_machine m) c) ≡ all_wrapped (call m c)
wrapped-call m c = same-call (wrapped_machine m) m (wrapped-twice m) c

-- ## Counts that do not wrap around

pub within : (m : Machine) → m.counts.steps < 2 ^ 64 → wrapped_machine m ≡ m
unfolding wrapped_machine wrapped
within m h = rw (mod-eq_of_lt h)

wrote-within : (written out : List ℕ) (m : Machine) → m.counts.steps < 2 ^ 64 → all_wrapped (wrote written m out) ≡ wrote written m out
wrote-within written out m h = wrote_all written out m ∙ ap (λ (x : Machine). wrote written x out) (within m h)

work-within : (m : Machine) (c : Call) → (work m c).next.counts.steps < 2 ^ 64 → all_wrapped (work m c) ≡ work m c
unfolding work wrote
work-within m (begin key nonce n) h = wrote-within _ [] _ h
work-within m (data_call piece) h = wrote-within _ [] _ h
work-within m (seal_text piece out) h = wrote-within _ out _ h
work-within m (check_text piece) h = wrote-within _ [] _ h
work-within m (seal_close out) h = wrote-within _ out _ h
work-within m (check_close tag) h = judged_all _ (closed m) ∙ ap (judged _) (within (closed m) h)

unless_refused-within : (n : ℕ) (m : Machine) (c : Call) → (unless_refused n (work m c) (refused_with n m (output_of c))).next.counts.steps < 2 ^ 64
    → all_wrapped (unless_refused n (work m c) (refused_with n m (output_of c))) ≡ unless_refused n (work m c) (refused_with n m (output_of c))
unfolding unless_refused refused_with
unless_refused-within zero m c h = work-within m c h
unless_refused-within (suc n) m c h = refused_all (suc n) (output_of c) m ∙ ap (λ (x : Machine). refused_with (suc n) x (output_of c)) (within m h)

-- an outcome whose count is below 2 ^ 64
pub call-within : (m : Machine) (c : Call) → (call m c).next.counts.steps < 2 ^ 64 → wrapped_outcome (call m c) ≡ call m c
unfolding wrapped_outcome
call-within m c h = either (left_unchanged (call m c).answer) (call m c) (unfold call in unless_refused-within (refusal m c) m c h)
  where
    either : (b : Bool) (o : Outcome Machine Work) → all_wrapped o ≡ o
        → record { next = o.next if b else wrapped_machine o.next; answer = wrapped_reply o.answer; out = o.out } ≡ o
    either true o e = λ i. record { next = o.next; answer = (e i).answer; out = o.out }
    either false o e = e

-- ## What a session's call comes to

-- on a session that stands for a machine, where the count stays below 2 ^ 64
pub called-within : (s : Session) (c : Call) (r : SessionReply) (out : List ℕ) (m : Machine) → machine_of s ≡ m → (call m c).next.counts.steps < 2 ^ 64 → Called s c r out
    → session_outcome r out ≡ call m c
called-within s c r out m e l h = h ∙ ap (λ (x : Machine). wrapped_outcome (call x c)) e ∙ call-within m c l
