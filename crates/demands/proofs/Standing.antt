-- Calls leave nothing above a machine's 293 bits, and a length that a tag may have; and a writer stands for every plain writer on such a machine.
use mathlib.Core.Path.{◌≡◌, refl, ◌∙◌}
use mathlib.Core.Bool.{Bool, true, false}
use mathlib.Core.List.{List}
use Prim.Native.Nat.{ℕ}
use Rattle.calls.specs.Calls.{◌if◌else◌, Reply, refused, done, Work, Outcome, refused_with}
use Rattle.acorn_model.specs.declared.Kind.{Kind}
use Rattle.acorn_model.specs.Stretches.{Stretch, inputs, through, start, data_piece, data_end, text_end, final}
use Rattle.acorn_model.specs.Machine.{Machine, Call, fresh, begin, data_call, seal_text, check_text, seal_close, check_close, output_of, is_data, fixes_right, refusal, run_through, enter, cleared, count_data, count_text, begun, data_taken, data_ended, text_taken, text_ended, closed, wrote, work, call}
use Rattle.tape_model.specs.Writer.{PlainWriter, WriterCall, start as startCall, add, finish, on_answer, passed_on, started, writer_call}
use Rattle.tape_model.specs.Writer as plain
use Rattle.acorn_kernel.proofs.ClosedForm.{run-above}
use Rattle.acorn_model.proofs.Refusals.{passed}
use Rattle.acorn_model.proofs.Proved.{tag-length-laws}
use Rattle.tape_model.specs.Tape.{tape_tag_length}
use Rattle.calls.proofs.Refusals.{by_number}
use Rattle.session.specs.Words.{session_for}
use Rattle.session.proofs.WordsBack.{Clear, session_stands}
use Rattle.tape_writer.specs.declared.Writer.{Writer}
use Rattle.tape_writer.specs.Clauses.{writer_of}

-- ## Calls leave nothing above the 293 bits, and a length that a tag may have

run_clear : (stretch : Stretch) (m : Machine) → Clear m → Clear (run_through stretch m)
unfolding run_through through
run_clear stretch m h = record { bits = λ q. run-above (inputs stretch) m.state h.bits stretch.steps q; tag_length = h.tag_length }

ended_clear : (m : Machine) → Clear m → Clear (data_ended m)
unfolding data_ended
ended_clear m h = either (is_data m.phase)
  where
    either : (b : Bool) → Clear (run_through data_end m if b else m)
    either true = run_clear data_end m h
    either false = h

work_clear : (m : Machine) (c : Call) → fixes_right c ≡ true → Clear m → Clear (work m c).next
unfolding work wrote begun data_taken text_taken text_ended closed enter cleared count_data count_text fixes_right
work_clear m (begin key nonce n) f h = record { bits = (run_clear (start key nonce) (cleared m) (record { bits = λ q. refl; tag_length = h.tag_length })).bits; tag_length = f }
work_clear m (data_call piece) f h = let r = run_clear (data_piece piece) m h in record { bits = r.bits; tag_length = r.tag_length }
work_clear m (seal_text piece out) f h = let r = run_clear _ (data_ended m) (ended_clear m h) in record { bits = r.bits; tag_length = r.tag_length }
work_clear m (check_text piece) f h = let r = run_clear _ (data_ended m) (ended_clear m h) in record { bits = r.bits; tag_length = r.tag_length }
work_clear m (seal_close out) f h = record { bits = λ q. refl; tag_length = (run_clear final _ (run_clear text_end _ (ended_clear m h))).tag_length }
work_clear m (check_close tag) f h = record { bits = λ q. refl; tag_length = (run_clear final _ (run_clear text_end _ (ended_clear m h))).tag_length }

pub call_clear : (m : Machine) (c : Call) → Clear m → Clear (call m c).next
unfolding call refused_with
call_clear m c h =
    by_number (λ (o : Outcome Machine Work). Clear o.next) (refusal m c) (work m c) (refused_with (refusal m c) m (output_of c)) (λ e. work_clear m c (passed m c e).fixes h) (λ _. h)

-- a fresh machine is so
pub fresh_clear : (kind : Kind) → Clear (fresh kind)
unfolding fresh
fresh_clear kind = record { bits = λ q. refl; tag_length = refl }

-- ## Writers

-- what the machine's calls that a writer makes keep, the writer's calls keep
module _ (P : Machine → Type 0) (by_begin : (m : Machine) (key nonce : List ℕ) → P m → P (call m (begin key nonce tape_tag_length)).next)
    (by-data : (m : Machine) (piece : List ℕ) → P m → P (call m (data_call piece)).next) (by-text : (m : Machine) (piece out : List ℕ) → P m → P (call m (seal_text piece out)).next)
    (by_close : (m : Machine) (out : List ℕ) → P m → P (call m (seal_close out)).next) where
  abbrev OutcomeKeeps : Outcome PlainWriter Work → Type 0
  OutcomeKeeps o = P o.next.machine

  on-answer_keeps : (a : Reply Work) (go_on : Work → Outcome PlainWriter Work) (w : PlainWriter) (out : List ℕ) → P w.machine → ((x : Work) → OutcomeKeeps (go_on x))
      → OutcomeKeeps (on_answer a go_on w out)
  unfolding on_answer refused_with
  on-answer_keeps (refused n) go_on w out h g = h
  on-answer_keeps (done x) go_on w out h g = g x

  writer_work_keeps : (w : PlainWriter) (c : WriterCall) → P w.machine → OutcomeKeeps (plain.work w c)
  unfolding plain.work started passed_on
  writer_work_keeps w (startCall key head out) h =
      on-answer_keeps _ _ w out h (λ x. on-answer_keeps _ _ w out h (λ y. by-data _ _ (by_begin w.machine _ _ h)))
  writer_work_keeps w (add ticket out) h = on-answer_keeps _ _ w out h (λ x. by-text w.machine _ _ h)
  writer_work_keeps w (finish out) h = on-answer_keeps _ _ w out h (λ x. by_close w.machine _ h)

  writer_call_keeps : (w : PlainWriter) (c : WriterCall) → P w.machine → OutcomeKeeps (writer_call w c)
  unfolding writer_call refused_with
  writer_call_keeps w c h =
      by_number OutcomeKeeps (plain.refusal w c) (plain.work w c) (refused_with (plain.refusal w c) w (plain.output_of c)) (λ _. writer_work_keeps w c h) (λ _. h)

pub writer_call_clear : (w : PlainWriter) (c : WriterCall) → Clear w.machine → Clear (writer_call w c).next.machine
writer_call_clear = writer_call_keeps Clear (λ m key nonce. call_clear m _) (λ m piece. call_clear m _) (λ m piece out. call_clear m _) (λ m out. call_clear m _)

-- a writer's tag is full
begun-full : (m : Machine) (key nonce : List ℕ) → m.tag_length ≡ tape_tag_length → (call m (begin key nonce tape_tag_length)).next.tag_length ≡ tape_tag_length
unfolding call refused_with work wrote begun
begun-full m key nonce h =
    by_number (λ (o : Outcome Machine Work). o.next.tag_length ≡ tape_tag_length) (refusal m (begin key nonce tape_tag_length)) (work m (begin key nonce tape_tag_length))
    (refused_with (refusal m (begin key nonce tape_tag_length)) m (output_of (begin key nonce tape_tag_length))) (λ _. refl) (λ _. h)

pub writer_call-full : (w : PlainWriter) (c : WriterCall) → w.machine.tag_length ≡ tape_tag_length → (writer_call w c).next.machine.tag_length ≡ tape_tag_length
writer_call-full =
    writer_call_keeps (λ m. m.tag_length ≡ tape_tag_length) begun-full
    (λ m piece h. (tag-length-laws m).kept-by-data piece ∙ h) (λ m piece out h. (tag-length-laws m).kept-by_sealing piece out ∙ h) (λ m out h. (tag-length-laws m).kept-by_seal_close out ∙ h)

pub writer_for : PlainWriter → Writer
writer_for w = record { session = session_for w.machine; tickets = w.tickets; phase = w.phase }

pub writer_stands : (w : PlainWriter) → Clear w.machine → writer_of (writer_for w) ≡ w
unfolding writer_of writer_for
writer_stands w h = λ i. record { machine = session_stands w.machine h i; phase = w.phase; tickets = w.tickets }
