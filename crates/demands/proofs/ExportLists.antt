-- Lists of calls for C come to what the machine and the plain writer do, from what is seen of each call.
use mathlib.Core.Path.{◌≡◌, refl, sym, ap, ◌∙◌}
use mathlib.Core.Bool.{Bool, true, false, false≢true}
use mathlib.Core.List.{List, [], ◌∷◌}
use Prim.Native.Nat.{ℕ}
use native.Mathlib.Omega.{arith}
use borrow.Author.Tests.{ne_eqb}
use Rattle.acorn_model.specs.declared.Kind.{Kind}
use Rattle.acorn_model.specs.declared.Kind.TheVariants.{Sealing}
use Rattle.calls.specs.Calls.{◌if◌else◌, Reply, refused, done, Work, Outcome, same_bytes, refused_with, left_unchanged}
use Rattle.acorn_model.specs.Stretches.{tag_bytes}
use Rattle.calls.specs.Lists.{Entry, calls_of, entries, handed_on, CallsMade, none, call as made}
use Rattle.acorn_model.specs.Machine.{Machine, Call, begin, data_call, seal_text, check_text, seal_close, check_close, fresh, output_of, refusal, text_ended, closed, answered, wrote, verdict, work, call}
use Rattle.calls.proofs.Refusals.{by_number}
use Rattle.tape_model.specs.Tape.{tape_tag_length}
use Rattle.tape_model.specs.Writer.{PlainWriter, WriterCall, start, add, finish, fresh_writer, on_answer, passed_on, started, writer_call}
use Rattle.tape_model.specs.Writer as plain
use Rattle.call_lists.proofs.WriterRuns as writers
use Rattle.session.specs.Clauses.{wrapped_outcome}
use Rattle.session.specs.Words.{machine_in, words_for}
use Rattle.session.proofs.Wrapping.{call-within}
use Rattle.session.proofs.WordsBack.{Clear, words_stand}
use Rattle.tape_writer.specs.Clauses.{wrapped_writer_outcome}
use Rattle.tape_writer.specs.Words.{plain_writer_in, writer_words_for}
use Rattle.tape_writer.proofs.WriterBack.{writer_words_stand}
use Rattle.c_answers.specs.Answers.{answer_numbers}
use Rattle.haul_tape.specs.Clauses.{words_after, Seen, SessionSeen, WriterSeen}
use Rattle.demands.specs.SessionFacts.{AsMachine}
use Rattle.demands.specs.Exports.{Exported, reply_in, SessionWords, WriterWords, ListExports}
use Rattle.demands.proofs.Sessions.{HasRun, runs_on, has_run-fresh, run_small}
use Rattle.demands.proofs.SessionFacts.{session_facts, cuts_agree}
use Rattle.demands.proofs.Writers.{call-within_writer, writer_facts}
use Rattle.demands.proofs.Standing.{fresh_clear, writer_call-full, call_clear, writer_call_clear}
use Rattle.calls.proofs.Made.{calls_made}

-- ## Any kind of words

-- the reply that comes back from its numbers: any but a refusal with 0
abbrev Told : Reply Work → Type 0
Told a = reply_in (answer_numbers a) ≡ a

told_refused : (n : ℕ) → (n ≡ 0 → ⊥) → Told (refused n)
unfolding reply_in answer_numbers
told_refused n h = rw (ne_eqb n 0 h)

told-done : (w : Work) → Told (done w)
unfolding reply_in answer_numbers
told-done w = refl

module _ {C M : Type 0} (words_of : M → List ℕ) (model_in : List ℕ → M) (wrapped : Outcome M Work → Outcome M Work) (step : M → C → Outcome M Work) (Inv : M → Type 0)
    (stand : (m : M) → Inv m → model_in (words_of m) ≡ m) (within : (m : M) (c : C) → Inv m → wrapped (step m c) ≡ step m c) (kept : (m : M) (c : C) → Inv m → Inv (step m c).next)
    (stays : (m : M) (c : C) → left_unchanged (step m c).answer ≡ true → (step m c).next ≡ m) (told : (m : M) (c : C) → Told (step m c).answer) where
  -- the words after a call are those of what it hands on, also where it was sent back
  stored : (m : M) (c : C) (words : List ℕ) → words ≡ words_of m → words_after words_of words (step m c) ≡ words_of (step m c).next
  unfolding words_after
  stored m c words w = by (left_unchanged (step m c).answer) refl
    where
      by : (b : Bool) → left_unchanged (step m c).answer ≡ b → (words if b else words_of (step m c).next) ≡ words_of (step m c).next
      by true e = w ∙ ap words_of (sym (stays m c e))
      by false e = refl

  as_model : (m : M) (words e : List ℕ) (es : List (Entry C Work)) → Inv m → words ≡ words_of m
      → CallsMade {R = Exported} (λ r. r.words) (λ r. reply_in r.answer) (λ before c r out. Seen words_of before (wrapped (step (model_in before) c)) r.words r.answer out) words es e
      → (es ≡ entries step m (calls_of es)) × (e ≡ words_of (handed_on step m (calls_of es)))
  unfolding entries handed_on calls_of
  as_model m words e _ i w none = (refl, w)
  as_model m words e _ i w (made {c = c} {out = out} {es = es} r h p) =
      let o : wrapped (step (model_in words) c) ≡ step m c = ap (λ (x : M). wrapped (step x c)) (ap model_in w ∙ stand m i) ∙ within m c i in
      let after : r.words ≡ words_of (step m c).next = h.0 ∙ ap (words_after words_of words) o ∙ stored m c words w in
      let answer : reply_in r.answer ≡ (step m c).answer = ap reply_in h.1 ∙ ap (λ (x : Outcome M Work). reply_in (answer_numbers x.answer)) o ∙ told m c in
      let output : out ≡ (step m c).out = h.2 ∙ ap (λ (x : Outcome M Work). x.out) o in
      let rest = as_model (step m c).next r.words e es (kept m c i) after p in
      (λ j. record { call = c; answer = answer j; out = output j } ∷ rest.0 j, rest.1)

-- ## Sessions

-- what holds of an outcome, on m and with this output: sent back, it changed nothing; and its answer is told
pub record Passes {M : Type 0} (m : M) (out : List ℕ) (o : Outcome M Work) : Type 0 where
  pub stays : left_unchanged o.answer ≡ true → o.next ≡ m
  pub left : left_unchanged o.answer ≡ true → o.out ≡ out
  pub told : Told o.answer

unchanged : {M : Type 0} (n : ℕ) (m : M) (out : List ℕ) → (n ≡ 0 → ⊥) → Passes m out (refused_with n m out)
unfolding refused_with
unchanged n m out h = record { stays = λ e. refl; left = λ e. refl; told = told_refused n h }

did : {M : Type 0} (m next : M) (w : Work) (before out : List ℕ) → Passes m before (record { next = next; answer = done w; out = out })
unfolding left_unchanged
did m next w before out = record { stays = λ e. absurd (false≢true e); left = λ e. absurd (false≢true e); told = told-done w }

judged : (b : Bool) (m : Machine) (before : List ℕ) → Passes m before (record { next = closed m; answer = verdict b (closed m); out = [] })
unfolding verdict answered left_unchanged
judged true m before = did m (closed m) _ before []
judged false m before = record { stays = λ e. absurd (false≢true e); left = λ e. absurd (false≢true e); told = told_refused 7 (λ e. omega arith) }

worked : (m : Machine) (c : Call) → Passes m (output_of c) (work m c)
unfolding work wrote answered
worked m (begin key nonce _) = did m _ _ _ _
worked m (data_call piece) = did m _ _ _ _
worked m (seal_text piece out) = did m _ _ _ _
worked m (check_text piece) = did m _ _ _ _
worked m (seal_close out) = did m _ _ _ _
worked m (check_close tag) = judged (same_bytes tag (tag_bytes m.tag_length (text_ended m).state)) m _

pub called : (m : Machine) (c : Call) → Passes m (output_of c) (call m c)
unfolding call
called m c = by_number (Passes m (output_of c)) (refusal m c) (work m c) (refused_with (refusal m c) m (output_of c)) (λ e. worked m c) (λ h. unchanged (refusal m c) m (output_of c) h)

-- a machine that calls led to, with nothing above its 293 bits
abbrev ReachedClear : Machine → Type 0
ReachedClear m = HasRun m × Clear m

pub sessions : (kind : Kind) (es : List (Entry Call Work)) (e : List ℕ) → SessionWords kind es e
    → (es ≡ entries call (fresh kind) (calls_of es)) × (e ≡ words_for (handed_on call (fresh kind) (calls_of es)))
unfolding fresh
sessions kind es e p =
    as_model words_for machine_in wrapped_outcome call ReachedClear
    (λ m i. words_stand m i.1)
    (λ m c i. call-within m c (run_small _ (runs_on m c i.0)))
    (λ m c i. (runs_on m c i.0, call_clear m c i.1))
    (λ m c. (called m c).stays) (λ m c. (called m c).told) (fresh kind) _ e es (has_run-fresh kind, fresh_clear kind) refl p

-- ## Writers

on_answer_passes : (a : Reply Work) (go_on : Work → Outcome PlainWriter Work) (w : PlainWriter) (out : List ℕ) → Told a → ((x : Work) → Passes w out (go_on x))
    → Passes w out (on_answer a go_on w out)
unfolding on_answer refused_with
on_answer_passes (refused n) go_on w out t g = record { stays = λ e. refl; left = λ e. refl; told = t }
on_answer_passes (done x) go_on w out t g = g x

writer_worked : (w : PlainWriter) (c : WriterCall) → Passes w (plain.output_of c) (plain.work w c)
unfolding plain.work started passed_on plain.output_of
writer_worked w (start key head out) = on_answer_passes _ _ w out (called _ _).told (λ x. on_answer_passes _ _ w out (called _ _).told (λ y. did w _ _ _ _))
writer_worked w (add ticket out) = on_answer_passes _ _ w out (called _ _).told (λ x. did w _ _ _ _)
writer_worked w (finish out) = on_answer_passes _ _ w out (called _ _).told (λ x. did w _ _ _ _)

pub writer_called : (w : PlainWriter) (c : WriterCall) → Passes w (plain.output_of c) (writer_call w c)
unfolding writer_call
writer_called w c =
    by_number (Passes w (plain.output_of c)) (plain.refusal w c) (plain.work w c) (refused_with (plain.refusal w c) w (plain.output_of c)) (λ e. writer_worked w c) (λ h. unchanged (plain.refusal w c) w (plain.output_of c) h)

abbrev WriterReached : PlainWriter → Type 0
WriterReached w = writers.HasRun w × Clear w.machine × (w.machine.tag_length ≡ tape_tag_length)

pub of_writers : (es : List (Entry WriterCall Work)) (e : List ℕ) → WriterWords es e
    → (es ≡ entries writer_call fresh_writer (calls_of es)) × (e ≡ writer_words_for (handed_on writer_call fresh_writer (calls_of es)))
unfolding fresh_writer fresh
of_writers es e p =
    as_model writer_words_for plain_writer_in wrapped_writer_outcome writer_call WriterReached
    (λ w i. writer_words_stand w i.1 i.2)
    (λ w c i. call-within_writer w c i.0)
    (λ w c i. (writers.runs_on w c i.0, writer_call_clear w c i.1, writer_call-full w c i.2))
    (λ w c. (writer_called w c).stays) (λ w c. (writer_called w c).told) fresh_writer _ e es (writers.fresh_has_run, fresh_clear Sealing, refl) refl p

-- ## The machine and the plain writer at the end

pub as_machine : (kind : Kind) (es : List (Entry Call Work)) (e : List ℕ) → SessionWords kind es e → AsMachine kind es (machine_in e)
unfolding fresh handed_on
as_machine kind es e p =
    let x = sessions kind es e p in
    (x.0, ap machine_in x.1 ∙ words_stand _ (reached_clear (calls_of es) (fresh kind) (fresh_clear kind)))
  where
    reached_clear : (cs : List Call) (m : Machine) → Clear m → Clear (handed_on call m cs)
    reached_clear [] m h = h
    reached_clear (c ∷ cs) m h = reached_clear cs (call m c).next (call_clear m c h)

pub as_plain : (es : List (Entry WriterCall Work)) (e : List ℕ) → WriterWords es e
    → (es ≡ entries writer_call fresh_writer (calls_of es)) × (plain_writer_in e ≡ handed_on writer_call fresh_writer (calls_of es))
unfolding fresh_writer fresh handed_on
as_plain es e p =
    let x = of_writers es e p in
    (x.0, ap plain_writer_in x.1 ∙ writer_words_stand _ (reached_clear (calls_of es) fresh_writer (fresh_clear Sealing)) (reached_full (calls_of es) fresh_writer refl))
  where
    reached_clear : (cs : List WriterCall) (w : PlainWriter) → Clear w.machine → Clear (handed_on writer_call w cs).machine
    reached_clear [] w h = h
    reached_clear (c ∷ cs) w h = reached_clear cs (writer_call w c).next (writer_call_clear w c h)

    reached_full : (cs : List WriterCall) (w : PlainWriter) → w.machine.tag_length ≡ tape_tag_length → (handed_on writer_call w cs).machine.tag_length ≡ tape_tag_length
    reached_full [] w h = h
    reached_full (c ∷ cs) w h = reached_full cs (writer_call w c).next (writer_call-full w c h)

-- ## The claims. Every list can be made: the contracts are equations

pub list_exports : ListExports
list_exports =
    record {
      sessions = λ kind es e p. (session_facts kind es (machine_in e) (as_machine kind es e p), (sessions kind es e p).1);
      cuts = λ kind es es' e e' p p'. cuts_agree kind es (machine_in e) es' (machine_in e') (as_machine kind es e p) (as_machine kind es' e' p');
      writers = λ es e p. (writer_facts es (plain_writer_in e) (as_plain es e p), (of_writers es e p).1);
      sessions_exist = λ kind cs.
          calls_made (λ (r : Exported). r.words) (λ (r : Exported). reply_in r.answer) (λ words c r out. SessionSeen words c r.words r.answer out)
          (λ words c. let o : Outcome Machine Work = wrapped_outcome (call (machine_in words) c) in
          (record { words = words_after words_for words o; answer = answer_numbers o.answer }, o.out, (refl, refl, refl))) (words_for (fresh kind)) cs;
      writers_exist = λ cs.
          calls_made (λ (r : Exported). r.words) (λ (r : Exported). reply_in r.answer) (λ words c r out. WriterSeen words c r.words r.answer out)
          (λ words c. let o : Outcome PlainWriter Work = wrapped_writer_outcome (writer_call (plain_writer_in words) c) in
          (record { words = words_after writer_words_for words o; answer = answer_numbers o.answer }, o.out, (refl, refl, refl))) (writer_words_for fresh_writer) cs;
    }
