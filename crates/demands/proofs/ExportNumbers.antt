-- Demand 1 on the interface for C: the number told is the one that applies, from the demands on the library's own calls.
use mathlib.Core.Path.{◌≡◌, refl, sym, ap, ◌∙◌, subst}
use mathlib.Core.Bool.{true, false, not}
use mathlib.Core.List.{List, []}
use Prim.Native.Nat.{ℕ, zero, suc}
use native.Mathlib.Omega.{arith}
use borrow.Author.Tests.{ne_eqb}
use Rattle.calls.specs.Calls.{Reply, refused, done, Work, Outcome, Result, refused_with, left_unchanged, answer_reply, put_into}
use Rattle.calls.specs.Lists.{calls_of, handed_on}
use Rattle.acorn_model.specs.Machine.{Machine, Call, data_call, seal_text, seal_close, output_of, refusal, wrote, answered, work, call}
use Rattle.acorn_model.specs.Message.{seal_message, open_message}
use Rattle.acorn_model.proofs.Refusals.{never_7}
use Rattle.calls.proofs.Refusals.{by_number, link}
use Rattle.tape_model.specs.Ticket.{unpack_ticket_refusal, unpack_head_refusal, pack_ticket_into, unpack_ticket, pack_head_into, unpack_head}
use Rattle.tape_model.specs.Tape.{open_tape}
use Rattle.tape_model.specs.Writer.{PlainWriter, WriterCall, start, add, finish, fresh_writer, on_answer, passed_on, started, writer_call}
use Rattle.tape_model.specs.Writer as plain
use Rattle.tape_model.specs.Reader.{Reading, ticket, at_end, ReadOutcome, read_next}
use Rattle.session.specs.Clauses.{machine_of, session_outcome, wrapped_reply, wrapped_outcome}
use Rattle.session.specs.Words.{session_in, machine_in}
use Rattle.session.proofs.WordsBack.{Clear, session_clear, words_stand}
use Rattle.tape_writer.specs.Clauses.{writer_of, wrapped_writer_outcome}
use Rattle.tape_writer.specs.Clauses as tape
use Rattle.tape_writer.specs.Words.{writer_in, plain_writer_in}
use Rattle.reader.specs.Clauses.{reader_at}
use Rattle.c_answers.specs.declared.HtAnswer.{HtAnswer}
use Rattle.c_answers.specs.declared.HtReading.{HtReading}
use Rattle.c_answers.specs.Answers.{written_numbers, answer_numbers, opened_numbers, ticket_numbers, head_numbers, reading_numbers}
use Rattle.haul_tape.specs.Clauses.{words_after, SessionSeen, WriterSeen, ResultSeen}
use Rattle.demands.specs.Refusals.{AnsweredBy, RefusedBy, session_number}
use Rattle.demands.specs.Exports.{NumberTold, SessionNumbers, WriterNumbers, NumberExports}
use Rattle.demands.proofs.Numbers.{reply-by, never, same_number, result_by}
use Rattle.demands.proofs.Refusals.{reads, refusal_demand}
use Rattle.demands.proofs.Writers.{writer_demand}
use Rattle.demands.proofs.Exist.{session_replies, writer_replies, writers_exist}
use Rattle.demands.proofs.ExportLists.{called, writer_called, as_plain}

-- ## The number that an answer tells

abbrev pub number_of : {A : Type 0} → Reply A → ℕ
number_of (refused n) = n
number_of (done a) = 0

module _ {A : Type 0} where
  -- an answer that goes by the number n is no refusal with 0
  never_0 : (n : ℕ) → AnsweredBy {A = A} n (refused 0) → ⊥
  never_0 zero h = let e = h.accepts.1 refl in never (sym e.1)
  never_0 (suc k) h = let e = same_number {A = A} 0 (suc k) ((h.refuses k).1 refl) in omega arith

  pub told_is : (n : ℕ) (a : Reply A) → AnsweredBy n a → number_of a ≡ n
  told_is n (refused zero) h = absurd (never_0 n h)
  told_is n (refused (suc k)) h = sym ((h.refuses k).0 refl)
  told_is n (done a) h = sym (h.accepts.0 (a, refl))

  -- with another number than 0, the answer is that refusal
  refused-with : (a : Reply A) → (number_of a ≡ 0 → ⊥) → a ≡ refused (number_of a)
  refused-with (refused n) h = refl
  refused-with (done a) h = absurd (h refl)

-- ## Results

-- `numbers` tells the number of every reply
module _ {A N : Type 0} (numbers : Reply A → N) (number : N → ℕ) (tells : (a : Reply A) → number (numbers a) ≡ number_of a) where
  number-told : (n : ℕ) (result : Result A) (r : N) (out after : List ℕ) → ResultSeen numbers result r after → RefusedBy n result.answer out result.out
      → NumberTold numbers number n r out after
  number-told n result r out after seen h =
      let is : number_of result.answer ≡ n = told_is n result.answer h.number in
      let refusal : (n ≡ 0 → ⊥) → result.answer ≡ refused n = λ ne. refused-with result.answer (λ z. ne (sym is ∙ z)) ∙ ap refused is in
      record {
        told = ap number seen.0 ∙ tells result.answer ∙ is;
        answer = λ ne. seen.0 ∙ ap numbers (refusal ne);
        unchanged = λ ne. seen.1 ∙ h.unchanged _ (refusal ne);
      }

  -- the same of a call that is lent no output
  reply-told : (n : ℕ) (a : Reply A) (r : N) → r ≡ numbers a → AnsweredBy n a → NumberTold numbers number n r [] []
  reply-told n a r seen h = number-told n (record { answer = a; out = [] }) r [] [] (seen, refl) (record { number = h; unchanged = λ k e. refl })

pub written_tells : (a : Reply ℕ) → (written_numbers a).refused ≡ number_of a
unfolding written_numbers
written_tells (refused n) = refl
written_tells (done a) = refl

answer_tells : (a : Reply Work) → (answer_numbers a).refused ≡ number_of a
unfolding answer_numbers
answer_tells (refused n) = refl
answer_tells (done a) = refl

opened_tells : (a : _) → (opened_numbers a).refused ≡ number_of a
unfolding opened_numbers
opened_tells (refused n) = refl
opened_tells (done a) = refl

ticket_tells : (a : _) → (ticket_numbers a).refused ≡ number_of a
unfolding ticket_numbers
ticket_tells (refused n) = refl
ticket_tells (done a) = refl

head_tells : (a : _) → (head_numbers a).refused ≡ number_of a
unfolding head_numbers
head_tells (refused n) = refl
head_tells (done a) = refl

reading_tells : (a : Reply Reading) (p : ℕ) → ((reading_numbers a p).refused ≡ number_of a) × ((reading_numbers a p).position ≡ p)
unfolding reading_numbers
reading_tells (refused n) p = (refl, refl)
reading_tells (done (ticket t)) p = (refl, refl)
reading_tells (done at_end) p = (refl, refl)

-- ## Sessions

-- counting in 64 bits touches no refusal
wrapped-back : (a : Reply Work) → left_unchanged (wrapped_reply a) ≡ left_unchanged a
unfolding wrapped_reply left_unchanged
wrapped-back (refused n) = refl
wrapped-back (done w) = refl

-- a refusal but 7 was sent back
back : (a : Reply Work) (n : ℕ) → a ≡ refused n → (n ≡ 7 → ⊥) → left_unchanged a ≡ true
unfolding left_unchanged
back a n e h = rw e (rw (ne_eqb n 7 h) refl)

seven_on : (a : Reply Work) → a ≡ refused 7 → left_unchanged a ≡ false
unfolding left_unchanged
seven_on a e = rw e refl

module _ (words : List ℕ) (c : Call) (after : List ℕ) (r : HtAnswer) (out : List ℕ) (seen : SessionSeen words c after r out) where
  abbrev comes : Outcome Machine Work
  comes = wrapped_outcome (call (machine_in words) c)

  session_numbers : SessionNumbers words c after r out
  unfolding machine_in session_outcome wrapped_outcome words_after
  session_numbers =
      let x = session_replies (session_in words) c in
      let demand = refusal_demand.sessions (session_in words) c x.0 x.1 x.2 in
      let answer : answer_reply x.0.answer ≡ comes.answer = λ i. (x.2 i).answer in
      let next : machine_of x.0.session ≡ comes.next = λ i. (x.2 i).next in
      let left : x.1 ≡ comes.out = λ i. (x.2 i).out in
      let told : r.refused ≡ number_of comes.answer = ap (λ (h : HtAnswer). h.refused) seen.1 ∙ answer_tells comes.answer in
      record {
        number = told ∙ told_is _ comes.answer (subst (AnsweredBy (session_number (machine_in words) c)) answer demand.number);
        answer = λ ne. seen.1 ∙ ap answer_numbers (refused-with comes.answer (λ z. ne (told ∙ z)) ∙ ap refused (sym told));
        unchanged = λ ne ne7.
            let was = back comes.answer r.refused (refused-with comes.answer (λ z. ne (told ∙ z)) ∙ ap refused (sym told)) ne7 in
            (seen.0 ∙ rw was refl, seen.2 ∙ (called (machine_in words) c).left (sym (wrapped-back (call (machine_in words) c).answer) ∙ was));
        seven = λ e.
            let was = refused-with comes.answer (λ z. let q = told ∙ z in omega arith) ∙ ap refused (sym told ∙ e) in
            let d = demand.seven (answer ∙ was) in
            let stored = ap machine_in (seen.0 ∙ rw (seven_on comes.answer was) refl) ∙ words_stand comes.next (subst Clear next (session_clear x.0.session)) in
            (ap (λ (m : Machine). m.phase) (stored ∙ sym next) ∙ d.0, seen.2 ∙ sym left ∙ d.1);
      }

-- ## Writers

-- a writer never answers 7: its own numbers end at 6, and its machine seals
writer_never_7 : (w : PlainWriter) (c : WriterCall) → plain.refusal w c ≡ 7 → ⊥
unfolding plain.refusal
writer_never_7 w c e =
    let p = link (not (plain.phase_allows w.phase c)) 1 _ 7 refl e in
    let k = link (not (plain.key_right c)) 2 _ 7 refl p.1 in
    let h = link (not (plain.head_right c)) 3 _ 7 refl k.1 in
    let t = link (not (plain.ticket_right c)) 4 _ 7 refl h.1 in
    let f = link (plain.tape_full w.tickets c) 5 _ 7 refl t.1 in
    let o = (link (plain.output_short c) 6 _ 7 refl f.1).1 in
    omega arith

abbrev Not7 : Reply Work → Type 0
Not7 a = a ≡ refused 7 → ⊥

machine_not_7 : (m : Machine) (c : Call) (w : Work) → (work m c).answer ≡ done w → Not7 (call m c).answer
unfolding call refused_with
machine_not_7 m c w d =
    by_number (λ (o : Outcome Machine Work). Not7 o.answer) (refusal m c) (work m c) (refused_with (refusal m c) m (output_of c))
    (λ z e. never (sym d ∙ e)) (λ z e. never_7 m c (same_number {A = Work} (refusal m c) 7 e))

on-answer-not_7 : (a : Reply Work) (go_on : Work → Outcome PlainWriter Work) (w : PlainWriter) (out : List ℕ) → Not7 a → ((x : Work) → Not7 (go_on x).answer)
    → Not7 (on_answer a go_on w out).answer
unfolding on_answer refused_with
on-answer-not_7 (refused n) go_on w out h g = h
on-answer-not_7 (done x) go_on w out h g = g x

writer_work-not_7 : (w : PlainWriter) (c : WriterCall) → Not7 (plain.work w c).answer
unfolding plain.work started passed_on work wrote answered
writer_work-not_7 w (start key head out) =
    on-answer-not_7 _ _ w out (machine_not_7 w.machine _ _ refl) (λ x. on-answer-not_7 _ _ w out (machine_not_7 _ (data_call _) _ refl) (λ y e. never e))
writer_work-not_7 w (add t out) = on-answer-not_7 _ _ w out (machine_not_7 w.machine (seal_text _ out) _ refl) (λ x e. never e)
writer_work-not_7 w (finish out) = on-answer-not_7 _ _ w out (machine_not_7 w.machine (seal_close out) _ refl) (λ x e. never e)

writer_not_7 : (w : PlainWriter) (c : WriterCall) → Not7 (writer_call w c).answer
unfolding writer_call refused_with
writer_not_7 w c =
    by_number (λ (o : Outcome PlainWriter Work). Not7 o.answer) (plain.refusal w c) (plain.work w c) (refused_with (plain.refusal w c) w (plain.output_of c))
    (λ z. writer_work-not_7 w c) (λ z e. writer_never_7 w c (same_number {A = Work} (plain.refusal w c) 7 e))

still_not_7 : (a : Reply Work) → Not7 a → Not7 (wrapped_reply a)
unfolding wrapped_reply
still_not_7 (refused n) h = h
still_not_7 (done w) h = λ e. never e

module _ (words : List ℕ) (c : WriterCall) (after : List ℕ) (r : HtAnswer) (out : List ℕ) (seen : WriterSeen words c after r out) where
  abbrev writer_comes : Outcome PlainWriter Work
  writer_comes = wrapped_writer_outcome (writer_call (plain_writer_in words) c)

  writer_numbers : WriterNumbers words c after r out
  unfolding plain_writer_in tape.writer_outcome wrapped_writer_outcome words_after
  writer_numbers =
      let x = writer_replies (writer_in words) c in
      let demand = refusal_demand.writers (writer_in words) c x.0 x.1 x.2 in
      let answer : answer_reply x.0.answer ≡ writer_comes.answer = λ i. (x.2 i).answer in
      let told : r.refused ≡ number_of writer_comes.answer = ap (λ (h : HtAnswer). h.refused) seen.1 ∙ answer_tells writer_comes.answer in
      record {
        number = λ n e. told ∙ ap number_of (sym answer ∙ demand.number n e);
        exactly = λ es p.
            -- a writer that the same calls led to, and this call on it
            let l = writers_exist (calls_of es) in
            let same : writer_of l.1 ≡ plain_writer_in words =
            (writer_demand l.0 l.1 l.2).as_plain.1 ∙ ap (handed_on writer_call fresh_writer) l.3 ∙ sym (as_plain es words p).1 in
            let y = writer_replies l.1 c in
            let number = (refusal_demand.writers l.1 c y.0 y.1 y.2).exactly l.0 l.2 in
            let here = subst (AnsweredBy (plain.refusal (writer_of l.1) c)) (λ i. (y.2 i).answer) number in
            told ∙ told_is _ _ (subst (λ (w : PlainWriter). AnsweredBy (plain.refusal w c) (wrapped_writer_outcome (writer_call w c)).answer) same here);
        answer = λ ne. seen.1 ∙ ap answer_numbers (refused-with writer_comes.answer (λ z. ne (told ∙ z)) ∙ ap refused (sym told));
        unchanged = λ ne.
            let is = refused-with writer_comes.answer (λ z. ne (told ∙ z)) in
            let was = back writer_comes.answer _ is (λ e. still_not_7 (writer_call (plain_writer_in words) c).answer (writer_not_7 (plain_writer_in words) c) (is ∙ ap refused e)) in
            (seen.0 ∙ rw was refl, seen.2 ∙ (writer_called (plain_writer_in words) c).left (sym (wrapped-back (writer_call (plain_writer_in words) c).answer) ∙ was));
      }

-- ## All of it

pub number_exports : NumberExports
unfolding seal_message open_message open_tape put_into pack_ticket_into pack_head_into unpack_ticket unpack_head
number_exports =
    record {
      sessions = session_numbers;
      writers = writer_numbers;
      sealing = λ n key nonce d text out after r seen. number-told written_numbers (λ h. h.refused) written_tells _ _ r out after seen (result_by _ _ _ out);
      opening = λ n key nonce d s out after r seen. number-told written_numbers (λ h. h.refused) written_tells _ _ r out after seen (result_by _ _ _ out);
      opening_tapes = λ key t out after r seen. number-told opened_numbers (λ h. h.refused) opened_tells _ _ r out after seen (result_by _ _ _ out);
      listing_tapes = λ key t out after r seen. number-told written_numbers (λ h. h.refused) written_tells _ _ r out after seen (result_by _ _ _ out);
      packing = λ t out after r seen. number-told written_numbers (λ h. h.refused) written_tells _ _ r out after seen (result_by _ _ _ out);
      packing_heads = λ h out after r seen. number-told written_numbers (λ x. x.refused) written_tells _ _ r out after seen (result_by _ _ _ out);
      unpacking = λ string r seen. reply-told ticket_numbers (λ h. h.refused) ticket_tells _ _ r seen (reply-by (unpack_ticket_refusal string) _);
      unpacking_heads = λ string r seen. reply-told head_numbers (λ h. h.refused) head_tells _ _ r seen (reply-by (unpack_head_refusal string) _);
      reading = λ string position r seen.
          let o : ReadOutcome = read_next (reader_at string position) in
          let x = reads (reader_at string position) in
          let tells = reading_tells o.answer o.next.position in
          let told : r.refused ≡ number_of o.answer = ap (λ (h : HtReading). h.refused) seen ∙ tells.0 in (
            told ∙ told_is _ o.answer x.0,
            λ ne. ap (λ (h : HtReading). h.position) seen ∙ tells.1 ∙ ap (λ y. y.position) (x.1 _ (refused-with o.answer (λ z. ne (told ∙ z)))),
          );
    }
