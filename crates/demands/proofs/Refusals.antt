-- Demand 1, from the contracts.
use mathlib.Core.Path.{◌≡◌, refl, sym, ap, ◌∙◌, subst}
use mathlib.Core.Bool.{Bool, true, false, not, ◌&&◌}
use mathlib.Core.List.{List}
use Prim.Native.Nat.{ℕ, zero, suc, ◌*◌, ◌/◌, ◌≤◌}
use native.Mathlib.Omega.{arith}
use lib.Dec.{leb, ltb, eqb}
use lib.ListN.{length, take, drop, length-drop}
use lib.Seq.{length-take-le}
use borrow.Author.Tests.{leb-false, eq-eqb, ne_eqb, le-ltb}
use Rattle.std.proofs.Common.{Result}
use Rattle.calls.specs.declared.Refusal.{Refusal}
use Rattle.calls.specs.Calls.{◌if◌else◌, Reply, refused, done, Work, Outcome, accepted, left_unchanged, same_bytes, answer_reply, unless_refused, refused_with, is_refused, as_reply}
use Rattle.acorn_model.specs.Stretches.{tag_bytes}
use Rattle.acorn_model.specs.declared.Phase.TheVariants.{Closed}
use Rattle.acorn_model.specs.Machine.{Machine, Call, begin, data_call, seal_text, check_text, seal_close, check_close, output_of, key_length, refusal, wrote, answered, verdict, text_ended, closed, enter, work, call, work as machineWork}
use Rattle.acorn_model.specs.Message.{tag_matches}
use Rattle.acorn_model.specs.Message as message
use Rattle.tape_model.specs.declared.WriterPhase.TheVariants.{Open}
use Rattle.tape_model.specs.declared.Ticket.{Ticket}
use Rattle.tape_model.specs.declared.Totals.{Totals}
use Rattle.tape_model.specs.Ticket.{ticket_length, write_rule, pack_ticket_into, unpack_ticket_refusal, unpack_ticket, pack_head_into, unpack_head_refusal, unpack_head}
use Rattle.tape_model.specs.Tape.{ticket_limit, nonce_of, is_tickets_length, is_tape_length, head_bytes, sealed_bytes, ticket_count, open_tape_refusal, open_tape}
use Rattle.tape_model.specs.Writer.{PlainWriter, WriterCall, start, add, finish, on_answer, passed_on, started, writer_call}
use Rattle.tape_model.specs.Writer as plain
use Rattle.tape_model.specs.Reader as model
use Rattle.tape_model.specs.Reader.{Reading, at_end, ReadOutcome, stays, handed_out, read_next}
use Rattle.acorn_model.proofs.Refusals.{never_7}
use Rattle.calls.proofs.Refusals.{by_number}
use Rattle.tape_model.proofs.Refusals.{writer_passed}
use Rattle.tape_model.proofs.Unpacking.{refused_by_8}
use Rattle.call_lists.proofs.WriterRuns.{HasRun}
use Rattle.call_lists.proofs.WriterAccepts.{MachinePassed, machine_passed, comes_to, accepted-work}
use Rattle.session.specs.declared.Session.{Session}
use Rattle.session.specs.declared.Reply.{Reply as SessionReply}
use Rattle.session.specs.Clauses.{machine_of, session_outcome, wrapped_machine, wrapped_reply, wrapped_outcome, Called}
use Rattle.tape_writer.specs.declared.Writer.{Writer}
use Rattle.tape_writer.specs.declared.WriterReply.{WriterReply}
use Rattle.tape_writer.specs.Clauses.{writer_of, wrapped_writer, wrapped_writer_outcome, WriterCalled}
use Rattle.tape_writer.specs.Clauses as tape
use Rattle.tape_opening.specs.Clauses.{OpensTape}
use Rattle.reader.specs.declared.Reader.{Reader}
use Rattle.reader.specs.declared.ReaderReply.{ReaderReply}
use Rattle.reader.specs.Clauses.{reader_of, NextCalled}
use Rattle.reader.specs.Clauses as reader
use Rattle.demands.specs.Refusals.{RefusedBy, AnsweredBy, tag_differs, session_number, SessionRefusals, WriterRefusals, OpeningRefusals, reader_number, ReaderRefusals, RefusalDemand}
use Rattle.demands.proofs.Numbers.{never, same_number, accepted-by, refused_by, by_cases, refused_as, reply-by}
use Rattle.demands.proofs.Writers.{has_run, writer_demand}

-- counting in 64 bits does not touch a refusal
still_refused : (a : Reply Work) (n : ℕ) → wrapped_reply a ≡ refused n → a ≡ refused n
unfolding wrapped_reply
still_refused (refused k) n e = e
still_refused (done w) n e = never e

-- ## The machine

-- what a working call refuses is a tag, and that closes
abbrev Judged : Outcome Machine Work → Call → ℕ → Type 0
Judged o c n = (n ≡ 7) × (o.next.phase ≡ Closed) × (o.out ≡ output_of c)

judged : (b : Bool) (m : Machine) (n : ℕ) → verdict b m ≡ refused n → n ≡ 7
unfolding verdict answered
judged true m n e = never e
judged false m n e = sym (same_number 7 n e)

work_refused : (m : Machine) (c : Call) (n : ℕ) → (work m c).answer ≡ refused n → Judged (work m c) c n
unfolding work wrote answered
work_refused m (begin key nonce _) n e = never e
work_refused m (data_call piece) n e = never e
work_refused m (seal_text piece out) n e = never e
work_refused m (check_text piece) n e = never e
work_refused m (seal_close out) n e = never e
work_refused m (check_close tag) n e = unfold closed enter output_of in (judged _ (closed m) n e, refl, refl)

refused_call : (m : Machine) (c : Call) (n : ℕ) → (call m c).answer ≡ refused n → (n ≡ 7 → ⊥) → ((call m c).next ≡ m) × ((call m c).out ≡ output_of c)
unfolding call refused_with
refused_call m c n e h =
    by_number (λ (o : Outcome Machine Work). o.answer ≡ refused n → (o.next ≡ m) × (o.out ≡ output_of c)) (refusal m c) (work m c) (refused_with (refusal m c) m (output_of c))
    (λ z k. absurd (h (work_refused m c n k).0)) (λ z k. (refl, refl)) e

seven_call : (m : Machine) (c : Call) → (call m c).answer ≡ refused 7 → ((call m c).next.phase ≡ Closed) × ((call m c).out ≡ output_of c)
unfolding call refused_with
seven_call m c e =
    by_number (λ (o : Outcome Machine Work). o.answer ≡ refused 7 → (o.next.phase ≡ Closed) × (o.out ≡ output_of c)) (refusal m c) (work m c) (refused_with (refusal m c) m (output_of c))
    (λ z k. let j = work_refused m c 7 k in (j.1, j.2))
    (λ z k. absurd (never_7 m c (same_number (refusal m c) 7 k))) e

-- what a working call answers goes by its tag
work-number : (m : Machine) (c : Call) → AnsweredBy (7 if tag_differs m c else accepted) (wrapped_reply (work m c).answer)
unfolding work wrote answered wrapped_reply verdict
work-number m (begin key nonce _) = accepted-by _
work-number m (data_call piece) = accepted-by _
work-number m (seal_text piece out) = accepted-by _
work-number m (check_text piece) = accepted-by _
work-number m (seal_close out) = accepted-by _
work-number m (check_close tag) = by (same_bytes tag (tag_bytes m.tag_length (text_ended m).state))
  where
    by : (b : Bool) → AnsweredBy (7 if not b else accepted) (wrapped_reply (verdict b (closed m)))
    by true = accepted-by _
    by false = refused_by 6

number-call : (m : Machine) (c : Call) → AnsweredBy (session_number m c) (wrapped_reply (call m c).answer)
unfolding call unless_refused refused_with wrapped_reply
number-call m c = from (refusal m c)
  where
    from : (n : ℕ) → AnsweredBy (unless_refused n (7 if tag_differs m c else accepted) n) (wrapped_reply (unless_refused n (work m c) (refused_with n m (output_of c))).answer)
    from zero = work-number m c
    from (suc n) = refused_by n

-- what a call hands on, where it was sent back; and its phase
kept : (a : Reply Work) (n : ℕ) (m : Machine) → a ≡ refused n → (n ≡ 7 → ⊥) → (m if left_unchanged a else wrapped_machine m) ≡ m
unfolding left_unchanged
kept a n m e h = rw (e, ne_eqb n 7 h)

same_phase : (b : Bool) (m : Machine) → (m if b else wrapped_machine m).phase ≡ m.phase
unfolding wrapped_machine
same_phase true m = refl
same_phase false m = refl

session_refusals : (s : Session) (c : Call) (r : SessionReply) (out : List ℕ) (h : Called s c r out) → SessionRefusals s c r out h
unfolding session_outcome wrapped_outcome
session_refusals s c r out h =
    let m = machine_of s in
    let answer : answer_reply r.answer ≡ wrapped_reply (call m c).answer = λ i. (h i).answer in
    let next : machine_of r.session ≡ ((call m c).next if left_unchanged (call m c).answer else wrapped_machine (call m c).next) = λ i. (h i).next in
    let left : out ≡ (call m c).out = λ i. (h i).out in
    record {
      number = subst (AnsweredBy (session_number m c)) (sym answer) (number-call m c);
      unchanged = λ n e ne.
          let f = still_refused (call m c).answer n (sym answer ∙ e) in
          let u = refused_call m c n f ne in
          (next ∙ kept (call m c).answer n (call m c).next f ne ∙ u.0, left ∙ u.1);
      seven = λ e.
          let u = seven_call m c (still_refused (call m c).answer 7 (sym answer ∙ e)) in
          (ap (λ (x : Machine). x.phase) next ∙ same_phase (left_unchanged (call m c).answer) (call m c).next ∙ u.0, left ∙ u.1);
    }

-- ## The plain writer

abbrev Unchanged : PlainWriter → List ℕ → Outcome PlainWriter Work → ℕ → Type 0
Unchanged w out o n = o.answer ≡ refused n → (o.next ≡ w) × (o.out ≡ out)

on-answer : (a : Reply Work) (go_on : Work → Outcome PlainWriter Work) (w : PlainWriter) (out : List ℕ) (n : ℕ) → ((x : Work) → Unchanged w out (go_on x) n) → Unchanged w out (on_answer a go_on w out) n
unfolding on_answer refused_with
on-answer (refused k) go_on w out n h e = (refl, refl)
on-answer (done x) go_on w out n h e = h x e

writer_work : (w : PlainWriter) (c : WriterCall) (n : ℕ) → Unchanged w (plain.output_of c) (plain.work w c) n
unfolding plain.work started passed_on plain.output_of
writer_work w (start key head out) n = on-answer _ _ w out n (λ x. on-answer _ _ w out n (λ y. λ e. never e))
writer_work w (add ticket out) n = on-answer _ _ w out n (λ x. λ e. never e)
writer_work w (finish out) n = on-answer _ _ w out n (λ x. λ e. never e)

writer_unchanged : (w : PlainWriter) (c : WriterCall) (n : ℕ) → Unchanged w (plain.output_of c) (writer_call w c) n
unfolding writer_call refused_with
writer_unchanged w c n =
    by_number (λ (o : Outcome PlainWriter Work). Unchanged w (plain.output_of c) o n) (plain.refusal w c) (plain.work w c) (refused_with (plain.refusal w c) w (plain.output_of c))
    (λ z. writer_work w c n) (λ z e. (refl, refl))

writer_number : (w : PlainWriter) (c : WriterCall) (n : ℕ) → plain.refusal w c ≡ suc n → (writer_call w c).answer ≡ refused (suc n)
unfolding writer_call unless_refused refused_with
writer_number w c n e = rw e

-- a writer that calls led to answers an accepted call with what it did
exactly_call : (w : PlainWriter) (c : WriterCall) → HasRun w → AnsweredBy (plain.refusal w c) (writer_call w c).answer
unfolding writer_call unless_refused machineWork wrote answered
exactly_call w c h =
    by_cases (plain.refusal w c) (writer_call w c).answer
    (λ e. let q = machine_passed w h.log c h.reached (writer_passed w c e) in done-by c q (rw e (accepted-work w c q)))
    (writer_number w c)
  where
    done-by : (c : WriterCall) → MachinePassed w c → writer_call w c ≡ comes_to w c → (a : Work) × ((writer_call w c).answer ≡ done a)
    done-by (start key head out) q e = (_, ap (λ (o : Outcome PlainWriter Work). o.answer) e)
    done-by (add ticket out) q e = (_, ap (λ (o : Outcome PlainWriter Work). o.answer) e)
    done-by (finish out) q e = (_, ap (λ (o : Outcome PlainWriter Work). o.answer) e)

wrapped-number : (n : ℕ) (a : Reply Work) → AnsweredBy n a → AnsweredBy n (wrapped_reply a)
unfolding wrapped_reply
wrapped-number n (refused k) h = h
wrapped-number n (done w) h = by_cases n _ (λ e. (_, refl)) (λ k e. never ((h.refuses k).1 e))

kept_writer : (a : Reply Work) (n : ℕ) (w : PlainWriter) → a ≡ refused n → (w if is_refused a else wrapped_writer w) ≡ w
kept_writer a n w e = rw e

writer_refusals : (w : Writer) (c : WriterCall) (r : WriterReply) (out : List ℕ) (h : WriterCalled w c r out) → WriterRefusals w c r out h
unfolding tape.writer_outcome wrapped_writer_outcome wrapped_reply
writer_refusals w c r out h =
    let p = writer_of w in
    let answer : answer_reply r.answer ≡ wrapped_reply (writer_call p c).answer = λ i. (h i).answer in
    let next : writer_of r.writer ≡ ((writer_call p c).next if is_refused (writer_call p c).answer else wrapped_writer (writer_call p c).next) = λ i. (h i).next in
    let left : out ≡ (writer_call p c).out = λ i. (h i).out in
    record {
      number = λ n e. answer ∙ ap wrapped_reply (writer_number p c n e);
      exactly = λ es l. subst (AnsweredBy (plain.refusal p c)) (sym answer) (wrapped-number (plain.refusal p c) _ (exactly_call p c (has_run es w l)));
      unchanged = λ n e.
          let f = still_refused (writer_call p c).answer n (sym answer ∙ e) in
          let u = writer_unchanged p c n f in
          (next ∙ kept_writer (writer_call p c).answer n (writer_call p c).next f ∙ u.0, left ∙ u.1);
    }

-- an open writer with 5,000 tickets sends a further one back
full : (w : PlainWriter) (t : Ticket) (out : List ℕ) → w.phase ≡ Open → w.tickets ≡ ticket_limit → write_rule t ≡ true → plain.refusal w (add t out) ≡ 5
unfolding plain.refusal plain.phase_allows plain.key_right plain.head_right plain.ticket_right plain.tape_full
full w t out o n v = rw (o, v, n)

-- ## Tapes

-- past the tests of 2, 3 and 6, a differing tag is 7
only_7 : (a b c d : Bool) (rest : ℕ) → a ≡ true → b ≡ false → c ≡ false → d ≡ false → (2 if not a else 3 if b else 6 if c else 7 if not d else rest) ≡ 7
only_7 a b c d rest p q r s = rw (p, q, r, s)

tape_seven : (key tape out : List ℕ) → length key ≡ key_length → is_tape_length (length tape) ≡ true → is_refused (unpack_head (head_bytes tape)) ≡ false
    → ticket_length * ticket_count tape ≤ length out → tag_matches key (nonce_of (head_bytes tape)) (head_bytes tape) (sealed_bytes tape) ≡ false → open_tape_refusal key tape out ≡ 7
unfolding open_tape_refusal
tape_seven key tape out k l h room m =
    only_7 (eqb (length key) key_length && is_tape_length (length tape)) (is_refused (unpack_head (head_bytes tape))) (ltb (length out) (ticket_length * ticket_count tape))
    (tag_matches key (nonce_of (head_bytes tape)) (head_bytes tape) (sealed_bytes tape)) _ (rw (eq-eqb (length key) key_length k) l) h
    (le-ltb (length out) (ticket_length * ticket_count tape) room) m

opening_refusals : (key tape out after : List ℕ) (r : Result Totals Refusal) (h : OpensTape key tape out r after) → OpeningRefusals key tape out after r h
unfolding open_tape
opening_refusals key tape out after r h =
    let x = refused_as (open_tape_refusal key tape out) _ _ out (as_reply r) after h in
    record {
      number = x.number;
      unchanged = x.unchanged;
      seven = λ k l p room m. (x.number.refuses 6).1 (tape_seven key tape out k l p room m);
    }

-- ## Readers

-- what the reader comes to goes by the number, and stays where it is refused
abbrev pub Reads : ℕ → model.Reader → ReadOutcome → Type 0
Reads n r o = AnsweredBy n o.answer × ((k : ℕ) → o.answer ≡ refused k → o.next ≡ r)

module _ (r : model.Reader) where
  abbrev ahead : List ℕ
  ahead = take ticket_length (drop (ticket_length * r.position) r.string)

  handed : (t : Reply Ticket) → ((n : ℕ) → refused n ≡ t → n ≡ 8) → Reads (8 if is_refused t else accepted) r (handed_out t r)
  unfolding handed_out
  handed (refused n) h = (subst (λ (k : ℕ). AnsweredBy {A = Reading} 8 (refused k)) (sym (h n refl)) (refused_by 7), λ k e. refl)
  handed (done t) h = (accepted-by _, λ k e. never e)

  by_tests : (a b : Bool) → leb (length r.string / ticket_length) r.position ≡ b
      → Reads (2 if not a else accepted if b else 8 if is_refused (unpack_ticket ahead) else accepted) r
      (stays r (refused 2) if not a else stays r (done at_end) if b else handed_out (unpack_ticket ahead) r)
  by_tests false b e = (refused_by 1, λ k h. refl)
  by_tests true true e = (accepted-by _, λ k h. never h)
  by_tests true false e =
      let here = leb-false (length r.string / ticket_length) r.position e in
      handed (unpack_ticket ahead)
      (λ n u. refused_by_8 ahead n (length-take-le ticket_length (drop (ticket_length * r.position) r.string) (simp length-drop (omega arith))) u)

  pub reads : Reads (reader_number r) r (read_next r)
  unfolding read_next
  reads = by_tests (is_tickets_length (length r.string)) _ refl

reader_refusals : (r : Reader) (h : ReaderReply) (called : NextCalled r h) → ReaderRefusals r h called
unfolding reader.reader_outcome
reader_refusals r h called =
    let x = subst (Reads (reader_number (reader_of r)) (reader_of r)) (sym called.outcome) (reads (reader_of r)) in
    record { number = x.0; unchanged = x.1 }

-- two refusals with 7 over one output
alike : {A : Type 0} {n n' : ℕ} {a a' : Reply A} {out after after' : List ℕ} → RefusedBy n a out after → RefusedBy n' a' out after' → n ≡ 7 → n' ≡ 7
    → (a ≡ a') × (after ≡ after')
alike h h' e e' =
    let seven = (h.number.refuses 6).1 e in
    let seven' = (h'.number.refuses 6).1 e' in
    (seven ∙ sym seven', h.unchanged 7 seven ∙ sym (h'.unchanged 7 seven'))

pub refusal_demand : RefusalDemand
unfolding message.seal_message message.open_message pack_ticket_into pack_head_into unpack_ticket unpack_head
refusal_demand =
    record {
      sessions = session_refusals;
      writers = writer_refusals;
      ticket_5001 = λ es w l o n t out after r v called.
          (writer_refusals w (add t out) r after called).number 4 (full (writer_of w) t out o ((writer_demand es w l).tickets.0 ∙ n) v);
      sealing = λ n key nonce d text out after r h. refused_as _ _ _ out (as_reply r) after h;
      opening = λ n key nonce d s out after r h. refused_as _ _ _ out (as_reply r) after h;
      openings = opening_refusals;
      message_sevens = λ n n' key key' nonce nonce' d d' s s' out after after' r r' h h'.
          alike (refused_as _ _ _ out (as_reply r) after h) (refused_as _ _ _ out (as_reply r') after' h');
      tape_sevens = λ key key' tape tape' out after after' r r' h h'.
          let o = opening_refusals key tape out after r h in
          let o' = opening_refusals key' tape' out after' r' h' in
          alike (record { number = o.number; unchanged = o.unchanged }) (record { number = o'.number; unchanged = o'.unchanged });
      readers = reader_refusals;
      packing = λ t out after r h. refused_as _ _ _ out (as_reply r) after h;
      packing_heads = λ h out after r e. refused_as _ _ _ out (as_reply r) after e;
      unpacking = λ string r e. subst (AnsweredBy (unpack_ticket_refusal string)) (sym e) (reply-by (unpack_ticket_refusal string) _);
      unpacking_heads = λ string r e. subst (AnsweredBy (unpack_head_refusal string)) (sym e) (reply-by (unpack_head_refusal string) _);
    }
