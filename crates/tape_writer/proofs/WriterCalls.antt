-- What a writer's call comes to, from its refusal number and the session's replies.
use mathlib.Core.Path.{◌≡◌, refl, sym, ap, ◌∙◌, subst}
use mathlib.Core.Bool.{true, false}
use mathlib.Core.List.{List, []}
use Prim.Native.Nat.{ℕ, zero, suc}
use native.Mathlib.Omega.{arith}
use Rattle.calls.specs.declared.Answer.{Answer}
use Rattle.calls.specs.declared.Answer.TheVariants.{Refused, Done}
use Rattle.calls.specs.declared.Refusal.{Refusal}
use Rattle.calls.specs.declared.Refusal.TheVariants.{WrongPhase, WrongLength, HeadOutOfRange, TicketRule, OverLimit, OutputTooShort}
use Rattle.calls.specs.Refusals.{refusal_number}
use Rattle.calls.specs.Calls.{◌if◌else◌, Reply, refused, done, Work, left_unchanged, answer_reply, unless_refused, written_over, Outcome, refused_with}
use Rattle.acorn_model.specs.Machine as machine
use Rattle.acorn_model.specs.Machine.{Machine, begin, data_call, seal_text, seal_close, wrote, answered}
use Rattle.tape_model.specs.declared.Head.{Head}
use Rattle.tape_model.specs.declared.WriterPhase.{WriterPhase}
use Rattle.tape_model.specs.declared.WriterPhase.TheVariants.{Open}
use Rattle.tape_model.specs.Ticket.{head_length, pack_head}
use Rattle.tape_model.specs.Writer.{PlainWriter, WriterCall, output_of, phase_allows, key_right, head_right, ticket_right, tape_full, output_short, refusal, on_answer, passed_on, started, start, work, writer_call}
use Rattle.tape_model.specs.Tape.{tape_tag_length, nonce_of}
use Rattle.tape_model.proofs.Refusals.{WriterPassed, writer_works}
use Rattle.session.specs.declared.Session.{Session}
use Rattle.session.specs.declared.Reply.{Reply as SessionReply}
use Rattle.session.specs.Clauses as session
use Rattle.session.specs.Clauses.{machine_of, wrapped_machine, wrapped_reply, wrapped_outcome, Called}
use Rattle.session.proofs.Wrapping.{wrapped-call}
use Rattle.tape_writer.specs.declared.Writer.{Writer}
use Rattle.tape_writer.specs.declared.WriterReply.{WriterReply}
use Rattle.tape_writer.specs.Clauses.{writer_of, writer_outcome, wrapped_writer, wrapped_writer_outcome, WriterCalled, refused_reply, unless_answer_refused, passed_reply, unless_begun, head_taken, Gives}

-- ## By the number

module _ (w : Writer) (c : WriterCall) where
  -- a refused call hands the writer on as it was
  refuses : (n : ℕ) → refusal (writer_of w) c ≡ suc n → (e : Refusal) → refusal_number e ≡ suc n → (r : WriterReply) → r ≡ refused_reply e w → WriterCalled w c r (output_of c)
  unfolding writer_outcome answer_reply writer_call unless_refused refused_with wrapped_writer_outcome wrapped_reply
  refuses n applies e number r is =
      ap (λ (x : WriterReply). writer_outcome x (output_of c)) is ∙ ap (λ (k : ℕ). record { next = writer_of w; answer = refused k; out = output_of c }) number ∙ rw applies

  module _ (r : WriterReply) where
    pub refused_1 : r ≡ refused_reply WrongPhase w → phase_allows (writer_of w).phase c ≡ false → WriterCalled w c r (output_of c)
    unfolding refusal
    refused_1 is p = refuses 0 (rw p) WrongPhase refl r is

    pub refused_2 : r ≡ refused_reply WrongLength w → phase_allows (writer_of w).phase c ≡ true → key_right c ≡ false → WriterCalled w c r (output_of c)
    unfolding refusal
    refused_2 is p k = refuses 1 (rw (p, k)) WrongLength refl r is

    pub refused_3 : r ≡ refused_reply HeadOutOfRange w → phase_allows (writer_of w).phase c ≡ true → key_right c ≡ true → head_right c ≡ false → WriterCalled w c r (output_of c)
    unfolding refusal
    refused_3 is p k h = refuses 2 (rw (p, k, h)) HeadOutOfRange refl r is

    pub refused_4 : r ≡ refused_reply TicketRule w → phase_allows (writer_of w).phase c ≡ true → key_right c ≡ true → head_right c ≡ true → ticket_right c ≡ false
        → WriterCalled w c r (output_of c)
    unfolding refusal
    refused_4 is p k h t = refuses 3 (rw (p, k, h, t)) TicketRule refl r is

    pub refused_5 : r ≡ refused_reply OverLimit w → phase_allows (writer_of w).phase c ≡ true → key_right c ≡ true → head_right c ≡ true → ticket_right c ≡ true
        → tape_full (writer_of w).tickets c ≡ true → WriterCalled w c r (output_of c)
    unfolding refusal
    refused_5 is p k h t f = refuses 4 (rw (p, k, h, t, f)) OverLimit refl r is

    pub refused_6 : r ≡ refused_reply OutputTooShort w → phase_allows (writer_of w).phase c ≡ true → key_right c ≡ true → head_right c ≡ true → ticket_right c ≡ true
        → tape_full (writer_of w).tickets c ≡ false → output_short c ≡ true → WriterCalled w c r (output_of c)
    unfolding refusal
    refused_6 is p k h t f o = refuses 5 (rw (p, k, h, t, f, o)) OutputTooShort refl r is

  -- an accepted call does its work
  pub accepts : WriterPassed (writer_of w) c → wrapped_writer_outcome (work (writer_of w) c) ≡ wrapped_writer_outcome (writer_call (writer_of w) c)
  accepts p = ap wrapped_writer_outcome (sym (writer_works (writer_of w) c p))

-- ## By the session's answer

-- the machine's answer is in the case of the session's, whose count wrapped around
module _ (a : Reply Work) (go_on : Work → Outcome PlainWriter Work) (w : PlainWriter) (out : List ℕ) where
  answer_refused : (n : ℕ) → wrapped_reply a ≡ refused n → wrapped_writer_outcome (on_answer a go_on w out) ≡ refused_with n w out
  unfolding wrapped_reply on_answer wrapped_writer_outcome refused_with
  answer_refused n = by a
    where
      by : (a : Reply Work) → wrapped_reply a ≡ refused n → wrapped_writer_outcome (on_answer a go_on w out) ≡ refused_with n w out
      by (refused k) e = ap (λ (x : Reply Work). record { next = w; answer = x; out = out }) e
      by (done j) e = absurd (let z : ◌≡◌ {A = ℕ} 0 1 = cc in omega arith)

  answer-done : (k : Work) → wrapped_reply a ≡ done k → (o : Outcome PlainWriter Work)
      → ((j : Work) → wrapped_reply (done j) ≡ done k → wrapped_writer_outcome (go_on j) ≡ o) → wrapped_writer_outcome (on_answer a go_on w out) ≡ o
  unfolding wrapped_reply on_answer
  answer-done k e o = by a e
    where
      by : (a : Reply Work) → wrapped_reply a ≡ done k → ((j : Work) → wrapped_reply (done j) ≡ done k → wrapped_writer_outcome (go_on j) ≡ o)
          → wrapped_writer_outcome (on_answer a go_on w out) ≡ o
      by (refused n) f g = absurd (let z : ◌≡◌ {A = ℕ} 0 1 = cc in omega arith)
      by (done j) f g = g j f

module _ (r : SessionReply) (o : Outcome Machine Work) (g : Gives r o) where
  says_refused : (n : Refusal) → r.answer ≡ Refused n → wrapped_reply o.answer ≡ refused (refusal_number n)
  says_refused n d = sym g.0 ∙ (unfold answer_reply in ap answer_reply d)

  says-done : (n k : ℕ) → r.answer ≡ Done n k → wrapped_reply o.answer ≡ done (record { bytes = n; steps = k })
  says-done n k d = sym g.0 ∙ (unfold answer_reply in ap answer_reply d)

-- a machine whose call was accepted
accepted_next : (a : Reply Work) (k : Work) (m : Machine) → wrapped_reply a ≡ done k → (m if left_unchanged a else wrapped_machine m) ≡ wrapped_machine m
unfolding wrapped_reply left_unchanged
accepted_next (refused n) k m e = absurd (let z : ◌≡◌ {A = ℕ} 0 1 = cc in omega arith)
accepted_next (done j) k m e = refl

-- a session's reply, and its output after it, come to o
module _ (r : SessionReply) (after : List ℕ) (o : Outcome Machine Work) (e : session.session_outcome r after ≡ wrapped_outcome o) where
  gives : Gives r o
  unfolding session.session_outcome wrapped_outcome answer_reply
  gives = (λ i. (e i).answer, λ n k d. (λ i. (e i).next) ∙ accepted_next o.answer _ o.next ((λ i. (sym e i).answer) ∙ ap answer_reply d))

  out_is : after ≡ o.out
  out_is = unfold session.session_outcome wrapped_outcome in λ i. (e i).out

  -- ## The session's call is the writer's

  module _ (w : Writer) (phase : WriterPhase) (tickets : ℕ) (out : List ℕ) where
    passed : (n k : ℕ) → r.answer ≡ Done n k
        → writer_outcome (record { answer = r.answer; writer = record { session = r.session; tickets = tickets; phase = phase } }) after
        ≡ wrapped_writer_outcome (passed_on o phase tickets (writer_of w) out)
    unfolding writer_outcome writer_of passed_on wrapped_writer_outcome wrapped_writer
    passed n k d =
        let f = says-done r o gives n k d in
        (λ i. record { next = record { machine = gives.1 n k d i; phase = phase; tickets = tickets }; answer = (gives.0 ∙ f) i; out = out_is i })
        ∙ sym (answer-done o.answer _ (writer_of w) out _ f _
        (λ j g i. record { next = record { machine = wrapped_machine o.next; phase = phase; tickets = tickets }; answer = g i; out = o.out }))

    stopped : (n : Refusal) → r.answer ≡ Refused n → o.out ≡ out
        → writer_outcome (record { answer = r.answer; writer = w }) after ≡ wrapped_writer_outcome (passed_on o phase tickets (writer_of w) out)
    unfolding writer_outcome passed_on refused_with
    stopped n d kept =
        let f = says_refused r o gives n d in
        (λ i. record { next = writer_of w; answer = (gives.0 ∙ f) i; out = (out_is ∙ kept) i }) ∙ sym (answer_refused o.answer _ (writer_of w) out (refusal_number n) f)

-- a refused sealing call of the machine leaves its output as it was
kept_out : (k : ℕ) (written out : List ℕ) (next m : Machine) (n : ℕ) → wrapped_reply (unless_refused k (wrote written next out) (refused_with k m out)).answer ≡ refused n
    → (unless_refused k (wrote written next out) (refused_with k m out)).out ≡ out
unfolding unless_refused wrote answered refused_with wrapped_reply
kept_out zero written out next m n e = absurd (let z : ◌≡◌ {A = ℕ} 0 1 = cc in omega arith)
kept_out (suc k) written out next m n e = refl

module _ (w : Writer) (r : SessionReply) (out after : List ℕ) (phase : WriterPhase) (tickets : ℕ) (n : Refusal) (d : r.answer ≡ Refused n) where
  text_stopped : (piece : List ℕ) → Called w.session (seal_text piece out) r after
      → writer_outcome (record { answer = r.answer; writer = w }) after
      ≡ wrapped_writer_outcome (passed_on (machine.call (machine_of w.session) (seal_text piece out)) phase tickets (writer_of w) out)
  text_stopped piece e =
      let o = machine.call (machine_of w.session) (seal_text piece out) in
      stopped r after o e w phase tickets out n d
      (unfold machine.call machine.work machine.output_of in kept_out _ _ out _ _ (refusal_number n) (says_refused r o (gives r after o e) n d))

  close_stopped : Called w.session (seal_close out) r after
      → writer_outcome (record { answer = r.answer; writer = w }) after
      ≡ wrapped_writer_outcome (passed_on (machine.call (machine_of w.session) (seal_close out)) phase tickets (writer_of w) out)
  close_stopped e =
      let o = machine.call (machine_of w.session) (seal_close out) in
      stopped r after o e w phase tickets out n d
      (unfold machine.call machine.work machine.output_of in kept_out _ _ out _ _ (refusal_number n) (says_refused r o (gives r after o e) n d))

-- by either answer
module _ (w : Writer) (r : SessionReply) (out after : List ℕ) (phase : WriterPhase) (tickets : ℕ) where
  abbrev handed_on : Answer → WriterReply
  handed_on a = record { answer = r.answer; writer = unless_answer_refused a w (record { session = r.session; tickets = tickets; phase = phase }) }

  pub text_passed : (piece : List ℕ) → Called w.session (seal_text piece out) r after
      → writer_outcome (passed_reply r tickets phase w) after ≡ wrapped_writer_outcome (passed_on (machine.call (machine_of w.session) (seal_text piece out)) phase tickets (writer_of w) out)
  text_passed piece e = by r.answer refl
    where
      by : (a : Answer) → r.answer ≡ a → writer_outcome (handed_on a) after ≡ wrapped_writer_outcome (passed_on (machine.call (machine_of w.session) (seal_text piece out)) phase tickets (writer_of w) out)
      by (Refused n) d = text_stopped w r out after phase tickets n d piece e
      by (Done n k) d = passed r after _ e w phase tickets out n k d

  pub close_passed : Called w.session (seal_close out) r after
      → writer_outcome (passed_reply r tickets phase w) after ≡ wrapped_writer_outcome (passed_on (machine.call (machine_of w.session) (seal_close out)) phase tickets (writer_of w) out)
  close_passed e = by r.answer refl
    where
      by : (a : Answer) → r.answer ≡ a → writer_outcome (handed_on a) after ≡ wrapped_writer_outcome (passed_on (machine.call (machine_of w.session) (seal_close out)) phase tickets (writer_of w) out)
      by (Refused n) d = close_stopped w r out after phase tickets n d e
      by (Done n k) d = passed r after _ e w phase tickets out n k d

-- ## Begin, and then data with the head

module _ (s : Session) (key head : List ℕ) (r : SessionReply) (e : Called s (begin key (nonce_of head) tape_tag_length) r []) where
  abbrev begun : Outcome Machine Work
  begun = machine.call (machine_of s) (begin key (nonce_of head) tape_tag_length)

  abbrev taken : Outcome Machine Work
  taken = machine.call begun.next (data_call head)

  -- begin is refused
  pub not-begun : (n : Refusal) → r.answer ≡ Refused n → Gives r (head_taken (machine_of s) key head)
  unfolding head_taken wrapped_reply
  not-begun n d = subst (Gives r) (by begun.answer (says_refused r begun (gives r [] begun e) n d)) (gives r [] begun e)
    where
      by : (a : Reply Work) → wrapped_reply a ≡ refused (refusal_number n) → begun ≡ unless_begun a begun taken
      by (refused k) f = refl
      by (done k) f = absurd (let z : ◌≡◌ {A = ℕ} 0 1 = cc in omega arith)

  -- begin is accepted, and data follows, on a machine whose count wrapped around
  pub then_taken : (n k : ℕ) → r.answer ≡ Done n k → (r' : SessionReply) → Called r.session (data_call head) r' [] → Gives r' (head_taken (machine_of s) key head)
  unfolding head_taken wrapped_reply
  then_taken n k d r' called =
      let g = gives r [] begun e in
      let g' = subst (λ (m : Machine). Gives r' (machine.call m (data_call head))) (g.1 n k d) (gives r' [] _ called) in
      let same = wrapped-call begun.next (data_call head) in
      subst (Gives r') (by begun.answer (says-done r begun g n k d)) (g'.0 ∙ (λ i. (same i).answer), λ x y f. g'.1 x y f ∙ (λ i. (same i).next))
    where
      by : (a : Reply Work) → wrapped_reply a ≡ done (record { bytes = n; steps = k }) → taken ≡ unless_begun a begun taken
      by (refused j) f = absurd (let z : ◌≡◌ {A = ℕ} 0 1 = cc in omega arith)
      by (done j) f = refl

module _ (w : PlainWriter) (head : Head) (out : List ℕ) (begun taken : Outcome Machine Work) where
  abbrev go_on : Work → Outcome PlainWriter Work
  go_on x =
      record {
        next = record { machine = taken.next; phase = Open; tickets = w.tickets };
        answer = done (record { bytes = head_length; steps = x.steps });
        out = written_over (pack_head head) out;
      }

  start_refused : (n : ℕ) → wrapped_reply (unless_begun begun.answer begun taken).answer ≡ refused n
      → wrapped_writer_outcome (started begun taken head w out) ≡ refused_with n w out
  unfolding started on_answer
  start_refused n = by begun.answer refl
    where
      by : (a : Reply Work) → begun.answer ≡ a → wrapped_reply (unless_begun a begun taken).answer ≡ refused n
          → wrapped_writer_outcome (on_answer a (λ x. on_answer taken.answer go_on w out) w out) ≡ refused_with n w out
      by (refused k) d f = answer_refused (refused k) (λ x. on_answer taken.answer go_on w out) w out n (ap wrapped_reply (sym d) ∙ f)
      by (done k) d f = answer_refused taken.answer go_on w out n f

  start-done : (k : Work) → wrapped_reply (unless_begun begun.answer begun taken).answer ≡ done k
      → wrapped_writer_outcome (started begun taken head w out)
      ≡ record {
        next = record { machine = wrapped_machine (unless_begun begun.answer begun taken).next; phase = Open; tickets = w.tickets };
        answer = done (record { bytes = head_length; steps = k.steps });
        out = written_over (pack_head head) out;
      }
  unfolding started on_answer wrapped_writer_outcome wrapped_writer wrapped_reply
  start-done k = by begun.answer refl
    where
      steps_of : Reply Work → ℕ
      steps_of (refused n) = 0
      steps_of (done x) = x.steps

      by : (a : Reply Work) → begun.answer ≡ a → wrapped_reply (unless_begun a begun taken).answer ≡ done k
          → wrapped_writer_outcome (on_answer a (λ x. on_answer taken.answer go_on w out) w out)
          ≡ record {
            next = record { machine = wrapped_machine (unless_begun a begun taken).next; phase = Open; tickets = w.tickets };
            answer = done (record { bytes = head_length; steps = k.steps });
            out = written_over (pack_head head) out;
          }
      by (refused n) d f = absurd (let z : ◌≡◌ {A = ℕ} 0 1 = let g = ap wrapped_reply (sym d) ∙ f in cc in omega arith)
      by (done j) d f =
          answer-done taken.answer go_on w out k f _
          (λ x g i. record {
            next = record { machine = wrapped_machine taken.next; phase = Open; tickets = w.tickets };
            answer = done (record { bytes = head_length; steps = steps_of (g i) });
            out = written_over (pack_head head) out;
          })

module _ (w : Writer) (key : List ℕ) (head : Head) (out : List ℕ) (r : SessionReply) (g : Gives r (head_taken (machine_of w.session) key (pack_head head))) where
  pub not-started : (n : Refusal) → r.answer ≡ Refused n
      → writer_outcome (record { answer = r.answer; writer = w }) out ≡ wrapped_writer_outcome (work (writer_of w) (start key head out))
  unfolding writer_outcome work writer_of head_taken refused_with
  not-started n d =
      let f = says_refused r (head_taken (machine_of w.session) key (pack_head head)) g n d in
      (λ i. record { next = writer_of w; answer = (g.0 ∙ f) i; out = out }) ∙ sym (start_refused (writer_of w) head out _ _ (refusal_number n) f)

  pub head_written : (n steps : ℕ) → r.answer ≡ Done n steps → (after : List ℕ) → after ≡ written_over (pack_head head) out
      → writer_outcome (record { answer = Done head_length steps; writer = record { session = r.session; tickets = w.tickets; phase = Open } }) after
      ≡ wrapped_writer_outcome (work (writer_of w) (start key head out))
  unfolding writer_outcome work writer_of head_taken answer_reply
  head_written n steps d after written =
      (λ i. record {
        next = record { machine = g.1 n steps d i; phase = Open; tickets = w.tickets };
        answer = done (record { bytes = head_length; steps = steps });
        out = written i;
      })
      ∙ sym (start-done (writer_of w) head out _ _ _ (says-done r (head_taken (machine_of w.session) key (pack_head head)) g n steps d))
