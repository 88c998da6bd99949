-- The statements of specs/WriterLists.antt, proved from what a list leads to.
use mathlib.Core.Path.{◌≡◌, sym, ap, ap₂, ◌∙◌, subst}
use mathlib.Core.Bool.{false}
use mathlib.Core.List.{List, [], ◌++◌, append-nil}
use Prim.Native.Nat.{ℕ, ◌≤◌}
use native.Mathlib.Omega.{arith}
use lib.ListN.{length}
use Rattle.acorn_model.specs.declared.Kind.TheVariants.{Sealing}
use Rattle.acorn_model.specs.declared.Phase.{Phase}
use Rattle.acorn_model.specs.declared.Phase.TheVariants.{Closed as MachineClosed}
use Rattle.calls.specs.Calls.{done, Work, Outcome, refused_with}
use Rattle.acorn_model.specs.Machine.{Machine, data_ended, text_ended, wrote, answered, work as machineWork}
use Rattle.acorn_model.specs.Lists.{Log}
use Rattle.acorn_model.specs.Message.{sealed}
use Rattle.tape_model.specs.declared.Ticket.{Ticket}
use Rattle.tape_model.specs.declared.Head.{Head}
use Rattle.tape_model.specs.declared.WriterPhase.{WriterPhase}
use Rattle.tape_model.specs.declared.WriterPhase.TheVariants.{Fresh, Open, Closed}
use Rattle.tape_model.specs.Ticket.{pack_ticket, pack_head}
use Rattle.tape_model.specs.Tape.{nonce_of, tape_of}
use Rattle.tape_model.specs.Writer.{PlainWriter, fresh_writer, WriterCall, start, add, finish, phase_allows, refusal, output_of, work, writer_call}
use Rattle.call_lists.specs.MachineLists.{log_from}
use Rattle.tape_model.specs.WriterLists.{WriterLog, heads_of}
use Rattle.call_lists.specs.WriterLists.{writer_after, writer_log_from, StartsRight, WriterLists}
use Rattle.acorn_model.proofs.Outputs.{text_out-length, tag_bytes-length}
use Rattle.tape_model.proofs.Tickets.{ticket-length, all_writable_valid}
use Rattle.tape_model.proofs.Tapes.{tapes_come_back}
use Rattle.calls.proofs.Refusals.{by_number}
use Rattle.tape_model.proofs.Refusals.{WriterPassed, writer_passed}
use Rattle.call_lists.proofs.MachineLists.{machine_lists}
use Rattle.call_lists.proofs.WriterReached.{Begun, WriterMeans, WriterReached, writer_in_phase, tag-full}
use Rattle.call_lists.proofs.WriterAccepts.{still_open, machine_passed, comes_to, accepted-work}
use Rattle.call_lists.proofs.WriterValid.{tickets_right, starts_right}
use Rattle.call_lists.proofs.WriterKept.{writer_reached}

-- a list with no accepted start is that of a fresh writer
none_written : (phase : WriterPhase) (below : Phase) (log : WriterLog) (l : Log) → WriterMeans phase below log l → log.starts ≡ [] → log.written ≡ []
none_written Fresh below log l e h = ap (λ (x : WriterLog). x.written) e
none_written Open below log l m h = let s = m.1.starts in cc
none_written Closed below log l m h = let s = m.1.starts in cc

-- a started writer was started once
started-once : (phase : WriterPhase) (below : Phase) (log : WriterLog) (l : Log) → WriterMeans phase below log l → length log.starts ≤ 1
started-once Fresh below log l e = rw e (omega arith)
started-once Open below log l m = rw m.1.starts (omega arith)
started-once Closed below log l m = rw m.1.starts (omega arith)

module _ (w : PlainWriter) (log : WriterLog) (r : WriterReached w log) where
  -- a finished writer's machine has ended: its bytes are those of the sealed tickets
  tape-written : (b : Begun log r.below) → w.machine.phase ≡ MachineClosed → log.written ≡ tape_of b.started.key b.started.head log.tickets
  unfolding tape_of heads_of
  tape-written b c =
      let e : r.below ≡ log_from Sealing log.machine_calls = r.ran.log_is in
      let ended = ap (λ (m : Machine). m.phase) (sym r.ran.machine) ∙ c in
      let sealed_bytes = machine_lists.wrote log.machine_calls _ ended (ap (λ (l : Log). l.begins) (sym e) ∙ b.begins) in
      let text =
      ap (λ (l : Log). l.written) e ∙ sealed_bytes
      ∙ ap₂ (sealed b.started.key (nonce_of (pack_head b.started.head)))
      (ap (λ (l : Log). l.«data») (sym e) ∙ b.«data») (ap (λ (l : Log). l.text) (sym e) ∙ b.text) in
      r.written ∙ ap₂ ◌++◌ (ap heads_of b.starts ∙ append-nil (pack_head b.started.head)) text

  -- an accepted call answers what it comes to
  accepted-answer : (c : WriterCall) (a : Work) → (writer_call w c).answer ≡ done a → (comes_to w c).answer ≡ done a
  unfolding writer_call refused_with
  accepted-answer c a =
      by_number (λ (o : Outcome PlainWriter Work). o.answer ≡ done a → (comes_to w c).answer ≡ done a)
      (refusal w c) (work w c) (refused_with (refusal w c) w (output_of c))
      (λ n h. sym (ap (λ (o : Outcome PlainWriter Work). o.answer) (accepted-work w c (machine_passed w log c r (writer_passed w c n)))) ∙ h)
      (λ _ h. cc)

  start-answers : (key out : List ℕ) (head : Head) (a : Work) → (writer_call w (start key head out)).answer ≡ done a → a ≡ record { bytes = 9; steps = 1864 }
  start-answers key out head a h = let e = accepted-answer (start key head out) a h in cc

  add_answers : (ticket : Ticket) (out : List ℕ) (a : Work) → (writer_call w (add ticket out)).answer ≡ done a → a.bytes ≡ 13
  unfolding machineWork wrote answered
  add_answers ticket out a h =
      let e = accepted-answer (add ticket out) a h in
      let long = text_out-length false (pack_ticket ticket) (data_ended w.machine).state ∙ ticket-length ticket in
      cc

  accepted-passed : (c : WriterCall) (a : Work) → (writer_call w c).answer ≡ done a → WriterPassed w c
  unfolding writer_call refused_with
  accepted-passed c a =
      by_number (λ (o : Outcome PlainWriter Work). o.answer ≡ done a → WriterPassed w c)
      (refusal w c) (work w c) (refused_with (refusal w c) w (output_of c))
      (λ n _. writer_passed w c n) (λ _ h. let z : ◌≡◌ {A = ℕ} 0 1 = cc in absurd (omega arith))

  finish_answers : (out : List ℕ) (a : Work) → (writer_call w (finish out)).answer ≡ done a → a.bytes ≡ 16
  unfolding machineWork wrote answered phase_allows
  finish_answers out a h =
      let e = accepted-answer (finish out) a h in
      let full = tag-full w log r (still_open w log r (accepted-passed (finish out) a h).phase).1 in
      let long = tag_bytes-length w.machine.tag_length (omega (arith, full)) (text_ended w.machine).state ∙ full in
      cc

-- ## The claims

pub writer_lists : WriterLists
writer_lists = record {
  machine = λ calls. (writer_reached calls).ran.machine;
  accepts = λ calls. (writer_reached calls).ran.accepts;
  starts_right = starts_right fresh_writer;
  tickets_right = tickets_right fresh_writer;
  once = λ calls. started-once (writer_after calls).phase (writer_after calls).machine.phase (writer_log_from calls) (writer_reached calls).below (writer_reached calls).means;
  written = λ calls.
      let r = writer_reached calls in
      r.written ∙ ap (λ (l : Log). heads_of (writer_log_from calls).starts ++ l.written) r.ran.log_is;
  none = λ calls. none_written (writer_after calls).phase (writer_after calls).machine.phase (writer_log_from calls) (writer_reached calls).below (writer_reached calls).means;
  tickets = λ calls. (writer_reached calls).tickets;
  at_most = λ calls. let r = writer_reached calls in omega (arith, r.tickets, r.fits);
  tape = λ calls c.
      let r = writer_reached calls in
      let m = writer_in_phase (writer_after calls) (writer_log_from calls) Closed c r in
      let right = subst StartsRight m.1.starts (starts_right fresh_writer calls) in (
        m.1.started,
        m.1.starts,
        tape-written (writer_after calls) (writer_log_from calls) r m.1 m.0,
        tapes_come_back m.1.started.key m.1.started.head (writer_log_from calls).tickets right.0 right.1 (all_writable_valid (writer_log_from calls).tickets (tickets_right fresh_writer calls))
            (omega (arith, r.tickets, r.fits)),
      );
  start-answers = λ calls key out head a. start-answers (writer_after calls) (writer_log_from calls) (writer_reached calls) key out head a;
  add_answers = λ calls ticket out a. add_answers (writer_after calls) (writer_log_from calls) (writer_reached calls) ticket out a;
  finish_answers = λ calls out a. finish_answers (writer_after calls) (writer_log_from calls) (writer_reached calls) out a;
}
