-- Every call of the writer keeps what `WriterReached` says, and so does every list of calls.
use mathlib.Core.Path.{◌≡◌, refl, sym, ap, ap₂, ◌∙◌}
use mathlib.Core.List.{List, [], ◌∷◌, ◌++◌, append-nil, append_assoc}
use Prim.Native.Nat.{ℕ, ◌+◌, ◌≤◌}
use native.Mathlib.Omega.{arith}
use lib.ListN.{length, length-append}
use borrow.Author.Tests.{leb-false}
use Rattle.acorn_model.specs.declared.Kind.TheVariants.{Sealing}
use Rattle.calls.specs.Calls.{done, Work, Outcome, refused_with}
use Rattle.calls.specs.Lists.{Entry, written_by}
use Rattle.acorn_model.specs.Machine.{fresh, Call, seal_text, seal_close, run_through, enter, count_data, begun, data_taken, text_taken, closed, answered, wrote, work as machineWork}
use Rattle.acorn_model.specs.Lists.{Log, nothing, logged, join_logs}
use Rattle.tape_model.specs.declared.Ticket.{Ticket}
use Rattle.tape_model.specs.declared.WriterPhase.{WriterPhase}
use Rattle.tape_model.specs.declared.WriterPhase.TheVariants.{Open, Closed}
use Rattle.tape_model.specs.Ticket.{pack_ticket, pack_head}
use Rattle.tape_model.specs.Tape.{ticket_limit, pack_tickets}
use Rattle.tape_model.specs.Writer.{PlainWriter, fresh_writer, WriterCall, start, add, finish, phase_allows, tape_full, output_of, refusal, work, writer_call}
use Rattle.tape_model.specs.WriterLists.{Started, start_of, tickets_of, machine_calls_of, WriterLog, writer_log, heads_of}
use Rattle.call_lists.specs.WriterLists.{writer_after, writer_log_from}
use Rattle.acorn_model.proofs.Refusals.{Passed}
use Rattle.calls.proofs.Refusals.{by_number}
use Rattle.tape_model.proofs.Refusals.{WriterPassed, writer_passed}
use Rattle.calls.proofs.Lists.{entry_of, kept-by_list}
use Rattle.call_lists.proofs.Logs.{added, take_over, work-adds}
use Rattle.tape_model.proofs.Tickets.{head-length}
use Rattle.tape_model.proofs.Tapes.{tickets-append, ticket_alone}
use Rattle.call_lists.proofs.Ran.{ran_on, ran_fresh}
use Rattle.call_lists.proofs.WriterReached.{writer_logged, writer_followed, writer_log_last, Begun, WriterMeans, WriterReached, fresh_writer_reached}
use Rattle.call_lists.proofs.WriterAccepts.{begin_of, data_of, begun_machine, still_nothing, still_open, MachinePassed, machine_passed, passed_to, comes_to, accepted-work}

-- what the outcome o of the call c leads to
abbrev pub WriterKept : WriterLog → WriterCall → Outcome PlainWriter Work → Type 0
WriterKept log c o = WriterReached o.next (writer_followed log (writer_logged (record { call = c; answer = o.answer; out = o.out })))

-- ## One call of the machine that adds these tickets

module _ (w : PlainWriter) (log : WriterLog) (r : WriterReached w log) (c : Call) (ts : List Ticket) where
  abbrev more : WriterLog
  more = record { starts = []; tickets = ts; machine_calls = c ∷ []; written = written_by (machineWork w.machine c).answer (machineWork w.machine c).out }

  machine_wrote : more.written ≡ (added w.machine c).written
  unfolding logged
  machine_wrote = ap (λ (l : Log). l.written) (work-adds w.machine c)

  begun-on : (added w.machine c).begins ≡ [] → (added w.machine c).«data» ≡ [] → (added w.machine c).text ≡ pack_tickets ts
      → Begun log r.below → Begun (writer_followed log more) (join_logs r.below (added w.machine c))
  unfolding join_logs
  begun-on e₁ e₂ e₃ b = rw (e₁, e₂, e₃) (simp append-nil (record {
    started = b.started;
    starts = b.starts;
    begins = b.begins;
    «data» = b.«data»;
    text = ap (λ (t : List ℕ). t ++ pack_tickets ts) b.text ∙ sym (tickets-append log.tickets ts);
  }))

  one_kept : (a : Work) (phase : WriterPhase) (tickets : ℕ) → Passed w.machine c → (machineWork w.machine c).answer ≡ done a
      → tickets ≡ w.tickets + length ts → tickets ≤ ticket_limit
      → WriterMeans phase (machineWork w.machine c).next.phase (writer_followed log more) (join_logs r.below (added w.machine c))
      → WriterReached (passed_to (machineWork w.machine c) phase tickets).next (writer_followed log more)
  unfolding join_logs
  one_kept a phase tickets p h e l m = record {
    below = join_logs r.below (added w.machine c);
    ran = ran_on w.machine log.machine_calls r.below r.ran c a p h;
    written =
        ap₂ ◌++◌ r.written machine_wrote ∙ append_assoc (heads_of log.starts) r.below.written (added w.machine c).written
        ∙ ap (λ (ss : List Started). heads_of ss ++ (r.below.written ++ (added w.machine c).written)) (sym (append-nil log.starts));
    tickets = omega (arith, length-append log.tickets ts, r.tickets);
    fits = l;
    means = m;
  }

-- ## Every accepted call

module _ (w : PlainWriter) (log : WriterLog) (r : WriterReached w log) where
  accepted-kept : (c : WriterCall) → WriterPassed w c → MachinePassed w c → WriterKept log c (comes_to w c)
  unfolding phase_allows tape_full machineWork wrote answered begun data_taken text_taken closed enter run_through count_data start_of tickets_of machine_calls_of heads_of pack_tickets join_logs nothing
  accepted-kept (start key head out) p q =
      let e = still_nothing w log r p.phase in
      rw e (record {
        below = _;
        ran = ran_on (begun_machine key head) (begin_of key head ∷ []) _ (ran_on (fresh Sealing) [] nothing ran_fresh (begin_of key head) _ q.1 refl) (data_of key head) _ q.2 refl;
        written = simp append-nil (rw (← head-length head) (take_over (pack_head head) out));
        tickets = r.tickets ∙ ap (λ (l : WriterLog). length l.tickets) e;
        fits = r.fits;
        means = (refl, record { started = record { key = key; head = head }; starts = refl; begins = refl; «data» = refl; text = refl });
      })
  accepted-kept (add ticket out) p q =
      let c : Call = seal_text (pack_ticket ticket) out in
      one_kept w log r c (ticket ∷ []) _ Open (w.tickets + 1) q refl refl (omega (arith, leb-false ticket_limit w.tickets p.full))
      (refl, begun-on w log r c (ticket ∷ []) refl refl (sym (ticket_alone ticket)) (still_open w log r p.phase).1)
  accepted-kept (finish out) p q =
      one_kept w log r (seal_close out) [] _ Closed w.tickets q refl (omega arith) r.fits
      (refl, begun-on w log r (seal_close out) [] refl refl refl (still_open w log r p.phase).1)

-- ## Every call, and every list

pub writer_kept : (w : PlainWriter) (c : WriterCall) (log : WriterLog) → WriterReached w log → WriterKept log c (writer_call w c)
unfolding writer_call refused_with
writer_kept w c log r =
    by_number (WriterKept log c) (refusal w c) (work w c) (refused_with (refusal w c) w (output_of c))
    (λ e.
    let p = writer_passed w c e in
    let q = machine_passed w log c r p in
    rw (accepted-work w c q) (accepted-kept w log r c p q))
    (λ _. simp append-nil r)

pub writer_reached : (calls : List WriterCall) → WriterReached (writer_after calls) (writer_log_from calls)
unfolding writer_log
writer_reached calls =
    kept-by_list writer_call (λ (w : PlainWriter) (es : List (Entry WriterCall Work)). WriterReached w (writer_log es))
    (λ w c es r. rw (writer_log_last es (entry_of writer_call w c)) (writer_kept w c (writer_log es) r)) fresh_writer calls fresh_writer_reached
