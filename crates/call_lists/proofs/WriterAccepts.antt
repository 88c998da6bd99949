-- What the writer accepts, its machine accepts: what an accepted call of the writer comes to.
use mathlib.Core.Path.{◌≡◌, refl, ap, ◌∙◌}
use mathlib.Core.Bool.{true, ◌&&◌, ◌||◌, false≢true}
use mathlib.Core.List.{List}
use Prim.Native.Nat.{ℕ, ◌+◌, ◌<◌}
use native.Mathlib.Omega.{arith}
use lib.Dec.{eqb}
use lib.ListN.{length}
use borrow.Author.Tests.{leb-false, le-ltb}
use Rattle.acorn_model.specs.declared.Kind.TheVariants.{Sealing}
use Rattle.calls.specs.Calls.{done, Work, written_over, Outcome}
use Rattle.calls.specs.Lists.{handed_on}
use Rattle.acorn_model.specs.Machine.{Machine, fresh, Call, begin, data_call, seal_text, seal_close, is_data, is_text, is_sealing, key_length, byte_limit, phase_allows, fixes_right, sizes_right, over_limit, output_short, run_through, enter, cleared, count_data, begun, data_taken, answered, wrote, call, work as machineWork}
use Rattle.tape_model.specs.declared.Head.{Head}
use Rattle.tape_model.specs.declared.WriterPhase.{WriterPhase}
use Rattle.tape_model.specs.declared.WriterPhase.TheVariants.{Fresh, Open, Closed}
use Rattle.tape_model.specs.Ticket.{head_length, pack_ticket, pack_head}
use Rattle.tape_model.specs.Tape.{ticket_limit, tape_tag_length, nonce_of}
use Rattle.tape_model.specs.Writer.{PlainWriter, WriterCall, start, add, finish, is_fresh, is_open, key_right, tape_full, on_answer, passed_on, started, work, phase_allows as writerAllows, output_short as writerShort}
use Rattle.tape_model.specs.WriterLists.{WriterLog}
use Rattle.acorn_model.proofs.Refusals.{Passed, works}
use Rattle.tape_model.proofs.Refusals.{WriterPassed}
use Rattle.tape_model.proofs.Tickets.{head-length, ticket-length}
use Rattle.tape_model.proofs.Tapes.{nonce-length}
use Rattle.call_lists.proofs.WriterReached.{writer_nothing, Begun, WriterReached, writer_in_phase, machine_seals, tag-full, tickets-taken}

-- ## Start: begin and data on a fresh machine

module _ (key : List ℕ) (head : Head) where
  abbrev pub begin_of : Call
  begin_of = begin key (nonce_of (pack_head head)) tape_tag_length

  abbrev pub data_of : Call
  data_of = data_call (pack_head head)

  abbrev pub begun_machine : Machine
  begun_machine = (machineWork (fresh Sealing) begin_of).next

  abbrev pub started_machine : Machine
  started_machine = (machineWork begun_machine data_of).next

  start_steps : started_machine.counts.steps ≡ 1864
  unfolding fresh machineWork wrote begun data_taken enter run_through cleared count_data
  start_steps = rw (head-length head)

  begin_passes : eqb (length key) key_length ≡ true → Passed (fresh Sealing) begin_of
  unfolding fresh phase_allows fixes_right sizes_right over_limit output_short
  begin_passes k = record { phase = refl; fixes = refl; sizes = rw (k, nonce-length head); limit = refl; output = refl }

  data_passes : Passed begun_machine data_of
  unfolding fresh phase_allows fixes_right sizes_right over_limit output_short machineWork wrote begun enter run_through cleared
  data_passes = record { phase = refl; fixes = refl; sizes = refl; limit = rw (head-length head); output = refl }

-- ## The machine accepts

only-fresh : (p : WriterPhase) → is_fresh p ≡ true → p ≡ Fresh
only-fresh Fresh e = refl
only-fresh Open e = absurd (false≢true e)
only-fresh Closed e = absurd (false≢true e)

only_open : (p : WriterPhase) → is_open p ≡ true → p ≡ Open
only_open Fresh e = absurd (false≢true e)
only_open Open e = refl
only_open Closed e = absurd (false≢true e)

module _ (w : PlainWriter) (log : WriterLog) (r : WriterReached w log) where
  -- a fresh writer's list amounts to nothing, and its machine is fresh
  pub still_nothing : is_fresh w.phase ≡ true → log ≡ writer_nothing
  still_nothing h = writer_in_phase w log Fresh (only-fresh w.phase h) r

  pub still_fresh : is_fresh w.phase ≡ true → w.machine ≡ fresh Sealing
  unfolding handed_on
  still_fresh h = r.ran.machine ∙ ap (λ (l : WriterLog). handed_on call (fresh Sealing) l.machine_calls) (still_nothing h)

  -- an open writer's machine is in data or in text
  pub still_open : is_open w.phase ≡ true → ((is_data w.machine.phase || is_text w.machine.phase) ≡ true) × Begun log r.below
  still_open h = writer_in_phase w log Open (only_open w.phase h) r

  seal_allowed : is_open w.phase ≡ true → (is_sealing w.machine.kind && (is_data w.machine.phase || is_text w.machine.phase)) ≡ true
  seal_allowed h = rw (machine_seals w log r) (still_open h).0

-- what the machine has passed at the calls that the writer's call makes of it
abbrev pub MachinePassed : PlainWriter → WriterCall → Type 0
MachinePassed w (start key head out) = (w.machine ≡ fresh Sealing) × Passed (fresh Sealing) (begin_of key head) × Passed (begun_machine key head) (data_of key head)
MachinePassed w (add ticket out) = Passed w.machine (seal_text (pack_ticket ticket) out)
MachinePassed w (finish out) = Passed w.machine (seal_close out)

pub machine_passed : (w : PlainWriter) (log : WriterLog) (c : WriterCall) → WriterReached w log → WriterPassed w c → MachinePassed w c
unfolding writerAllows key_right tape_full writerShort phase_allows fixes_right sizes_right over_limit output_short
machine_passed w log (start key head out) r p = (still_fresh w log r p.phase, begin_passes key head p.key, data_passes key head)
machine_passed w log (add ticket out) r p =
    let tickets : w.tickets < ticket_limit = leb-false ticket_limit w.tickets p.full in
    record {
      phase = seal_allowed w log r p.phase;
      fixes = refl;
      sizes = refl;
      limit = le-ltb byte_limit (w.machine.counts.text_bytes + length (pack_ticket ticket)) (omega (arith, tickets-taken w log r (still_open w log r p.phase).1, ticket-length ticket));
      output = rw (ticket-length ticket) p.output;
    }
machine_passed w log (finish out) r p =
    record { phase = seal_allowed w log r p.phase; fixes = refl; sizes = refl; limit = refl; output = rw (tag-full w log r (still_open w log r p.phase).1) p.output }

-- ## What an accepted call comes to

-- the machine's call is the writer's
abbrev pub passed_to : Outcome Machine Work → WriterPhase → ℕ → Outcome PlainWriter Work
passed_to o phase tickets = record { next = record { machine = o.next; phase = phase; tickets = tickets }; answer = o.answer; out = o.out }

abbrev pub comes_to : PlainWriter → WriterCall → Outcome PlainWriter Work
comes_to w (start key head out) = record {
  next = record { machine = started_machine key head; phase = Open; tickets = w.tickets };
  answer = done (record { bytes = head_length; steps = 1864 });
  out = written_over (pack_head head) out;
}
comes_to w (add ticket out) = passed_to (machineWork w.machine (seal_text (pack_ticket ticket) out)) Open (w.tickets + 1)
comes_to w (finish out) = passed_to (machineWork w.machine (seal_close out)) Closed w.tickets

pub accepted-work : (w : PlainWriter) (c : WriterCall) → MachinePassed w c → work w c ≡ comes_to w c
unfolding work started passed_on on_answer machineWork wrote answered
accepted-work w (start key head out) p =
    rw (p.0, works (fresh Sealing) (begin_of key head) p.1, works (begun_machine key head) (data_of key head) p.2, start_steps key head)
accepted-work w (add ticket out) p = rw (works w.machine (seal_text (pack_ticket ticket) out) p)
accepted-work w (finish out) p = rw (works w.machine (seal_close out) p)
