-- Every tape is written: start, an add for each of at most 5,000 tickets that may be written and finish are accepted throughout. The 5,001st ticket is not.
use mathlib.Core.Path.{◌≡◌, refl, sym, ap, ◌∙◌, subst}
use mathlib.Core.Bool.{true}
use mathlib.Core.List.{List, [], ◌∷◌, ◌++◌}
use Prim.Native.Nat.{ℕ, suc, ◌+◌, ◌≤◌, ◌<◌}
use native.Mathlib.Omega.{arith}
use lib.ListN.{length}
use borrow.Author.Tests.{le-ltb, lt-leb, eq-eqb}
use Rattle.calls.specs.Calls.{done, Work, Outcome}
use Rattle.calls.specs.Lists.{entries, handed_on, if_accepted, AllAccepted}
use Rattle.acorn_model.specs.Machine.{key_length, answered, wrote, work as machineWork}
use Rattle.tape_model.specs.declared.Ticket.{Ticket}
use Rattle.tape_model.specs.declared.Head.{Head}
use Rattle.tape_model.specs.declared.WriterPhase.TheVariants.{Open, Closed}
use Rattle.tape_model.specs.Ticket.{ticket_length, head_length, head_rule}
use Rattle.tape_model.specs.Tape.{tape_tag_length, ticket_limit, tape_of}
use Rattle.tape_model.specs.Writer.{PlainWriter, fresh_writer, WriterCall, start, add, finish, phase_allows, key_right, head_right, ticket_right, tape_full, output_short, writer_call}
use Rattle.tape_model.specs.WriterLists.{Started, start_of, tickets_of, writer_log}
use Rattle.tape_model.specs.Laws.{Writable}
use Rattle.call_lists.specs.WriterLists.{writer_log_from, TapeOutputs, RoomFor, adds, tape_calls, EveryTapeWritten}
use Rattle.tape_model.proofs.Refusals.{WriterPassed}
use Rattle.call_lists.proofs.WriterAccepts.{comes_to}
use Rattle.call_lists.proofs.WriterRuns.{HasRun, fresh_has_run, runs_on, comes}
use Rattle.call_lists.proofs.WriterLists.{writer_lists}

-- ## A call that passes

passes_on : (w : PlainWriter) (c : WriterCall) → HasRun w → WriterPassed w c → HasRun (comes_to w c).next
passes_on w c h p = subst (λ (o : Outcome PlainWriter Work). HasRun o.next) (comes w c h p) (runs_on w c h)

-- ## The list

-- what calls from the writer w come to: all are accepted, it is finished, and these starts and tickets were accepted
abbrev Comes : PlainWriter → List WriterCall → List Started → List Ticket → Type 0
Comes w cs ss ts =
    AllAccepted (entries writer_call w cs) × ((handed_on writer_call w cs).phase ≡ Closed)
    × ((writer_log (entries writer_call w cs)).starts ≡ ss) × ((writer_log (entries writer_call w cs)).tickets ≡ ts)

-- a call that passes, before others
first : (w : PlainWriter) (c : WriterCall) (cs : List WriterCall) (ss : List Started) (ts : List Ticket) (a : Work)
    → HasRun w → WriterPassed w c → (comes_to w c).answer ≡ done a → Comes (comes_to w c).next cs ss ts → Comes w (c ∷ cs) (start_of c ++ ss) (tickets_of c ++ ts)
unfolding entries handed_on writer_log
first w c cs ss ts a h p e rest =
    subst (λ (o : Outcome PlainWriter Work).
    (((x : Work) × (o.answer ≡ done x)) × AllAccepted (entries writer_call o.next cs))
    × ((handed_on writer_call o.next cs).phase ≡ Closed)
    × ((if_accepted o.answer (start_of c) ++ (writer_log (entries writer_call o.next cs)).starts) ≡ start_of c ++ ss)
    × ((if_accepted o.answer (tickets_of c) ++ (writer_log (entries writer_call o.next cs)).tickets) ≡ tickets_of c ++ ts))
    (sym (comes w c h p)) (((a, e), rest.0), rest.1, rw e (ap (◌++◌ (start_of c)) rest.2), rw e (ap (◌++◌ (tickets_of c)) rest.3))

-- from an open writer with room for the tickets left
from_open : (w : PlainWriter) (ts : List Ticket) (outs : ℕ → List ℕ) (out : List ℕ) → HasRun w → w.phase ≡ Open → Writable ts → w.tickets + length ts ≤ ticket_limit
    → ((i : ℕ) → i < length ts → ticket_length ≤ length (outs i)) → tape_tag_length ≤ length out → Comes w (adds ts outs ++ (finish out ∷ [])) [] ts
unfolding entries handed_on writer_log start_of tickets_of phase_allows key_right head_right ticket_right tape_full output_short machineWork wrote answered
from_open w [] outs out h o v l rooms room =
    let p : WriterPassed w (finish out) = record { phase = rw o; key = refl; head = refl; ticket = refl; full = refl; output = le-ltb (length out) tape_tag_length room } in
    first w (finish out) [] [] [] _ h p refl (tt, refl, refl, refl)
from_open w (t ∷ ts) outs out h o v l rooms room =
    let c : WriterCall = add t (outs 0) in
    let p : WriterPassed w c = record {
      phase = rw o;
      key = refl;
      head = refl;
      ticket = v.0;
      full = lt-leb ticket_limit w.tickets (omega arith);
      output = le-ltb (length (outs 0)) ticket_length (rooms 0 (omega arith));
    } in
    let rest = from_open (comes_to w c).next ts (λ i. outs (suc i)) out (passes_on w c h p) refl v.1 (omega arith) (λ i k. rooms (suc i) (omega arith)) room in
    first w c (adds ts (λ i. outs (suc i)) ++ (finish out ∷ [])) [] ts _ h p refl rest

from-fresh : (key : List ℕ) (head : Head) (ts : List Ticket) (outs : TapeOutputs)
    → length key ≡ key_length → head_rule head ≡ true → Writable ts → length ts ≤ ticket_limit → RoomFor (length ts) outs
    → Comes fresh_writer (tape_calls key head ts outs) (record { key = key; head = head } ∷ []) ts
unfolding entries handed_on writer_log start_of tickets_of fresh_writer phase_allows key_right head_right ticket_right tape_full output_short
from-fresh key head ts outs k r v l room =
    let c : WriterCall = start key head outs.head in
    let h = fresh_has_run in
    let p : WriterPassed fresh_writer c = record {
      phase = refl;
      key = eq-eqb (length key) key_length k;
      head = r;
      ticket = refl;
      full = refl;
      output = le-ltb (length outs.head) head_length room.head;
    } in
    let rest = from_open (comes_to fresh_writer c).next ts outs.ticket outs.tag (passes_on fresh_writer c h p) refl v (omega arith) room.ticket room.tag in
    first fresh_writer c (adds ts outs.ticket ++ (finish outs.tag ∷ [])) [] ts _ h p refl rest

-- ## The claim

pub every_tape-written : EveryTapeWritten
every_tape-written key head ts outs k r v l room =
    let c = from-fresh key head ts outs k r v l room in
    let t = writer_lists.tape (tape_calls key head ts outs) c.1 in
    let e : ◌≡◌ {A = List Started} (t.0 ∷ []) (record { key = key; head = head } ∷ []) = sym t.1 ∙ c.2 in
    let s : t.0 ≡ record { key = key; head = head } = cc in
    record {
      accepted = c.0;
      closed = c.1;
      starts = c.2;
      tickets = c.3;
      written = t.2 ∙ ap (λ (x : Started). tape_of x.key x.head (writer_log_from (tape_calls key head ts outs)).tickets) s ∙ ap (tape_of key head) c.3;
    }
