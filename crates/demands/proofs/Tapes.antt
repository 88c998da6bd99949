-- Tickets come back from their tape: the writer's calls come to the plain writer's, what these write is the tape, and what opening
-- and reading a tape give is known of the definitions.
use mathlib.Core.Path.{◌≡◌, sym, ap, ◌∙◌, subst}
use mathlib.Core.Bool.{true}
use mathlib.Core.List.{List}
use Prim.Native.Nat.{ℕ, ◌≤◌}
use lib.ListN.{length}
use Rattle.calls.specs.Calls.{as_reply}
use Rattle.calls.specs.Lists.{entries, AllAccepted}
use Rattle.acorn_model.specs.Machine.{key_length}
use Rattle.tape_model.specs.declared.Ticket.{Ticket}
use Rattle.tape_model.specs.declared.Head.{Head}
use Rattle.tape_model.specs.Ticket.{head_rule}
use Rattle.tape_model.specs.Tape.{ticket_limit, tape_of, open_tape}
use Rattle.tape_model.specs.Writer.{WriterCall, fresh_writer, writer_call}
use Rattle.tape_model.specs.WriterLists.{writer_log}
use Rattle.tape_model.specs.Laws.{Valid}
use Rattle.tape_model.proofs.Tickets.{all_writable_valid}
use Rattle.tape_model.proofs.Tapes.{tapes_come_back}
use Rattle.call_lists.specs.WriterLists.{StartsRight}
use Rattle.call_lists.proofs.WriterEvery.{every_tape-written}
use Rattle.reader.proofs.Reading.{reading_laws}
use Rattle.demands.specs.Tapes.{ComesBack, ClosedComesBack, TicketsComeBack}
use Rattle.demands.proofs.Writers.{as_plain, writer_demand}
use Rattle.tape_opening.specs.Clauses.{OpensTape}

-- a tape of a key of 16 bytes, a head in its ranges and at most 5,000 valid tickets
comes_back : (key : List ℕ) (head : Head) (ts : List Ticket) (written : List ℕ) → length key ≡ key_length → head_rule head ≡ true → Valid ts → length ts ≤ ticket_limit
    → written ≡ tape_of key head ts → ComesBack key head ts written
comes_back key head ts written k h v n e =
    record {
      is-tape = e;
      opened = λ out after r fits o.
          let p = sym o ∙ ap (λ (t : List ℕ). open_tape key t out) e ∙ (tapes_come_back key head ts k h v n).opens out fits in
          (λ i. (p i).answer, λ i. (p i).out);
      read = λ out after r fits o bytes here.
          (reading_laws bytes).tape key head ts k h v n out after (as_reply r) fits (subst (λ (t : List ℕ). OpensTape key t out r after) e o) here;
    }

pub closed_comes_back : ClosedComesBack
closed_comes_back es e l c =
    let f = writer_demand es e l in
    let t = f.tape c in
    let right = subst StartsRight t.1 f.right.0 in
    (t.0, t.1, comes_back t.0.key t.0.head _ _ right.0 right.1 (all_writable_valid (writer_log es).tickets f.right.1) f.tickets.1 t.2)

pub tickets_come_back : TicketsComeBack
tickets_come_back key head ts k h w n outs room es e l cs =
    let every = every_tape-written key head ts outs k h w n room in
    let same = (as_plain es e l).0 ∙ ap (entries writer_call fresh_writer) cs in (
      subst (AllAccepted {C = WriterCall}) (sym same) every.accepted,
      comes_back key head ts _ k h (all_writable_valid ts w) n (ap (λ x. (writer_log x).written) same ∙ every.written),
    )
