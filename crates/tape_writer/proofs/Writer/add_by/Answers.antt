-- `Writer::add_by` meets its contract.
use mathlib.Core.Path.{◌≡◌, refl, sym, ap, ◌∙◌}
use Prim.Native.Nat.{◌+◌}
use borrow.Author.Tests.{lt-ltb, le-ltb, le-leb, lt-leb}
use Rattle.tape_model.specs.declared.WriterPhase.TheVariants.{Open}
use Rattle.tape_model.specs.Ticket.{pack_ticket}
use Rattle.tape_model.specs.Tape.{ticket_limit}
use Rattle.tape_model.specs.Writer.{add, output_of, phase_allows, key_right, head_right, ticket_right, tape_full, output_short, work}
use Rattle.tape_model.proofs.Tickets.{writable_valid}
use Rattle.tape_model.proofs.Refusals.{WriterPassed}
use Rattle.tape_writer.specs.declared.WriterReply.{WriterReply}
use Rattle.tape_writer.specs.Clauses.{writer_of, writer_outcome}
use denote.Enum.Bare.{sameb}
use Rattle.tape_model.specs.contracts.WriterPhase.{the_type}
use Rattle.tape_writer.proofs.Phases.{open_unless}
use Rattle.tape_writer.proofs.Packed.{ticket_packed}
use Rattle.tape_writer.proofs.WriterCalls.{refused_1, refused_4, refused_5, refused_6, accepts, text_passed}
use Prim.Native.Nat.{ℕ, ◌<◌, ◌≤◌}
use mathlib.Core.Bool.{Bool, true, not}
use mathlib.Core.List.{List}
use lib.ListN.{length}
use Rattle.tape_model.specs.declared.Ticket.{Ticket}
use Rattle.tape_model.specs.Ticket.{write_rule, ticket_length}
use Rattle.ticket.specs.Packing.{packed_or_zeros}
use Rattle.tape_writer.specs.declared.Writer.{Writer}
use Rattle.tape_writer.proofs.Writer.add_by.Goals as goal

module _ (w : Writer) (ticket : Ticket) (out : List ℕ) where
  allowed-is : (differs : Bool) → differs ≡ not (sameb the_type w.phase Open) → phase_allows (writer_of w).phase (add ticket out) ≡ not differs
  unfolding writer_of phase_allows
  allowed-is differs e = open_unless w.phase differs e

  writable-is : (b : Bool) → b ≡ write_rule ticket → ticket_right (add ticket out) ≡ b
  unfolding ticket_right
  writable-is b e = sym e

  accepted : phase_allows (writer_of w).phase (add ticket out) ≡ true → ticket_right (add ticket out) ≡ true → w.tickets < ticket_limit → ticket_length ≤ length out
      → WriterPassed (writer_of w) (add ticket out)
  unfolding writer_of key_right head_right tape_full output_short
  accepted phase right full room = record { phase = phase; key = refl; head = refl; ticket = right; full = lt-leb _ _ full; output = le-ltb _ _ room }

  bytes-are : WriterPassed (writer_of w) (add ticket out) → (bytes : List ℕ) → bytes ≡ packed_or_zeros ticket → bytes ≡ pack_ticket ticket
  unfolding ticket_right
  bytes-are p bytes e = ticket_packed ticket bytes e (writable_valid ticket p.ticket)

pub returns-then-ne : goal.returns-then-ne
unfolding output_of
returns-then-ne g c = refused_1 _ _ _ c.refused.ensures (allowed-is c.args.self c.args.ticket c.args.out.now _ c.ne.ensures ∙ ap not c.if-ne.true)

pub returns-then-not-writable : goal.returns-then-not-writable
unfolding output_of key_right head_right
returns-then-not-writable g c =
    refused_4 _ _ _ c.refused-then-not-writable.ensures (allowed-is c.args.self c.args.ticket c.args.out.now _ c.ne.ensures ∙ ap not c.if-ne.false) refl refl (writable-is c.args.self c.args.ticket c.args.out.now _ c.writable.ensures ∙ c.if-not-writable.true)

pub returns-then-tickets : goal.returns-then-tickets
unfolding writer_of output_of key_right head_right tape_full
returns-then-tickets g c =
    refused_5 _ _ _ c.refused-then-tickets.ensures (allowed-is c.args.self c.args.ticket c.args.out.now _ c.ne.ensures ∙ ap not c.if-ne.false) refl refl
    (writable-is c.args.self c.args.ticket c.args.out.now _ c.writable.ensures ∙ c.if-not-writable.false) (le-leb _ _ c.if-tickets.true)

pub returns-then-out-lt-TICKET_LENGTH : goal.returns-then-out-lt-TICKET_LENGTH
unfolding writer_of output_of key_right head_right tape_full output_short
returns-then-out-lt-TICKET_LENGTH g c =
    refused_6 _ _ _ c.refused-then-out-lt-TICKET_LENGTH.ensures (allowed-is c.args.self c.args.ticket c.args.out.now _ c.ne.ensures ∙ ap not c.if-ne.false) refl refl
    (writable-is c.args.self c.args.ticket c.args.out.now _ c.writable.ensures ∙ c.if-not-writable.false) (lt-leb _ _ c.if-tickets.false) (lt-ltb _ _ c.if-out-lt-TICKET_LENGTH.true)

pub returns : goal.returns
unfolding writer_of work
returns g c =
    let a = c.args in
    let p = accepted a.self a.ticket a.out.now (allowed-is a.self a.ticket a.out.now _ c.ne.ensures ∙ ap not c.if-ne.false) (writable-is a.self a.ticket a.out.now _ c.writable.ensures ∙ c.if-not-writable.false) c.if-tickets.false c.if-out-lt-TICKET_LENGTH.false in
    ap (λ (x : WriterReply). writer_outcome x c.seal-reply.new.arg4) c.passed_on.ensures
    ∙ text_passed a.self c.seal-reply.result a.out.now _ Open (a.self.tickets + 1) (pack_ticket a.ticket)
    (rw (bytes-are a.self a.ticket a.out.now p _ c.packed.ensures) at (c.requires.seals _ _ _ _ _ c.seal-reply.ensures))
    ∙ accepts a.self (add a.ticket a.out.now) p
