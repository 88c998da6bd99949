-- `Writer::start` meets its contract.
use mathlib.Core.Path.{◌≡◌, refl, sym, ap, ◌∙◌}
use borrow.Author.Tests.{lt-ltb, le-ltb, eq-eqb, ne_eqb}
use lib.ListN.{length}
use Rattle.tape_model.specs.Ticket.{head_length, pack_head}
use Rattle.tape_model.specs.Writer.{start, output_of, phase_allows, key_right, head_right, ticket_right, tape_full, output_short}
use Rattle.tape_model.proofs.Tickets.{head-length}
use denote.Enum.Bare.{sameb}
use Rattle.tape_model.specs.contracts.WriterPhase.{the_type}
use Rattle.tape_model.specs.declared.WriterPhase.TheVariants.{Fresh}
use Rattle.tape_writer.proofs.Phases.{fresh_unless}
use Rattle.tape_writer.specs.Clauses.{writer_of}
use Rattle.tape_writer.proofs.Packed.{copied}
use Rattle.tape_model.proofs.Refusals.{WriterPassed}
use Rattle.tape_writer.proofs.WriterCalls.{refused_1, refused_2, refused_3, refused_6, accepts, not-started, head_written}
use Prim.Native.Nat.{ℕ, ◌≤◌}
use mathlib.Core.Bool.{Bool, true, not}
use mathlib.Core.List.{List}
use Rattle.acorn_model.specs.Machine.{key_length}
use Rattle.tape_model.specs.declared.Head.{Head}
use Rattle.tape_model.specs.Ticket.{head_rule}
use Rattle.tape_writer.specs.declared.Writer.{Writer}
use Rattle.tape_writer.proofs.Writer.start.Goals as goal

module _ (w : Writer) (key : List ℕ) (head : Head) (out : List ℕ) where
  allowed-is : (differs : Bool) → differs ≡ not (sameb the_type w.phase Fresh) → phase_allows (writer_of w).phase (start key head out) ≡ not differs
  unfolding writer_of phase_allows
  allowed-is differs e = fresh_unless w.phase differs e

  head-is : (b : Bool) → b ≡ head_rule head → head_right (start key head out) ≡ b
  unfolding head_right
  head-is b e = sym e

  accepted : phase_allows (writer_of w).phase (start key head out) ≡ true → length key ≡ key_length → head_right (start key head out) ≡ true → head_length ≤ length out
      → WriterPassed (writer_of w) (start key head out)
  unfolding key_right ticket_right tape_full output_short
  accepted phase sized right room = record { phase = phase; key = eq-eqb _ _ sized; head = right; ticket = refl; full = refl; output = le-ltb _ _ room }

pub returns-then-ne : goal.returns-then-ne
unfolding output_of
returns-then-ne c = refused_1 _ _ _ c.refused.ensures (allowed-is c.args.self c.args.key.now c.args.head c.args.out.now _ c.ne.ensures ∙ ap not c.if-ne.true)

pub returns-then-key-ne-KEY_LENGTH : goal.returns-then-key-ne-KEY_LENGTH
unfolding output_of key_right
returns-then-key-ne-KEY_LENGTH c = refused_2 _ _ _ c.refused-then-key-ne-KEY_LENGTH.ensures (allowed-is c.args.self c.args.key.now c.args.head c.args.out.now _ c.ne.ensures ∙ ap not c.if-ne.false) (ne_eqb _ _ c.if-key-ne-KEY_LENGTH.true)

pub returns-then-not-head_valid : goal.returns-then-not-head_valid
unfolding output_of key_right
returns-then-not-head_valid c =
    refused_3 _ _ _ c.refused-then-not-head_valid.ensures (allowed-is c.args.self c.args.key.now c.args.head c.args.out.now _ c.ne.ensures ∙ ap not c.if-ne.false) (eq-eqb _ _ c.if-key-ne-KEY_LENGTH.false)
    (head-is c.args.self c.args.key.now c.args.head c.args.out.now _ c.head_valid.ensures ∙ c.if-not-head_valid.true)

pub returns-then-out-lt-HEAD_LENGTH : goal.returns-then-out-lt-HEAD_LENGTH
unfolding output_of key_right ticket_right tape_full output_short
returns-then-out-lt-HEAD_LENGTH c =
    refused_6 _ _ _ c.refused-then-out-lt-HEAD_LENGTH.ensures (allowed-is c.args.self c.args.key.now c.args.head c.args.out.now _ c.ne.ensures ∙ ap not c.if-ne.false) (eq-eqb _ _ c.if-key-ne-KEY_LENGTH.false)
    (head-is c.args.self c.args.key.now c.args.head c.args.out.now _ c.head_valid.ensures ∙ c.if-not-head_valid.false) refl refl (lt-ltb _ _ c.if-out-lt-HEAD_LENGTH.true)

pub returns-in_default : goal.returns-in_default
returns-in_default c =
    let a = c.args in
    not-started a.self a.key.now a.head a.out.now c.begin_with_head-reply.result
    (rw c.packed_head-packed.ensures at c.begin_with_head-reply.ensures) _ c.in_default.is
    ∙ accepts a.self (start a.key.now a.head a.out.now) (accepted c.args.self c.args.key.now c.args.head c.args.out.now (allowed-is c.args.self c.args.key.now c.args.head c.args.out.now _ c.ne.ensures ∙ ap not c.if-ne.false) c.if-key-ne-KEY_LENGTH.false (head-is c.args.self c.args.key.now c.args.head c.args.out.now _ c.head_valid.ensures ∙ c.if-not-head_valid.false) c.if-out-lt-HEAD_LENGTH.false)

pub returns : goal.returns
returns c =
    let a = c.args in
    head_written a.self a.key.now a.head a.out.now c.begin_with_head-reply.result
    (rw c.packed_head-packed.ensures at c.begin_with_head-reply.ensures) _ _ c.in-Done.is _
    (copied (pack_head a.head) _ a.out.now 9 (head-length a.head) (c.copy_from_slice.ensures.after ∙ c.packed_head-packed.ensures))
    ∙ accepts a.self (start a.key.now a.head a.out.now) (accepted c.args.self c.args.key.now c.args.head c.args.out.now (allowed-is c.args.self c.args.key.now c.args.head c.args.out.now _ c.ne.ensures ∙ ap not c.if-ne.false) c.if-key-ne-KEY_LENGTH.false (head-is c.args.self c.args.key.now c.args.head c.args.out.now _ c.head_valid.ensures ∙ c.if-not-head_valid.false) c.if-out-lt-HEAD_LENGTH.false)
