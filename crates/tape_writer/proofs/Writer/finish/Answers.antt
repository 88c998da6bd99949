-- `Writer::finish` meets its contract.
use mathlib.Core.Path.{◌≡◌, refl, ap, ◌∙◌}
use borrow.Author.Tests.{lt-ltb, le-ltb}
use Rattle.tape_model.specs.declared.WriterPhase.TheVariants.{Open, Closed}
use Rattle.tape_model.specs.Writer.{finish, output_of, phase_allows, key_right, head_right, ticket_right, tape_full, output_short, work}
use Rattle.tape_model.proofs.Refusals.{WriterPassed}
use denote.Enum.Bare.{sameb}
use Rattle.tape_model.specs.contracts.WriterPhase.{the_type}
use Rattle.tape_writer.proofs.Phases.{open_unless}
use Rattle.tape_writer.specs.declared.WriterReply.{WriterReply}
use Rattle.tape_writer.specs.Clauses.{writer_of, writer_outcome}
use Rattle.tape_writer.proofs.WriterCalls.{refused_1, refused_6, accepts, close_passed}
use Prim.Native.Nat.{ℕ, ◌≤◌}
use mathlib.Core.Bool.{Bool, true, not}
use mathlib.Core.List.{List}
use lib.ListN.{length}
use Rattle.tape_model.specs.Tape.{tape_tag_length}
use Rattle.tape_writer.specs.declared.Writer.{Writer}
use Rattle.tape_writer.proofs.Writer.finish.Goals as goal

module _ (w : Writer) (out : List ℕ) where
  allowed-is : (differs : Bool) → differs ≡ not (sameb the_type w.phase Open) → phase_allows (writer_of w).phase (finish out) ≡ not differs
  unfolding writer_of phase_allows
  allowed-is differs e = open_unless w.phase differs e

  accepted : phase_allows (writer_of w).phase (finish out) ≡ true → tape_tag_length ≤ length out → WriterPassed (writer_of w) (finish out)
  unfolding key_right head_right ticket_right tape_full output_short
  accepted phase room = record { phase = phase; key = refl; head = refl; ticket = refl; full = refl; output = le-ltb _ _ room }

pub returns-then-ne : goal.returns-then-ne
unfolding output_of
returns-then-ne c = refused_1 _ _ _ c.refused.ensures (allowed-is c.args.self c.args.out.now _ c.ne.ensures ∙ ap not c.if-ne.true)

pub returns-then-out-lt-TAPE_TAG_LENGTH : goal.returns-then-out-lt-TAPE_TAG_LENGTH
unfolding output_of key_right head_right ticket_right tape_full output_short
returns-then-out-lt-TAPE_TAG_LENGTH c =
    refused_6 _ _ _ c.refused-then-out-lt-TAPE_TAG_LENGTH.ensures (allowed-is c.args.self c.args.out.now _ c.ne.ensures ∙ ap not c.if-ne.false) refl refl refl refl (lt-ltb _ _ c.if-out-lt-TAPE_TAG_LENGTH.true)

pub returns : goal.returns
unfolding writer_of work
returns c =
    let a = c.args in
    ap (λ (x : WriterReply). writer_outcome x c.seal_close-reply.new.out) c.passed_on.ensures
    ∙ close_passed a.self c.seal_close-reply.result a.out.now _ Closed a.self.tickets c.seal_close-reply.ensures
    ∙ accepts a.self (finish a.out.now) (accepted a.self a.out.now (allowed-is a.self a.out.now _ c.ne.ensures ∙ ap not c.if-ne.false) c.if-out-lt-TAPE_TAG_LENGTH.false)
