-- What a call has passed that the plain writer accepts.
use mathlib.Core.Path.{◌≡◌, refl}
use mathlib.Core.Bool.{true, false}
use borrow.Author.Tests.{not-false}
use Rattle.calls.specs.Calls.{unless_refused}
use Rattle.calls.proofs.Refusals.{link}
use Rattle.tape_model.specs.Writer.{PlainWriter, WriterCall, phase_allows, key_right, head_right, ticket_right, tape_full, output_short, refusal, work, writer_call}

pub record WriterPassed (w : PlainWriter) (c : WriterCall) : Type 0 where
  pub phase : phase_allows w.phase c ≡ true
  pub key : key_right c ≡ true
  pub head : head_right c ≡ true
  pub ticket : ticket_right c ≡ true
  pub full : tape_full w.tickets c ≡ false
  pub output : output_short c ≡ false

module _ (w : PlainWriter) (c : WriterCall) where
  -- where no number applies, every test is passed
  pub writer_passed : refusal w c ≡ 0 → WriterPassed w c
  unfolding refusal
  writer_passed e =
      let e₁ = link _ 1 _ 0 refl e in
      let e₂ = link _ 2 _ 0 refl e₁.1 in
      let e₃ = link _ 3 _ 0 refl e₂.1 in
      let e₄ = link _ 4 _ 0 refl e₃.1 in
      let e₅ = link _ 5 _ 0 refl e₄.1 in
      let e₆ = link _ 6 _ 0 refl e₅.1 in
      record {
        phase = not-false _ e₁.0;
        key = not-false _ e₂.0;
        head = not-false _ e₃.0;
        ticket = not-false _ e₄.0;
        full = e₅.0;
        output = e₆.0;
      }

  -- and the call does its work
  pub writer_works : WriterPassed w c → writer_call w c ≡ work w c
  unfolding writer_call unless_refused refusal
  writer_works p = rw (p.phase, p.key, p.head, p.ticket, p.full, p.output)
