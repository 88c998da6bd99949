-- `open_into`: by what opening the tape answers.
use mathlib.Core.Path.{◌≡◌, sym}
use mathlib.Core.List.{List}
use Prim.Native.Nat.{ℕ}
use native.Mathlib.Omega.{arith}
use lib.Seq.{length-take-le}
use borrow.Author.Rules.{rules}
use Rattle.std.specs.Prelude.{Ok, Err}
use Rattle.calls.specs.declared.Refusal.{Refusal}
use Rattle.calls.specs.Refusals.{refusal_number}
use Rattle.calls.specs.Calls.{refused, done, as_reply}
use Rattle.tape_model.specs.declared.Totals.{Totals}
use Rattle.tape_model.specs.Ticket.{head_length}
use Rattle.tape_model.specs.Listing.{listed}
use Rattle.tape_model.specs.Tape.{open_tape}
use Rattle.tape_model.proofs.Opening.{size, was_accepted, few_tickets}
use Rattle.tape_opening.specs.Clauses.{OpensScratch}
use Rattle.listing.proofs.Opened.{same_answer, as_opened, refused_listing, opened-tickets, opened-listing}
use Rattle.listing.proofs.open_into.Goals as goal

module _ (key tape plain : List ℕ) {after : List ℕ} where
  was-opened : {totals : Totals} → OpensScratch key tape plain (Ok totals) after → open_tape key tape plain ≡ record { answer = done totals; out = after }
  unfolding as_reply
  was-opened opened = as_opened key tape plain after _ opened

  was-refused : (r : Refusal) → OpensScratch key tape plain (Err r) after → open_tape key tape plain ≡ record { answer = refused (refusal_number r); out = (open_tape key tape plain).out }
  unfolding as_reply
  was-refused r opened = same_answer key tape plain after _ opened

pub slice_bounds-unpack_head-end : goal.slice_bounds-unpack_head-end
slice_bounds-unpack_head-end c =
    let a = c.args in
    let accepted = was_accepted _ _ _ _ _ (was-opened a.key.now a.tape.now a.plain.now c.in_ok-totals.ensures) in
    sym (length-take-le head_length a.tape.now (omega (arith, (size a.key.now a.tape.now a.plain.now accepted).long)))

pub overflow_mul-result : goal.overflow_mul-result
overflow_mul-result c =
    let a = c.args in
    let few = few_tickets _ _ _ _ _ (was-opened a.key.now a.tape.now a.plain.now c.in_ok-totals.ensures) in
    search rules

pub slice_bounds-result-end : goal.slice_bounds-result-end
slice_bounds-result-end c =
    let a = c.args in
    let few = few_tickets _ _ _ _ _ (was-opened a.key.now a.tape.now a.plain.now c.in_ok-totals.ensures) in
    sym (length-take-le _ _ (omega (arith, few, c.open_scratch.auto.scratch, c.requires)))

pub invariant_of-result : goal.invariant_of-result
invariant_of-result c =
    let a = c.args in
    record { held = opened-tickets _ _ _ _ _ c.requires (was-opened a.key.now a.tape.now a.plain.now c.in_ok-totals.ensures) }

pub returns-in_err-totals : goal.returns-in_err-totals
returns-in_err-totals c =
    let a = c.args in
    let e = refused_listing _ _ _ _ _ c.requires (was-refused a.key.now a.tape.now a.plain.now _ c.in_err-totals.ensures) in
    search rules

pub returns-in_err-head : goal.returns-in_err-head
unfolding as_reply listed
returns-in_err-head c =
    let a = c.args in
    let e = opened-listing _ _ _ _ _ c.requires (was-opened a.key.now a.tape.now a.plain.now c.in_ok-totals.ensures) _ c.in_err-head.ensures in
    search rules

pub returns : goal.returns
unfolding as_reply
returns c =
    let a = c.args in
    opened-listing _ _ _ _ _ c.requires (was-opened a.key.now a.tape.now a.plain.now c.in_ok-totals.ensures) _ c.in_ok-head.ensures
