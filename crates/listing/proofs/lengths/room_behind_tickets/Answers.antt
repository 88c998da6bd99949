-- `room_behind_tickets`: the lines of i tickets and what is left are the room before each turn of the loop.
use mathlib.Core.Path.{◌≡◌, ap, ◌∙◌}
use Prim.Native.Nat.{ℕ, ◌+◌}
use native.Mathlib.Omega.{arith}
use lib.ListN.{length}
use Rattle.std.specs.Iterator.Adapters.{enumerate_source, enumerate_count}
use Rattle.std.specs.Slice.Iter.{chunks_exact_rest, chunks_exact_size}
use Rattle.calls.specs.Calls.{as_reply}
use Rattle.tape_model.specs.Listing.{ticket_lines}
use Rattle.listing.proofs.TicketLines.{next-is, not_refused, all_lines, all_behind, too_long, counted_more}
use Rattle.listing.proofs.lengths.room_behind_tickets.Goals as goal

pub loop-i-init : goal.loop-i-init
unfolding ticket_lines
loop-i-init c =
    let none : enumerate_count c.into_iter-i-iterator.result ≡ 0 = cc in
    let whole : chunks_exact_rest (enumerate_source c.into_iter-i-iterator.result) ≡ c.args.opened.plain.now = cc in
    let size : chunks_exact_size (enumerate_source c.into_iter-i-iterator.result) ≡ 13 = cc in
    rw none (size, whole, omega arith)

pub returns-in_default : goal.returns-in_default
unfolding as_reply
returns-in_default c =
    let l = c.loop-i in
    let step = c.in-Some.ensures.steps in
    absurd (not_refused c.args.opened.plain.now c.args.opened.held.good _ _ _ _ l.invariant.1 step.0.1.0 (step.0.1.1 ∙ l.invariant.0) _ c.in_default.ensures)

pub returns-in_err-left : goal.returns-in_err-left
unfolding as_reply
returns-in_err-left c =
    let l = c.loop-i in
    let step = c.in-Some.ensures.steps in
    rw c.from_residual.ensures (too_long c.args.opened.plain.now c.args.opened.held.good _ _ _ _ l.invariant.1 step.0.1.0 (step.0.1.1 ∙ l.invariant.0) c.in-Ok.t c.in-Ok.ensures
    _ _ (ap (λ (k : ℕ). k + 1) step.1) c.listed_numbers.ensures _ c.decimal_length.ensures.value _ _ l.invariant.2 c.in_err-left.ensures)

pub loop-i-preserved : goal.loop-i-preserved
unfolding as_reply
loop-i-preserved c =
    let l = c.loop-i in
    let step = c.in-Some.ensures.steps in
    let counted = counted_more c.args.opened.plain.now c.args.opened.held.good _ _ _ _ l.invariant.1 step.0.1.0 (step.0.1.1 ∙ l.invariant.0) c.in-Ok.t c.in-Ok.ensures
    _ _ (ap (λ (k : ℕ). k + 1) step.1) c.listed_numbers.ensures _ c.decimal_length.ensures.value _ _ l.invariant.2 _ c.in_ok-left.ensures in
    rw step.2 (
      step.0.0 ∙ l.invariant.0,
      next-is c.args.opened.plain.now c.args.opened.held.good _ _ _ _ l.invariant.1 step.0.1.0 (step.0.1.1 ∙ l.invariant.0),
      counted,
    )

pub returns : goal.returns
returns c =
    let l = c.loop-i in
    let all = all_lines c.args.opened.plain.now c.args.opened.held.good (enumerate_count l.i-iterator) (all_behind _ _ _ l.invariant.1 (omega (arith, l.invariant.0, c.in-None.ensures.steps))) in
    let e = ap length all in
    (omega (arith, e, l.invariant.2), omega (arith, e, l.invariant.2))
