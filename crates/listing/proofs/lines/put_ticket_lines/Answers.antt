-- `put_ticket_lines`: the lines of i tickets are written before each turn of the loop.
use mathlib.Core.Path.{◌≡◌, ap, ◌∙◌}
use Prim.Native.Nat.{ℕ, ◌+◌}
use native.Mathlib.Omega.{arith}
use borrow.Author.Rules.{rules}
use Rattle.std.specs.Iterator.Adapters.{enumerate_source, enumerate_count}
use Rattle.std.specs.Slice.Iter.{chunks_exact_rest, chunks_exact_size}
use Rattle.calls.specs.Calls.{as_reply}
use Rattle.tape_model.specs.Listing.{ticket_lines}
use Rattle.listing.proofs.Texts.{wrote_nothing, wrote_as}
use Rattle.listing.proofs.TicketLines.{next-is, not_refused, all_lines, all_behind, ticket_start, ticket_room, ticket_wrote, ticket_within}
use Rattle.listing.proofs.lines.put_ticket_lines.Goals as goal

pub loop-i-init : goal.loop-i-init
unfolding ticket_lines
loop-i-init c =
    let none : enumerate_count c.into_iter-i-iterator.result ≡ 0 = cc in
    let whole : chunks_exact_rest (enumerate_source c.into_iter-i-iterator.result) ≡ c.args.opened.plain.now = cc in
    let size : chunks_exact_size (enumerate_source c.into_iter-i-iterator.result) ≡ 13 = cc in
    rw none (size, whole, wrote_nothing c.args.out.now)

-- bytes that do not unpack are out of reach
pub returns-in_default : goal.returns-in_default
unfolding as_reply
returns-in_default c =
    let l = c.loop-i in
    let step = c.in-Some.ensures.steps in
    absurd (not_refused c.args.opened.plain.now c.args.opened.held.good _ _ _ _ l.invariant.1 step.0.1.0 (step.0.1.1 ∙ l.invariant.0) _ c.in_default.ensures)

pub slice_bounds-put_numbers_line-count : goal.slice_bounds-put_numbers_line-count
unfolding as_reply
slice_bounds-put_numbers_line-count c =
    let l = c.loop-i in
    let step = c.in-Some.ensures.steps in
    ticket_start c.args.opened.plain.now c.args.opened.held.good _ _ _ _ l.invariant.1 step.0.1.0 (step.0.1.1 ∙ l.invariant.0) c.in-Ok.t c.in-Ok.ensures
    _ _ (ap (λ (k : ℕ). k + 1) step.1) c.listed_numbers.ensures
    c.args.out.now c.requires l.out l.at l.invariant.2

pub slice_bounds-put_numbers_line-start : goal.slice_bounds-put_numbers_line-start
unfolding as_reply
slice_bounds-put_numbers_line-start c =
    let l = c.loop-i in
    let step = c.in-Some.ensures.steps in
    ticket_start c.args.opened.plain.now c.args.opened.held.good _ _ _ _ l.invariant.1 step.0.1.0 (step.0.1.1 ∙ l.invariant.0) c.in-Ok.t c.in-Ok.ensures
    _ _ (ap (λ (k : ℕ). k + 1) step.1) c.listed_numbers.ensures
    c.args.out.now c.requires l.out l.at l.invariant.2

pub put_numbers_line-at-requires : goal.put_numbers_line-at-requires
unfolding as_reply
put_numbers_line-at-requires c =
    let l = c.loop-i in
    let step = c.in-Some.ensures.steps in
    ticket_room c.args.opened.plain.now c.args.opened.held.good _ _ _ _ l.invariant.1 step.0.1.0 (step.0.1.1 ∙ l.invariant.0) c.in-Ok.t c.in-Ok.ensures
    _ _ (ap (λ (k : ℕ). k + 1) step.1) c.listed_numbers.ensures
    c.args.out.now c.requires l.out l.at l.invariant.2

pub overflow_add-at : goal.overflow_add-at
unfolding as_reply
overflow_add-at c =
    let l = c.loop-i in
    let step = c.in-Some.ensures.steps in
    let within = ticket_within c.args.opened.plain.now c.args.opened.held.good _ _ _ _ l.invariant.1 step.0.1.0 (step.0.1.1 ∙ l.invariant.0) c.in-Ok.t c.in-Ok.ensures
    _ _ (ap (λ (k : ℕ). k + 1) step.1) c.listed_numbers.ensures
    c.args.out.now c.requires l.out l.at l.invariant.2 _ _ c.put_numbers_line-at.ensures in
    search rules

pub loop-i-preserved : goal.loop-i-preserved
unfolding as_reply
loop-i-preserved c =
    let l = c.loop-i in
    let step = c.in-Some.ensures.steps in
    let wrote = ticket_wrote c.args.opened.plain.now c.args.opened.held.good _ _ _ _ l.invariant.1 step.0.1.0 (step.0.1.1 ∙ l.invariant.0) c.in-Ok.t c.in-Ok.ensures
    _ _ (ap (λ (k : ℕ). k + 1) step.1) c.listed_numbers.ensures
    c.args.out.now c.requires l.out l.at l.invariant.2 _ _ c.put_numbers_line-at.ensures in
    rw step.2 (
      step.0.0 ∙ l.invariant.0,
      next-is c.args.opened.plain.now c.args.opened.held.good _ _ _ _ l.invariant.1 step.0.1.0 (step.0.1.1 ∙ l.invariant.0),
      wrote,
    )

pub returns : goal.returns
returns c =
    let l = c.loop-i in
    wrote_as (all_lines c.args.opened.plain.now c.args.opened.held.good (enumerate_count l.i-iterator) (all_behind _ _ _ l.invariant.1 (omega (arith, l.invariant.0, c.in-None.ensures.steps)))) l.invariant.2
