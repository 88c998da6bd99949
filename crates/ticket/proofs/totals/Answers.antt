-- `totals` are those of the plain bytes. Invariant: the totals are those of the tickets that are left, with the others before them and their sum.
use Prim.Native.Nat.{ℕ, ◌+◌, ◌-◌, ◌/◌, ◌≤◌}
use mathlib.Core.Path.{◌≡◌, ap, ◌∙◌}
use mathlib.Core.Bool.{not}
use native.Mathlib.Omega.{arith}
use lib.ListN.{length}
use Rattle.std.specs.Slice.Iter.{chunks_exact_rest}
use Rattle.std.proofs.lemmas.List.{length-append}
use Rattle.calls.specs.Calls.{as_reply, done, map_reply}
use Rattle.tape_model.specs.Tape.{totals_of, plain_totals}
use Rattle.tape_model.proofs.OneByOne.{wrong_length, few_tickets, right_length}
use Rattle.ticket.proofs.EachTicket.{left, none_left, one_done, one_refused}
use Rattle.ticket.proofs.Summing.{totals_after, none_before, one_more, none_behind}
use Rattle.ticket.proofs.totals.Goals as goal

pub returns-then-not-is_tickets_length : goal.returns-then-not-is_tickets_length
unfolding as_reply plain_totals
returns-then-not-is_tickets_length c = wrong_length _ _ c.is_tickets_length.ensures totals_of (ap not c.if-not-is_tickets_length.true)

pub loop-packed-init : goal.loop-packed-init
loop-packed-init c =
    let s = c.args.plain.now in
    let few : length s / 13 ≤ 5000 = few_tickets s _ c.is_tickets_length.ensures (ap not c.if-not-is_tickets_length.false) in
    let whole : chunks_exact_rest c.into_iter-packed-iterator.result ≡ s = cc in (
      (cc),
      omega (arith, ap length whole),
      omega (arith, ap length whole),
      rw whole (ap (λ (k : ℕ). map_reply (totals_after k 0) (left s)) {x = length s / 13 - length s / 13} {y = 0} (omega arith) ∙ none_before (left s)),
    )

pub returns-in_default : goal.returns-in_default
unfolding as_reply plain_totals
returns-in_default c =
    let s = c.args.plain.now in
    let l = c.loop-packed in
    let step = c.in-Some.ensures.steps in
    right_length s _ c.is_tickets_length.ensures (ap not c.if-not-is_tickets_length.false) totals_of _
    (one_refused _ _ _ _ step.1.0 (step.1.1 ∙ l.invariant.0) _ c.in_default.ensures ∙ l.invariant.3)

pub loop-packed-preserved : goal.loop-packed-preserved
unfolding as_reply
loop-packed-preserved c =
    let l = c.loop-packed in
    let step = c.in-Some.ensures.steps in
    let shorter : length (chunks_exact_rest l.packed-iterator) ≡ length c.in-Some.packed.now + length (chunks_exact_rest c.next.new.self) = ap length step.1.0 ∙ length-append _ _ in
    let size : length c.in-Some.packed.now ≡ 13 = step.1.1 ∙ l.invariant.0 in (
      step.0 ∙ l.invariant.0,
      omega arith,
      omega arith,
      one_done _ _ _ _ step.1.0 size _ _ (one_more _ _ l.sum _ _ (omega arith) (c.from-sum.ensures ∙ c.net.ensures)) c.in-Ok.ensures ∙ l.invariant.3,
    )

pub returns : goal.returns
unfolding as_reply plain_totals
returns c =
    let s = c.args.plain.now in
    let l = c.loop-packed in
    right_length s _ c.is_tickets_length.ensures (ap not c.if-not-is_tickets_length.false) totals_of _
    (ap done (none_behind (length s / 13 - length (chunks_exact_rest l.packed-iterator) / 13) _ l.sum (omega (arith, c.in-None.ensures.steps)))
    ∙ none_left _ _ (omega (arith, c.in-None.ensures.steps)) ∙ l.invariant.3)
