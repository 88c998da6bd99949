-- `of` gives the tickets or the number. Invariant: whether times have fallen, or fall on the tickets that are left, is whether they fall on the tape.
use mathlib.Core.Path.{◌≡◌, refl, sym, ap, ◌∙◌}
use mathlib.Core.Bool.{not}
use native.Mathlib.Omega.{arith}
use lib.ListN.{replicate, length-set}
use Rattle.std.specs.Slice.Iter.{chunks_exact_rest}
use Rattle.calls.specs.Calls.{as_reply, done, is_refused}
use Rattle.tape_model.proofs.OneByOne.{wrong_length, right_length}
use Rattle.tape_model.proofs.Tickets.{truck_range}
use Rattle.ticket.proofs.EachTicket.{none_left, one_done, one_refused}
use Rattle.pairing.specs.Pairing.{times_fall}
use Rattle.pairing.proofs.Falling.{nothing_fell, one_more, none_behind, number_refused, twelve, in_time}
use Rattle.pairing.proofs.Tickets.of.Goals as goal

pub returns-then-not-is_tickets_length : goal.returns-then-not-is_tickets_length
returns-then-not-is_tickets_length c = number_refused _ 2 (wrong_length _ _ c.is_tickets_length.ensures times_fall (ap not c.if-not-is_tickets_length.true))

pub loop-packed-init : goal.loop-packed-init
loop-packed-init c =
    let whole : chunks_exact_rest c.into_iter-packed-iterator.result ≡ c.args.plain.now = cc in
    ((cc), refl, rw whole (nothing_fell (replicate 1024 0) 1024 refl _))

pub returns-in_default : goal.returns-in_default
unfolding as_reply
returns-in_default c =
    let s = c.args.plain.now in
    let l = c.loop-packed in
    let step = c.in-Some.ensures.steps in
    number_refused s 8
    (right_length s _ c.is_tickets_length.ensures (ap not c.if-not-is_tickets_length.false) times_fall _
    (one_refused _ _ _ _ step.1.0 (step.1.1 ∙ l.invariant.0) _ c.in_default.ensures ∙ l.invariant.2))

pub bounds-last-truck : goal.bounds-last-truck
unfolding as_reply
bounds-last-truck c = let u = c.in-Ok.ensures in omega (arith, (truck_range _ _ (sym u)).1)

pub bounds-last-truck-in-loop-packed : goal.bounds-last-truck-in-loop-packed
unfolding as_reply
bounds-last-truck-in-loop-packed c = let u = c.in-Ok.ensures in omega (arith, (truck_range _ _ (sym u)).1)

pub loop-packed-preserved : goal.loop-packed-preserved
unfolding as_reply
loop-packed-preserved c =
    let l = c.loop-packed in
    let t = c.in-Ok.t in
    let u = c.in-Ok.ensures in
    let step = c.in-Some.ensures.steps in (
      step.0 ∙ l.invariant.0,
      length-set l.last t.truck t.tipped ∙ l.invariant.1,
      one_done _ _ _ _ step.1.0 (step.1.1 ∙ l.invariant.0) _ t (one_more l.fell l.last t (omega (arith, (truck_range _ t (sym u)).1, l.invariant.1))) u ∙ l.invariant.2,
    )

pub returns-then-fell : goal.returns-then-fell
returns-then-fell c =
    let s = c.args.plain.now in
    let l = c.loop-packed in
    twelve s l.fell
    (right_length s _ c.is_tickets_length.ensures (ap not c.if-not-is_tickets_length.false) times_fall _
    (ap done (none_behind l.fell l.last) ∙ none_left _ _ (omega (arith, c.in-None.ensures.steps)) ∙ l.invariant.2))
    c.if-fell.true

pub returns : goal.returns
returns c =
    let s = c.args.plain.now in
    let l = c.loop-packed in
    in_time s l.fell
    (right_length s _ c.is_tickets_length.ensures (ap not c.if-not-is_tickets_length.false) times_fall _
    (ap done (none_behind l.fell l.last) ∙ none_left _ _ (omega (arith, c.in-None.ensures.steps)) ∙ l.invariant.2))
    c.if-fell.false

pub invariant_of-result : goal.invariant_of-result
invariant_of-result c =
    let s = c.args.plain.now in
    let l = c.loop-packed in
    record {
      accepted =
          ap is_refused
          (in_time s l.fell
          (right_length s _ c.is_tickets_length.ensures (ap not c.if-not-is_tickets_length.false) times_fall _
          (ap done (none_behind l.fell l.last) ∙ none_left _ _ (omega (arith, c.in-None.ensures.steps)) ∙ l.invariant.2))
          c.if-fell.false);
    }
