-- `nets_by_contractor`. Invariant: the nets taken in, with those of the tickets that are left, are the tape's.
use mathlib.Core.Path.{◌≡◌, sym, ap, ◌∙◌}
use mathlib.Core.Bool.{not}
use Prim.Native.Nat.{◌+◌, ◌/◌, ◌<◌, ◌≤◌}
use native.Mathlib.Omega.{arith}
use lib.ListN.{length, length-set, length-append}
use borrow.Author.Rules.{rules}
use Rattle.std.specs.Slice.Iter.{chunks_exact_rest}
use Rattle.calls.specs.Calls.{done, as_reply}
use Rattle.tape_model.specs.Ticket.{net}
use Rattle.tape_model.proofs.OneByOne.{wrong_length, few_tickets, right_length}
use Rattle.tape_model.proofs.Tickets.{truck_range}
use Rattle.ticket.proofs.EachTicket.{left, none_left, one_done, one_refused}
use Rattle.pay_sheet.specs.PaySheet.{contractors}
use Rattle.pay_sheet.specs.Clauses.{at, nets_of}
use Rattle.pay_sheet.proofs.Sums.{sum_term}
use Rattle.pay_sheet.proofs.Hauled.{none_before, none_yet, none_behind, more_sum, one_more, net_range}
use Rattle.pay_sheet.proofs.nets_by_contractor.Goals as goal

pub returns-then-not-is_tickets_length : goal.returns-then-not-is_tickets_length
unfolding as_reply
returns-then-not-is_tickets_length c =
    record { nets_value = wrong_length _ _ c.is_tickets_length.ensures nets_of (ap not c.if-not-is_tickets_length.true); nets_bound = search rules }

pub loop-packed-init : goal.loop-packed-init
loop-packed-init c =
    let s = c.args.plain.now in
    let few : length s / 13 ≤ 5000 = few_tickets s _ c.is_tickets_length.ensures (ap not c.if-not-is_tickets_length.false) in
    let whole : chunks_exact_rest c.into_iter-packed-iterator.result ≡ s = cc in (
      (cc),
      search rules,
      omega (arith, ap length whole, none_yet),
      rw whole (none_before (left s)),
    )

pub returns-in_default : goal.returns-in_default
unfolding as_reply
returns-in_default c =
    let s = c.args.plain.now in
    let l = c.loop-packed in
    let step = c.in-Some.ensures.steps in
    record {
      nets_value = right_length s _ c.is_tickets_length.ensures (ap not c.if-not-is_tickets_length.false) nets_of _
          (one_refused _ _ _ _ step.1.0 (step.1.1 ∙ l.invariant.0) _ c.in_default.ensures ∙ l.invariant.3);
      nets_bound = search rules;
    }

-- a ticket's truck has a contractor
pub bounds-nets-c : goal.bounds-nets-c
unfolding as_reply
bounds-nets-c c = omega (arith, c.from-c.ensures, (truck_range _ _ (sym c.in-Ok.ensures)).1)

pub bounds-nets-c-in-loop-packed : goal.bounds-nets-c-in-loop-packed
unfolding as_reply
bounds-nets-c-in-loop-packed c = omega (arith, c.from-c.ensures, (truck_range _ _ (sym c.in-Ok.ensures)).1)

pub overflow_add-nets : goal.overflow_add-nets
unfolding as_reply
overflow_add-nets c =
    let l = c.loop-packed in
    let u = sym c.in-Ok.ensures in
    let here : c.from-c.result < contractors = omega (arith, c.from-c.ensures, (truck_range _ _ u).1) in
    omega (arith, sum_term contractors (at l.nets) c.from-c.result here, l.invariant.2, net_range _ _ u, c.net.ensures, c.from.ensures)

pub loop-packed-preserved : goal.loop-packed-preserved
unfolding as_reply
loop-packed-preserved c =
    let l = c.loop-packed in
    let step = c.in-Some.ensures.steps in
    let u = c.in-Ok.ensures in
    let here : c.from-c.result < contractors = omega (arith, c.from-c.ensures, (truck_range _ _ (sym u)).1) in
    let shorter : length (chunks_exact_rest l.packed-iterator) ≡ length c.in-Some.packed.now + length (chunks_exact_rest c.next.new.self) = ap length step.1.0 ∙ length-append _ _ in
    let size : length c.in-Some.packed.now ≡ 13 = step.1.1 ∙ l.invariant.0 in
    let weight : c.from.result ≡ net c.in-Ok.t = c.from.ensures ∙ c.net.ensures in (
      step.0 ∙ l.invariant.0,
      length-set l.nets _ _ ∙ l.invariant.1,
      omega (arith, more_sum l.nets c.from-c.result c.from.result l.invariant.1 here, l.invariant.2, net_range _ _ (sym u), weight, shorter, size),
      one_done _ _ _ _ step.1.0 size _ c.in-Ok.t (one_more l.nets c.from-c.result c.from.result l.invariant.1 here c.in-Ok.t (sym c.from-c.ensures) weight) u ∙ l.invariant.3,
    )

pub returns : goal.returns
unfolding as_reply
returns c =
    let s = c.args.plain.now in
    let l = c.loop-packed in
    record {
      nets_value = right_length s _ c.is_tickets_length.ensures (ap not c.if-not-is_tickets_length.false) nets_of _
          (ap done (none_behind l.nets l.invariant.1) ∙ none_left _ _ (omega (arith, l.invariant.0, c.in-None.ensures.steps)) ∙ l.invariant.3);
      nets_bound = omega (arith, l.invariant.2);
    }
