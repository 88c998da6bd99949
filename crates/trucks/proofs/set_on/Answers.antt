-- `set_on` is the set of the trucks on the tape. Invariant: the set, with the trucks on the tickets that are left, is the tape's.
use Prim.Native.Nat.{ℕ, ◌/◌, ◌%◌}
use mathlib.Core.Path.{◌≡◌, sym, ap, subst, ◌∙◌, fun_ext}
use mathlib.Core.Bool.{not, false≢true}
use native.Mathlib.Omega.{arith}
use mathlib.Core.List.{List}
use lib.ListN.{get_or, set}
use lib.Bits.{bit_or}
use borrow.Author.Rules.{rules}
use Rattle.std.specs.Slice.Iter.{chunks_exact_rest}
use Rattle.calls.specs.Calls.{as_reply, done}
use Rattle.tape_model.proofs.OneByOne.{wrong_length, right_length}
use Rattle.tape_model.proofs.Tickets.{truck_range}
use Rattle.ticket.proofs.EachTicket.{none_left, one_done, one_refused}
use Rattle.trucks.specs.Trucks.{truck_set, plain_truck_set}
use Rattle.trucks.specs.Words.{held, AreWords, set_words, empty_set, words_reply}
use Rattle.trucks.proofs.Words.{shl_one, held-added, words-added, held-words, sixteen-words}
use Rattle.trucks.proofs.Gathering.{none_before, one_more, none_behind, words_refused, words-done}
use Rattle.trucks.proofs.set_on.Goals as goal

pub returns-then-not-is_tickets_length : goal.returns-then-not-is_tickets_length
unfolding plain_truck_set words_reply
returns-then-not-is_tickets_length c = words_refused _ 2 (wrong_length _ _ c.is_tickets_length.ensures truck_set (ap not c.if-not-is_tickets_length.true))

pub loop-packed-init : goal.loop-packed-init
loop-packed-init c =
    let s = c.args.plain.now in
    let w = c.empty-set.result.words in
    let none : w ≡ set_words empty_set = c.empty-set.ensures in
    let whole : chunks_exact_rest c.into_iter-packed-iterator.result ≡ s = cc in (
      ((cc), search rules, λ i. rw none ((sixteen-words empty_set).1 i)),
      rw whole (none_before (held w) _ (ap held none ∙ held-words empty_set (λ k e. absurd (false≢true e)))),
    )

pub returns-in_default : goal.returns-in_default
unfolding plain_truck_set as_reply words_reply
returns-in_default c =
    let s = c.args.plain.now in
    let l = c.loop-packed in
    let step = c.in-Some.ensures.steps in
    words_refused s 8
    (right_length s _ c.is_tickets_length.ensures (ap not c.if-not-is_tickets_length.false) truck_set _
    (one_refused _ _ _ _ step.1.0 (step.1.1 ∙ l.invariant.0.0) _ c.in_default.ensures ∙ l.invariant.1))

pub bounds-set-truck : goal.bounds-set-truck
unfolding as_reply
bounds-set-truck c = let u = c.in-Ok.ensures in omega (arith, (truck_range _ _ (sym u)).1)

pub bounds-set-truck-in-loop-packed : goal.bounds-set-truck-in-loop-packed
unfolding as_reply
bounds-set-truck-in-loop-packed c = let u = c.in-Ok.ensures in omega (arith, (truck_range _ _ (sym u)).1)

pub loop-packed-preserved : goal.loop-packed-preserved
unfolding as_reply
loop-packed-preserved c =
    let l = c.loop-packed in
    let t = c.in-Ok.t in
    let u = c.in-Ok.ensures in
    let step = c.in-Some.ensures.steps in
    let small = (truck_range _ t (sym u)).1 in
    let added : ℕ → List ℕ = λ x. set l.set.words (t.truck / 64) (bit_or (get_or l.set.words (t.truck / 64) 0) x) in
    let one = shl_one (t.truck % 64) (omega arith) in (
      (
        step.0 ∙ l.invariant.0.0,
        search rules,
        subst (λ (x : ℕ). AreWords (added x)) (sym one) (words-added l.set.words t.truck l.invariant.0.1 (omega arith) l.invariant.0.2),
      ),
      one_done _ _ _ _ step.1.0 (step.1.1 ∙ l.invariant.0.0) _ t
          (one_more (held l.set.words) _ t
          (ap (λ (x : ℕ). held (added x)) one
          ∙ fun_ext (held-added l.set.words t.truck l.invariant.0.1 (omega arith)))) u
          ∙ l.invariant.1,
    )

pub returns : goal.returns
unfolding plain_truck_set words_reply
returns c =
    let s = c.args.plain.now in
    let l = c.loop-packed in
    words-done s l.set.words l.invariant.0.1 l.invariant.0.2
    (right_length s _ c.is_tickets_length.ensures (ap not c.if-not-is_tickets_length.false) truck_set _
    (ap done (none_behind (held l.set.words)) ∙ none_left _ _ (omega (arith, c.in-None.ensures.steps)) ∙ l.invariant.1))
