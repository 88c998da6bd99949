-- `trucks_of_two` are the numbers of two tapes: lengths are tried first, then tickets, and then both sets are the tapes' and are counted.
use mathlib.Core.Path.{◌≡◌, sym, ap, ap₂, ◌∙◌}
use mathlib.Core.Bool.{Bool, ◌&&◌}
use borrow.Author.Rules.{rules}
use Rattle.std.specs.Prelude.{Err}
use Rattle.calls.specs.Calls.{as_reply}
use Rattle.trucks.specs.Words.{words_reply}
use Rattle.trucks.proofs.Gathering.{lengths_told, first_told, second_told, counts-told}
use Rattle.trucks.proofs.trucks_of_two.Goals as goal

pub returns-then-not-is_tickets_length : goal.returns-then-not-is_tickets_length
unfolding as_reply
returns-then-not-is_tickets_length c =
    let a = c.args in
    lengths_told a.first.now a.second.now
    (sym (ap₂ (λ (x y : Bool). x && y) c.is_tickets_length.ensures c.is_tickets_length-2.ensures) ∙ c.if-not-is_tickets_length.true)

pub returns-in_err-a : goal.returns-in_err-a
unfolding as_reply words_reply
returns-in_err-a c =
    let a = c.args in
    let right = sym (ap₂ (λ (x y : Bool). x && y) c.is_tickets_length.ensures c.is_tickets_length-2.ensures) ∙ c.if-not-is_tickets_length.false in
    let passed_on : c.from_residual.result ≡ Err c.in_err-a.field-0.0 = search rules in
    ap as_reply passed_on ∙ first_told a.first.now a.second.now right _ c.in_err-a.ensures

pub returns-in_err-b : goal.returns-in_err-b
unfolding as_reply words_reply
returns-in_err-b c =
    let a = c.args in
    let right = sym (ap₂ (λ (x y : Bool). x && y) c.is_tickets_length.ensures c.is_tickets_length-2.ensures) ∙ c.if-not-is_tickets_length.false in
    let passed_on : c.from_residual-in_err-b.result ≡ Err c.in_err-b.field-0.0 = search rules in
    ap as_reply passed_on ∙ second_told a.first.now a.second.now right _ c.in_err-b.ensures

pub returns : goal.returns
unfolding as_reply words_reply
returns c =
    let a = c.args in
    counts-told a.first.now a.second.now _ _ c.in_ok-a.ensures c.in_ok-b.ensures
    _ c.intersection.ensures c.count.ensures.value_2
    _ c.union.ensures c.count-2.ensures.value_2
    _ c.symmetric_difference.ensures c.count-3.ensures.value_2
