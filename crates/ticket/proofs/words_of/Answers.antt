-- `words_of`: for a ticket that meets the rule nothing overflows, and the two words are the number of its values, by its form's widths.
use native.Mathlib.Omega.{arith}
use borrow.Author.Tests.{eq-eqb, ne_eqb}
use Rattle.tape_model.proofs.Tickets.{form_1_rule, form_2_rule}
use Rattle.ticket.proofs.words_of.Goals as goal

pub overflow_mul-result-then-t-eq2 : goal.overflow_mul-result-then-t-eq2
overflow_mul-result-then-t-eq2 c = let h = form_2_rule _ c.requires c.if-t-eq2.true in omega arith

pub overflow_add-result-then-t-eq2 : goal.overflow_add-result-then-t-eq2
overflow_add-result-then-t-eq2 c = let h = form_2_rule _ c.requires c.if-t-eq2.true in omega arith

pub overflow_mul-result-else-t-eq2-2 : goal.overflow_mul-result-else-t-eq2-2
overflow_mul-result-else-t-eq2-2 c = let h = form_1_rule _ c.requires c.if-t-eq2.false in omega arith

pub overflow_add-result-else-t-eq2-2 : goal.overflow_add-result-else-t-eq2-2
overflow_add-result-else-t-eq2-2 c = let h = form_1_rule _ c.requires c.if-t-eq2.false in omega arith

pub overflow_mul-result-else-t-eq2-3 : goal.overflow_mul-result-else-t-eq2-3
overflow_mul-result-else-t-eq2-3 c = let h = form_1_rule _ c.requires c.if-t-eq2.false in omega arith

pub overflow_add-result-else-t-eq2-3 : goal.overflow_add-result-else-t-eq2-3
overflow_add-result-else-t-eq2-3 c = let h = form_1_rule _ c.requires c.if-t-eq2.false in omega arith

pub returns-then-t-eq2 : goal.returns-then-t-eq2
returns-then-t-eq2 c =
    let h = form_2_rule _ c.requires c.if-t-eq2.true in
    rw (eq-eqb _ _ c.if-t-eq2.true) (omega arith)

pub returns-else-t-eq2 : goal.returns-else-t-eq2
returns-else-t-eq2 c =
    let h = form_1_rule _ c.requires c.if-t-eq2.false in
    rw (ne_eqb _ _ c.if-t-eq2.false) (omega arith)
