-- `last_second` is 86,399 for form 2, and 43,199 for any other.
use borrow.Author.Tests.{eq-eqb, ne_eqb}
use Rattle.ticket.specs.Rule.{last_second}
use Rattle.ticket.proofs.last_second.Goals as goal

pub returns-then-t-eq2 : goal.returns-then-t-eq2
unfolding last_second
returns-then-t-eq2 c = rw (eq-eqb _ _ c.if-t-eq2.true)

pub returns-else-t-eq2 : goal.returns-else-t-eq2
unfolding last_second
returns-else-t-eq2 c = rw (ne_eqb _ _ c.if-t-eq2.false)
