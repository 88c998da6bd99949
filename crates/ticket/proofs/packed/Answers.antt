-- `packed` is the packed ticket, or zeros.
use mathlib.Core.Path.{sym, ◌∙◌}
use Rattle.ticket.specs.Packing.{packed_or_zeros}
use Rattle.ticket.proofs.packed.Goals as goal

pub returns-then-valid : goal.returns-then-valid
unfolding packed_or_zeros
returns-then-valid c = rw (sym c.valid.ensures ∙ c.if-valid.true, c.packed_ticket.ensures)

pub returns-else-valid : goal.returns-else-valid
unfolding packed_or_zeros
returns-else-valid c = rw (sym c.valid.ensures ∙ c.if-valid.false)
