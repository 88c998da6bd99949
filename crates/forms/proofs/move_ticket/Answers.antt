-- `move_ticket` answers as the move does, refusals included.
use mathlib.Core.Path.{sym, ap₂, ◌∙◌}
use mathlib.Core.Bool.{◌&&◌}
use Rattle.calls.specs.Calls.{as_reply, unless_refused}
use Rattle.forms.specs.Move.{move_ticket}
use Rattle.forms.proofs.move_ticket.Goals as goal

pub returns-then-not-right : goal.returns-then-not-right
unfolding as_reply move_ticket unless_refused
returns-then-not-right c = rw (sym (ap₂ ◌&&◌ c.is_form.ensures c.valid.ensures), c.if-not-right.true)

pub returns-then-too_late : goal.returns-then-too_late
unfolding as_reply move_ticket unless_refused
returns-then-too_late c =
    rw (sym (ap₂ ◌&&◌ c.is_form.ensures c.valid.ensures), c.if-not-right.false, sym c.too_late.ensures, c.if-too_late.true)

pub returns : goal.returns
unfolding as_reply move_ticket unless_refused
returns c =
    rw (sym (ap₂ ◌&&◌ c.is_form.ensures c.valid.ensures), c.if-not-right.false, sym c.too_late.ensures, c.if-too_late.false)
