-- `pack_ticket` is the packing of tickets into lent bytes, refusals included.
use mathlib.Core.Path.{sym, ◌∙◌}
use Rattle.calls.specs.Calls.{as_reply, unless_refused, result_of}
use Rattle.tape_model.specs.Ticket.{pack_ticket_into}
use Rattle.tape_model.proofs.Tickets.{ticket-length}
use Rattle.ticket.proofs.Writing.{packing_puts}
use Rattle.ticket.proofs.pack_ticket.Goals as goal

pub returns-then-not-valid : goal.returns-then-not-valid
unfolding pack_ticket_into result_of unless_refused as_reply
returns-then-not-valid c = rw (sym c.valid.ensures, c.if-not-valid.true)

pub returns : goal.returns
unfolding pack_ticket_into
returns c =
    let s = c.args in
    packing_puts 4 _ _ _ _ s.out.now _
    (sym c.valid.ensures ∙ c.if-not-valid.false)
    c.packed_ticket-packed.ensures
    (ticket-length s.t)
    c.put.ensures
