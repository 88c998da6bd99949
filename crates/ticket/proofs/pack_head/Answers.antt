-- `pack_head` is the packing of heads into lent bytes, refusals included.
use mathlib.Core.Path.{sym, ◌∙◌}
use Rattle.calls.specs.Calls.{as_reply, unless_refused, result_of}
use Rattle.tape_model.specs.Ticket.{pack_head_into}
use Rattle.tape_model.proofs.Tickets.{head-length}
use Rattle.ticket.proofs.Writing.{packing_puts}
use Rattle.ticket.proofs.pack_head.Goals as goal

pub returns-then-not-head_valid : goal.returns-then-not-head_valid
unfolding pack_head_into result_of unless_refused as_reply
returns-then-not-head_valid c = rw (sym c.head_valid.ensures, c.if-not-head_valid.true)

pub returns : goal.returns
unfolding pack_head_into
returns c =
    let s = c.args in
    packing_puts 3 _ _ _ _ s.out.now _
    (sym c.head_valid.ensures ∙ c.if-not-head_valid.false)
    c.packed_head-packed.ensures
    (head-length s.h)
    c.put.ensures
