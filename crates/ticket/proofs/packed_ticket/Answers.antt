-- `packed_ticket` is the packed ticket, by its two words.
use mathlib.Core.Path.{ap, ◌∙◌}
use Rattle.tape_model.specs.Format.{cut, byte_widths}
use Rattle.tape_model.specs.Ticket.{pack_ticket}
use Rattle.ticket.proofs.packed_ticket.Goals as goal

pub returns : goal.returns
unfolding pack_ticket
returns c = c.ticket_bytes.ensures ∙ ap (cut (byte_widths 13)) c.words_of.ensures.1
