-- What packing comes to besides the model's: a ticket by itself, and the nonce of a packed head.
use Rattle.std.specs.Prelude.{ℕ, List, eqb, length, replicate}
use Rattle.calls.specs.Calls.{◌if◌else◌}
use Rattle.tape_model.specs.declared.Ticket.{Ticket}
use Rattle.acorn_model.specs.Machine.{nonce_length}
use Rattle.tape_model.specs.Ticket.{ticket_length, ticket_rule, pack_ticket, head_length}
use Rattle.tape_model.specs.Tape.{nonce_of}

-- a packed ticket, or zeros where it breaks the rule
unfoldable pub packed_or_zeros : Ticket → List ℕ
packed_or_zeros t = pack_ticket t if ticket_rule t else replicate ticket_length 0

-- the nonce of a head's bytes, or zeros where they have another size
unfoldable pub nonce_or_zeros : List ℕ → List ℕ
nonce_or_zeros head = nonce_of head if eqb (length head) head_length else replicate nonce_length 0
