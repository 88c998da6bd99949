-- The contracts of packing tickets and heads into an output, and of unpacking them.
use Rattle.std.specs.Prelude.{◌≡◌, List, ℕ, Result}
use Rattle.calls.specs.declared.Refusal.{Refusal}
use Rattle.calls.specs.Calls.{as_reply}
use Rattle.tape_model.specs.declared.Ticket.{Ticket}
use Rattle.tape_model.specs.declared.Head.{Head}
use Rattle.tape_model.specs.Ticket.{pack_ticket_into, unpack_ticket, pack_head_into, unpack_head}

-- packing into `out` answered r, and left `after` there
abbrev pub PacksTicket : Ticket → List ℕ → Result ℕ Refusal → List ℕ → Type 0
PacksTicket t out r after = pack_ticket_into t out ≡ record { answer = as_reply r; out = after }

abbrev pub PacksHead : Head → List ℕ → Result ℕ Refusal → List ℕ → Type 0
PacksHead h out r after = pack_head_into h out ≡ record { answer = as_reply r; out = after }

-- unpacking a string answered r
abbrev pub UnpacksTicket : List ℕ → Result Ticket Refusal → Type 0
UnpacksTicket string r = as_reply r ≡ unpack_ticket string

abbrev pub UnpacksHead : List ℕ → Result Head Refusal → Type 0
UnpacksHead string r = as_reply r ≡ unpack_head string
