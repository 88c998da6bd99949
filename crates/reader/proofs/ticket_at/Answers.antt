-- `ticket_at` answers what document 01's reader does at the position.
use mathlib.Core.Bool.{not}
use Prim.Native.Nat.{◌+◌, ◌-◌, ◌*◌}
use mathlib.Core.Path.{ap}
use native.Mathlib.Omega.{arith}
use Rattle.calls.specs.Calls.{as_reply}
use Rattle.tape_model.specs.Reader.{ReadOutcome, next_reply}
use Rattle.reader.proofs.Cases.{not_unpacked}
use Rattle.reader.proofs.ticket_at.Goals as goal

pub returns-in_default : goal.returns-in_default
unfolding next_reply as_reply
returns-in_default c =
    let a = c.args in
    ap (λ (r : ReadOutcome). r.answer)
    (not_unpacked a.bytes.now a.position _ c.is_tickets_length.ensures (ap not c.if-not-is_tickets_length.false)
    (13 * a.position + 13 - 13 * a.position) c.if-size-position.false (omega arith) _
    c.in_default.ensures)
