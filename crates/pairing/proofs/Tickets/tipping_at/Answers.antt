-- `tipping_at` gives the truck and the time of the ticket at its place: the bytes hold tickets, so it unpacks.
use Prim.Native.Nat.{◌+◌, ◌-◌, ◌*◌}
use mathlib.Core.Path.{sym, ap, ◌∙◌}
use native.Mathlib.Omega.{arith}
use Rattle.calls.specs.Calls.{as_reply}
use Rattle.pairing.proofs.Held.{size, never_refused, ticket_is}
use Rattle.pairing.proofs.Tickets.tipping_at.Goals as goal

pub overflow_mul-at : goal.overflow_mul-at
overflow_mul-at c = omega (arith, size _ c.args.self.accepted)

pub overflow_add-end : goal.overflow_add-end
overflow_add-end c = omega (arith, size _ c.args.self.accepted)

pub slice_bounds-unpack_ticket-end : goal.slice_bounds-unpack_ticket-end
slice_bounds-unpack_ticket-end c = omega (arith, size _ c.args.self.accepted)

pub unwrap-t-requires : goal.unwrap-t-requires
unwrap-t-requires c =
    let a = c.args in
    never_refused a.self.plain.now a.self.accepted a.i (13 * a.i + 13 - 13 * a.i) c.requires (omega arith) _ c.unpack_ticket.ensures

pub returns : goal.returns
unfolding as_reply
returns c =
    let a = c.args in
    ticket_is a.self.plain.now a.self.accepted a.i (13 * a.i + 13 - 13 * a.i) c.requires (omega arith) _
    (ap as_reply (sym c.unwrap-t.ensures) ∙ c.unpack_ticket.ensures)
