-- `read_tape` stays within its slices: the tickets of an opened tape fit the room that was lent.
use Rattle.std.proofs.Common.{rules, arith, sym, length-take-le}
use Rattle.calls.specs.Calls.{as_reply}
use Rattle.tape_model.proofs.Opening.{room, was_accepted, count-is, few_tickets}
use Rattle.quick_start.proofs.read_tape.Goals as goal

pub overflow_mul-totals : goal.overflow_mul-totals
unfolding as_reply
overflow_mul-totals g c = let few = few_tickets _ _ _ _ _ c.in-Ok.ensures in search rules

pub slice_bounds-read_two-end : goal.slice_bounds-read_two-end
unfolding as_reply
slice_bounds-read_two-end g c =
    let opened = c.in-Ok.ensures in
    omega (arith, count-is _ _ _ _ _ opened, room c.args.key.now c.args.tape.now c.args.plain.now (was_accepted _ _ _ _ _ opened), c.open_tape.auto.out)

pub slice_bounds-read_two-end-in-Ok : goal.slice_bounds-read_two-end-in-Ok
slice_bounds-read_two-end-in-Ok g c = sym (length-take-le _ _ (slice_bounds-read_two-end g c))
