use Prim.Native.Nat.{◌+◌, ◌-◌, ◌*◌, ◌/◌, ◌^◌, ◌≤◌}
use mathlib.Core.Path.{◌≡◌}
use lib.ListN.{length}
use Rattle.std.specs.Slice.Iter.{chunks_exact_rest, chunks_exact_size}
use Rattle.calls.specs.Calls.{map_reply}
use Rattle.tape_model.specs.Tape.{totals_of}
use Rattle.ticket.proofs.EachTicket.{left}
use Rattle.ticket.proofs.Summing.{totals_after}
use Rattle.ticket.proofs.totals.Given as goal

abbrev pub invariant-loop-packed : goal.invariant-loop-packed
invariant-loop-packed l =
    let n = length (chunks_exact_rest l.packed-iterator) / 13 in
    (chunks_exact_size l.packed-iterator ≡ 13) × (n ≤ length l.plain / 13) × (l.sum + 2 ^ 32 * n ≤ 2 ^ 32 * 5000)
    × (map_reply (totals_after (length l.plain / 13 - n) l.sum) (left (chunks_exact_rest l.packed-iterator)) ≡ map_reply totals_of (left l.plain))
