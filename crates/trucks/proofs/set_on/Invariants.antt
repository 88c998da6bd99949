use mathlib.Core.Path.{◌≡◌}
use lib.ListN.{length}
use Rattle.std.specs.Slice.Iter.{chunks_exact_rest, chunks_exact_size}
use Rattle.calls.specs.Calls.{map_reply}
use Rattle.ticket.proofs.EachTicket.{left}
use Rattle.trucks.specs.Trucks.{truck_set}
use Rattle.trucks.specs.Words.{held, AreWords}
use Rattle.trucks.proofs.Gathering.{set_after}
use Rattle.trucks.proofs.set_on.Given as goal

abbrev pub invariant-loop-packed : goal.invariant-loop-packed
invariant-loop-packed l =
    ((chunks_exact_size l.packed-iterator ≡ 13) × (length l.set.words ≡ 16) × AreWords l.set.words)
    × (map_reply (set_after (held l.set.words)) (left (chunks_exact_rest l.packed-iterator)) ≡ map_reply truck_set (left l.plain))
