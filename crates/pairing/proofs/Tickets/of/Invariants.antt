use mathlib.Core.Path.{◌≡◌}
use lib.ListN.{length}
use Rattle.std.specs.Slice.Iter.{chunks_exact_rest, chunks_exact_size}
use Rattle.calls.specs.Calls.{map_reply}
use Rattle.ticket.proofs.EachTicket.{left}
use Rattle.pairing.specs.Pairing.{times_fall}
use Rattle.pairing.proofs.Falling.{fell_or_falls}
use Rattle.pairing.proofs.Tickets.of.Given as goal

abbrev pub invariant-loop-packed : goal.invariant-loop-packed
invariant-loop-packed l =
    (chunks_exact_size l.packed-iterator ≡ 13) × (length l.last ≡ 1024)
    × (map_reply (fell_or_falls l.fell l.last) (left (chunks_exact_rest l.packed-iterator)) ≡ map_reply times_fall (left l.plain))
