use mathlib.Core.Path.{◌≡◌}
use Prim.Native.Nat.{◌+◌, ◌*◌, ◌/◌, ◌≤◌}
use lib.ListN.{length}
use Rattle.std.specs.Slice.Iter.{chunks_exact_rest, chunks_exact_size}
use Rattle.calls.specs.Calls.{map_reply}
use Rattle.ticket.proofs.EachTicket.{left}
use Rattle.pay_sheet.specs.PaySheet.{contractors, sum_to}
use Rattle.pay_sheet.specs.Clauses.{at, nets_of}
use Rattle.pay_sheet.proofs.Hauled.{nets_after}
use Rattle.pay_sheet.proofs.nets_by_contractor.Given as goal

abbrev pub invariant-loop-packed : goal.invariant-loop-packed
invariant-loop-packed l =
    let rest = chunks_exact_rest l.packed-iterator in
    (chunks_exact_size l.packed-iterator ≡ 13) × (length l.nets ≡ contractors)
    × (sum_to contractors (at l.nets) + 1048575 * (length rest / 13) ≤ 1048575 * 5000)
    × (map_reply (nets_after l.nets) (left rest) ≡ map_reply nets_of (left l.plain))
