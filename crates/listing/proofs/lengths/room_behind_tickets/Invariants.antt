use mathlib.Core.Path.{◌≡◌}
use Prim.Native.Nat.{◌+◌, ◌*◌}
use lib.ListN.{length, take, drop}
use Rattle.std.specs.Iterator.Adapters.{enumerate_source, enumerate_count}
use Rattle.std.specs.Slice.Iter.{chunks_exact_rest, chunks_exact_size}
use Rattle.tape_model.specs.Tape.{plain_tickets, tickets_in}
use Rattle.tape_model.specs.Listing.{ticket_lines}
use Rattle.listing.proofs.lengths.room_behind_tickets.Given as goal

abbrev pub invariant-loop-i : goal.invariant-loop-i
invariant-loop-i l =
    let bytes = enumerate_source l.i-iterator in
    let i = enumerate_count l.i-iterator in
    (chunks_exact_size bytes ≡ 13) × (chunks_exact_rest bytes ≡ drop (13 * i) l.opened.plain.now)
    × (length (ticket_lines 1 (take i (tickets_in (plain_tickets l.opened.plain.now)))) + l.left ≡ l.room)
