use mathlib.Core.Path.{◌≡◌}
use Rattle.std.specs.Slice.Iter.{chunks_exact_rest, chunks_exact_size}
use Rattle.receptions.proofs.Places.{SameBefore}
use Rattle.receptions.proofs.equal_groups.Given as goal

abbrev pub invariant-loop-a : goal.invariant-loop-a
invariant-loop-a l =
    ((chunks_exact_size l.a-iterator.a ≡ 8) × (chunks_exact_size l.a-iterator.b ≡ 8))
    × SameBefore l.n l.agreed l.first l.second (chunks_exact_rest l.a-iterator.a) (chunks_exact_rest l.a-iterator.b)
