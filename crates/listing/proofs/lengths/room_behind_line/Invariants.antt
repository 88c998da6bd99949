use mathlib.Core.Path.{◌≡◌}
use Prim.Native.Nat.{◌+◌}
use lib.ListN.{length, take}
use Rattle.tape_model.specs.Listing.{numbers}
use Rattle.listing.proofs.lengths.room_behind_line.Given as goal

abbrev pub invariant-loop-n : goal.invariant-loop-n
invariant-loop-n l = l.word + length (numbers (take l.n-index l.ns)) + l.left ≡ l.room
