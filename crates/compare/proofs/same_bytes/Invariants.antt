use Rattle.std.proofs.Common.{◌≡◌, nat_eq, length}
use mathlib.Core.Bool.{◌&&◌}
use Rattle.calls.specs.Calls.{same_bytes}
use Rattle.compare.proofs.same_bytes.Given as goal

-- what is gathered, and the bytes still to come, tell what the strings do
abbrev pub invariant-loop-x : goal.invariant-loop-x
invariant-loop-x l =
    let a = l.x-iterator.a.rest.now in
    let b = l.x-iterator.b.rest.now in
    record { lengths : length a ≡ length b; told : (nat_eq l.difference 0 && same_bytes a b) ≡ same_bytes l.a l.b }
