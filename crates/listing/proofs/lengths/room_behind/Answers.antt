-- `room_behind`: what the first line leaves, what the tickets' lines leave of it, and the last of that.
use mathlib.Core.Path.{refl}
use mathlib.Core.List.{[], ◌∷◌}
use Prim.Native.Nat.{◌+◌, ◌/◌}
use native.Mathlib.Omega.{arith}
use lib.ListN.{length}
use Rattle.tape_model.specs.Listing.{word_tape, word_total}
use Rattle.listing.specs.Clauses.{lines_of}
use Rattle.listing.proofs.LineLengths.{line_size, counted_on}
use Rattle.listing.proofs.Whole.{heading, whole_length}
use Rattle.listing.proofs.lengths.room_behind.Goals as goal

pub returns-in_err-left : goal.returns-in_err-left
returns-in_err-left c =
    let o = c.args.opened in
    let ts = length o.plain.now / 13 ∷ o.net ∷ [] in
    let short = c.in_err-left.ensures in
    rw c.from_residual.ensures (
    λ fits. short (omega (arith, fits, whole_length o.head o.plain.now o.net o.held _ ts c.head_numbers.ensures refl, line_size word_tape c.head_numbers.result))
    )

pub returns-in_err-left-2 : goal.returns-in_err-left-2
returns-in_err-left-2 c =
    let o = c.args.opened in
    let ts = length o.plain.now / 13 ∷ o.net ∷ [] in
    let short = c.in_err-left-2.ensures in
    rw c.from_residual-in_err-left-2.ensures (
    λ fits. short (
    omega (arith, fits, c.in_ok-left.ensures, whole_length o.head o.plain.now o.net o.held _ ts c.head_numbers.ensures refl, line_size word_tape c.head_numbers.result)
    )
    )

pub returns : goal.returns
returns c =
    let o = c.args.opened in
    let e = whole_length o.head o.plain.now o.net o.held _ _ c.head_numbers.ensures c.total_numbers.ensures in
    counted_on _ (length (heading o.head o.plain.now o.net o.held _ _ c.head_numbers.ensures c.total_numbers.ensures) + length (lines_of o.plain.now)) _ _ _ _ c.room_behind_line-2.ensures
    (omega (arith, e, line_size word_total c.total_numbers.result)) (omega (arith, line_size word_tape c.head_numbers.result, c.in_ok-left.ensures, c.in_ok-left-2.ensures))
