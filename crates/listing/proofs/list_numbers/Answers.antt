-- `list_numbers`: the line is written where it fits.
use mathlib.Core.List.{◌++◌}
use native.Mathlib.Omega.{arith}
use Rattle.tape_model.specs.Listing.{line_end, decimal, numbers}
use Rattle.listing.proofs.Texts.{listed-whole, listed_short}
use Rattle.listing.proofs.LineLengths.{line_size, short, fits}
use Rattle.listing.proofs.list_numbers.Goals as goal

pub returns-then-is_none : goal.returns-then-is_none
returns-then-is_none c =
    let a = c.args in
    let less = short _ _ _ c.room_behind_line.ensures c.is_none.ensures c.if-is_none.true in
    listed_short ((decimal a.first) ++ numbers a.ns.now ++ line_end) (omega (arith, line_size (decimal a.first) a.ns.now, less))

pub returns : goal.returns
returns c =
    let a = c.args in
    let enough = fits _ _ _ c.room_behind_line.ensures c.is_none.ensures c.if-is_none.false in
    listed-whole (omega (arith, line_size (decimal a.first) a.ns.now, enough)) c.put_numbers_line.ensures
