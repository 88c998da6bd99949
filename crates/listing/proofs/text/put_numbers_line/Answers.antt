-- `put_numbers_line`: the first number, and the rest of the line behind it.
use mathlib.Core.Path.{ap}
use mathlib.Core.List.{List, ◌++◌}
use Prim.Native.Nat.{ℕ, ◌≤◌}
use native.Mathlib.Omega.{arith}
use lib.ListN.{length, length-append}
use Rattle.tape_model.specs.Listing.{decimal, numbers, line_end}
use Rattle.listing.proofs.Texts.{wrote_as, behind-wrote, line_parts}
use Rattle.listing.proofs.text.put_numbers_line.Goals as goal

-- the two parts, and room for them
module _ (first : ℕ) (ns out : List ℕ) (room : length (decimal first ++ numbers ns ++ line_end) ≤ length out) where
  abbrev rest : List ℕ
  rest = numbers ns ++ line_end

  both_fit : length (decimal first ++ rest) ≤ length out
  both_fit = omega (arith, ap length (line_parts (decimal first) ns))

  first_fits : length (decimal first) ≤ length out
  first_fits = omega (arith, both_fit, length-append (decimal first) rest)

pub returns : goal.returns
returns c =
    let a = c.args in
    wrote_as (line_parts (decimal a.first) a.ns.now)
    (behind-wrote (decimal a.first) (rest a.first a.ns.now a.out.now c.requires) a.out.now _ _ (both_fit a.first a.ns.now a.out.now c.requires) c.put_decimal-n.ensures
    _ _ c.put_rest-k.ensures)
