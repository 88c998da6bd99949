-- `put_number`: a space, and the number behind it.
use mathlib.Core.List.{[]}
use native.Mathlib.Omega.{arith}
use Rattle.tape_model.specs.Listing.{space, decimal}
use Rattle.listing.proofs.Texts.{wrote_nothing, byte_wrote, behind-wrote}
use Rattle.listing.proofs.text.put_number.Goals as goal

pub returns : goal.returns
returns c =
    let out = c.args.out.now in
    -- the space is written
    let first = byte_wrote [] 32 out out 0 (omega (arith, c.requires)) (wrote_nothing out) in
    behind-wrote space (decimal c.args.n) out _ 1 c.requires first _ _ c.put_decimal-k.ensures
