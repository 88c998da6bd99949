-- `difference`: a bit is set where that of the first is, and that of the second is not.
use mathlib.Core.Path.{◌≡◌, refl, ap, ◌∙◌}
use mathlib.Core.Bool.{Bool, not, ◌&&◌}
use Prim.Native.Nat.{ℕ, ◌^◌, ◌-◌}
use lib.ListN.{get_or}
use lib.Bits.{bit_and}
use borrow.Author.Rules.{rules}
use Rattle.acorn_model.specs.Bits.{bit}
use Rattle.trucks.proofs.Words.{held-combined, bit_without}
use Rattle.trucks.proofs.TruckSet.difference.Goals as goal

pub returns : goal.returns
returns c =
    let a = c.args.self.words in
    let b = c.args.other.words in
    let r = c.combined.result.words in
    held-combined (λ (x y : Bool). x && not y) refl a b r (search rules) (search rules) (search rules)
    (λ q h j l. let e : get_or r q 0 ≡ bit_and (get_or a q 0) ((2 ^ 64 - 1) - get_or b q 0) = search (rules, c.combined.ensures q h) in ap (λ (x : ℕ). bit x j) e ∙ bit_without _ _ j (search rules) l)
