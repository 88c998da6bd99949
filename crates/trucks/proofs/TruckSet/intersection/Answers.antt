-- `intersection`: a bit is set where both are.
use mathlib.Core.Path.{◌≡◌, refl, ap, ◌∙◌}
use mathlib.Core.Bool.{Bool, ◌&&◌}
use Prim.Native.Nat.{ℕ}
use lib.ListN.{get_or}
use lib.Bits.{bit_and}
use borrow.Author.Rules.{rules}
use Rattle.acorn_kernel.proofs.WordBits.{bit-and}
use Rattle.acorn_model.specs.Bits.{bit}
use Rattle.trucks.proofs.Words.{held-combined}
use Rattle.trucks.proofs.TruckSet.intersection.Goals as goal

pub returns : goal.returns
returns c =
    let a = c.args.self.words in
    let b = c.args.other.words in
    let r = c.combined.result.words in
    held-combined (λ (x y : Bool). x && y) refl a b r (search rules) (search rules) (search rules)
    (λ q h j l. let e : get_or r q 0 ≡ bit_and (get_or a q 0) (get_or b q 0) = search (rules, c.combined.ensures q h) in ap (λ (x : ℕ). bit x j) e ∙ bit-and _ _ j)
