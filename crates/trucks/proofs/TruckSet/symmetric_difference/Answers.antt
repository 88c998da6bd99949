-- `symmetric_difference`: a bit is set where just one of the two is.
use mathlib.Core.Path.{◌≡◌, refl, ap, ◌∙◌}
use mathlib.Core.Bool.{Bool, not}
use Prim.Native.Nat.{ℕ}
use lib.ListN.{get_or}
use lib.Bits.{bit_xor}
use borrow.Author.Rules.{rules}
use Rattle.acorn_model.specs.Bits.{bit}
use Rattle.calls.specs.Calls.{◌if◌else◌}
use Rattle.trucks.proofs.Words.{held-combined, bit_xor_is}
use Rattle.trucks.proofs.TruckSet.symmetric_difference.Goals as goal

pub returns : goal.returns
returns c =
    let a = c.args.self.words in
    let b = c.args.other.words in
    let r = c.combined.result.words in
    held-combined (λ (x y : Bool). not y if x else y) refl a b r (search rules) (search rules) (search rules)
    (λ q h j l. let e : get_or r q 0 ≡ bit_xor (get_or a q 0) (get_or b q 0) = search (rules, c.combined.ensures q h) in ap (λ (x : ℕ). bit x j) e ∙ bit_xor_is _ _ j)
