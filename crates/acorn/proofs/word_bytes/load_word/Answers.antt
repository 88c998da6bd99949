-- `acorn::word_bytes::load_word` meets its contract.
use mathlib.Core.Path.{refl}
use Prim.Native.Nat.{ℕ, ◌+◌, ◌<◌}
use lib.ListN.{get_or}
use native.Mathlib.Omega.{arith}
use Rattle.acorn.proofs.Strings.{loaded}
use Rattle.acorn.proofs.word_bytes.load_word.Goals as goal

pub returns : goal.returns
returns c =
    let small : (p : ℕ) → get_or c.args.src.now p 0 < 256 = λ p. omega (arith, c.type_inv.src p) in
    let at = c.args.at in
    loaded c.args.src.now at small _ _ _ (small (at + 1)) (small (at + 2)) (small (at + 3)) 4 _ c.from_le_bytes.ensures (λ _. refl) (λ _. refl) (λ _. refl) (omega arith)
