-- `acorn::word_bytes::load_rest` meets its contract.
use mathlib.Core.Path.{refl}
use Prim.Native.Nat.{◌+◌}
use native.Mathlib.Omega.{arith}
use Rattle.acorn.proofs.Strings.{loaded}
use Rattle.acorn.proofs.word_bytes.load_rest.Goals as goal

pub returns-in-1 : goal.returns-in-1
returns-in-1 c =
    loaded c.args.src.now c.args.at (λ p. omega (arith, c.type_inv.src p)) 0 0 0 (omega arith) (omega arith) (omega arith) c.args.k _ c.from_le_bytes.ensures
    (λ h. absurd (omega arith)) (λ h. absurd (omega arith)) (λ h. absurd (omega arith)) (omega arith)

pub returns-in-2 : goal.returns-in-2
returns-in-2 c =
    loaded c.args.src.now c.args.at (λ p. omega (arith, c.type_inv.src p)) _ 0 0 (omega (arith, c.type_inv.src (c.args.at + 1))) (omega arith) (omega arith) c.args.k _ c.from_le_bytes-in-2.ensures
    (λ h. refl) (λ h. absurd (omega arith)) (λ h. absurd (omega arith)) (omega arith)

pub returns-in_default : goal.returns-in_default
returns-in_default c =
    loaded c.args.src.now c.args.at (λ p. omega (arith, c.type_inv.src p)) _ _ 0 (omega (arith, c.type_inv.src (c.args.at + 1))) (omega (arith, c.type_inv.src (c.args.at + 2))) (omega arith) c.args.k _ c.from_le_bytes-in_default.ensures
    (λ h. refl) (λ h. refl) (λ h. absurd (omega arith)) (omega arith)
