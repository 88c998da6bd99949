-- `acorn::word_bytes::store_rest` meets its contract.
use mathlib.Core.Path.{ap, ◌∙◌}
use mathlib.Core.List.{List, [], ◌∷◌}
use Prim.Native.Nat.{ℕ}
use native.Mathlib.Omega.{arith}
use lib.ListN.{get_or}
use Rattle.acorn.proofs.Strings.{le_bytes-is, stored_one, stored_two, stored_three}
use Rattle.acorn.proofs.word_bytes.store_rest.Goals as goal

pub returns-in-1 : goal.returns-in-1
returns-in-1 c =
    let e = c.to_le_bytes.ensures ∙ le_bytes-is c.args.x in
    stored_one _ _ _ _ _ (ap (λ (l : List ℕ). get_or l 0 0) e) (omega arith) c.in-1.is

pub returns-in-2 : goal.returns-in-2
returns-in-2 c =
    let e = c.to_le_bytes.ensures ∙ le_bytes-is c.args.x in
    stored_two _ _ _ _ _ (c.copy_from_slice.ensures.after ∙ ap (λ (l : List ℕ). get_or l 0 0 ∷ get_or l 1 0 ∷ []) e) c.in-2.is

pub returns-in_default : goal.returns-in_default
returns-in_default c =
    let e = c.to_le_bytes.ensures ∙ le_bytes-is c.args.x in
    stored_three _ _ _ _ _ (c.copy_from_slice-in_default.ensures.after ∙ ap (λ (l : List ℕ). get_or l 0 0 ∷ get_or l 1 0 ∷ get_or l 2 0 ∷ []) e) (omega arith)
