-- `longer` meets its contract.
use mathlib.Core.Path.{refl, sym, ap, ◌∙◌}
use Prim.Native.Nat.{ℕ}
use native.Mathlib.Omega.{arith}
use Rattle.receptions.proofs.Parts.{err_parts, ok_not_parted, is-second, is-first, is_empty}
use Rattle.receptions.proofs.longer.Goals as goal

-- they part: the empty beginning of the first
pub returns-then-is_err : goal.returns-then-is_err
returns-then-is_err c =
    let p = err_parts c.parting.result (sym c.is_err.ensures.value ∙ c.if-is_err.true) in
    is_empty c.args.first c.args.second _ p.0 p.1 (sym c.parting.ensures ∙ p.2) (ap (λ (o : ℕ). (c.args.first.ref_ptr.0, o)) (omega arith)) refl

-- they do not, and the second is longer
pub returns-then-second_longer : goal.returns-then-second_longer
returns-then-second_longer c =
    is-second c.args.first c.args.second (sym c.parting.ensures ∙ ok_not_parted c.parting.result (sym c.is_err.ensures.value ∙ c.if-is_err.false)) c.if-second_longer.true

-- they do not, and it is not
pub returns-else-second_longer : goal.returns-else-second_longer
returns-else-second_longer c =
    is-first c.args.first c.args.second (sym c.parting.ensures ∙ ok_not_parted c.parting.result (sym c.is_err.ensures.value ∙ c.if-is_err.false)) c.if-second_longer.false
