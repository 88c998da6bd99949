-- `parting` meets its contract.
use mathlib.Core.Path.{◌≡◌, sym, ap, ◌∙◌}
use mathlib.Core.Logic.{◌⊎◌, inl, inr}
use Prim.Native.Nat.{◌≤◌}
use native.Mathlib.Omega.{arith}
use lib.ListN.{length}
use Rattle.std.proofs.lemmas.Bool.{cases_lt}
use Rattle.receptions.specs.Receptions.{refused_at}
use Rattle.receptions.specs.Clauses.{parting_reply}
use Rattle.receptions.proofs.Places.{at_place, no_place}
use Rattle.receptions.proofs.parting.Goals as goal
use Rattle.receptions.proofs.parting.Goals.{then-i-shorter, else-i-shorter+then-first-i}

-- the shorter has ended: they do not part
pub returns-then-agreed-shorter : goal.returns-then-agreed-shorter
unfolding parting_reply
returns-then-agreed-shorter c =
    let x = c.args in
    let l = c.loop-i in
    let at : c.if-i-shorter.agreed ≡ l.i = elim c.if-i-shorter.branch [ then-i-shorter w ↦ w.agreed-is | else-i-shorter+then-first-i w ↦ w.agreed-is ] in
    let ended : (length x.first.now ≤ l.i) ⊎ (length x.second.now ≤ l.i) =
    elim (cases_lt (length x.first.now) (length x.second.now)) [ inl h ↦ inl (omega (arith, at)) | inr h ↦ inr (omega (arith, at)) ] in
    sym (no_place l.i x.first.now x.second.now l.invariant.2 ended)

-- it has not: the bytes at the place differ
pub returns : goal.returns
unfolding parting_reply
returns c =
    let x = c.args in
    let l = c.loop-i in
    elim c.if-i-shorter.branch [
      | then-i-shorter w ↦ absurd (omega arith)
      | else-i-shorter+then-first-i w ↦
          ap (refused_at 10) w.agreed-is ∙ sym (at_place l.i x.first.now x.second.now
          (record { in_first = omega arith; in_second = omega arith; before = l.invariant.2; differ = w.if-first-i.true }))
    ]
