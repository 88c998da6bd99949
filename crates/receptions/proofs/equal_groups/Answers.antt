-- `equal_groups` meets its contract. Invariant: before the groups that are left, both have the same bytes.
use mathlib.Core.Path.{◌≡◌, sym, subst, ◌∙◌}
use Prim.Native.Nat.{ℕ, ◌+◌}
use lib.ListN.{length}
use Rattle.std.specs.Slice.Iter.{chunks_exact_rest}
use Rattle.calls.proofs.SameBytes.{same-bytes-true}
use Rattle.receptions.proofs.Places.{SameBefore, same_more, agree}
use Rattle.receptions.proofs.equal_groups.Goals as goal

pub loop-a-preserved : goal.loop-a-preserved
loop-a-preserved c =
    let x = c.args in
    let l = c.loop-a in
    let step = c.in-Some.ensures.steps in
    let eight : length c.in-Some.a.now ≡ 8 = step.0.1.1 ∙ l.invariant.0.0 in
    let same = same-bytes-true _ _ (sym c.same_bytes.ensures ∙ c.if-not-same_bytes.false) in (
      (step.0.0 ∙ l.invariant.0.0, step.1.0 ∙ l.invariant.0.1),
      subst (λ (k : ℕ). SameBefore x.n (l.agreed + k) x.first.now x.second.now (chunks_exact_rest c.next.new.self.a) (chunks_exact_rest c.next.new.self.b)) eight
          (same_more l.invariant.1 _ _ _ _ step.0.1.0 step.1.1.0 same),
    )

pub returns-in-None : goal.returns-in-None
returns-in-None c = agree c.loop-a.invariant.1 c.requires.0

pub returns-then-not-same_bytes : goal.returns-then-not-same_bytes
returns-then-not-same_bytes c = agree c.loop-a.invariant.1 c.requires.0
