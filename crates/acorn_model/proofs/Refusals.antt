-- The machine's chain of refusal numbers: what a call has passed that the machine accepts.
use mathlib.Core.Path.{◌≡◌, refl}
use mathlib.Core.Bool.{true, false}
use Prim.Native.Nat.{ℕ, ◌≤◌, ◌<◌}
use native.Mathlib.Omega.{arith}
use lib.Dec.{eqb}
use borrow.Author.Tests.{not-false, leb-true, le-leb, lt-leb}
use Rattle.std.proofs.lemmas.Bool.{and_parts}
use Rattle.calls.specs.Calls.{unless_refused}
use Rattle.acorn_model.specs.Machine.{Machine, Call, least_tag_length, tag_length_right, phase_allows, fixes_right, sizes_right, over_limit, output_short, refusal, work, call}
use Rattle.acorn_model.specs.Stretches.{full_tag_length}
use Rattle.calls.proofs.Refusals.{link}

-- ## 9

module _ (n : ℕ) where
  pub length_right : least_tag_length ≤ n → n ≤ full_tag_length → tag_length_right n ≡ true
  length_right l m = rw (le-leb least_tag_length n l, le-leb n full_tag_length m)

  pub length-told : tag_length_right n ≡ true → (least_tag_length ≤ n) × (n ≤ full_tag_length)
  length-told h = let b = and_parts _ _ h in (leb-true _ _ b.0, leb-true _ _ b.1)

  pub length_short : n < least_tag_length → tag_length_right n ≡ false
  length_short l = rw (lt-leb least_tag_length n l)

  pub length_over : full_tag_length < n → tag_length_right n ≡ false
  length_over l = let m = le-leb least_tag_length n (omega arith) in rw (m, lt-leb n full_tag_length l)

-- ## The chain

pub record Passed (m : Machine) (c : Call) : Type 0 where
  pub phase : phase_allows m.kind m.phase c ≡ true
  pub fixes : fixes_right c ≡ true
  pub sizes : sizes_right m.tag_length c ≡ true
  pub limit : over_limit m.counts c ≡ false
  pub output : output_short m.tag_length c ≡ false

module _ (m : Machine) (c : Call) where
  -- a number that no test has comes out of the end alone
  at-end : (k : ℕ) → eqb 1 k ≡ false → eqb 9 k ≡ false → eqb 2 k ≡ false → eqb 5 k ≡ false → eqb 6 k ≡ false → refusal m c ≡ k → Passed m c × (0 ≡ k)
  unfolding refusal
  at-end k n₁ n₉ n₂ n₅ n₆ e =
      let e₁ = link _ 1 _ k n₁ e in
      let e₉ = link _ 9 _ k n₉ e₁.1 in
      let e₂ = link _ 2 _ k n₂ e₉.1 in
      let e₅ = link _ 5 _ k n₅ e₂.1 in
      let e₆ = link _ 6 _ k n₆ e₅.1 in
      (record { phase = not-false _ e₁.0; fixes = not-false _ e₉.0; sizes = not-false _ e₂.0; limit = e₅.0; output = e₆.0 }, e₆.1)

  -- where no number applies, every test is passed
  pub passed : refusal m c ≡ 0 → Passed m c
  passed e = (at-end 0 refl refl refl refl refl e).0

  -- 7 comes from a tag alone
  pub never_7 : refusal m c ≡ 7 → ⊥
  never_7 e = let z = (at-end 7 refl refl refl refl refl e).1 in omega arith

  -- and the call does its work
  pub works : Passed m c → call m c ≡ work m c
  unfolding call unless_refused refusal
  works p = rw (p.phase, p.fixes, p.sizes, p.limit, p.output)
