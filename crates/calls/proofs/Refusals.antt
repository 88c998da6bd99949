-- Chains of refusal numbers, for calls of any kind: what a number says of the tests, and what a call comes to by its number.
use mathlib.Core.Path.{◌≡◌, refl}
use mathlib.Core.Bool.{Bool, true, false}
use Prim.Native.Nat.{ℕ, zero, suc}
use native.Mathlib.Omega.{arith}
use lib.Dec.{eqb}
use borrow.Author.Tests.{eqb-false}
use Rattle.calls.specs.Calls.{◌if◌else◌, unless_refused}

-- ## Any chain

-- a link, n where the test b holds and else the rest: it gives another number k only where the test fails and the rest gives k
pub link : (b : Bool) (n rest k : ℕ) → eqb n k ≡ false → (n if b else rest) ≡ k → (b ≡ false) × (rest ≡ k)
link true n rest k h e = absurd (eqb-false n k h e)
link false n rest k h e = (refl, e)

-- ## By the number

pub refused_if : {A : Type 0} (n : ℕ) (work refusal : A) → (n ≡ 0 → ⊥) → unless_refused n work refusal ≡ refusal
unfolding unless_refused
refused_if zero work refusal h = absurd (h refl)
refused_if (suc n) work refusal h = refl

pub accepted_if : {A : Type 0} (n : ℕ) (work refusal : A) → n ≡ 0 → unless_refused n work refusal ≡ work
unfolding unless_refused
accepted_if n work refusal e = rw e

-- what holds of the work where no number applies, and of the refusal where one does, holds of what the call comes to
pub by_number : {A : Type 0} (P : A → Type 0) (n : ℕ) (work refusal : A) → (n ≡ 0 → P work) → ((n ≡ 0 → ⊥) → P refusal) → P (unless_refused n work refusal)
unfolding unless_refused
by_number P zero work refusal h g = h refl
by_number P (suc n) work refusal h g = g (λ e. omega arith)
