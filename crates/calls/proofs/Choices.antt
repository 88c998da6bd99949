-- What tests tell: two that hold together, two of which neither holds, and a choice by a test of numbers, `a if ltb i n else b` or
-- `a if eqb i n else b`.
use mathlib.Core.Path.{◌≡◌, refl, sym}
use mathlib.Core.Bool.{Bool, true, false, ◌&&◌, ◌||◌, false≢true}
use mathlib.Core.Logic.{⊎_elim, ◌⊎◌, inl, inr}
use Prim.Native.Nat.{ℕ, zero, suc, ◌≤◌, ◌<◌, zero-le, suc-le-suc}
use lib.Dec.{eqb, ltb}
use borrow.Author.Tests.{lt-ltb, le-ltb, eq-eqb, ne_eqb}
use Rattle.calls.specs.Calls.{◌if◌else◌}

pub lt_or_ge : (a b : ℕ) → (a < b) ⊎ (b ≤ a)
lt_or_ge a zero = inr zero-le
lt_or_ge zero (suc b) = inl (suc-le-suc zero-le)
lt_or_ge (suc a) (suc b) = ⊎_elim (λ p. inl (suc-le-suc p)) (λ q. inr (suc-le-suc q)) (lt_or_ge a b)

pub both : (a b : Bool) → (a && b) ≡ true → (a ≡ true) × (b ≡ true)
both true b h = (refl, h)
both false b h = absurd (false≢true h)

pub neither : (a b : Bool) → (a || b) ≡ false → (a ≡ false) × (b ≡ false)
neither true b h = absurd (false≢true (sym h))
neither false b h = (refl, h)

module _ {A : Type 0} (i : ℕ) {n : ℕ} where
  pub if_below : {a c : A} (b : A) → i < n → a ≡ c → (a if ltb i n else b) ≡ c
  if_below b h e = rw (lt-ltb i n h) e

  pub if_past : {b c : A} (a : A) → n ≤ i → b ≡ c → (a if ltb i n else b) ≡ c
  if_past a h e = rw (le-ltb i n h) e

  pub if_equal : {a c : A} (b : A) → i ≡ n → a ≡ c → (a if eqb i n else b) ≡ c
  if_equal b h e = rw (eq-eqb i n h) e

  pub if_unequal : {b c : A} (a : A) → (i ≡ n → ⊥) → b ≡ c → (a if eqb i n else b) ≡ c
  if_unequal a h e = rw (ne_eqb i n h) e
