-- What a call without a state comes to by its number, and what its result tells of the number.
use mathlib.Core.Path.{◌≡◌, refl, ap}
use mathlib.Core.List.{List}
use Prim.Native.Nat.{ℕ, zero, suc}
use native.Mathlib.Omega.{arith}
use Rattle.calls.specs.Calls.{refused, done, unless_refused, written_over, Result, result_of}

pub result-written : {A : Type 0} (n : ℕ) (a : A) (written out : List ℕ) → n ≡ 0 → result_of n a written out ≡ record { answer = done a; out = written_over written out }
unfolding result_of unless_refused
result-written n a written out e = rw e

pub result_refused : {A : Type 0} (n : ℕ) (a : A) (written out : List ℕ) → (n ≡ 0 → ⊥) → result_of n a written out ≡ record { answer = refused n; out = out }
unfolding result_of unless_refused
result_refused zero a written out h = absurd (h refl)
result_refused (suc n) a written out h = refl

pub done-told : {A : Type 0} (n : ℕ) (a : A) (written out : List ℕ) (m : A) (after : List ℕ) → result_of n a written out ≡ record { answer = done m; out = after }
    → (n ≡ 0) × (a ≡ m) × (written_over written out ≡ after)
unfolding result_of unless_refused
done-told {A} zero a written out m after e = let f = ap (λ (r : Result A). r.answer) e in (refl, cc, ap (λ (r : Result A). r.out) e)
done-told {A} (suc n) a written out m after e =
    let f = ap (λ (r : Result A). r.answer) e in
    let z : ◌≡◌ {A = ℕ} 0 1 = cc in absurd (omega arith)

pub refused_told : {A : Type 0} (n : ℕ) (a : A) (written out : List ℕ) (m : ℕ) (after : List ℕ) → result_of n a written out ≡ record { answer = refused m; out = after }
    → (n ≡ m) × (n ≡ 0 → ⊥)
unfolding result_of unless_refused
refused_told {A} zero a written out m after e =
    let f = ap (λ (r : Result A). r.answer) e in
    let z : ◌≡◌ {A = ℕ} 0 1 = cc in absurd (omega arith)
refused_told {A} (suc n) a written out m after e = let f = ap (λ (r : Result A). r.answer) e in (cc, λ z. omega arith)

pub unwritten : {A : Type 0} (n : ℕ) (a : A) (written out : List ℕ) (m : ℕ) → (result_of n a written out).answer ≡ refused m → (result_of n a written out).out ≡ out
unfolding result_of unless_refused
unwritten zero a written out m e = let z : ◌≡◌ {A = ℕ} 0 1 = cc in absurd (omega arith)
unwritten (suc n) a written out m e = refl
