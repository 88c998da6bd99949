-- Answers that go by a number.
use mathlib.Core.Path.{◌≡◌, refl, sym, subst}
use mathlib.Core.List.{List}
use Prim.Native.Nat.{ℕ, zero, suc}
use native.Mathlib.Omega.{arith}
use Rattle.calls.specs.Calls.{Reply, refused, done, unless_refused, Result, result_of, reply_of}
use Rattle.demands.specs.Refusals.{AnsweredBy, RefusedBy}

pub never : {A : Type 0} {a : A} {n : ℕ} {P : Type 0} → done a ≡ refused n → P
never {a = a} {n = n} e = let z : ◌≡◌ {A = ℕ} 0 1 = cc in absurd (omega arith)

module _ {A : Type 0} where
  pub same_number : (k n : ℕ) → ◌≡◌ {A = Reply A} (refused k) (refused n) → k ≡ n
  same_number k n e = cc

  pub accepted-by : (a : A) → AnsweredBy 0 (done a)
  accepted-by a = record { refuses = λ k. (λ e. never e, λ e. absurd (omega arith)); accepts = (λ _. refl, λ _. (a, refl)) }

  pub refused_by : (n : ℕ) → AnsweredBy {A = A} (suc n) (refused (suc n))
  refused_by n =
      record {
        refuses = λ k. (λ e. same_number (suc n) (suc k) e, λ e. cc);
        accepts = (λ (e : (a : A) × (◌≡◌ {A = Reply A} (refused (suc n)) (done a))). never (sym e.1), λ e. absurd (omega arith));
      }

  -- an answer that is known where a number applies, and where none does
  pub by_cases : (n : ℕ) (answer : Reply A) → (n ≡ 0 → (a : A) × (answer ≡ done a)) → ((k : ℕ) → n ≡ suc k → answer ≡ refused (suc k)) → AnsweredBy n answer
  by_cases zero answer h g = let d = h refl in subst (AnsweredBy 0) (sym d.1) (accepted-by d.0)
  by_cases (suc n) answer h g = subst (AnsweredBy (suc n)) (sym (g n refl)) (refused_by n)

  -- a value by a number
  pub reply-by : (n : ℕ) (value : A) → AnsweredBy n (reply_of n value)
  unfolding unless_refused
  reply-by zero value = accepted-by value
  reply-by (suc n) value = refused_by n

  -- a result by a number
  pub result_by : (n : ℕ) (a : A) (written out : List ℕ) → RefusedBy n (result_of n a written out).answer out (result_of n a written out).out
  unfolding result_of unless_refused
  result_by zero a written out = record { number = accepted-by a; unchanged = λ k e. never e }
  result_by (suc n) a written out = record { number = refused_by n; unchanged = λ k e. refl }

  pub refused_as : (n : ℕ) (a : A) (written out : List ℕ) (answer : Reply A) (after : List ℕ)
      → result_of n a written out ≡ record { answer = answer; out = after } → RefusedBy n answer out after
  refused_as n a written out answer after e = subst (λ (x : Result A). RefusedBy n x.answer out x.out) e (result_by n a written out)
