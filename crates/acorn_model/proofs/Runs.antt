-- Laws of runs: a run depends on what its own steps take alone, and a run of a + b steps is one of a and then one of b.
use mathlib.Core.Path.{◌≡◌, refl, ap, ◌∙◌, fun_ext}
use mathlib.Core.Bool.{Bool}
use Prim.Native.Nat.{ℕ, zero, suc, ◌+◌, ◌<◌}
use native.Mathlib.Omega.{arith}
use Rattle.acorn_model.specs.Bits.{Bits}
use Rattle.acorn_model.specs.Step.{StepInput, step_on, run}

pub input-same : (g d : StepInput) → g.ca ≡ d.ca → g.cb ≡ d.cb → ((ks : Bool) → g.m ks ≡ d.m ks) → g ≡ d
input-same g d a b m = λ i. record { ca = a i; cb = b i; m = fun_ext m i }

pub run_none : (g : ℕ → StepInput) (S : Bits) → run g 0 S ≡ S
unfolding run
run_none g S = refl

pub run_next : (g : ℕ → StepInput) (n : ℕ) (S : Bits) → run g (n + 1) S ≡ step_on (g n) (run g n S)
unfolding run
run_next g n S = ap (λ (k : ℕ). run g k S) {x = n + 1} {y = suc n} (omega arith)

pub run_add : (g : ℕ → StepInput) (a b : ℕ) (S : Bits) → run g (a + b) S ≡ run (λ i. g (a + i)) b (run g a S)
unfolding run
run_add g a zero S = ap (λ (n : ℕ). run g n S) {x = a + 0} {y = a} (omega arith)
run_add g a (suc b) S = ap (λ (n : ℕ). run g n S) {x = a + suc b} {y = suc (a + b)} (omega arith) ∙ ap (step_on (g (a + b))) (run_add g a b S)

-- two runs are the same where each step does the same on the state that it meets
pub run-same-at : (g d : ℕ → StepInput) (k : ℕ) (S : Bits) → ((i : ℕ) → i < k → step_on (g i) (run d i S) ≡ step_on (d i) (run d i S)) → run g k S ≡ run d k S
unfolding run
run-same-at g d zero S h = refl
run-same-at g d (suc k) S h = ap (step_on (g k)) (run-same-at g d k S (λ i l. h i (omega arith))) ∙ h k (omega arith)

pub run-same : (g d : ℕ → StepInput) (k : ℕ) (S : Bits) → ((i : ℕ) → i < k → g i ≡ d i) → run g k S ≡ run d k S
run-same g d k S h = run-same-at g d k S (λ i l. ap (λ (x : StepInput). step_on x (run d i S)) (h i l))

-- a longer run from its step n on, where its steps there are those of another
pub run_on : (g d : ℕ → StepInput) (n k : ℕ) (S R : Bits) → run g n S ≡ R → ((i : ℕ) → i < k → g (n + i) ≡ d i) → run g (n + k) S ≡ run d k R
run_on g d n k S R e h = run_add g n k S ∙ ap (run (λ i. g (n + i)) k) e ∙ run-same (λ i. g (n + i)) d k R h
