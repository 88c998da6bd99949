-- Counting the places of a list whose number passes a test, with the place.
use mathlib.Core.Path.{◌≡◌, refl, ap, ◌∙◌}
use mathlib.Core.Bool.{Bool, true, false, cond}
use mathlib.Core.List.{List, [], ◌∷◌}
use Prim.Native.Nat.{ℕ, zero, suc, ◌+◌, ◌<◌}
use native.Mathlib.Omega.{arith}
use lib.ListN.{length}
use Rattle.std.specs.List.{filter, enumerate_from}
use Rattle.trucks.specs.Words.{one, count}
use Rattle.pay_sheet.specs.Clauses.{at}

-- the first place, and those behind it
count-first : (n : ℕ) (test : ℕ → Bool) → count (suc n) test ≡ one (test 0) + count n (λ d. test (suc d))
unfolding count
count-first zero test = omega arith
count-first (suc n) test = omega (arith, count-first n test)

no_place : (test : ℕ → Bool) → 0 ≡ count 0 test
unfolding count
no_place test = refl

-- of the places of l, numbered from k on
pub counted : (test : ℕ × ℕ → Bool) (k : ℕ) (l : List ℕ) (places : ℕ → Bool) → ((d : ℕ) → d < length l → places d ≡ test (k + d, at l d))
    → length (filter test (enumerate_from k l)) ≡ count (length l) places
counted test k [] places same = no_place places
counted test k (x ∷ l) places same =
    by (test (k, x)) refl (counted test (k + 1) l (λ d. places (suc d)) (λ d h. same (suc d) (omega arith) ∙ ap (λ (j : ℕ). test (j, at l d)) {x = k + suc d} {y = k + 1 + d} (omega arith)))
  where
    here : places 0 ≡ test (k, x)
    here = same 0 (omega arith) ∙ ap (λ (j : ℕ). test (j, x)) {x = k + 0} {y = k} (omega arith)

    by : (b : Bool) → test (k, x) ≡ b → length (filter test (enumerate_from (k + 1) l)) ≡ count (length l) (λ d. places (suc d))
        → length (cond b ((k, x) ∷ filter test (enumerate_from (k + 1) l)) (filter test (enumerate_from (k + 1) l))) ≡ count (suc (length l)) places
    by true e behind = omega (arith, count-first (length l) places, behind, ap one (here ∙ e))
    by false e behind = omega (arith, count-first (length l) places, behind, ap one (here ∙ e))
