-- Lists of a number for each place, their sum, and the numbers of a tape, which fit 64 bits.
use mathlib.Core.Path.{◌≡◌, refl, sym, ap, ap₂, ◌∙◌}
use mathlib.Core.List.{List, [], ◌∷◌, ◌++◌}
use mathlib.Core.Logic.{⊎_elim}
use Prim.Native.Nat.{ℕ, zero, suc, ◌+◌, ◌*◌, ◌≤◌, ◌<◌}
use native.Mathlib.Omega.{arith}
use native.Mathlib.Nat.{mul-le-mul_left, le_trans}
use lib.ListN.{length, take, length-append, get_or-append}
use lib.Seq.{take_all, get_or_at}
use Rattle.std.specs.List.{sum}
use Rattle.std.proofs.lemmas.List.Sums.{sum_by_more}
use Rattle.pay_sheet.specs.PaySheet.{contractors, sum_to, each}
use Rattle.pay_sheet.specs.Clauses.{at, InRange}
use Rattle.pay_sheet.proofs.Sums.{below, sum_term}

pub each-length : (n : ℕ) (f : ℕ → ℕ) → length (each n f) ≡ n
unfolding each
each-length zero f = refl
each-length (suc n) f = omega (arith, length-append (each n f) (f n ∷ []), each-length n f)

pub each_at : (n : ℕ) (f : ℕ → ℕ) (i : ℕ) → i < n → at (each n f) i ≡ f i
unfolding each
each_at zero f i h = absurd (omega arith)
each_at (suc n) f i h =
    ⊎_elim (λ l. get_or-append (each n f) (f n ∷ []) 0 i (omega (arith, each-length n f)) ∙ each_at n f i l)
    (λ e. get_or_at (each n f) (f n) [] 0 i (each-length n f ∙ sym e) ∙ ap f (sym e)) (below i n h)

pub each_same : (n : ℕ) (f g : ℕ → ℕ) → ((i : ℕ) → i < n → f i ≡ g i) → each n f ≡ each n g
unfolding each
each_same zero f g h = refl
each_same (suc n) f g h = ap₂ (λ (l : List ℕ) (x : ℕ). l ++ (x ∷ [])) (each_same n f g (λ i l. h i (omega arith))) (h n (omega arith))

-- the first c places hold f, and the next is set to f c
-- ## The numbers of a tape

module _ (nets : List ℕ) (rate : ℕ) (r : InRange nets rate) where
  pub total-fits : sum_to contractors (at nets) * rate ≤ 5242875000000000
  total-fits = le_trans (mul-le-mul_left (sum_to contractors (at nets)) r.rate_low) (omega (arith, r.weight))

  pub product_fits : (c : ℕ) → c < contractors → at nets c * rate ≤ 5242875000000000
  product_fits c h = le_trans (mul-le-mul_left (at nets c) r.rate_low) (omega (arith, sum_term contractors (at nets) c h, r.weight))

-- the sum of a list's numbers, place by place
pub sum_to-all : (ns : List ℕ) (n : ℕ) → n ≤ length ns → sum_to n (at ns) ≡ sum (take n ns)
unfolding sum_to
sum_to-all ns zero h = refl
sum_to-all ns (suc n) h = omega (arith, sum_to-all ns n (omega arith), sum_by_more (λ (x : ℕ). x) ns n 0 (omega arith), ap (λ (k : ℕ). sum (take k ns)) {x = suc n} {y = n + 1} (omega arith))

pub sum_to-sum : (ns : List ℕ) (n : ℕ) → length ns ≡ n → sum_to n (at ns) ≡ sum ns
sum_to-sum ns n e = sum_to-all ns n (omega arith) ∙ ap sum (take_all n ns (omega arith))
