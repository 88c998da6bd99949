-- Arrays that a closure makes: of each number of another array, or of each place.
use mathlib.Core.Path.{◌≡◌, refl, sym, ap, ◌∙◌}
use mathlib.Core.List.{List}
use Prim.Native.Nat.{ℕ, zero, suc, ◌+◌, ◌≤◌, ◌<◌}
use native.Mathlib.Omega.{arith}
use native.Mathlib.Decide.{ℕ_discrete}
use lib.ListN.{length}
use lib.Seq.{ext_get_or}
use denote.Param.Members.{Mut}
use Rattle.std.specs.Fn.{Called}
use Rattle.std.specs.Iterator.{CallableAtEachTurn}
use Rattle.std.specs.Array.{MapsFrom, IsMapOf, IsFromFnResultFrom, IsFromFnResult, list_steps}
use Rattle.std.proofs.lemmas.Iterator.Adapters.{serves_from_places}
use Rattle.std.proofs.lemmas.Iterator.Consumers.{YieldsList-from_shown}
use Rattle.std.proofs.lemmas.Grind.{get_or_default_zero}
use Rattle.pay_sheet.specs.PaySheet.{each}
use Rattle.pay_sheet.specs.Clauses.{at}
use Rattle.pay_sheet.proofs.Filled.{each-length, each_at, each_same}

-- g gives h of what it is called with, and is left as it was
module _ {F : Type 0} (g : Mut F (ℕ × Unit {0}) ℕ) (h : ℕ → ℕ) (f : F) (pure : (x y : ℕ) (q : F) → Called g f (x, tt) y q → (q ≡ f) × (y ≡ h x)) where
  mapped-from : (xs ys : List ℕ) (i n : ℕ) (p : F) → p ≡ f → MapsFrom g p xs ys i n → (k : ℕ) → i ≤ k → k < i + n → at ys k ≡ h (at xs k)
  mapped-from xs ys i zero p e m k a b = absurd (omega arith)
  mapped-from xs ys i (suc n) p e m k a b = elim (ℕ_discrete i k) [
    | yes s ↦
        ap (at ys) (sym s) ∙ m.4.1 0 ∙ (pure m.1 m.2 m.0 (rw e at m.5)).1 ∙ ap h (sym (m.3.1 0) ∙ ap (at xs) s)
    | no s ↦ mapped-from xs ys (i + 1) n m.0 ((pure m.1 m.2 m.0 (rw e at m.5)).0) m.6 k (omega arith) (omega arith)
  ]

  pub mapped : (xs ys : List ℕ) (n : ℕ) → IsMapOf g f xs ys n → ys ≡ each n (λ c. h (at xs c))
  mapped xs ys n m =
      ext_get_or 0 ys (each n (λ c. h (at xs c))) (m.long ∙ sym (each-length n (λ c. h (at xs c))))
      (λ i l. mapped-from xs ys 0 n f refl m.each i (omega arith) (omega (arith, m.long)) ∙ sym (each_at n (λ c. h (at xs c)) i (omega (arith, m.long))))

-- a closure that is left as it was may be called at each number of an array if it may be at the number at each place
pub each-number : {F : Type 0} {R : F → ℕ → F → Type 0} {Q : F → ℕ → Type 0} {f : F} (xs : List ℕ) → ((x : ℕ) (q : F) → R f x q → q ≡ f)
    → ((x k : ℕ) → k < length xs → x ≡ at xs k → Q f x) → CallableAtEachTurn list_steps R Q xs f
each-number xs kept may =
    serves_from_places (YieldsList-from_shown list_steps (λ x. x) (λ s. s) (λ s t e. ap length e) (λ s x t e. e) xs) kept
    (λ x k l e. may x k l (e ∙ get_or_default_zero xs k x l))

-- g gives h of each place below n, and is left as it was
module _ {F : Type 0} (g : Mut F (ℕ × Unit {0}) ℕ) (h : ℕ → ℕ) (f : F) (n : ℕ) (pure : (x y : ℕ) (q : F) → x < n → Called g f (x, tt) y q → (q ≡ f) × (y ≡ h x)) where
  made-from : (ys : List ℕ) (i j : ℕ) (p : F) → p ≡ f → i + j ≤ n → IsFromFnResultFrom g p ys i j → (k : ℕ) → i ≤ k → k < i + j → at ys k ≡ h k
  made-from ys i zero p e w m k a b = absurd (omega arith)
  made-from ys i (suc j) p e w m k a b = elim (ℕ_discrete i k) [
    | yes s ↦ ap (at ys) (sym s) ∙ m.2.1 0 ∙ (pure i m.1 m.0 (omega arith) (rw e at m.3)).1 ∙ ap h s
    | no s ↦ made-from ys (i + 1) j m.0 ((pure i m.1 m.0 (omega arith) (rw e at m.3)).0) (omega arith) m.4 k (omega arith) (omega arith)
  ]

  pub made : (ys : List ℕ) → IsFromFnResult g f ys n → ys ≡ each n h
  made ys m =
      ext_get_or 0 ys (each n h) (m.long ∙ sym (each-length n h))
      (λ i l. made-from ys 0 n f refl (omega arith) m.each i (omega arith) (omega (arith, m.long)) ∙ sym (each_at n h i (omega (arith, m.long))))

-- h of an array that is f of each place
pub each-of : (h f : ℕ → ℕ) (xs : List ℕ) (n : ℕ) → xs ≡ each n f → each n (λ c. h (at xs c)) ≡ each n (λ c. h (f c))
each-of h f xs n e = each_same n (λ c. h (at xs c)) (λ c. h (f c)) (λ c l. ap h (ap (λ (l : List ℕ). at l c) e ∙ each_at n f c l))
