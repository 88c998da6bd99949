-- Laws of `n bits a then b`, the first n bits of a and then those of b.
use mathlib.Core.Path.{◌≡◌, sym, ap, ◌∙◌}
use mathlib.Core.Bool.{Bool, cond}
use mathlib.Core.Logic.{⊎_elim}
use Prim.Native.Nat.{ℕ, ◌+◌, ◌-◌, ◌≤◌, ◌<◌}
use native.Mathlib.Omega.{arith}
use borrow.Author.Tests.{lt-ltb, le-ltb}
use Rattle.acorn_model.specs.Bits.{Bits}
use Rattle.acorn_kernel.specs.Together.{◌bits◌then◌}
use Rattle.calls.proofs.Choices.{lt_or_ge}

pub then_low : (n : ℕ) (a b : Bits) (p : ℕ) → p < n → (n bits a then b) p ≡ a p
unfolding ◌bits◌then◌
then_low n a b p h = ap (λ (t : Bool). cond t (a p) (b (p - n))) (lt-ltb p n h)

pub then_high : (n : ℕ) (a b : Bits) (q : ℕ) → (n bits a then b) (n + q) ≡ b q
unfolding ◌bits◌then◌
then_high n a b q = ap (λ (t : Bool). cond t (a (n + q)) (b (n + q - n))) (le-ltb (n + q) n (omega arith)) ∙ ap b (omega arith)

-- two sequences agree where their parts do
pub then_same : (n k : ℕ) (a a' b b' : Bits) → ((p : ℕ) → p < n → a p ≡ a' p) → ((q : ℕ) → q < k → b q ≡ b' q)
    → (p : ℕ) → p < n + k → (n bits a then b) p ≡ (n bits a' then b') p
then_same n k a a' b b' ha hb p h = ⊎_elim below above (lt_or_ge p n)
  where
    below : p < n → (n bits a then b) p ≡ (n bits a' then b') p
    below l = then_low n a b p l ∙ ha p l ∙ sym (then_low n a' b' p l)

    above : n ≤ p → (n bits a then b) p ≡ (n bits a' then b') p
    above l =
        ap (n bits a then b) (omega arith) ∙ then_high n a b (p - n) ∙ hb (p - n) (omega arith)
        ∙ sym (ap (n bits a' then b') (omega arith) ∙ then_high n a' b' (p - n))

-- a sequence is t from place lo on where its parts are
pub then_is : (lo n : ℕ) (a b t : Bits) → ((j : ℕ) → j < n → a j ≡ t (lo + j)) → ((q : ℕ) → b q ≡ t (lo + n + q)) → (p : ℕ) → (n bits a then b) p ≡ t (lo + p)
then_is lo n a b t ha hb p = ⊎_elim below above (lt_or_ge p n)
  where
    below : p < n → (n bits a then b) p ≡ t (lo + p)
    below l = then_low n a b p l ∙ ha p l

    above : n ≤ p → (n bits a then b) p ≡ t (lo + p)
    above l = ap (n bits a then b) (omega arith) ∙ then_high n a b (p - n) ∙ hb (p - n) ∙ ap t (omega arith)

-- the part from place m on of a sequence that has m + n bits of a
pub then_split : (m n : ℕ) (a b : Bits) (q : ℕ) → ((m + n) bits a then b) (m + q) ≡ (n bits (λ y. a (m + y)) then b) q
then_split m n a b q = ⊎_elim below above (lt_or_ge q n)
  where
    below : q < n → ((m + n) bits a then b) (m + q) ≡ (n bits (λ y. a (m + y)) then b) q
    below l = then_low (m + n) a b (m + q) (omega arith) ∙ sym (then_low n (λ y. a (m + y)) b q l)

    above : n ≤ q → ((m + n) bits a then b) (m + q) ≡ (n bits (λ y. a (m + y)) then b) q
    above l =
        ap ((m + n) bits a then b) (omega arith) ∙ then_high (m + n) a b (q - n)
        ∙ sym (ap (n bits (λ y. a (m + y)) then b) (omega arith) ∙ then_high n (λ y. a (m + y)) b (q - n))
