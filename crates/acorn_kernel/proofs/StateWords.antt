-- The bits of a state, word by word.
use mathlib.Core.Path.{◌≡◌, refl, sym, ap, ◌∙◌, fun_ext}
use mathlib.Core.Bool.{false}
use Prim.Native.Nat.{ℕ, ◌+◌, ◌-◌, ◌/◌, ◌^◌, ◌≤◌, ◌<◌}
use native.Mathlib.Omega.{arith}
use borrow.Author.Tests.{lt-ltb, le-ltb}
use Rattle.acorn_model.specs.Bits.{Bits, bit}
use Rattle.acorn_model.specs.Stretches.{zeros}
use Rattle.acorn_kernel.specs.Together.{◌bits◌then◌, state_of, word_end}
use Rattle.acorn_kernel.specs.declared.State.{State}
use Rattle.acorn_model.proofs.Numbers.{bit_shift}
use Rattle.acorn_kernel.proofs.Sequences.{then_low, then_high, then_is}
use Rattle.acorn_kernel.proofs.WordBits.{bit-zero}

module _ (s : State) where
  abbrev after5 : Bits
  after5 = 63 bits bit (s.w5 / 2 ^ 1) then zeros

  abbrev after4 : Bits
  after4 = 37 bits bit (s.w4 / 2 ^ 27) then after5

  abbrev after3 : Bits
  after3 = 39 bits bit (s.w3 / 2 ^ 25) then after4

  abbrev after2 : Bits
  after2 = 47 bits bit (s.w2 / 2 ^ 17) then after3

  abbrev after1 : Bits
  after1 = 46 bits bit (s.w1 / 2 ^ 18) then after2

  from1 : (j : ℕ) → state_of s (61 + j) ≡ after1 j
  unfolding state_of
  from1 j = then_high 61 (bit (s.w0 / 2 ^ 3)) after1 j

  from2 : (j : ℕ) → state_of s (107 + j) ≡ after2 j
  from2 j = ap (state_of s) (omega arith) ∙ from1 (46 + j) ∙ then_high 46 (bit (s.w1 / 2 ^ 18)) after2 j

  from3 : (j : ℕ) → state_of s (154 + j) ≡ after3 j
  from3 j = ap (state_of s) (omega arith) ∙ from2 (47 + j) ∙ then_high 47 (bit (s.w2 / 2 ^ 17)) after3 j

  from4 : (j : ℕ) → state_of s (193 + j) ≡ after4 j
  from4 j = ap (state_of s) (omega arith) ∙ from3 (39 + j) ∙ then_high 39 (bit (s.w3 / 2 ^ 25)) after4 j

  from5 : (j : ℕ) → state_of s (230 + j) ≡ after5 j
  from5 j = ap (state_of s) (omega arith) ∙ from4 (37 + j) ∙ then_high 37 (bit (s.w4 / 2 ^ 27)) after5 j

  pub at0 : (j : ℕ) → j < 61 → state_of s (0 + j) ≡ bit (s.w0 / 2 ^ 3) j
  unfolding state_of
  at0 j h = ap (state_of s) (omega arith) ∙ then_low 61 (bit (s.w0 / 2 ^ 3)) after1 j h

  pub at1 : (j : ℕ) → j < 46 → state_of s (61 + j) ≡ bit (s.w1 / 2 ^ 18) j
  at1 j h = from1 j ∙ then_low 46 (bit (s.w1 / 2 ^ 18)) after2 j h

  pub at2 : (j : ℕ) → j < 47 → state_of s (107 + j) ≡ bit (s.w2 / 2 ^ 17) j
  at2 j h = from2 j ∙ then_low 47 (bit (s.w2 / 2 ^ 17)) after3 j h

  pub at3 : (j : ℕ) → j < 39 → state_of s (154 + j) ≡ bit (s.w3 / 2 ^ 25) j
  at3 j h = from3 j ∙ then_low 39 (bit (s.w3 / 2 ^ 25)) after4 j h

  pub at4 : (j : ℕ) → j < 37 → state_of s (193 + j) ≡ bit (s.w4 / 2 ^ 27) j
  at4 j h = from4 j ∙ then_low 37 (bit (s.w4 / 2 ^ 27)) after5 j h

  pub at5 : (j : ℕ) → j < 63 → state_of s (230 + j) ≡ bit (s.w5 / 2 ^ 1) j
  at5 j h = from5 j ∙ then_low 63 (bit (s.w5 / 2 ^ 1)) zeros j h

  pub at6 : (j : ℕ) → j < 4 → state_of s (289 + j) ≡ bit s.w5 (60 + j)
  at6 j h = ap (state_of s) (omega arith) ∙ at5 (59 + j) (omega arith) ∙ bit_shift s.w5 1 (59 + j) ∙ ap (bit s.w5) (omega arith)

  pub at_above : (q : ℕ) → state_of s (293 + q) ≡ false
  at_above q = ap (state_of s) (omega arith) ∙ from5 (63 + q) ∙ then_high 63 (bit (s.w5 / 2 ^ 1)) zeros q

  -- the bits from place p on of a word w that holds the n places from lo on, above its m lowest bits
  pub from_place : (lo m n w up p : ℕ) → ((y : ℕ) → y < n → state_of s (lo + y) ≡ bit (w / 2 ^ m) y) → up + lo ≡ p + m → lo ≤ p → p + 32 ≤ lo + n
      → (j : ℕ) → j < 32 → bit (w / 2 ^ up) j ≡ state_of s (p + j)
  from_place lo m n w up p held e l h j b =
      bit_shift w up j ∙ ap (bit w) (omega arith) ∙ sym (ap (state_of s) (omega arith) ∙ held (p - lo + j) (omega arith) ∙ bit_shift w m (p - lo + j))

-- words whose own bits are those of t, each in its part, hold t
pub state_is : (s : State) (t : Bits) → ((j : ℕ) → j < 61 → bit (s.w0 / 2 ^ 3) j ≡ t (0 + j)) → ((j : ℕ) → j < 46 → bit (s.w1 / 2 ^ 18) j ≡ t (61 + j))
    → ((j : ℕ) → j < 47 → bit (s.w2 / 2 ^ 17) j ≡ t (107 + j)) → ((j : ℕ) → j < 39 → bit (s.w3 / 2 ^ 25) j ≡ t (154 + j))
    → ((j : ℕ) → j < 37 → bit (s.w4 / 2 ^ 27) j ≡ t (193 + j)) → ((j : ℕ) → j < 63 → bit (s.w5 / 2 ^ 1) j ≡ t (230 + j)) → ((q : ℕ) → t (293 + q) ≡ false) → state_of s ≡ t
unfolding state_of
state_is s t h0 h1 h2 h3 h4 h5 clear =
    fun_ext
    (λ p. then_is 0 61 (bit (s.w0 / 2 ^ 3)) _ t h0
    (then_is 61 46 (bit (s.w1 / 2 ^ 18)) _ t h1
    (then_is 107 47 (bit (s.w2 / 2 ^ 17)) _ t h2
    (then_is 154 39 (bit (s.w3 / 2 ^ 25)) _ t h3
    (then_is 193 37 (bit (s.w4 / 2 ^ 27)) _ t h4
    (then_is 230 63 (bit (s.w5 / 2 ^ 1)) zeros t h5 (λ q. sym (clear q))))))) p ∙ ap t (omega arith))

-- words of zeros hold zeros
pub state_zeros : (s : State) → s.w0 ≡ 0 → s.w1 ≡ 0 → s.w2 ≡ 0 → s.w3 ≡ 0 → s.w4 ≡ 0 → s.w5 ≡ 0 → state_of s ≡ zeros
state_zeros s e0 e1 e2 e3 e4 e5 =
    state_is s zeros (clear s.w0 3 e0) (clear s.w1 18 e1) (clear s.w2 17 e2) (clear s.w3 25 e3) (clear s.w4 27 e4) (clear s.w5 1 e5) (λ q. refl)
  where
    clear : (w m : ℕ) → w ≡ 0 → {n : ℕ} (j : ℕ) → j < n → bit (w / 2 ^ m) j ≡ false
    clear w m e j h = bit_shift w m j ∙ ap (λ (v : ℕ). bit v (m + j)) e ∙ bit-zero (m + j)

-- where the word of a place ends
module _ (p : ℕ) where
  pub end0 : p < 61 → word_end p ≡ 61
  end0 h = rw (lt-ltb p 61 h)

  pub end1 : 61 ≤ p → p < 107 → word_end p ≡ 107
  end1 l h = rw (le-ltb p 61 l, lt-ltb p 107 h)

  pub end2 : 107 ≤ p → p < 154 → word_end p ≡ 154
  end2 l h = rw (le-ltb p 61 (omega arith), le-ltb p 107 l, lt-ltb p 154 h)

  pub end3 : 154 ≤ p → p < 193 → word_end p ≡ 193
  end3 l h = rw (le-ltb p 61 (omega arith), le-ltb p 107 (omega arith), le-ltb p 154 l, lt-ltb p 193 h)

  pub end4 : 193 ≤ p → p < 230 → word_end p ≡ 230
  end4 l h = rw (le-ltb p 61 (omega arith), le-ltb p 107 (omega arith), le-ltb p 154 (omega arith), le-ltb p 193 l, lt-ltb p 230 h)

  pub end5 : 230 ≤ p → word_end p ≡ 293
  end5 l = rw (le-ltb p 61 (omega arith), le-ltb p 107 (omega arith), le-ltb p 154 (omega arith), le-ltb p 193 (omega arith), le-ltb p 230 l)
