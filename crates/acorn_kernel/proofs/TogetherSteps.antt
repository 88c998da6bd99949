-- The words that `together` makes hold the state after as many single steps.
use mathlib.Core.Path.{◌≡◌, sym, ap, ap₂, ◌∙◌}
use mathlib.Core.Bool.{Bool}
use mathlib.Core.Logic.{⊎_elim}
use Prim.Native.Nat.{ℕ, ◌+◌, ◌-◌, ◌/◌, ◌^◌, ◌<◌, ◌≤◌}
use native.Mathlib.Omega.{arith}
use lib.Bits.{bit_and, bit_xor}
use Rattle.acorn_model.specs.Bits.{Bits, ◌⊕◌, bit}
use Rattle.acorn_model.specs.Step.{◌⊕=◌and◌, lfsr_update, keystream_bit, feedback_bit, StepInput, run}
use Rattle.acorn_kernel.specs.Together.{◌bits◌then◌, state_of, moved_down, inputs_from, Together}
use Rattle.acorn_kernel.specs.declared.State.{State}
use Rattle.acorn_model.proofs.Numbers.{bit_shift}
use Rattle.calls.proofs.Choices.{lt_or_ge}
use Rattle.acorn_kernel.proofs.Sequences.{then_same}
use Rattle.acorn_kernel.proofs.ClosedForm.{entering, reaching289, leaving289, closed, ks_closed, run-above}
use Rattle.acorn_kernel.proofs.WordBits.{bit-xor, bit-and}
use Rattle.acorn_kernel.proofs.ShiftedBits.{own_bits}
use Rattle.acorn_kernel.proofs.StateWords.{at0, at1, at2, at3, at4, at5, at6, at_above, state_is}
use Rattle.acorn_kernel.proofs.StepWords.{updated_bit}

-- the word of the bits that enter S292: f of the steps, their opening mask o, their ks z and the word x that they take
abbrev pub entering_word : ℕ → ℕ → ℕ → ℕ → ℕ
entering_word f o z x = bit_xor f (bit_xor (bit_and o z) x)

module _ (s : State) (x : ℕ) (opening ca cb : Bool) (k : ℕ) (hk : k ≤ 32) (z f o : ℕ)
    (hz : (j : ℕ) → j < 32 → bit z j ≡ keystream_bit (moved_down j (state_of s))) (hf : (j : ℕ) → j < 32 → bit f j ≡ feedback_bit ca cb (moved_down j (state_of s)))
    (ho : (j : ℕ) → j < 32 → bit o j ≡ opening) where
  abbrev γ : ℕ → StepInput
  γ = inputs_from opening ca cb (bit x)

  abbrev S : Bits
  S = state_of s

  abbrev after : Bits
  after = run γ k S

  -- what moves down from the last four places, in the word
  abbrev above289 : Bits
  above289 = 4 bits (λ y. bit s.w5 (60 + y)) then bit (entering_word f o z x)

  enters : (q : ℕ) → q < 32 → bit (entering_word f o z x) q ≡ entering γ S q
  enters q h = simp (bit-xor, bit-and, hz q h, hf q h, ho q h)

  reaches289 : (q : ℕ) → q < 4 + k → above289 q ≡ reaching289 γ S q
  reaches289 q h =
      then_same 4 k (λ y. bit s.w5 (60 + y)) (λ y. S (289 + y)) (bit (entering_word f o z x)) (entering γ S) (λ y l. sym (at6 s y l)) (λ p l. enters p (omega arith)) q h

  -- one register: its word v after the steps holds its part of the state after them
  part : (lo m n w v u : ℕ) (b : Bits) → ((y : ℕ) → y < n → S (lo + y) ≡ bit (w / 2 ^ m) y) → ((q : ℕ) → q < 32 → bit u q ≡ b q)
      → ((j : ℕ) → j < n → after (lo + j) ≡ (n bits (λ y. S (lo + y)) then b) (j + k)) → ((j : ℕ) → j < m + n → bit v j ≡ ((m + n) bits bit w then bit u) (j + k))
      → (j : ℕ) → j < n → bit (v / 2 ^ m) j ≡ after (lo + j)
  part lo m n w v u b hw hu hc hv j h =
      own_bits m n w v k (bit u) hv j h
      ∙ then_same n k (bit (w / 2 ^ m)) (λ y. S (lo + y)) (bit u) b (λ y l. sym (hw y l)) (λ q l. hu q (omega arith)) (j + k) (omega arith) ∙ sym (hc j h)

  module _ (t : State) (u0 u1 u2 u3 u4 u5 : ℕ)
      (e0 : (q : ℕ) → q < 32 → bit u0 q ≡ updated_bit S 61 23 0 q) (h0 : (j : ℕ) → j < 64 → bit t.w0 j ≡ (64 bits bit s.w0 then bit u0) (j + k))
      (e1 : (q : ℕ) → q < 32 → bit u1 q ≡ updated_bit S 107 66 61 q) (h1 : (j : ℕ) → j < 64 → bit t.w1 j ≡ (64 bits bit s.w1 then bit u1) (j + k))
      (e2 : (q : ℕ) → q < 32 → bit u2 q ≡ updated_bit S 154 111 107 q) (h2 : (j : ℕ) → j < 64 → bit t.w2 j ≡ (64 bits bit s.w2 then bit u2) (j + k))
      (e3 : (q : ℕ) → q < 32 → bit u3 q ≡ updated_bit S 193 160 154 q) (h3 : (j : ℕ) → j < 64 → bit t.w3 j ≡ (64 bits bit s.w3 then bit u3) (j + k))
      (e4 : (q : ℕ) → q < 32 → bit u4 q ≡ updated_bit S 230 196 193 q) (h4 : (j : ℕ) → j < 64 → bit t.w4 j ≡ (64 bits bit s.w4 then bit u4) (j + k))
      (e5 : (q : ℕ) → q < 32 → bit u5 q ≡ S (235 + q) ⊕ S (230 + q)) (h5 : (j : ℕ) → j < 60 → bit t.w5 j ≡ (60 bits bit s.w5 then (λ q. above289 q ⊕ bit u5 q)) (j + k))
      (h6 : (j : ℕ) → j < 4 → bit t.w5 (60 + j) ≡ above289 (j + k)) where
    -- the last word has two registers
    last : (j : ℕ) → j < 63 → bit (t.w5 / 2 ^ 1) j ≡ after (230 + j)
    last j h = ⊎_elim lower upper (lt_or_ge j 59)
      where
        lower : j < 59 → bit (t.w5 / 2 ^ 1) j ≡ after (230 + j)
        lower l =
            own_bits 1 59 s.w5 t.w5 k (λ q. above289 q ⊕ bit u5 q) h5 j l
            ∙ then_same 59 k (bit (s.w5 / 2 ^ 1)) (λ y. S (230 + y)) (λ q. above289 q ⊕ bit u5 q) (leaving289 γ S) (λ y m. sym (at5 s y (omega arith)))
            (λ q m. ap₂ ◌⊕◌ (reaches289 q (omega arith)) (e5 q (omega arith))) (j + k) (omega arith)
            ∙ sym ((closed γ S k hk).r5 j l)

        upper : 59 ≤ j → bit (t.w5 / 2 ^ 1) j ≡ after (230 + j)
        upper l =
            bit_shift t.w5 1 j ∙ ap (bit t.w5) (omega arith) ∙ h6 (j - 59) (omega arith) ∙ reaches289 (j - 59 + k) (omega arith)
            ∙ sym ((closed γ S k hk).r6 (j - 59) (omega arith)) ∙ ap after (omega arith)

    after_is : state_of t ≡ after
    unfolding lfsr_update ◌⊕=◌and◌
    after_is =
        let c = closed γ S k hk in
        state_is t after
        (part 0 3 61 s.w0 t.w0 u0 _ (at0 s) e0 c.r0 h0)
        (part 61 18 46 s.w1 t.w1 u1 _ (at1 s) e1 c.r1 h1)
        (part 107 17 47 s.w2 t.w2 u2 _ (at2 s) e2 c.r2 h2)
        (part 154 25 39 s.w3 t.w3 u3 _ (at3 s) e3 c.r3 h3)
        (part 193 27 37 s.w4 t.w4 u4 _ (at4 s) e4 c.r4 h4)
        last (run-above γ S (at_above s) k)

    pub together_steps : Together S x opening ca cb k (state_of t) z
    together_steps = record { state = after_is; ks = λ j h. hz j h ∙ sym (ks_closed γ S j h) }
