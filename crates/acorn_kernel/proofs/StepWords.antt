-- The words of ks and of f, bit by bit.
use mathlib.Core.Path.{◌≡◌, refl}
use mathlib.Core.Bool.{Bool, true, false, not, ◌&&◌}
use Prim.Native.Nat.{ℕ, ◌+◌, ◌-◌, ◌^◌, ◌<◌}
use lib.Bits.{bit_and, bit_xor}
use Rattle.acorn_model.specs.Bits.{Bits, ◌⊕◌, bit}
use Rattle.acorn_model.specs.Step.{◌⊕=◌and◌, lfsr_update, maj, ch, ksg128, fbk128, keystream_bit, feedback_bit}
use Rattle.acorn_kernel.specs.Together.{moved_down}
use Rattle.acorn_kernel.proofs.WordBits.{bit-xor, bit-and, bit_not}

pub maj-is : (a b c : Bool) → ((a ⊕ c) && (b ⊕ c)) ⊕ c ≡ maj a b c
unfolding maj
maj-is true true true = refl
maj-is true true false = refl
maj-is true false true = refl
maj-is true false false = refl
maj-is false true true = refl
maj-is false true false = refl
maj-is false false true = refl
maj-is false false false = refl

pub ch-is : (a b c : Bool) → ((b ⊕ c) && a) ⊕ c ≡ ch a b c
unfolding ch
ch-is true true true = refl
ch-is true true false = refl
ch-is true false true = refl
ch-is true false false = refl
ch-is false true true = refl
ch-is false true false = refl
ch-is false false true = refl
ch-is false false false = refl

pub xor_assoc : (a b c : Bool) → a ⊕ b ⊕ c ≡ a ⊕ (b ⊕ c)
xor_assoc true true c = not-not c
  where
    not-not : (b : Bool) → b ≡ not (not b)
    not-not true = refl
    not-not false = refl
xor_assoc true false c = refl
xor_assoc false b c = refl

-- bit j of place p after rule 1 adds places a and b to it
abbrev pub updated_bit : Bits → ℕ → ℕ → ℕ → ℕ → Bool
updated_bit S p a b j = S (p + j) ⊕ (S (a + j) ⊕ S (b + j))

module _ (S : Bits) (j : ℕ) where
  pub ks_word : (p12 a154 p235 a61 a193 m a230 p111 p66 v : ℕ) → bit p12 j ≡ S (12 + j) → bit a154 j ≡ updated_bit S 154 111 107 j → bit p235 j ≡ S (235 + j)
      → bit a61 j ≡ updated_bit S 61 23 0 j → bit a193 j ≡ updated_bit S 193 160 154 j → bit m j ≡ maj (bit p235 j) (bit a61 j) (bit a193 j)
      → bit a230 j ≡ updated_bit S 230 196 193 j → bit p111 j ≡ S (111 + j) → bit p66 j ≡ S (66 + j) → bit v j ≡ ch (bit a230 j) (bit p111 j) (bit p66 j)
      → bit (bit_xor (bit_xor (bit_xor p12 a154) m) v) j ≡ keystream_bit (moved_down j S)
  unfolding keystream_bit ksg128 lfsr_update ◌⊕=◌and◌
  ks_word p12 a154 p235 a61 a193 m a230 p111 p66 v e12 e154 e235 e61 e193 em e230 e111 e66 ev = simp (bit-xor, e12, e154, e235, e61, e193, em, e230, e111, e66, ev)

  pub f_word : j < 32 → (ca cb : Bool) (z p0 a107 p244 p23 p160 m a p196 b : ℕ) → a107 < 2 ^ 32 → bit z j ≡ keystream_bit (moved_down j S) → bit p0 j ≡ S (0 + j)
      → bit a107 j ≡ updated_bit S 107 66 61 j → bit p244 j ≡ S (244 + j) → bit p23 j ≡ S (23 + j) → bit p160 j ≡ S (160 + j)
      → bit m j ≡ maj (bit p244 j) (bit p23 j) (bit p160 j) → bit a j ≡ ca → bit p196 j ≡ S (196 + j) → bit b j ≡ cb
      → bit (bit_xor (bit_xor (bit_xor (bit_xor p0 ((2 ^ 32 - 1) - a107)) m) (bit_and a p196)) (bit_and b z)) j ≡ feedback_bit ca cb (moved_down j S)
  unfolding feedback_bit fbk128 lfsr_update ◌⊕=◌and◌
  f_word h ca cb z p0 a107 p244 p23 p160 m a p196 b hl ez e0 e107 e244 e23 e160 em ea e196 eb =
      simp (bit-xor, bit-and, bit_not a107 j hl h, ez, e0, e107, e244, e23, e160, em, ea, e196, eb)
