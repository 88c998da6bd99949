-- The bits of a word that is moved down, with other bits above it.
use mathlib.Core.Path.{◌≡◌, sym, ap, ap₂, ◌∙◌, fun_ext}
use mathlib.Core.Bool.{Bool, false, ◌||◌}
use mathlib.Core.Logic.{⊎_elim}
use Prim.Native.Nat.{ℕ, ◌+◌, ◌-◌, ◌*◌, ◌/◌, ◌%◌, ◌^◌, ◌≤◌, ◌<◌}
use native.Mathlib.Omega.{arith}
use lib.Bits.{bit_or, bit_xor}
use Rattle.acorn_model.specs.Bits.{Bits, ◌⊕◌, bit}
use Rattle.acorn_kernel.specs.Together.{◌bits◌then◌}
use Rattle.acorn_model.proofs.Numbers.{bit_shift, bit_mod}
use Rattle.calls.proofs.Choices.{lt_or_ge}
use Rattle.acorn_kernel.proofs.Sequences.{then_low, then_high, then_split}
use Rattle.acorn_kernel.proofs.WordBits.{bit-xor, bit-or, bit_shl_low, bit_shl_high, bit_mod_above, bit-above, xor_false, or-false}

-- u moved up m places in a word of `width` bits
module _ (width u m : ℕ) where
  abbrev pub lifted : ℕ
  lifted = (u * 2 ^ m) % 2 ^ width

  pub lifted_below : (j : ℕ) → j < width → j < m → bit lifted j ≡ false
  lifted_below j h l = bit_mod (u * 2 ^ m) width j h ∙ bit_shl_low u m j l

  pub lifted_from : (j : ℕ) → j < width → m ≤ j → bit lifted j ≡ bit u (j - m)
  lifted_from j h l = bit_mod (u * 2 ^ m) width j h ∙ ap (bit (u * 2 ^ m)) (omega arith) ∙ bit_shl_high u m (j - m)

-- w moved down k places, with k bits of u above
pub bit_shifted : (w u k j : ℕ) → w < 2 ^ 64 → k ≤ 64 → j < 64 → bit (bit_or (w / 2 ^ k) (lifted 64 u (64 - k))) j ≡ (64 bits bit w then bit u) (j + k)
bit_shifted w u k j hw hk h =
    bit-or (w / 2 ^ k) (lifted 64 u (64 - k)) j
    ∙ ap (λ (b : Bool). b || bit (lifted 64 u (64 - k)) j) (bit_shift w k j)
    ∙ ⊎_elim below above (lt_or_ge (j + k) 64)
  where
    below : j + k < 64 → (bit w (k + j) || bit (lifted 64 u (64 - k)) j) ≡ (64 bits bit w then bit u) (j + k)
    below l =
        ap (λ (b : Bool). bit w (k + j) || b) (lifted_below 64 u (64 - k) j h (omega arith))
        ∙ or-false (bit w (k + j)) ∙ ap (bit w) (omega arith) ∙ sym (then_low 64 (bit w) (bit u) (j + k) l)

    above : 64 ≤ j + k → (bit w (k + j) || bit (lifted 64 u (64 - k)) j) ≡ (64 bits bit w then bit u) (j + k)
    above l =
        ap₂ ◌||◌ (bit-above w 64 (k + j) hw (omega arith)) (lifted_from 64 u (64 - k) j h (omega arith) ∙ ap (bit u) (omega arith))
        ∙ sym (ap (64 bits bit w then bit u) (omega arith) ∙ then_high 64 (bit w) (bit u) (j + k - 64))

-- the n highest bits of a word w of m + n bits; r is w moved down k places, with the bits of b above
pub own_bits : (m n w r k : ℕ) (b : Bits) → ((j : ℕ) → j < m + n → bit r j ≡ ((m + n) bits bit w then b) (j + k)) → (j : ℕ) → j < n → bit (r / 2 ^ m) j ≡ (n bits bit (w / 2 ^ m) then b) (j + k)
own_bits m n w r k b hr j h =
    bit_shift r m j ∙ hr (m + j) (omega arith) ∙ ap ((m + n) bits bit w then b) (omega arith) ∙ then_split m n (bit w) b (j + k)
    ∙ ap (λ (a : Bits). (n bits a then b) (j + k)) (fun_ext (λ y. sym (bit_shift w m y)))

-- Two registers in one word w of m + n bits, the upper one of n. r is w moved down k places with the bits of v above; k bits of u are added to
-- those that leave the upper one.
module _ (m n w u v r k : ℕ) (hk : k ≤ m) (hr : (j : ℕ) → j < m + n → bit r j ≡ ((m + n) bits bit w then bit v) (j + k)) where
  abbrev upper : Bits
  upper = n bits (λ y. bit w (m + y)) then bit v

  abbrev added : ℕ
  added = lifted (m + n) u (m + n - k) / 2 ^ n

  abbrev pub both : ℕ
  both = bit_xor r added

  pub both_lower : (j : ℕ) → j < m → bit both j ≡ (m bits bit w then (λ q. upper q ⊕ bit u q)) (j + k)
  both_lower j h = bit-xor r added j ∙ ap (λ (b : Bool). bit r j ⊕ b) (bit_shift (lifted (m + n) u (m + n - k)) n j) ∙ ⊎_elim below above (lt_or_ge (j + k) m)
    where
      below : j + k < m → bit r j ⊕ bit (lifted (m + n) u (m + n - k)) (n + j) ≡ (m bits bit w then (λ q. upper q ⊕ bit u q)) (j + k)
      below l =
          ap₂ ◌⊕◌ (hr j (omega arith) ∙ then_low (m + n) (bit w) (bit v) (j + k) (omega arith)) (lifted_below (m + n) u (m + n - k) (n + j) (omega arith) (omega arith))
          ∙ xor_false (bit w (j + k)) ∙ sym (then_low m (bit w) (λ q. upper q ⊕ bit u q) (j + k) l)

      above : m ≤ j + k → bit r j ⊕ bit (lifted (m + n) u (m + n - k)) (n + j) ≡ (m bits bit w then (λ q. upper q ⊕ bit u q)) (j + k)
      above l =
          ap₂ ◌⊕◌ (hr j (omega arith) ∙ ap ((m + n) bits bit w then bit v) (omega arith) ∙ then_split m n (bit w) (bit v) (j + k - m))
          (lifted_from (m + n) u (m + n - k) (n + j) (omega arith) (omega arith) ∙ ap (bit u) (omega arith))
          ∙ sym (ap (m bits bit w then (λ q. upper q ⊕ bit u q)) (omega arith) ∙ then_high m (bit w) (λ q. upper q ⊕ bit u q) (j + k - m))

  pub both_upper : (j : ℕ) → j < n → bit both (m + j) ≡ upper (j + k)
  both_upper j h =
      bit-xor r added (m + j)
      ∙ ap₂ ◌⊕◌ (hr (m + j) (omega arith) ∙ ap ((m + n) bits bit w then bit v) (omega arith) ∙ then_split m n (bit w) (bit v) (j + k))
      (bit_shift (lifted (m + n) u (m + n - k)) n (m + j) ∙ bit_mod_above (u * 2 ^ (m + n - k)) (m + n) (n + (m + j)) (omega arith))
      ∙ xor_false (upper (j + k))
