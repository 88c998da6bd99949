-- ACORN-128 version 3 by the paper's own numbering of its steps (document 003, 1.3.2 to 1.3.7): as a relation, with a field for each line
-- of 1.3.3 to 1.3.6, and as functions that compute what the relation says. The paper's step i has the number 1792 + i here, so its first, -1792, is 0.
use Rattle.std.specs.Prelude.{◌≡◌, Bool, true, false, ◌&&◌, List, ℕ, ◌+◌, ◌-◌, ◌*◌, ◌%◌, ◌≤◌, ◌<◌, eqb, ltb, length}
use Rattle.acorn_model.specs.Bits.{Bits, ◌⊕◌, bits_in, bytes}
use Rattle.calls.specs.Calls.{◌if◌else◌}
use Rattle.acorn_model.specs.Step.{lfsr_update, ksg128, fbk128, StepInput, run, keystream_bit}
use Rattle.acorn_model.specs.Stretches.{full_tag_length, zeros}

infix 20 ◌from◌to◌
-- i = a to b
abbrev pub ◌from◌to◌ : ℕ → ℕ → ℕ → Type 0
i from a to b = (a ≤ i) × (i ≤ b)

-- ## The relation

-- What the paper lets m, ca and cb be, a field a line. K, IV, ad and p are the bits of key, IV (our nonce), associated data (our data) and
-- plaintext (our text).
pub record Schedule (K IV ad p : Bits) (adlen pclen : ℕ) (m ca cb : Bits) : Type 0 where
  -- 1.3.3, the initialization: 2 and 3
  pub m_key : (i : ℕ) → i from 0 to 127 → m i ≡ K i
  pub m_iv : (i : ℕ) → i from 0 to 127 → m (128 + i) ≡ IV i
  pub m_key_inverted : m 256 ≡ K (0 % 128) ⊕ true
  pub m_key_again : (i : ℕ) → i from 1 to 1535 → m (256 + i) ≡ K (i % 128)
  pub ca_start : (i : ℕ) → i from 0 to 1791 → ca i ≡ true
  pub cb_start : (i : ℕ) → i from 0 to 1791 → cb i ≡ true
  -- 1.3.4, the associated data: 1 and 2
  pub m_data : (i : ℕ) → i < adlen → m (1792 + i) ≡ ad i
  pub m_data-one : m (1792 + adlen) ≡ true
  pub m_data-zeros : (i : ℕ) → i from 1 to 255 → m (1792 + (adlen + i)) ≡ false
  pub ca_data : (i : ℕ) → i from 0 to adlen + 127 → ca (1792 + i) ≡ true
  pub ca_data-end : (i : ℕ) → i from adlen + 128 to adlen + 255 → ca (1792 + i) ≡ false
  pub cb_data : (i : ℕ) → i from 0 to adlen + 255 → cb (1792 + i) ≡ true
  -- 1.3.5, the encryption: 1 and 2
  pub m_text : (i : ℕ) → i < pclen → m (1792 + (adlen + 256 + i)) ≡ p i
  pub m_text-one : m (1792 + (adlen + 256 + pclen)) ≡ true
  pub m_text-zeros : (i : ℕ) → i from 1 to 255 → m (1792 + (adlen + 256 + pclen + i)) ≡ false
  pub ca_text : (i : ℕ) → i from adlen + 256 to adlen + pclen + 383 → ca (1792 + i) ≡ true
  pub ca_text-end : (i : ℕ) → i from adlen + pclen + 384 to adlen + pclen + 511 → ca (1792 + i) ≡ false
  pub cb_text : (i : ℕ) → i from adlen + 256 to adlen + pclen + 511 → cb (1792 + i) ≡ false
  -- 1.3.6, the finalization: 1 and 2
  pub m_final : (i : ℕ) → i from 0 to 767 → m (1792 + (adlen + pclen + 512 + i)) ≡ false
  pub ca_final : (i : ℕ) → i from adlen + pclen + 512 to adlen + pclen + 1279 → ca (1792 + i) ≡ true
  pub cb_final : (i : ℕ) → i from adlen + pclen + 512 to adlen + pclen + 1279 → cb (1792 + i) ≡ true

-- 1.3.2 to 1.3.6 for one message: there are m, ca, cb, states S and keystream bits ks as the paper says, and by them p is encrypted to c, with
-- the tag T of t bits. Decryption (1.3.7) reads it the other way: c and T are given, and p is what is sought.
pub record Encrypts (K IV ad : Bits) (adlen pclen t : ℕ) (p c T : Bits) : Type 0 where
  pub m : Bits
  pub ca : Bits
  pub cb : Bits
  pub S : ℕ → Bits
  pub ks : Bits
  pub schedule : Schedule K IV ad p adlen pclen m ca cb
  -- 1.3.3: 1
  pub S-first : (j : ℕ) → j from 0 to 292 → S 0 j ≡ false
  -- 1.3.2: steps 2 to 4, on the state with step 1 done, at each step from -1792 to adlen + pclen + 1279
  pub ks_is : (i : ℕ) → i from 0 to 1792 + (adlen + pclen + 1279) → ks i ≡ ksg128 (lfsr_update (S i))
  pub S-shifts : (i : ℕ) → i from 0 to 1792 + (adlen + pclen + 1279) → (j : ℕ) → j from 0 to 291 → S (i + 1) j ≡ lfsr_update (S i) (j + 1)
  pub S-new : (i : ℕ) → i from 0 to 1792 + (adlen + pclen + 1279) → S (i + 1) 292 ≡ fbk128 (ca i) (cb i) (ks i) (lfsr_update (S i)) ⊕ m i
  -- 1.3.5: 3
  pub c_is : (i : ℕ) → i < pclen → c i ≡ p i ⊕ ks (1792 + (adlen + 256 + i))
  -- 1.3.6: the last t keystream bits
  pub T-is : (i : ℕ) → i < t → T i ≡ ks (1792 + (adlen + pclen + 1279 - t + 1 + i))

-- ## The functions

-- m at the steps -1792 to -1, counted from 0
unfoldable pub m_start : Bits → Bits → Bits
m_start K IV i =
    K i if ltb i 128 else
    IV (i - 128) if ltb i 256 else
    K 0 ⊕ true if eqb i 256 else
    K ((i - 256) % 128)

-- m, ca and cb from step 0 on
unfoldable pub m_later : Bits → ℕ → Bits → ℕ → Bits
m_later ad adlen p pclen i =
    ad i if ltb i adlen else
    true if eqb i adlen else
    false if ltb i (adlen + 256) else
    p (i - (adlen + 256)) if ltb i (adlen + 256 + pclen) else
    true if eqb i (adlen + 256 + pclen) else
    false

unfoldable pub ca_later : ℕ → ℕ → Bits
ca_later adlen pclen i =
    true if ltb i (adlen + 128) else
    false if ltb i (adlen + 256) else
    true if ltb i (adlen + pclen + 384) else
    false if ltb i (adlen + pclen + 512) else
    true

unfoldable pub cb_later : ℕ → ℕ → Bits
cb_later adlen pclen i =
    true if ltb i (adlen + 256) else
    false if ltb i (adlen + pclen + 512) else
    true

-- m, ca and cb at every step
unfoldable pub m_at : Bits → Bits → Bits → ℕ → Bits → ℕ → Bits
m_at K IV ad adlen p pclen i = m_start K IV i if ltb i 1792 else m_later ad adlen p pclen (i - 1792)

unfoldable pub ca_at : ℕ → ℕ → Bits
ca_at adlen pclen i = true if ltb i 1792 else ca_later adlen pclen (i - 1792)

unfoldable pub cb_at : ℕ → ℕ → Bits
cb_at adlen pclen i = true if ltb i 1792 else cb_later adlen pclen (i - 1792)

-- One message. Its text is the plaintext in encryption, and in decryption the ciphertext.
module _ (opening : Bool) (key iv «data» text : List ℕ) where
  abbrev pub adlen : ℕ
  adlen = 8 * length «data»

  abbrev pub pclen : ℕ
  pclen = 8 * length text

  -- what step i takes; in decryption the plaintext bit that enters is the ciphertext's ⊕ ks
  abbrev pub input_at : ℕ → StepInput
  input_at i =
      record {
        ca = ca_at adlen pclen i;
        cb = cb_at adlen pclen i;
        m = λ ks. m_at (bits_in key) (bits_in iv) (bits_in «data») adlen (λ j. (opening && ks) ⊕ bits_in text j) pclen i;
      }

  -- S_i and ks_i
  unfoldable pub state_at : ℕ → Bits
  state_at i = run input_at i zeros

  unfoldable pub ks_at : ℕ → Bool
  ks_at i = keystream_bit (state_at i)

  -- c_j = p_j ⊕ ks_{adlen + 256 + j}; in decryption p_j = c_j ⊕ ks_{adlen + 256 + j}
  unfoldable pub text_bit_out : Bits
  text_bit_out j = bits_in text j ⊕ ks_at (1792 + (adlen + 256 + j))

  -- T_j = ks_{adlen + pclen + 1279 - t + 1 + j}
  unfoldable pub tag_bit : ℕ → Bits
  tag_bit t j = ks_at (1792 + (adlen + pclen + 1279 - t + 1 + j))

-- ## Byte strings

-- 1.3.5, and 1.3.6 for a tag of n bytes
unfoldable pub ciphertext : List ℕ → List ℕ → List ℕ → List ℕ → List ℕ
ciphertext key iv «data» text = bytes (length text) (text_bit_out false key iv «data» text)

unfoldable pub tag_of_length : ℕ → List ℕ → List ℕ → List ℕ → List ℕ → List ℕ
tag_of_length n key iv «data» text = bytes n (tag_bit false key iv «data» text (8 * n))

-- 1.3.7: the plaintext, and the newly generated tag of n bytes, from a ciphertext
unfoldable pub decrypted : List ℕ → List ℕ → List ℕ → List ℕ → List ℕ
decrypted key iv «data» cipher = bytes (length cipher) (text_bit_out true key iv «data» cipher)

unfoldable pub new_tag_of_length : ℕ → List ℕ → List ℕ → List ℕ → List ℕ → List ℕ
new_tag_of_length n key iv «data» cipher = bytes n (tag_bit true key iv «data» cipher (8 * n))

-- the full tags
abbrev pub tag : List ℕ → List ℕ → List ℕ → List ℕ → List ℕ
tag key iv «data» text = tag_of_length full_tag_length key iv «data» text

abbrev pub new_tag : List ℕ → List ℕ → List ℕ → List ℕ → List ℕ
new_tag key iv «data» cipher = new_tag_of_length full_tag_length key iv «data» cipher

-- a ciphertext and a tag of n bytes are opened to a text: the tag verifies, and the text is what is decrypted
pub record Opens (n : ℕ) (key iv «data» cipher given text : List ℕ) : Type 0 where
  pub verifies : new_tag_of_length n key iv «data» cipher ≡ given
  pub gives : decrypted key iv «data» cipher ≡ text
