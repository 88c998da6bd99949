-- What comes out, by the stretches and by the paper: how many bytes it is, and that they are bytes.
use mathlib.Core.Path.{◌≡◌, ap, ◌∙◌}
use mathlib.Core.Bool.{Bool}
use mathlib.Core.List.{List}
use Prim.Native.Nat.{ℕ, ◌+◌, ◌-◌, ◌*◌, ◌≤◌}
use native.Mathlib.Omega.{arith}
use lib.ListN.{length, drop, length-append, length-drop}
use Rattle.acorn_model.specs.Bits.{Bits, bytes}
use Rattle.calls.specs.Calls.{AreBytes}
use Rattle.acorn_model.specs.Stretches.{full_tag_length, final, keystream, text_out, tag_of, tag_bytes}
use Rattle.acorn_model.specs.Paper.{ciphertext, tag_of_length, decrypted, new_tag_of_length}
use Rattle.acorn_model.specs.Message.{sealed_with}
use Rattle.acorn_model.proofs.Bytes.{bytes-length, bytes_same, bytes_last, bytes_are_bytes}
use Rattle.calls.proofs.AreBytes.{append_are_bytes}

-- ## The stretches

pub text_out-length : (opening : Bool) (piece : List ℕ) (S : Bits) → length (text_out opening piece S) ≡ length piece
unfolding text_out
text_out-length opening piece S = bytes-length (length piece) _

pub tag_of-length : (S : Bits) → length (tag_of S) ≡ full_tag_length
unfolding tag_of
tag_of-length S = bytes-length full_tag_length _

-- a tag of n bytes
pub tag_bytes-drop : (n : ℕ) (S : Bits) → tag_bytes n S ≡ drop (full_tag_length - n) (tag_of S)
tag_bytes-drop n S = ap (λ (l : ℕ). drop (l - n) (tag_of S)) (tag_of-length S)

module _ (n : ℕ) (h : n ≤ full_tag_length) (S : Bits) where
  pub tag_bytes-length : length (tag_bytes n S) ≡ n
  tag_bytes-length = length-drop (length (tag_of S) - n) (tag_of S) ∙ omega (arith, tag_of-length S)

  -- is of the last 8 n ks bits
  pub tag_bytes_last : tag_bytes n S ≡ bytes n (λ j. keystream final S (final.steps - 8 * n + j))
  unfolding tag_of
  tag_bytes_last =
      let e : full_tag_length ≡ full_tag_length - n + n = omega arith in
      tag_bytes-drop n S ∙ ap (λ (k : ℕ). drop (full_tag_length - n) (bytes k (λ j. keystream final S (final.steps - 8 * full_tag_length + j)))) e
      ∙ bytes_last (full_tag_length - n) n _ ∙ bytes_same n _ _ (λ j l. ap (keystream final S) (omega arith))

-- ## The paper

module _ (key nonce «data» : List ℕ) where
  pub ciphertext-length : (text : List ℕ) → length (ciphertext key nonce «data» text) ≡ length text
  unfolding ciphertext
  ciphertext-length text = bytes-length (length text) _

  pub ciphertext_are_bytes : (text : List ℕ) → AreBytes (ciphertext key nonce «data» text)
  unfolding ciphertext
  ciphertext_are_bytes text = bytes_are_bytes (length text) _

  pub decrypted-length : (cipher : List ℕ) → length (decrypted key nonce «data» cipher) ≡ length cipher
  unfolding decrypted
  decrypted-length cipher = bytes-length (length cipher) _

  module _ (n : ℕ) where
    pub tag-length : (text : List ℕ) → length (tag_of_length n key nonce «data» text) ≡ n
    unfolding tag_of_length
    tag-length text = bytes-length n _

    pub tag_are_bytes : (text : List ℕ) → AreBytes (tag_of_length n key nonce «data» text)
    unfolding tag_of_length
    tag_are_bytes text = bytes_are_bytes n _

    pub new_tag-length : (cipher : List ℕ) → length (new_tag_of_length n key nonce «data» cipher) ≡ n
    unfolding new_tag_of_length
    new_tag-length cipher = bytes-length n _

    -- ## Sealed bytes

    pub sealed-length : (text : List ℕ) → length (sealed_with n key nonce «data» text) ≡ length text + n
    unfolding sealed_with
    sealed-length text = simp length-append (omega (arith, ciphertext-length text, tag-length text))

    pub sealed_are_bytes : (text : List ℕ) → AreBytes (sealed_with n key nonce «data» text)
    unfolding sealed_with
    sealed_are_bytes text = search (append_are_bytes, ciphertext_are_bytes, tag_are_bytes)
