-- The contracts of sealing and opening whole messages, and of decrypting one into a buffer; and what opening the rest of a message comes to.
use Rattle.std.specs.Prelude.{Result, ◌≡◌, Bool, true, not, ◌&&◌, List, ℕ, ◌-◌, leb, length, replicate}
use Rattle.calls.specs.declared.Refusal.{Refusal}
use Rattle.calls.specs.Calls.{◌if◌else◌, as_reply, written_over, same_bytes}
use Rattle.acorn_model.specs.Bits.{Bits}
use Rattle.acorn_model.specs.Stretches.{full_tag_length, text_out, tag_bytes, before_final}
use Rattle.acorn_model.specs.Machine.{key_and_nonce_right}
use Rattle.acorn_model.specs.Message.{cipher_part, tag_part, seal_message, tag_matches, opened, open_message}

-- sealing with a tag of n bytes into `out` answered r, and left `after` there
abbrev pub Seals : ℕ → List ℕ → List ℕ → List ℕ → List ℕ → List ℕ → Result ℕ Refusal → List ℕ → Type 0
Seals n key nonce «data» text out r after = seal_message n key nonce «data» text out ≡ record { answer = as_reply r; out = after }

-- and opening
abbrev pub OpensTo : ℕ → List ℕ → List ℕ → List ℕ → List ℕ → List ℕ → Result ℕ Refusal → List ℕ → Type 0
OpensTo n key nonce «data» sealed_bytes out r after = open_message n key nonce «data» sealed_bytes out ≡ record { answer = as_reply r; out = after }

-- ## Decrypting what has a full tag into a buffer of the caller's

-- key and nonce have their sizes, the sealed bytes hold a tag, and the buffer has room for the text before it
abbrev pub decryptable : List ℕ → List ℕ → List ℕ → List ℕ → Bool
decryptable key nonce sealed_bytes buffer = key_and_nonce_right key nonce && leb full_tag_length (length sealed_bytes) && leb (length sealed_bytes - full_tag_length) (length buffer)

-- what stands in the buffer after it: what stood there where that is not so; zeros all through where the tag differs; else the text at its front
abbrev pub buffer_after : List ℕ → List ℕ → List ℕ → List ℕ → List ℕ → List ℕ
buffer_after key nonce «data» sealed_bytes buffer =
    buffer if not (decryptable key nonce sealed_bytes buffer) else
    replicate (length buffer) 0 if not (tag_matches key nonce «data» sealed_bytes) else
    written_over (opened key nonce «data» sealed_bytes) buffer

-- decrypting answered r, whether the tag matches, and left `after` in the buffer
pub record DecryptsInto (key nonce «data» sealed_bytes buffer : List ℕ) (r : Bool) (after : List ℕ) : Type 0 where
  pub answer : r ≡ (decryptable key nonce sealed_bytes buffer && tag_matches key nonce «data» sealed_bytes)
  pub left : after ≡ buffer_after key nonce «data» sealed_bytes buffer

-- ## The rest of a message: its sealed bytes, from some place in the ciphertext on, with a tag of n bytes at their end, and the state before them

module _ (S : Bits) (n : ℕ) (sealed_bytes : List ℕ) where
  -- whether the tag at the end is that of the state and the ciphertext before it
  unfoldable pub rest_matches : Bool
  rest_matches = same_bytes (tag_part n sealed_bytes) (tag_bytes n (before_final true (cipher_part n sealed_bytes) S))

  -- the output after it: where the tag matches, the text is written
  unfoldable pub rest_opened : List ℕ → List ℕ
  rest_opened out = written_over (text_out true (cipher_part n sealed_bytes) S) out if rest_matches else out
