-- Whole sealing and whole opening (document 01, "The one-step machine and the session", its last paragraph), by the paper's ciphertext and tag. The
-- tag has n bytes (document 02, P4).
use Rattle.std.specs.Prelude.{Bool, not, ◌||◌, List, ◌++◌, ℕ, ◌+◌, ◌-◌, ltb, length, take}
use Rattle.calls.specs.Calls.{◌if◌else◌, Result, result_of, accepted, same_bytes}
use Rattle.acorn_model.specs.Stretches.{full_tag_length, last_bytes}
use Rattle.acorn_model.specs.Paper.{ciphertext, tag_of_length, decrypted, new_tag_of_length}
use Rattle.acorn_model.specs.Machine.{tag_length_right, key_and_nonce_right, byte_limit}

-- of sealed bytes all are ciphertext but the tag's n at the end
abbrev pub cipher_part : ℕ → List ℕ → List ℕ
cipher_part n sealed_bytes = take (length sealed_bytes - n) sealed_bytes

abbrev pub tag_part : ℕ → List ℕ → List ℕ
tag_part n sealed_bytes = last_bytes n sealed_bytes

module _ (n : ℕ) (key nonce «data» : List ℕ) where
  -- 9: a tag of another length than 8 to 16; 2: a key or nonce of another size; 5: data over the limit
  abbrev pub length_wrong : Bool
  length_wrong = not (tag_length_right n)

  abbrev pub sizes_wrong : Bool
  sizes_wrong = not (key_and_nonce_right key nonce)

  abbrev pub data_over : Bool
  data_over = ltb byte_limit (length «data»)

  -- ## Sealing: ciphertext, then tag

  unfoldable pub sealed_with : List ℕ → List ℕ
  sealed_with text = ciphertext key nonce «data» text ++ tag_of_length n key nonce «data» text

  unfoldable pub seal_refusal : List ℕ → List ℕ → ℕ
  seal_refusal text out =
      9 if length_wrong else
      2 if sizes_wrong else
      5 if data_over || ltb byte_limit (length text) else
      6 if ltb (length out) (length text + n) else
      accepted

  unfoldable pub seal_message : List ℕ → List ℕ → Result ℕ
  seal_message text out = result_of (seal_refusal text out) (length (sealed_with text)) (sealed_with text) out

  -- ## Opening

  unfoldable pub tag_matches_with : List ℕ → Bool
  tag_matches_with sealed_bytes = same_bytes (tag_part n sealed_bytes) (new_tag_of_length n key nonce «data» (cipher_part n sealed_bytes))

  unfoldable pub opened_with : List ℕ → List ℕ
  opened_with sealed_bytes = decrypted key nonce «data» (cipher_part n sealed_bytes)

  -- 7, known once the steps are run
  abbrev pub tag_refusal : List ℕ → ℕ
  tag_refusal sealed_bytes = 7 if not (tag_matches_with sealed_bytes) else accepted

  unfoldable pub open_refusal : List ℕ → List ℕ → ℕ
  open_refusal sealed_bytes out =
      9 if length_wrong else
      2 if sizes_wrong || ltb (length sealed_bytes) n else
      5 if data_over || ltb byte_limit (length sealed_bytes - n) else
      6 if ltb (length out) (length sealed_bytes - n) else
      tag_refusal sealed_bytes

  unfoldable pub open_message : List ℕ → List ℕ → Result ℕ
  open_message sealed_bytes out = result_of (open_refusal sealed_bytes out) (length (opened_with sealed_bytes)) (opened_with sealed_bytes) out

-- ## With a full tag, as a tape has it

module _ (key nonce «data» : List ℕ) where
  abbrev pub sealed : List ℕ → List ℕ
  sealed text = sealed_with full_tag_length key nonce «data» text

  abbrev pub tag_matches : List ℕ → Bool
  tag_matches sealed_bytes = tag_matches_with full_tag_length key nonce «data» sealed_bytes

  abbrev pub opened : List ℕ → List ℕ
  opened sealed_bytes = opened_with full_tag_length key nonce «data» sealed_bytes
