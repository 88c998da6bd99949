-- A message's ciphertext and tag by numbers that compute.
use mathlib.Core.Path.{◌≡◌, sym, ap, ◌∙◌}
use mathlib.Core.Bool.{Bool, false}
use mathlib.Core.List.{List}
use Prim.Native.Nat.{ℕ, ◌+◌, ◌-◌, ◌*◌, ◌<◌}
use native.Mathlib.Omega.{arith}
use lib.ListN.{length}
use Rattle.acorn_model.specs.Bits.{Bits, ◌⊕◌, bit, bits_in, number, bytes}
use Rattle.acorn_model.specs.Step.{run}
use Rattle.acorn_model.specs.Stretches.{Stretch, full_tag_length, zeros, start, data_piece, data_end, text_piece, text_end, final, inputs, through, keystream, text_out, after_data, before_final}
use Rattle.acorn_model.specs.Paper.{ciphertext, tag}
use Rattle.acorn_model.specs.Laws.{SameState}
use Rattle.acorn_model.proofs.Numbers.{number_bit}
use Rattle.acorn_model.proofs.Bytes.{bytes_same}
use Rattle.acorn_model.proofs.Outputs.{tag_bytes_last}
use Rattle.acorn_model.proofs.States.{same-keystream_bit}
use Rattle.acorn_model.proofs.Agree.{ciphertext_agrees, tag_agrees}
use Rattle.known_answers.proofs.StepNumbers.{run_n, run_n-is, keystream_n, keystream_n-bit}

zeros_are : SameState zeros (bit 0)
unfolding number
zeros_are q l = sym (number_bit 293 zeros q (omega arith))

unfoldable pub through_n : Stretch → ℕ → ℕ
through_n stretch x = run_n (inputs stretch) stretch.steps x

through-is : (stretch : Stretch) (x : ℕ) (S : Bits) → SameState S (bit x) → SameState (through stretch S) (bit (through_n stretch x))
unfolding through through_n
through-is stretch x S h = run_n-is (inputs stretch) stretch.steps x S h

keystream-is : (stretch : Stretch) (n j x : ℕ) (S : Bits) → SameState S (bit x) → j < n → keystream stretch S j ≡ bit (keystream_n (inputs stretch) n x) j
unfolding keystream
keystream-is stretch n j x S h l =
    same-keystream_bit (run (inputs stretch) j S) (bit (run_n (inputs stretch) j x)) (run_n-is (inputs stretch) j x S h) ∙ sym (keystream_n-bit (inputs stretch) n j x l)

module _ (key nonce «data» text : List ℕ) where
  -- the state after the data end, the ks of the text, and that of final
  unfoldable pub after_data_n : ℕ
  after_data_n = through_n data_end (through_n (data_piece «data») (through_n (start key nonce) 0))

  unfoldable pub text_keystream_n : ℕ
  text_keystream_n = keystream_n (inputs (text_piece false text)) (8 * length text) after_data_n

  unfoldable pub final_keystream_n : ℕ
  final_keystream_n = keystream_n (inputs final) 768 (through_n text_end (through_n (text_piece false text) after_data_n))

  after-data : SameState (after_data key nonce «data») (bit after_data_n)
  unfolding after_data_n
  after-data =
      through-is data_end (through_n (data_piece «data») (through_n (start key nonce) 0)) (through (data_piece «data») (through (start key nonce) zeros))
      (through-is (data_piece «data») (through_n (start key nonce) 0) (through (start key nonce) zeros) (through-is (start key nonce) 0 zeros zeros_are))

  before-final : SameState (before_final false text (after_data key nonce «data»)) (bit (through_n text_end (through_n (text_piece false text) after_data_n)))
  before-final =
      through-is text_end (through_n (text_piece false text) after_data_n) (through (text_piece false text) (after_data key nonce «data»))
      (through-is (text_piece false text) after_data_n (after_data key nonce «data») after-data)

  pub ciphertext_computes : ciphertext key nonce «data» text ≡ bytes (length text) (λ j. bits_in text j ⊕ bit text_keystream_n j)
  unfolding text_out text_keystream_n
  ciphertext_computes =
      sym (ciphertext_agrees key nonce «data» text)
      ∙ bytes_same (length text) (λ j. bits_in text j ⊕ keystream (text_piece false text) (after_data key nonce «data») j) (λ j. bits_in text j ⊕ bit text_keystream_n j)
      (λ j l. ap (λ (ks : Bool). bits_in text j ⊕ ks) (keystream-is (text_piece false text) (8 * length text) j after_data_n (after_data key nonce «data») after-data l))

  pub tag_computes : tag key nonce «data» text ≡ bytes full_tag_length (λ j. bit final_keystream_n (768 - 8 * full_tag_length + j))
  unfolding final_keystream_n
  tag_computes =
      sym (tag_agrees key nonce «data» full_tag_length (omega arith) text)
      ∙ tag_bytes_last full_tag_length (omega arith) (before_final false text (after_data key nonce «data»))
      ∙ bytes_same full_tag_length (λ j. keystream final (before_final false text (after_data key nonce «data»)) (768 - 8 * full_tag_length + j)) (λ j. bit final_keystream_n (768 - 8 * full_tag_length + j))
      (λ j l. keystream-is final 768 (768 - 8 * full_tag_length + j) (through_n text_end (through_n (text_piece false text) after_data_n)) (before_final false text (after_data key nonce «data»)) before-final (omega arith))
