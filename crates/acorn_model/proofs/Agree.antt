-- A run whose m, ca and cb are as the paper's Schedule says goes through document 01's stretches.
-- So the paper's ciphertext, text and tags are those of the stretches.
use mathlib.Core.Path.{◌≡◌, refl, sym, ap, ◌∙◌}
use mathlib.Core.Bool.{Bool, true, false, ◌&&◌}
use mathlib.Core.List.{List}
use mathlib.Core.Logic.{⊎_elim}
use Prim.Native.Nat.{ℕ, ◌+◌, ◌-◌, ◌*◌, ◌%◌, ◌≤◌, ◌<◌}
use native.Mathlib.Omega.{arith}
use lib.Dec.{eqb, ltb}
use lib.ListN.{length}
use borrow.Author.Tests.{lt-ltb, le-ltb, eq-eqb, ne_eqb}
use Rattle.std.proofs.lemmas.Bool.{cases_lt}
use Rattle.acorn_model.specs.Bits.{Bits, ◌⊕◌, bits_in, bytes}
use Rattle.acorn_model.specs.Step.{StepInput, run, keystream_bit}
use Rattle.acorn_model.specs.Stretches.{Stretch, full_tag_length, start_bit, start, data_piece, text_piece, final, inputs, through, keystream, text_out, tag_bytes, zeros, after_data, before_final}
use Rattle.acorn_model.specs.Paper.{◌from◌to◌, Schedule, input_at, state_at, ks_at, text_bit_out, tag_bit, ciphertext, tag_of_length, decrypted, new_tag_of_length}
use Rattle.calls.proofs.Choices.{if_below, if_past}
use Rattle.acorn_model.proofs.Bytes.{bytes_same}
use Rattle.acorn_model.proofs.Outputs.{tag_bytes_last}
use Rattle.acorn_model.proofs.Runs.{input-same, run_none, run_on}
use Rattle.acorn_model.proofs.Scheduled.{scheduled}

-- data end and text end differ in cb alone
abbrev pub end : Bool → Stretch
end cb = record { steps = 256; m = λ i ks. eqb i 0; ca = λ i. ltb i 128; cb = cb }

xor_true : (a : Bool) → true ⊕ a ≡ a ⊕ true
xor_true true = refl
xor_true false = refl

-- ## A run that follows the Schedule

-- The run's plaintext bits p may go by each step's own ks: they are those that the text stretch takes.
module _ (opening : Bool) (key nonce «data» text : List ℕ) (g : ℕ → StepInput) (p : Bool → Bits)
    (p_is : (ks : Bool) (j : ℕ) → j < 8 * length text → p ks j ≡ (opening && ks) ⊕ bits_in text j)
    (h : (ks : Bool) → Schedule (bits_in key) (bits_in nonce) (bits_in «data») (p ks) (8 * length «data») (8 * length text) (λ i. (g i).m ks) (λ i. (g i).ca) (λ i. (g i).cb)) where
  abbrev A : ℕ
  A = 8 * length «data»

  abbrev P : ℕ
  P = 8 * length text

  -- the states after start and after the data end
  abbrev B : Bits
  B = through (start key nonce) zeros

  abbrev D : Bits
  D = after_data key nonce «data»

  start-bit : (ks : Bool) (i : ℕ) → i < 1792 → start_bit key nonce i ≡ (g i).m ks
  unfolding start_bit
  start-bit ks i l = ⊎_elim in_key onward (cases_lt i 128)
    where
      in_key : i < 128 → start_bit key nonce i ≡ (g i).m ks
      in_key k = if_below i _ k (sym ((h ks).m_key i (omega arith)))

      in_nonce : 128 ≤ i → i < 256 → start_bit key nonce i ≡ (g i).m ks
      in_nonce k k' = if_past i _ k (if_below i _ k' (sym ((h ks).m_iv (i - 128) (omega arith)) ∙ ap (λ (n : ℕ). (g n).m ks) (omega arith)))

      inverted : i ≡ 256 → start_bit key nonce i ≡ (g i).m ks
      inverted e = rw e (xor_true (bits_in key 0) ∙ sym (h ks).m_key_inverted)

      again : 256 < i → start_bit key nonce i ≡ (g i).m ks
      again k =
          let not_256 : eqb i 256 ≡ false = ne_eqb i 256 (omega arith) in
          if_past i _ (omega arith) (if_past i _ (omega arith)
          (ap (λ (b : Bool). b ⊕ bits_in key ((i - 256) % 128)) not_256 ∙ sym ((h ks).m_key_again (i - 256) (omega arith)) ∙ ap (λ (n : ℕ). (g n).m ks) (omega arith)))

      onward : 128 ≤ i → start_bit key nonce i ≡ (g i).m ks
      onward k = ⊎_elim (in_nonce k) (λ (k' : 256 ≤ i). ⊎_elim (λ (k'' : i < 257). inverted (omega arith)) again (cases_lt i 257)) (cases_lt i 256)

  after-start : run g 1792 zeros ≡ B
  unfolding through
  after-start =
      run_on g _ 0 1792 zeros zeros (run_none g zeros)
      (λ i l. ap g {x = 0 + i} {y = i} (omega arith)
      ∙ input-same _ _ ((h false).ca_start i (omega arith)) ((h false).cb_start i (omega arith)) (λ ks. sym (start-bit ks i l)))

  after-data : run g (1792 + A) zeros ≡ through (data_piece «data») B
  unfolding through
  after-data =
      run_on g _ 1792 A zeros B after-start
      (λ i l. input-same _ _ ((h false).ca_data i (omega arith)) ((h false).cb_data i (omega arith)) (λ ks. (h ks).m_data i l))

  -- k steps into a stretch that starts at the paper's step n
  on : (stretch : Stretch) (n k : ℕ) (S : Bits) → run g (1792 + n) zeros ≡ S
      → ((i : ℕ) → i < k → (g (1792 + (n + i))).ca ≡ stretch.ca i)
      → ((i : ℕ) → i < k → (g (1792 + (n + i))).cb ≡ stretch.cb)
      → ((i : ℕ) → i < k → (ks : Bool) → (g (1792 + (n + i))).m ks ≡ stretch.m i ks)
      → run g (1792 + (n + k)) zeros ≡ run (inputs stretch) k S
  on stretch n k S e ca cb m =
      ap (λ (x : ℕ). run g x zeros) {x = 1792 + (n + k)} {y = 1792 + n + k} (omega arith)
      ∙ run_on g (inputs stretch) (1792 + n) k zeros S e
      (λ i l. ap g {x = 1792 + n + i} {y = 1792 + (n + i)} (omega arith) ∙ input-same _ _ (ca i l) (cb i l) (m i l))

  -- either end, at the paper's step n: a one and then zeros, and ca for the first 128 steps
  after-end : (cb : Bool) (n : ℕ) (S : Bits) → run g (1792 + n) zeros ≡ S
      → ((i : ℕ) → i < 128 → (g (1792 + (n + i))).ca ≡ true)
      → ((i : ℕ) → i from 128 to 255 → (g (1792 + (n + i))).ca ≡ false)
      → ((i : ℕ) → i < 256 → (g (1792 + (n + i))).cb ≡ cb)
      → ((ks : Bool) → (g (1792 + n)).m ks ≡ true)
      → ((ks : Bool) (i : ℕ) → i from 1 to 255 → (g (1792 + (n + i))).m ks ≡ false)
      → run g (1792 + (n + 256)) zeros ≡ through (end cb) S
  unfolding through
  after-end cb n S e ca-one ca-zero cb-is one zero =
      on (end cb) n 256 S e
      (λ i l. ⊎_elim (λ (k : i < 128). ca-one i k ∙ sym (lt-ltb i 128 k)) (λ (k : 128 ≤ i). ca-zero i (omega arith) ∙ sym (le-ltb i 128 k)) (cases_lt i 128))
      cb-is
      (λ i l ks. ⊎_elim
      (λ (k : i < 1). ap (λ (x : ℕ). (g x).m ks) {x = 1792 + (n + i)} {y = 1792 + n} (omega arith) ∙ one ks ∙ sym (eq-eqb i 0 (omega arith)))
      (λ (k : 1 ≤ i). zero ks i (omega arith) ∙ sym (ne_eqb i 0 (omega arith))) (cases_lt i 1))

  after-data-end : run g (1792 + (A + 256)) zeros ≡ D
  after-data-end =
      after-end true A (through (data_piece «data») B) after-data
      (λ i l. (h false).ca_data (A + i) (omega arith)) (λ i r. (h false).ca_data-end (A + i) (omega arith)) (λ i l. (h false).cb_data (A + i) (omega arith))
      (λ ks. (h ks).m_data-one) (λ ks i r. (h ks).m_data-zeros i r)

  -- j steps into the text
  in-text : (j : ℕ) → j ≤ P → run g (1792 + (A + 256 + j)) zeros ≡ run (inputs (text_piece opening text)) j D
  in-text j k =
      on (text_piece opening text) (A + 256) j D after-data-end
      (λ i l. (h false).ca_text (A + 256 + i) (omega arith)) (λ i l. (h false).cb_text (A + 256 + i) (omega arith))
      (λ i l ks. (h ks).m_text i (omega arith) ∙ p_is ks i (omega arith))

  after_text : run g (1792 + (A + 256 + P)) zeros ≡ through (text_piece opening text) D
  unfolding through
  after_text = in-text P (omega arith)

  after-text-end : run g (1792 + (A + 256 + P + 256)) zeros ≡ before_final opening text D
  after-text-end =
      after-end false (A + 256 + P) (through (text_piece opening text) D) after_text
      (λ i l. (h false).ca_text (A + 256 + P + i) (omega arith)) (λ i r. (h false).ca_text-end (A + 256 + P + i) (omega arith)) (λ i l. (h false).cb_text (A + 256 + P + i) (omega arith))
      (λ ks. (h ks).m_text-one) (λ ks i r. (h ks).m_text-zeros i r)

  -- j steps into final
  in_final : (j : ℕ) → j ≤ 768 → run g (1792 + (A + P + 512 + j)) zeros ≡ run (inputs final) j (before_final opening text D)
  in_final j k =
      on final (A + P + 512) j (before_final opening text D)
      (ap (λ (x : ℕ). run g x zeros) {x = 1792 + (A + P + 512)} {y = 1792 + (A + 256 + P + 256)} (omega arith) ∙ after-text-end)
      (λ i l. (h false).ca_final (A + P + 512 + i) (omega arith)) (λ i l. (h false).cb_final (A + P + 512 + i) (omega arith)) (λ i l ks. (h ks).m_final i (omega arith))

  -- what comes out at the paper's indices
  pub text_of_run : text_out opening text D ≡ bytes (length text) (λ j. bits_in text j ⊕ keystream_bit (run g (1792 + (A + 256 + j)) zeros))
  unfolding text_out keystream
  text_of_run =
      bytes_same (length text) _ _
      (λ j l. ap (λ (S : Bits). bits_in text j ⊕ keystream_bit S) (sym (in-text j (omega arith))))

  pub tag_of_run : (n : ℕ) → n ≤ full_tag_length
      → tag_bytes n (before_final opening text D) ≡ bytes n (λ j. keystream_bit (run g (1792 + (A + P + 1279 - 8 * n + 1 + j)) zeros))
  unfolding keystream
  tag_of_run n h =
      tag_bytes_last n h (before_final opening text D)
      ∙ bytes_same n _ _
      (λ j l. let e : 1792 + (A + P + 512 + (768 - 8 * n + j)) ≡ 1792 + (A + P + 1279 - 8 * n + 1 + j) = omega arith in
      ap keystream_bit (sym (in_final (768 - 8 * n + j) (omega arith)) ∙ ap (λ (x : ℕ). run g x zeros) e))

-- ## The paper's functions

module _ (key nonce «data» : List ℕ) where
  module _ (opening : Bool) (text : List ℕ) where
    follows : (ks : Bool)
        → Schedule (bits_in key) (bits_in nonce) (bits_in «data») (λ j. (opening && ks) ⊕ bits_in text j) (8 * length «data») (8 * length text)
        (λ i. (input_at opening key nonce «data» text i).m ks) (λ i. (input_at opening key nonce «data» text i).ca) (λ i. (input_at opening key nonce «data» text i).cb)
    follows ks = scheduled (bits_in key) (bits_in nonce) (bits_in «data») (λ j. (opening && ks) ⊕ bits_in text j) (8 * length «data») (8 * length text)

    text_bits_agree : text_out opening text (after_data key nonce «data») ≡ bytes (length text) (text_bit_out opening key nonce «data» text)
    unfolding text_bit_out ks_at state_at
    text_bits_agree = text_of_run opening key nonce «data» text (input_at opening key nonce «data» text) (λ ks j. (opening && ks) ⊕ bits_in text j) (λ ks j l. refl) follows

    tag_bits_agree : (n : ℕ) → n ≤ full_tag_length
        → tag_bytes n (before_final opening text (after_data key nonce «data»)) ≡ bytes n (tag_bit opening key nonce «data» text (8 * n))
    unfolding tag_bit ks_at state_at
    tag_bits_agree = tag_of_run opening key nonce «data» text (input_at opening key nonce «data» text) (λ ks j. (opening && ks) ⊕ bits_in text j) (λ ks j l. refl) follows

  pub ciphertext_agrees : (text : List ℕ) → text_out false text (after_data key nonce «data») ≡ ciphertext key nonce «data» text
  unfolding ciphertext
  ciphertext_agrees = text_bits_agree false

  pub decrypted_agrees : (cipher : List ℕ) → text_out true cipher (after_data key nonce «data») ≡ decrypted key nonce «data» cipher
  unfolding decrypted
  decrypted_agrees = text_bits_agree true

  module _ (n : ℕ) (h : n ≤ full_tag_length) where
    pub tag_agrees : (text : List ℕ) → tag_bytes n (before_final false text (after_data key nonce «data»)) ≡ tag_of_length n key nonce «data» text
    unfolding tag_of_length
    tag_agrees text = tag_bits_agree false text n h

    pub new_tag_agrees : (cipher : List ℕ) → tag_bytes n (before_final true cipher (after_data key nonce «data»)) ≡ new_tag_of_length n key nonce «data» cipher
    unfolding new_tag_of_length
    new_tag_agrees cipher = tag_bits_agree true cipher n h
