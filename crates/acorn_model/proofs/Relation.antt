-- The paper's functions are as its relation says, and the relation allows nothing else: what a text is encrypted to by it, and a ciphertext
-- decrypted to, is what the functions give.
use mathlib.Core.Path.{◌≡◌, refl, sym, ap, ap₂, ◌∙◌, subst}
use mathlib.Core.Bool.{Bool, false}
use mathlib.Core.List.{List}
use Prim.Native.Nat.{ℕ, zero, suc, ◌+◌, ◌-◌, ◌*◌, ◌≤◌, ◌<◌}
use native.Mathlib.Omega.{arith}
use lib.ListN.{length}
use Rattle.acorn_model.specs.Bits.{Bits, ◌⊕◌, bits_in, bytes}
use Rattle.acorn_model.specs.Step.{lfsr_update, fbk128, keystream_bit, feedback_bit, step, StepInput, run}
use Rattle.acorn_model.specs.Stretches.{full_tag_length, zeros}
use Rattle.acorn_model.specs.Paper.{m_at, ca_at, cb_at, input_at, state_at, ks_at, text_bit_out, tag_bit, ciphertext, tag_of_length, decrypted, new_tag_of_length}
use Rattle.acorn_model.specs.Laws.{SameState, ByPaper}
use Rattle.acorn_model.proofs.Bytes.{bytes-length, bytes_same, bits_of_bytes, bytes_are_bytes}
use Rattle.acorn_model.proofs.Runs.{run_none, run_next}
use Rattle.acorn_model.proofs.States.{step_shifts, step_new, step-by_bits, same-keystream_bit, same_step}
use Rattle.acorn_model.proofs.Scheduled.{scheduled}
use Rattle.acorn_model.proofs.Agree.{text_of_run, tag_of_run, ciphertext_agrees, tag_agrees}
use Rattle.acorn_model.proofs.Outputs.{decrypted-length}
use Rattle.acorn_model.proofs.Inverse.{ciphertext_bits, tag-decrypted, decrypted-from_bits, new_tag-from_bits}

module _ (tag_length : ℕ) (fits : tag_length ≤ full_tag_length) (key nonce «data» : List ℕ) where
  abbrev A : ℕ
  A = 8 * length «data»

  -- ## What the relation allows

  -- p is any way to give the text's bits
  module _ (text : List ℕ) (p c T : Bits) (p_is : (j : ℕ) → j < 8 * length text → p j ≡ bits_in text j) (e : ByPaper tag_length key nonce «data» (length text) p c T) where
    abbrev P : ℕ
    P = 8 * length text

    abbrev g : ℕ → StepInput
    g i = record { ca = e.ca i; cb = e.cb i; m = λ ks. e.m i }

    -- the relation's next state is made by a step
    next : (i : ℕ) → i ≤ 1792 + (A + P + 1279) → SameState (e.S (i + 1)) (step (e.ca i) (e.cb i) (e.m i) (e.S i))
    unfolding feedback_bit keystream_bit
    next i h =
        step-by_bits (e.ca i) (e.cb i) (e.m i) (e.S i) (e.S (i + 1))
        (λ q l. e.S-shifts i (omega arith) q (omega arith) ∙ ap (lfsr_update (e.S i)) (omega arith))
        (e.S-new i (omega arith) ∙ ap (λ (ks : Bool). fbk128 (e.ca i) (e.cb i) ks (lfsr_update (e.S i)) ⊕ e.m i) (e.ks_is i (omega arith)))

    -- so its states are those of a run, and its ks bits too
    states : (i : ℕ) → i ≤ 1792 + (A + P + 1280) → SameState (e.S i) (run g i zeros)
    unfolding run
    states zero h q l = e.S-first q (omega arith)
    states (suc i) h q l =
        ap (λ (n : ℕ). e.S n q) {x = suc i} {y = i + 1} (omega arith) ∙ next i (omega arith) q l
        ∙ same_step (e.S i) (run g i zeros) (states i (omega arith)) (e.ca i) (e.cb i) (e.m i) q l

    keystream_bits : (i : ℕ) → i ≤ 1792 + (A + P + 1279) → e.ks i ≡ keystream_bit (run g i zeros)
    unfolding keystream_bit
    keystream_bits i h = e.ks_is i (omega arith) ∙ same-keystream_bit (e.S i) (run g i zeros) (states i (omega arith))

    only-ciphertext : bytes (length text) c ≡ ciphertext key nonce «data» text
    only-ciphertext =
        bytes_same (length text) _ _ (λ j l. e.c_is j l ∙ ap₂ ◌⊕◌ (p_is j l) (keystream_bits (1792 + (A + 256 + j)) (omega arith)))
        ∙ sym (text_of_run false key nonce «data» text g (λ ks. p) (λ ks. p_is) (λ ks. e.schedule)) ∙ ciphertext_agrees key nonce «data» text

    only-tag : bytes tag_length T ≡ tag_of_length tag_length key nonce «data» text
    only-tag =
        bytes_same tag_length _ _ (λ j l. e.T-is j l ∙ keystream_bits (1792 + (A + P + 1279 - 8 * tag_length + 1 + j)) (omega arith))
        ∙ sym (tag_of_run false key nonce «data» text g (λ ks. p) (λ ks. p_is) (λ ks. e.schedule) tag_length fits) ∙ tag_agrees key nonce «data» tag_length fits text

  pub sealing_only : (text : List ℕ) (c T : Bits) → ByPaper tag_length key nonce «data» (length text) (bits_in text) c T
      → (bytes (length text) c ≡ ciphertext key nonce «data» text) × (bytes tag_length T ≡ tag_of_length tag_length key nonce «data» text)
  sealing_only text c T e = (only-ciphertext text (bits_in text) c T (λ j l. refl) e, only-tag text (bits_in text) c T (λ j l. refl) e)

  -- the plaintext's bytes are a text
  pub opening_only : (cipher : List ℕ) (p T : Bits) → ByPaper tag_length key nonce «data» (length cipher) p (bits_in cipher) T
      → (bytes (length cipher) p ≡ decrypted key nonce «data» cipher) × (bytes tag_length T ≡ new_tag_of_length tag_length key nonce «data» cipher)
  opening_only cipher p T e = (
    sym (decrypted-from_bits key nonce «data» text cipher (sym same_length) same_bits (bytes_are_bytes (length cipher) p)),
    only-tag text p (bits_in cipher) T p_is e' ∙ sym (new_tag-from_bits key nonce «data» text cipher (sym same_length) same_bits tag_length fits),
  )
    where
      text : List ℕ
      text = bytes (length cipher) p

      same_length : length text ≡ length cipher
      same_length = bytes-length (length cipher) p

      e' : ByPaper tag_length key nonce «data» (length text) p (bits_in cipher) T
      e' = subst (λ (n : ℕ). ByPaper tag_length key nonce «data» n p (bits_in cipher) T) (sym same_length) e

      p_is : (j : ℕ) → j < 8 * length text → p j ≡ bits_in text j
      p_is j l = sym (bits_of_bytes (length cipher) p j (omega (arith, same_length)))

      same_bits : (j : ℕ) → j < 8 * length text → bits_in cipher j ≡ bits_in (ciphertext key nonce «data» text) j
      same_bits j l = sym (bits_of_bytes (length text) (bits_in cipher) j l) ∙ ap (λ (x : List ℕ). bits_in x j) (only-ciphertext text p (bits_in cipher) T p_is e')

  -- ## The functions are as it says

  pub sealing_by_paper : (text : List ℕ) → ByPaper tag_length key nonce «data» (length text) (bits_in text) (bits_in (ciphertext key nonce «data» text)) (bits_in (tag_of_length tag_length key nonce «data» text))
  unfolding ciphertext tag_of_length text_bit_out tag_bit ks_at state_at keystream_bit feedback_bit
  sealing_by_paper text =
      record {
        m = m_at (bits_in key) (bits_in nonce) (bits_in «data») A (bits_in text) (8 * length text);
        ca = ca_at A (8 * length text);
        cb = cb_at A (8 * length text);
        S = state_at false key nonce «data» text;
        ks = ks_at false key nonce «data» text;
        schedule = scheduled (bits_in key) (bits_in nonce) (bits_in «data») (bits_in text) A (8 * length text);
        S-first = λ j r. ap (λ (R : Bits). R j) (run_none g zeros);
        ks_is = λ i r. refl;
        S-shifts = λ i r j k. ap (λ (R : Bits). R j) (run_next g i zeros) ∙ step_shifts _ _ _ (run g i zeros) j (omega arith) ∙ ap (lfsr_update (run g i zeros)) (omega arith);
        S-new = λ i r. ap (λ (R : Bits). R 292) (run_next g i zeros) ∙ step_new _ _ _ (run g i zeros);
        c_is = bits_of_bytes (length text) _;
        T-is = bits_of_bytes tag_length _;
      }
    where
      g : ℕ → StepInput
      g = input_at false key nonce «data» text

  -- the relation reads a ciphertext's bits within its length alone
  same_cipher : (n : ℕ) (p c c' T : Bits) → ((j : ℕ) → j < 8 * n → c' j ≡ c j) → ByPaper tag_length key nonce «data» n p c T → ByPaper tag_length key nonce «data» n p c' T
  same_cipher n p c c' T same e =
      record {
        m = e.m;
        ca = e.ca;
        cb = e.cb;
        S = e.S;
        ks = e.ks;
        schedule = e.schedule;
        S-first = e.S-first;
        ks_is = e.ks_is;
        S-shifts = e.S-shifts;
        S-new = e.S-new;
        c_is = λ i r. same i r ∙ e.c_is i r;
        T-is = e.T-is;
      }

  -- by sealing what is decrypted
  pub opening_by_paper : (cipher : List ℕ)
      → ByPaper tag_length key nonce «data» (length cipher) (bits_in (decrypted key nonce «data» cipher)) (bits_in cipher) (bits_in (new_tag_of_length tag_length key nonce «data» cipher))
  opening_by_paper cipher =
      same_cipher (length cipher) _ _ (bits_in cipher) _ (λ j l. sym (ciphertext_bits key nonce «data» cipher j l))
      (rw (tag-decrypted key nonce «data» tag_length fits cipher, decrypted-length key nonce «data» cipher) at (sealing_by_paper (decrypted key nonce «data» cipher)))
