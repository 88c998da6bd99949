-- Opening undoes sealing and sealing undoes opening, with the same state after both.
-- So a ciphertext and a tag open to a text exactly when they are the ciphertext and the tag of that text.
use mathlib.Core.Path.{◌≡◌, refl, sym, ap, ap₂, ◌∙◌}
use mathlib.Core.Bool.{Bool, true, false, not, ◌&&◌}
use mathlib.Core.List.{List}
use mathlib.Core.Logic.{◌↔◌}
use Prim.Native.Nat.{ℕ, ◌*◌, ◌≤◌, ◌<◌}
use native.Mathlib.Omega.{arith}
use lib.ListN.{length}
use Rattle.acorn_model.specs.Bits.{Bits, ◌⊕◌, bits_in, bytes}
use Rattle.calls.specs.Calls.{AreBytes}
use Rattle.acorn_model.specs.Step.{step, run, keystream_bit}
use Rattle.acorn_model.specs.Stretches.{text_piece, text_end, full_tag_length, inputs, through, keystream, text_out, tag_bytes, after_data}
use Rattle.acorn_model.specs.Paper.{ciphertext, tag_of_length, decrypted, new_tag_of_length, Opens}
use Rattle.acorn_model.proofs.Bytes.{bytes_same, bits_of_bytes, bytes_of_bits}
use Rattle.acorn_model.proofs.Runs.{run-same-at}
use Rattle.acorn_model.proofs.Outputs.{text_out-length, ciphertext_are_bytes}
use Rattle.acorn_model.proofs.Agree.{ciphertext_agrees, tag_agrees, decrypted_agrees, new_tag_agrees}

-- ## The stretch

-- the text bit that enters is the same, from the text or from the ciphertext
enters : (o b ks : Bool) → (not o && ks) ⊕ (b ⊕ ks) ≡ (o && ks) ⊕ b
enters true true true = refl
enters true true false = refl
enters true false true = refl
enters true false false = refl
enters false true true = refl
enters false true false = refl
enters false false true = refl
enters false false false = refl

twice : (b ks : Bool) → b ⊕ ks ⊕ ks ≡ b
twice true true = refl
twice true false = refl
twice false true = refl
twice false false = refl

-- c is the string l with the keystream, taken the other way
module _ (o : Bool) (S : Bits) (l c : List ℕ) (same_length : length c ≡ length l)
    (c_is : (j : ℕ) → j < 8 * length l → bits_in c j ≡ bits_in l j ⊕ keystream (text_piece o l) S j) where
  run-back : (k : ℕ) → k ≤ 8 * length l → run (inputs (text_piece (not o) c)) k S ≡ run (inputs (text_piece o l)) k S
  unfolding keystream
  run-back k h =
      run-same-at _ _ k S
      (λ i m. ap (λ (x : Bool). step true false x (run (inputs (text_piece o l)) i S))
      (ap (λ (x : Bool). (not o && keystream (text_piece o l) S i) ⊕ x) (c_is i (omega arith)) ∙ enters o (bits_in l i) (keystream (text_piece o l) S i)))

  pub through-back : through (text_piece (not o) c) S ≡ through (text_piece o l) S
  unfolding through
  through-back = ap (λ (n : ℕ). run (inputs (text_piece (not o) c)) (8 * n) S) same_length ∙ run-back (8 * length l) (omega arith)

  bit-back : (j : ℕ) → j < 8 * length l → bits_in c j ⊕ keystream (text_piece (not o) c) S j ≡ bits_in l j
  unfolding keystream
  bit-back j h = ap₂ ◌⊕◌ (c_is j h) (ap keystream_bit (run-back j (omega arith))) ∙ twice (bits_in l j) (keystream (text_piece o l) S j)

  pub text_out-back : AreBytes l → text_out (not o) c S ≡ l
  unfolding text_out
  text_out-back h =
      ap (λ (n : ℕ). bytes n (λ j. bits_in c j ⊕ keystream (text_piece (not o) c) S j)) same_length
      ∙ bytes_same (length l) _ _ bit-back ∙ bytes_of_bits l h

module _ (o : Bool) (l : List ℕ) (S : Bits) where
  pub text_out_bits : (j : ℕ) → j < 8 * length l → bits_in (text_out o l S) j ≡ bits_in l j ⊕ keystream (text_piece o l) S j
  unfolding text_out
  text_out_bits = bits_of_bytes (length l) _

  pub through_inverse : through (text_piece (not o) (text_out o l S)) S ≡ through (text_piece o l) S
  through_inverse = through-back o S l (text_out o l S) (text_out-length o l S) text_out_bits

  pub text_out_inverse : AreBytes l → text_out (not o) (text_out o l S) S ≡ l
  text_out_inverse = text_out-back o S l (text_out o l S) (text_out-length o l S) text_out_bits

-- ## The paper's functions

module _ (key nonce «data» : List ℕ) where
  pub decrypted-ciphertext : (text : List ℕ) → AreBytes text → decrypted key nonce «data» (ciphertext key nonce «data» text) ≡ text
  decrypted-ciphertext text h =
      rw (← decrypted_agrees key nonce «data» (ciphertext key nonce «data» text), ← ciphertext_agrees key nonce «data» text) (text_out_inverse false text (after_data key nonce «data») h)

  pub ciphertext-decrypted : (cipher : List ℕ) → AreBytes cipher → ciphertext key nonce «data» (decrypted key nonce «data» cipher) ≡ cipher
  ciphertext-decrypted cipher h =
      rw (← ciphertext_agrees key nonce «data» (decrypted key nonce «data» cipher), ← decrypted_agrees key nonce «data» cipher) (text_out_inverse true cipher (after_data key nonce «data») h)

  -- whatever the numbers of a ciphertext, it has the bits of what its text is encrypted to
  pub ciphertext_bits : (cipher : List ℕ) (j : ℕ) → j < 8 * length cipher → bits_in (ciphertext key nonce «data» (decrypted key nonce «data» cipher)) j ≡ bits_in cipher j
  ciphertext_bits cipher j h =
      let S = after_data key nonce «data» in
      let e = text_out-length true cipher S in
      rw (← ciphertext_agrees key nonce «data» (decrypted key nonce «data» cipher), ← decrypted_agrees key nonce «data» cipher)
      (text_out_bits false (text_out true cipher S) S j (omega arith) ∙ bit-back true S cipher (text_out true cipher S) e (text_out_bits true cipher S) j h)

  -- a ciphertext with the bits of what a text of bytes is encrypted to, whatever its numbers, is decrypted to that text, with its tag
  module _ (text cipher : List ℕ) (same_length : length cipher ≡ length text)
      (same_bits : (j : ℕ) → j < 8 * length text → bits_in cipher j ≡ bits_in (ciphertext key nonce «data» text) j) where
    with_keystream : (j : ℕ) → j < 8 * length text → bits_in cipher j ≡ bits_in text j ⊕ keystream (text_piece false text) (after_data key nonce «data») j
    with_keystream j h = same_bits j h ∙ (rw (← ciphertext_agrees key nonce «data» text) (text_out_bits false text (after_data key nonce «data») j h))

    pub decrypted-from_bits : AreBytes text → decrypted key nonce «data» cipher ≡ text
    decrypted-from_bits h = sym (decrypted_agrees key nonce «data» cipher) ∙ text_out-back false (after_data key nonce «data») text cipher same_length with_keystream h

    pub new_tag-from_bits : (n : ℕ) → n ≤ full_tag_length → new_tag_of_length n key nonce «data» cipher ≡ tag_of_length n key nonce «data» text
    new_tag-from_bits n h =
        sym (new_tag_agrees key nonce «data» n h cipher)
        ∙ ap (λ (S : Bits). tag_bytes n (through text_end S)) (through-back false (after_data key nonce «data») text cipher same_length with_keystream)
        ∙ tag_agrees key nonce «data» n h text

  -- ## A tag of n bytes

  module _ (n : ℕ) (h : n ≤ full_tag_length) where
    pub new_tag-ciphertext : (text : List ℕ) → new_tag_of_length n key nonce «data» (ciphertext key nonce «data» text) ≡ tag_of_length n key nonce «data» text
    new_tag-ciphertext text =
        rw (← new_tag_agrees key nonce «data» n h (ciphertext key nonce «data» text), ← ciphertext_agrees key nonce «data» text, ← tag_agrees key nonce «data» n h text)
        (ap (λ (S : Bits). tag_bytes n (through text_end S)) (through_inverse false text (after_data key nonce «data»)))

    pub tag-decrypted : (cipher : List ℕ) → tag_of_length n key nonce «data» (decrypted key nonce «data» cipher) ≡ new_tag_of_length n key nonce «data» cipher
    tag-decrypted cipher =
        rw (← tag_agrees key nonce «data» n h (decrypted key nonce «data» cipher), ← decrypted_agrees key nonce «data» cipher, ← new_tag_agrees key nonce «data» n h cipher)
        (ap (λ (S : Bits). tag_bytes n (through text_end S)) (through_inverse true cipher (after_data key nonce «data»)))

    pub opens_exactly : (cipher t text : List ℕ) → AreBytes cipher → AreBytes text
        → Opens n key nonce «data» cipher t text ↔ ((cipher ≡ ciphertext key nonce «data» text) × (t ≡ tag_of_length n key nonce «data» text))
    opens_exactly cipher t text hc ht = (forth, back)
      where
        forth : Opens n key nonce «data» cipher t text → (cipher ≡ ciphertext key nonce «data» text) × (t ≡ tag_of_length n key nonce «data» text)
        forth o =
            let c : cipher ≡ ciphertext key nonce «data» text = sym (ciphertext-decrypted cipher hc) ∙ ap (ciphertext key nonce «data») o.gives in
            (c, sym o.verifies ∙ ap (new_tag_of_length n key nonce «data») c ∙ new_tag-ciphertext text)

        back : (cipher ≡ ciphertext key nonce «data» text) × (t ≡ tag_of_length n key nonce «data» text) → Opens n key nonce «data» cipher t text
        back e =
            record {
              verifies = ap (new_tag_of_length n key nonce «data») e.0 ∙ new_tag-ciphertext text ∙ sym e.1;
              gives = ap (decrypted key nonce «data») e.0 ∙ decrypted-ciphertext text ht;
            }

    pub opens_with_tag : (text t : List ℕ) → AreBytes text
        → Opens n key nonce «data» (ciphertext key nonce «data» text) t text ↔ (t ≡ tag_of_length n key nonce «data» text)
    opens_with_tag text t ht =
        let e = opens_exactly (ciphertext key nonce «data» text) t text (ciphertext_are_bytes key nonce «data» text) ht in
        (λ o. (e.0 o).1, λ p. e.1 (refl, p))
