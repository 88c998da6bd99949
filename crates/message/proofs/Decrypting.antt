-- Decrypting into a buffer from its parts: the text run there, and its tag compared.
use mathlib.Core.Path.{◌≡◌, sym, ap, ap₂, ◌∙◌}
use mathlib.Core.Bool.{Bool, true, false}
use mathlib.Core.List.{List}
use Prim.Native.Nat.{ℕ, ◌+◌, ◌-◌, ◌≤◌}
use native.Mathlib.Omega.{arith}
use lib.ListN.{length, take, replicate}
use lib.Seq.{length-take-le}
use borrow.Author.Tests.{le-leb}
use Rattle.calls.specs.Calls.{written_over, same_bytes}
use Rattle.calls.proofs.Writing.{written-length}
use Rattle.acorn_model.specs.Bits.{Bits}
use Rattle.acorn_model.specs.Stretches.{full_tag_length, through, text_end, tag_bytes, after_data}
use Rattle.acorn_model.specs.Machine.{key_and_nonce_right}
use Rattle.acorn_model.specs.Message.{cipher_part, tag_part, tag_matches, opened}
use Rattle.acorn_model.proofs.Messages.{opened-length}
use Rattle.acorn.specs.Runs.{TextRun}
use Rattle.acorn.proofs.Callers.{text_output}
use Rattle.message.specs.Clauses.{decryptable, DecryptsInto}
use Rattle.message.proofs.Rest.{all_left, next_state, tag_last}
use Rattle.message.proofs.Opening.{all_matches, all_text}

module _ (key nonce «data» s buffer : List ℕ) where
  pub not-decrypted : decryptable key nonce s buffer ≡ false → DecryptsInto key nonce «data» s buffer false buffer
  not-decrypted e = record { answer = rw e; left = rw e }

  module _ (key_and_nonce : key_and_nonce_right key nonce ≡ true) (tag_there : full_tag_length ≤ length s) (room : length s - full_tag_length ≤ length buffer)
      (S S₁ : Bits) (mid : List ℕ) (good : Bool) (S-is : S ≡ after_data key nonce «data») (run : TextRun true S (cipher_part full_tag_length s) buffer S₁ mid)
      (good_is : good ≡ same_bytes (take (length s - (length s - full_tag_length)) (tag_part full_tag_length s)) (tag_bytes full_tag_length (through text_end S₁))) where
    abbrev n : ℕ
    n = length s - full_tag_length

    sized : decryptable key nonce s buffer ≡ true
    sized = rw (key_and_nonce, le-leb full_tag_length (length s) tag_there, le-leb n (length buffer) room)

    last : n + full_tag_length ≡ length s
    last = omega (arith, tag_there)

    within : n + full_tag_length ≤ length s
    within = omega (arith, last)

    matches : good ≡ tag_matches key nonce «data» s
    matches =
        good_is
        ∙ ap₂ (λ (l : List ℕ) (R : Bits). same_bytes l (tag_bytes full_tag_length (through text_end R))) (all_left S full_tag_length s n within) (next_state S full_tag_length s n within buffer mid S₁ room run)
        ∙ sym (tag_last S full_tag_length s n within last) ∙ all_matches full_tag_length key nonce «data» s S S-is (omega arith)

    written : mid ≡ written_over (opened key nonce «data» s) buffer
    written =
        text_output true S (cipher_part full_tag_length s) buffer S₁ mid (omega (arith, room, length-take-le n s (omega arith))) run
        ∙ ap (λ (l : List ℕ). written_over l buffer) (all_text full_tag_length key nonce «data» s S S-is)

    same_size : length mid ≡ length buffer
    same_size = ap length written ∙ written-length (opened key nonce «data» s) buffer (omega (arith, room, opened-length full_tag_length key nonce «data» s))

    pub decrypted_right : good ≡ true → DecryptsInto key nonce «data» s buffer good mid
    decrypted_right right = record { answer = rw (sized, ← matches); left = rw (sized, ← matches, right) written }

    pub decrypted_wrong : (after : List ℕ) → good ≡ false → after ≡ replicate (length mid) 0 → DecryptsInto key nonce «data» s buffer good after
    decrypted_wrong after wrong cleared = record { answer = rw (sized, ← matches); left = rw (sized, ← matches, wrong) (cleared ∙ ap (λ (k : ℕ). replicate k 0) same_size) }
