-- Opening from its parts: the number that the sizes give, and what opening the rest comes to where it is all of the message. The tag has any
-- length, and where no number applies it has at most sixteen bytes.
use mathlib.Core.Path.{◌≡◌, sym, ap, ap₂, ◌∙◌}
use mathlib.Core.Bool.{Bool, true, false, not}
use mathlib.Core.List.{List}
use Prim.Native.Nat.{ℕ, ◌-◌, ◌≤◌}
use native.Mathlib.Omega.{arith}
use lib.ListN.{length}
use Rattle.acorn_model.specs.Bits.{Bits}
use Rattle.calls.specs.declared.Refusal.{Refusal}
use Rattle.calls.specs.Refusals.{refusal_number}
use Rattle.calls.specs.Calls.{◌if◌else◌, refused, done, unless_refused, written_over, same_bytes, result_of}
use Rattle.acorn_model.specs.Stretches.{full_tag_length, text_out, tag_bytes, after_data, before_final}
use Rattle.acorn_model.specs.Message.{cipher_part, tag_part, tag_matches_with, opened_with, tag_refusal, open_refusal, open_message}
use Rattle.calls.proofs.Numbers.{not_zero}
use Rattle.calls.proofs.Refusals.{refused_if}
use Rattle.acorn_model.proofs.Agree.{decrypted_agrees, new_tag_agrees}
use Rattle.acorn_model.proofs.Messages.{Openable, open_told, opened-length}
use Rattle.calls.proofs.Results.{result-written, result_refused}
use Rattle.message.specs.Clauses.{rest_matches, rest_opened}

7-or-none : (matches : Bool) (n : ℕ) → (n ≡ 0 → ⊥) → (n ≡ 7 → ⊥) → (7 if not matches else 0) ≡ n → ⊥
7-or-none true n h0 h7 e = h0 (sym e)
7-or-none false n h0 h7 e = h7 (sym e)

-- ## All of a message as the rest of it, in the state in which its text begins

module _ (tag_length : ℕ) (key nonce «data» s : List ℕ) (S : Bits) (S-is : S ≡ after_data key nonce «data») where
  pub all_matches : tag_length ≤ full_tag_length → rest_matches S tag_length s ≡ tag_matches_with tag_length key nonce «data» s
  unfolding tag_matches_with rest_matches
  all_matches fits = ap (same_bytes (tag_part tag_length s)) (ap (λ (R : Bits). tag_bytes tag_length (before_final true (cipher_part tag_length s) R)) S-is ∙ new_tag_agrees key nonce «data» tag_length fits (cipher_part tag_length s))

  pub all_text : text_out true (cipher_part tag_length s) S ≡ opened_with tag_length key nonce «data» s
  unfolding opened_with
  all_text = ap (text_out true (cipher_part tag_length s)) S-is ∙ decrypted_agrees key nonce «data» (cipher_part tag_length s)

module _ (tag_length : ℕ) (key nonce «data» s out : List ℕ) where
  -- ## The number that the sizes give

  pub sent_back : (r : Refusal) → open_refusal tag_length key nonce «data» s out ≡ unless_refused (refusal_number r) (tag_refusal tag_length key nonce «data» s) (refusal_number r)
      → open_message tag_length key nonce «data» s out ≡ record { answer = refused (refusal_number r); out = out }
  unfolding open_message
  sent_back r number = rw (number ∙ refused_if (refusal_number r) (tag_refusal tag_length key nonce «data» s) (refusal_number r) (not_zero r)) (result_refused (refusal_number r) _ _ out (not_zero r))

  pub let_through : open_refusal tag_length key nonce «data» s out ≡ unless_refused 0 (tag_refusal tag_length key nonce «data» s) 0 → open_refusal tag_length key nonce «data» s out ≡ tag_refusal tag_length key nonce «data» s
  unfolding unless_refused
  let_through none = none

  -- ## What is left to the tag

  module _ (only-tag : open_refusal tag_length key nonce «data» s out ≡ tag_refusal tag_length key nonce «data» s) where
    not-by-tag : (n : ℕ) → (n ≡ 0 → ⊥) → (n ≡ 7 → ⊥) → tag_refusal tag_length key nonce «data» s ≡ n → ⊥
    not-by-tag = 7-or-none (tag_matches_with tag_length key nonce «data» s)

    pub openable : Openable tag_length key nonce «data» s out
    openable =
        (open_told tag_length key nonce «data» s out (tag_refusal tag_length key nonce «data» s)
        (not-by-tag 9 (omega arith) (omega arith)) (not-by-tag 2 (omega arith) (omega arith)) (not-by-tag 5 (omega arith) (omega arith)) (not-by-tag 6 (omega arith) (omega arith)) only-tag).0

    -- what opening the rest of the message came to, where the rest is all of it
    module _ (S : Bits) (same : Bool) (out' : List ℕ) (S-is : S ≡ after_data key nonce «data») (same-is : same ≡ rest_matches S tag_length s) (out_is : out' ≡ rest_opened S tag_length s out) where
      verdict : same ≡ tag_matches_with tag_length key nonce «data» s
      verdict = same-is ∙ all_matches tag_length key nonce «data» s S S-is openable.tag-most

      pub opened-by-rest : same ≡ true → open_message tag_length key nonce «data» s out ≡ record { answer = done (length s - tag_length); out = out' }
      unfolding open_message rest_opened
      opened-by-rest matches =
          let number : open_refusal tag_length key nonce «data» s out ≡ 0 = only-tag ∙ (rw (← verdict, matches)) in
          result-written _ _ _ out number
          ∙ ap₂ (λ (n : ℕ) (o : List ℕ). record { answer = done n; out = o }) (opened-length tag_length key nonce «data» s)
          (sym (out_is ∙ (rw (← same-is, matches)) ∙ ap (λ (l : List ℕ). written_over l out) (all_text tag_length key nonce «data» s S S-is)))

      pub refused_by-tag : same ≡ false → open_message tag_length key nonce «data» s out ≡ record { answer = refused 7; out = out' }
      unfolding open_message result_of unless_refused rest_opened
      refused_by-tag differs =
          let number : open_refusal tag_length key nonce «data» s out ≡ 7 = only-tag ∙ (rw (← verdict, differs)) in
          let kept : out ≡ out' = sym (out_is ∙ (rw (← same-is, differs))) in
          (rw number) ∙ ap (λ (o : List ℕ). record { answer = refused 7; out = o }) kept
