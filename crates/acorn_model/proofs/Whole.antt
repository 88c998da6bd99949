-- Whole opening: the tag matches and a text comes out exactly where the sealed bytes are that text sealed.
use mathlib.Core.Path.{◌≡◌, sym, ap, ap₂, ◌∙◌}
use mathlib.Core.Bool.{true}
use mathlib.Core.List.{List, ◌++◌}
use mathlib.Core.Logic.{◌↔◌}
use Prim.Native.Nat.{ℕ, ◌-◌, ◌≤◌}
use native.Mathlib.Omega.{arith}
use lib.ListN.{length, length-append, take-append-drop}
use lib.Seq.{take_at, drop_at}
use Rattle.calls.specs.Calls.{AreBytes}
use Rattle.acorn_model.specs.Paper.{ciphertext, tag_of_length, new_tag_of_length, Opens}
use Rattle.acorn_model.specs.Stretches.{full_tag_length}
use Rattle.acorn_model.specs.Message.{cipher_part, tag_part, sealed_with, tag_matches_with, opened_with}
use Rattle.calls.proofs.AreBytes.{take_are_bytes}
use Rattle.acorn_model.proofs.Outputs.{tag-length}
use Rattle.calls.proofs.SameBytes.{same-bytes-refl, same-bytes-true}
use Rattle.acorn_model.proofs.Inverse.{opens_exactly}

-- the tag has n bytes
module _ (n : ℕ) (key nonce «data» : List ℕ) where
  parts : (text : List ℕ) → length (ciphertext key nonce «data» text) ≡ length (sealed_with n key nonce «data» text) - n
  unfolding sealed_with
  parts text = simp length-append (omega (arith, tag-length key nonce «data» n text))

  pub cipher-part : (text : List ℕ) → cipher_part n (sealed_with n key nonce «data» text) ≡ ciphertext key nonce «data» text
  unfolding sealed_with
  cipher-part text = take_at (ciphertext key nonce «data» text) (tag_of_length n key nonce «data» text) (length (sealed_with n key nonce «data» text) - n) (parts text)

  pub tag-part : (text : List ℕ) → tag_part n (sealed_with n key nonce «data» text) ≡ tag_of_length n key nonce «data» text
  unfolding sealed_with
  tag-part text = drop_at (ciphertext key nonce «data» text) (tag_of_length n key nonce «data» text) (length (sealed_with n key nonce «data» text) - n) (parts text)

  -- the tag matches and the text comes out: the ciphertext and the tag in the sealed bytes open to it
  opens : (w text : List ℕ) → ((tag_matches_with n key nonce «data» w ≡ true) × (opened_with n key nonce «data» w ≡ text)) ↔ Opens n key nonce «data» (cipher_part n w) (tag_part n w) text
  unfolding tag_matches_with opened_with
  opens w text = (
    λ h. record { verifies = sym (same-bytes-true (tag_part n w) (new_tag_of_length n key nonce «data» (cipher_part n w)) h.0); gives = h.1 },
    λ (o : Opens n key nonce «data» (cipher_part n w) (tag_part n w) text). (rw o.verifies (same-bytes-refl (tag_part n w)), o.gives),
  )

  pub opened_exactly : n ≤ full_tag_length → (w text : List ℕ) → AreBytes w → AreBytes text
      → ((tag_matches_with n key nonce «data» w ≡ true) × (opened_with n key nonce «data» w ≡ text)) ↔ (w ≡ sealed_with n key nonce «data» text)
  unfolding sealed_with
  opened_exactly fits w text hw ht = (
    λ h. let e = (opens_exactly key nonce «data» n fits (cipher_part n w) (tag_part n w) text (take_are_bytes (length w - n) w hw) ht).0 ((opens w text).0 h) in
        sym (take-append-drop (length w - n) w) ∙ ap₂ ◌++◌ e.0 e.1,
    λ (e : w ≡ sealed_with n key nonce «data» text). (opens w text).1
        ((opens_exactly key nonce «data» n fits (cipher_part n w) (tag_part n w) text (take_are_bytes (length w - n) w hw) ht).1 (ap (cipher_part n) e ∙ cipher-part text, ap (tag_part n) e ∙ tag-part text)),
  )
