-- Sealing from its parts: the state in which the text begins, the text run into the output, and the tag written behind it.
use mathlib.Core.Path.{◌≡◌, sym, ap, ap₂, ◌∙◌}
use mathlib.Core.Bool.{false}
use mathlib.Core.List.{List}
use Prim.Native.Nat.{ℕ, ◌+◌, ◌-◌, ◌≤◌}
use native.Mathlib.Omega.{arith}
use lib.Dec.{ltb}
use lib.ListN.{length, take, drop, length-take, length-drop}
use borrow.Author.Tests.{le-ltb}
use borrow.Rule.Slice.PartMut.{put_mid}
use Rattle.acorn_model.specs.Bits.{Bits}
use Rattle.acorn_model.specs.Stretches.{full_tag_length, through, text_piece, text_end, text_out, tag_bytes, after_data}
use Rattle.calls.specs.declared.Refusal.{Refusal}
use Rattle.calls.specs.Refusals.{refusal_number}
use Rattle.calls.specs.Calls.{refused, done, written_over}
use Rattle.acorn_model.specs.Paper.{ciphertext, tag_of_length}
use Rattle.acorn_model.specs.Message.{sealed_with, seal_refusal, seal_message}
use Rattle.acorn_model.specs.Laws.{WithinLimits}
use Rattle.acorn_model.proofs.Agree.{ciphertext_agrees, tag_agrees}
use Rattle.acorn_model.proofs.Outputs.{ciphertext-length, tag-length, sealed-length}
use Rattle.calls.proofs.Writing.{written-length, written_behind}
use Rattle.acorn_model.proofs.Messages.{seal_told}
use Rattle.calls.proofs.Numbers.{not_zero}
use Rattle.calls.proofs.Results.{result-written, result_refused}
use Rattle.acorn.specs.Runs.{TextRun, tag_bytes_output}

-- the refusal is the answer, or none applies
module _ (tag_length : ℕ) (key nonce «data» text out : List ℕ) where
  pub sent_back : (r : Refusal) → refusal_number r ≡ seal_refusal tag_length key nonce «data» text out → seal_message tag_length key nonce «data» text out ≡ record { answer = refused (refusal_number r); out = out }
  unfolding seal_message
  sent_back r number = rw (← number) (result_refused (refusal_number r) _ _ out (not_zero r))

  pub let_through : 0 ≡ seal_refusal tag_length key nonce «data» text out → WithinLimits tag_length key nonce «data» text × (length text + tag_length ≤ length out)
  let_through none = seal_told tag_length key nonce «data» text out (sym none)

module _ (tag_length : ℕ) (key nonce «data» text out mid part : List ℕ) (S S₁ S₂ : Bits) (none : 0 ≡ seal_refusal tag_length key nonce «data» text out) (S-is : S ≡ after_data key nonce «data»)
    (run : TextRun false S text out S₁ mid) (S₂-is : S₂ ≡ through text_end S₁) (part_is : part ≡ tag_bytes_output tag_length S₂ (take (length mid - length text) (drop (length text) mid))) where
  abbrev c : List ℕ
  c = ciphertext key nonce «data» text

  abbrev t : List ℕ
  t = tag_of_length tag_length key nonce «data» text

  limits : WithinLimits tag_length key nonce «data» text × (length text + tag_length ≤ length out)
  limits = let_through tag_length key nonce «data» text out none

  room : length text + tag_length ≤ length out
  room = limits.1

  fits : ltb (length out) (length text) ≡ false
  fits = le-ltb (length out) (length text) (omega (arith, room))

  text-written : mid ≡ written_over c out
  text-written = (rw fits at run.output) ∙ ap (λ (l : List ℕ). written_over l out) (ap (text_out false text) S-is ∙ ciphertext_agrees key nonce «data» text)

  tag_is : tag_bytes tag_length S₂ ≡ t
  tag_is = ap (tag_bytes tag_length) (S₂-is ∙ ap (through text_end) ((rw fits at run.state) ∙ ap (through (text_piece false text)) S-is)) ∙ tag_agrees key nonce «data» tag_length limits.0.tag-most text

  long : length mid ≡ length out
  long = ap length text-written ∙ written-length c out (omega (arith, ciphertext-length key nonce «data» text, room))

  tag-written : part ≡ written_over t (take (length mid - length text) (drop (length text) mid))
  unfolding tag_bytes_output
  tag-written =
      let fits : ltb (length (take (length mid - length text) (drop (length text) mid))) tag_length ≡ false
      = le-ltb (length (take (length mid - length text) (drop (length text) mid))) tag_length (simp (length-take, length-drop) (omega (arith, long, room))) in
      (rw (le-ltb full_tag_length tag_length limits.0.tag-most, fits) at part_is) ∙ ap (λ (l : List ℕ). written_over l (take (length mid - length text) (drop (length text) mid))) tag_is

  pub sealed-by_parts : seal_message tag_length key nonce «data» text out ≡ record { answer = done (length text + tag_length); out = put_mid (length text) (length mid - length text) mid part }
  unfolding seal_message sealed_with
  sealed-by_parts =
      result-written _ _ _ out (sym none)
      ∙ ap₂ (λ (n : ℕ) (o : List ℕ). record { answer = done n; out = o }) (sealed-length key nonce «data» tag_length text)
      (sym (written_behind c t out mid part (length text) (ciphertext-length key nonce «data» text) (omega (arith, tag-length key nonce «data» tag_length text, room)) text-written tag-written))
