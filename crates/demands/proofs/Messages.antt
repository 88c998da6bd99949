-- Demand 2 on whole messages, from the contracts and the laws of the definitions.
use mathlib.Core.Path.{◌≡◌, sym, ap, ap₂, ◌∙◌}
use mathlib.Core.Bool.{Bool, false, not}
use mathlib.Core.List.{List, ◌++◌}
use Prim.Native.Nat.{ℕ, ◌≤◌}
use lib.ListN.{length}
use Rattle.acorn_model.specs.Bits.{Bits, bits_in, bytes}
use Rattle.calls.specs.Calls.{◌if◌else◌, done, refused, unless_refused, written_over, result_of, as_reply}
use Rattle.acorn_model.specs.Paper.{ciphertext, tag_of_length, decrypted, new_tag_of_length}
use Rattle.acorn_model.specs.Message.{sealed_with, tag_matches_with, opened_with, tag_refusal, open_refusal, open_message}
use Rattle.acorn_model.specs.Laws.{ByPaper}
use Rattle.acorn_model.specs.Stretches.{full_tag_length}
use Rattle.acorn_model.proofs.Messages.{Openable, open_passed}
use Rattle.acorn_model.proofs.Proved.{paper_computed, message_laws}
use Rattle.demands.specs.Messages.{MessageDemand, EveryMessage}

module _ (tag_length : ℕ) (fits : tag_length ≤ full_tag_length) (key nonce «data» : List ℕ) where
  -- the paper's ciphertext and tag are the sealed bytes
  pub by_paper : (text : List ℕ) (c T : Bits) → ByPaper tag_length key nonce «data» (length text) (bits_in text) c T → bytes (length text) c ++ bytes tag_length T ≡ sealed_with tag_length key nonce «data» text
  unfolding sealed_with
  by_paper text c T p = let e = (paper_computed tag_length key nonce «data» fits).sealing_only text c T p in ap₂ ◌++◌ e.0 e.1

  -- past 9, 2, 5 and 6, a tag that differs is answered 7
  answered_7 : (s out : List ℕ) → open_refusal tag_length key nonce «data» s out ≡ tag_refusal tag_length key nonce «data» s → tag_matches_with tag_length key nonce «data» s ≡ false
      → (open_message tag_length key nonce «data» s out).answer ≡ refused 7
  unfolding open_message result_of unless_refused
  answered_7 s out e m =
      ap (λ (n : ℕ). (result_of n (length (opened_with tag_length key nonce «data» s)) (opened_with tag_length key nonce «data» s) out).answer) (e ∙ ap (λ (b : Bool). 7 if not b else 0) m)

  pub message_demand : MessageDemand tag_length key nonce «data»
  message_demand =
      record {
        sealing = λ text out after r h w room c T p.
            let e = sym h ∙ (message_laws tag_length key nonce «data»).seals text out w room in
            (λ i. (e i).answer, (λ i. (e i).out) ∙ ap (λ (l : List ℕ). written_over l out) (sym (by_paper text c T p)));
        sealable = λ text. (bits_in (ciphertext key nonce «data» text), bits_in (tag_of_length tag_length key nonce «data» text), (paper_computed tag_length key nonce «data» fits).sealing text);
        openable = λ cipher. (bits_in (decrypted key nonce «data» cipher), bits_in (new_tag_of_length tag_length key nonce «data» cipher), (paper_computed tag_length key nonce «data» fits).opening cipher);
        opening = λ s text out after r hs ht w room h c T p.
            let e = (message_laws tag_length key nonce «data»).opens_exactly s text out hs ht in (
              λ (a : (as_reply r ≡ done (length text)) × (after ≡ written_over text out)).
                  (e.0 (h ∙ (λ i. record { answer = a.0 i; out = a.1 i }))).2 ∙ sym (by_paper text c T p),
              λ (b : s ≡ bytes (length text) c ++ bytes tag_length T).
                  let g = sym h ∙ e.1 (w, room, b ∙ by_paper text c T p) in (λ i. (g i).answer, λ i. (g i).out),
            );
        seven = λ s out after r h least most k n d t l room m.
            let o : Openable tag_length key nonce «data» s out = record { tag-least = least; tag-most = most; key_size = k; nonce_size = n; data_limit = d; tag_there = t; text_limit = l; room = room } in
            let e : as_reply r ≡ refused 7 = (λ i. (sym h i).answer) ∙ answered_7 s out (open_passed tag_length key nonce «data» s out o) m in
            (e, (λ i. (sym h i).out) ∙ (message_laws tag_length key nonce «data»).open_refused 7 s out ((λ i. (h i).answer) ∙ e));
      }

pub every_message : EveryMessage
every_message n least most = message_demand n most
