-- Whole messages and tapes: every call has an answer, and there are openings that are answered with 7.
use mathlib.Core.Path.{◌≡◌, refl, sym, ◌∙◌}
use mathlib.Core.Bool.{Bool, true, false}
use mathlib.Core.List.{List, []}
use Prim.Native.Nat.{ℕ, ◌-◌}
use native.Mathlib.Omega.{arith}
use lib.ListN.{length}
use borrow.Author.Tests.{le-ltb}
use Rattle.std.proofs.Common.{Result}
use Rattle.calls.specs.declared.Refusal.{Refusal}
use Rattle.acorn_model.specs.Paper.{new_tag_of_length}
use Rattle.calls.specs.Calls.{refused, unless_refused, same_bytes, as_reply, result_of}
use Rattle.acorn_model.specs.Message.{tag_matches_with, tag_refusal, open_refusal, seal_message, open_message}
use Rattle.acorn_model.specs.Laws.{WithinLimits}
use Rattle.acorn_model.specs.Stretches.{full_tag_length}
use Rattle.calls.proofs.SameBytes.{same-bytes-true}
use Rattle.acorn_model.proofs.Messages.{open_passed}
use Rattle.tape_model.specs.Ticket.{pack_head, unpack_head}
use Rattle.tape_model.specs.Tape.{is_tickets_length, is_tape_length, open_tape}
use Rattle.tape_model.specs.Tape as tape
use Rattle.message.specs.Clauses.{Seals, OpensTo}
use Rattle.demands.specs.Examples.{MessageExamples, OpeningReplies, TapeSeven}
use Rattle.demands.proofs.InCode.{result_for, seal_told, open_told, open_tape_told}

module _ (tag_length : ℕ) (key nonce «data» : List ℕ) where
  seals : (text out : List ℕ) → (r : Result ℕ Refusal) × (after : List ℕ) × Seals tag_length key nonce «data» text out r after
  seals text out =
      let o = seal_message tag_length key nonce «data» text out in
      let r = result_for o.answer (seal_told tag_length key nonce «data» text out) in
      (r.0, o.out, λ i. record { answer = sym r.1 i; out = o.out })

  opens : (s out : List ℕ) → (r : Result ℕ Refusal) × (after : List ℕ) × OpensTo tag_length key nonce «data» s out r after
  opens s out =
      let o = open_message tag_length key nonce «data» s out in
      let r = result_for o.answer (open_told tag_length key nonce «data» s out) in
      (r.0, o.out, λ i. record { answer = sym r.1 i; out = o.out })

  module _ (tag : List ℕ) (k : length tag ≡ tag_length) (n : tag ≡ new_tag_of_length tag_length key nonce «data» [] → ⊥) where
    no_match : tag_matches_with tag_length key nonce «data» tag ≡ false
    unfolding tag_matches_with
    no_match = let z : length tag - tag_length ≡ 0 = omega arith in rw z (differ (same_bytes tag (new_tag_of_length tag_length key nonce «data» [])) refl)
      where
        differ : (b : Bool) → same_bytes tag (new_tag_of_length tag_length key nonce «data» []) ≡ b → same_bytes tag (new_tag_of_length tag_length key nonce «data» []) ≡ false
        differ true e = absurd (n (same-bytes-true tag (new_tag_of_length tag_length key nonce «data» []) e))
        differ false e = e

    seven_answer : (out : List ℕ) → WithinLimits tag_length key nonce «data» [] → (open_message tag_length key nonce «data» tag out).answer ≡ refused 7
    unfolding open_message result_of unless_refused
    seven_answer out l =
        let e : open_refusal tag_length key nonce «data» tag out ≡ tag_refusal tag_length key nonce «data» tag =
        open_passed tag_length key nonce «data» tag out (record { tag-least = l.tag-least; tag-most = l.tag-most; key_size = l.key_size; nonce_size = l.nonce_size; data_limit = l.data_limit; tag_there = omega arith; text_limit = omega arith; room = omega arith }) in
        rw (e, no_match)

  seven : (tag out : List ℕ) → WithinLimits tag_length key nonce «data» [] → length tag ≡ tag_length → (tag ≡ new_tag_of_length tag_length key nonce «data» [] → ⊥)
      → (r : Result ℕ Refusal) × (after : List ℕ) × OpensTo tag_length key nonce «data» tag out r after × (as_reply r ≡ refused 7)
  seven tag out l k n =
      let o = opens tag out in
      (o.0, o.1, o.2, (λ i. (sym o.2 i).answer) ∙ seven_answer tag k n out l)

  pub message_examples : MessageExamples tag_length key nonce «data»
  message_examples = record { seals = seals; opens = opens; seven = seven }

-- ## Tapes

pub opening_replies : OpeningReplies
opening_replies key t out =
    let o = open_tape key t out in
    let r = result_for o.answer (open_tape_told key t out) in
    (r.0, o.out, λ i. record { answer = sym r.1 i; out = o.out })

pub tape_seven : TapeSeven
unfolding open_tape result_of unless_refused tape.open_tape_refusal is_tape_length is_tickets_length unpack_head pack_head
tape_seven key tag out k t n = rw (k, t, no_match full_tag_length key _ _ tag t n, le-ltb (length out) 0 (omega arith))
