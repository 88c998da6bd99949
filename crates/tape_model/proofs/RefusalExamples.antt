-- The examples of document 01's table of numbers hold: what needs no step of the cipher computes, and the rest follows from the laws of sealing.
use mathlib.Core.Path.{◌≡◌, refl, ap, ap₂, ◌∙◌}
use mathlib.Core.Bool.{Bool, true, false, not, ◌&&◌}
use mathlib.Core.List.{List, [], ◌∷◌, ◌++◌}
use Prim.Native.Nat.{ℕ, ◌+◌, ◌-◌, ◌*◌, ◌≤◌, ◌<◌}
use native.Mathlib.Omega.{arith}
use lib.Dec.{leb, ltb, eqb}
use lib.ListN.{length, length-append}
use lib.Seq.{take_at, drop_at}
use borrow.Author.Tests.{leb-true, le-leb, le-ltb, eq-eqb, ne_eqb}
use Rattle.calls.specs.Calls.{AreBytes, ◌if◌else◌, refused, accepted, unless_refused, same_bytes, refused_with, result_of, is_refused}
use Rattle.acorn_model.specs.Paper.{ciphertext, tag_of_length, new_tag_of_length}
use Rattle.calls.specs.Lists.{handed_on}
use Rattle.acorn_model.specs.Stretches.{full_tag_length}
use Rattle.acorn_model.specs.Machine.{least_tag_length, fresh, phase_allows, fixes_right, sizes_right, over_limit, output_short, refusal, key_length, run_through, enter, cleared, count_data, begun, data_taken, text_taken, answered, wrote, work, call}
use Rattle.acorn_model.specs.Message.{cipher_part, tag_part, sealed_with, sealed, seal_refusal, seal_message, tag_matches_with, tag_matches, opened, open_message}
use Rattle.acorn_model.specs.Laws.{WithinLimits}
use Rattle.acorn_model.proofs.Outputs.{tag-length, sealed-length}
use Rattle.acorn_model.proofs.Messages.{open_passed}
use Rattle.acorn_model.proofs.Proved.{opening_exact}
use Rattle.tape_model.specs.declared.Ticket.{Ticket}
use Rattle.tape_model.specs.declared.Head.{Head}
use Rattle.tape_model.specs.Ticket.{ticket_length, ordered, values_rule, ticket_rule, unpack_ticket, head_length, head_rule, pack_head, unpack_head}
use Rattle.tape_model.specs.Tape.{ticket_limit, nonce_of, pack_tickets, tape_of, is_tickets_length, unpack_tickets, empty_tape_length, is_tape_length, head_bytes, sealed_bytes, ticket_count, plain_bytes, open_tape_refusal, open_tape}
use Rattle.tape_model.specs.Writer as plain
use Rattle.tape_model.specs.Reader.{reader_over, read_next, handed_out}
use Rattle.tape_model.specs.RefusalExamples.{AllGive, rows, bit7_turned, last_bit_turned, RefusalExamples}
use Rattle.tape_model.proofs.Tickets.{head_inverse, head-length}
use Rattle.tape_model.proofs.Tapes.{tickets-length, tickets-bytes, length_allowed}

-- ## The table

table : AllGive rows
unfolding unless_refused refused_with handed_on fresh phase_allows fixes_right sizes_right over_limit output_short refusal call work wrote answered
    run_through enter cleared count_data begun data_taken text_taken result_of seal_refusal seal_message
    plain.writer_call plain.refusal plain.phase_allows plain.key_right plain.head_right plain.ticket_right plain.tape_full plain.output_short
    ordered values_rule ticket_rule unpack_ticket head_rule unpack_head is_tickets_length is_tape_length open_tape open_tape_refusal reader_over read_next handed_out
table = (refl, (refl, (refl, (refl, (refl, (refl, (refl, (refl, (refl, (refl, tt))))))))))

-- ## A last bit turned

turned-differs : (x : ℕ) → bit7_turned x ≡ x → ⊥
turned-differs x = by (leb 128 x) refl
  where
    by : (b : Bool) → leb 128 x ≡ b → (x - 128 if b else x + 128) ≡ x → ⊥
    by true e h = let l = leb-true 128 x e in omega arith
    by false e h = omega arith

turned-length : (l : List ℕ) → length (last_bit_turned l) ≡ length l
unfolding last_bit_turned
turned-length [] = refl
turned-length (x ∷ []) = refl
turned-length (x ∷ y ∷ l) = omega (arith, turned-length (y ∷ l))

differs : (l : List ℕ) → 0 < length l → same_bytes (last_bit_turned l) l ≡ false
unfolding last_bit_turned same_bytes
differs [] h = absurd (omega arith)
differs (x ∷ []) h = rw (ne_eqb (bit7_turned x) x (turned-differs x))
differs (x ∷ y ∷ l) h = rw (eq-eqb x x refl) (differs (y ∷ l) (omega arith))

turned-append : (l k : List ℕ) → 0 < length k → last_bit_turned (l ++ k) ≡ l ++ last_bit_turned k
unfolding last_bit_turned
turned-append [] k h = refl
turned-append (x ∷ []) [] h = absurd (omega arith)
turned-append (x ∷ []) (y ∷ k) h = refl
turned-append (x ∷ y ∷ l) k h = ap (◌∷◌ x) (turned-append (y ∷ l) k h)

-- ## Messages

module _ (tag_length : ℕ) (least : least_tag_length ≤ tag_length) (most : tag_length ≤ full_tag_length) (key nonce «data» text : List ℕ) (b : AreBytes text) where
  abbrev c : List ℕ
  c = ciphertext key nonce «data» text

  abbrev T : List ℕ
  T = tag_of_length tag_length key nonce «data» text

  abbrev turned : List ℕ
  turned = last_bit_turned (sealed_with tag_length key nonce «data» text)

  parts : turned ≡ c ++ last_bit_turned T
  unfolding sealed_with
  parts = turned-append c T (omega (arith, tag-length key nonce «data» tag_length text))

  size : length turned ≡ length text + tag_length
  size = turned-length (sealed_with tag_length key nonce «data» text) ∙ sealed-length key nonce «data» tag_length text

  no_match : tag_matches_with tag_length key nonce «data» turned ≡ false
  unfolding tag_matches_with
  no_match =
      let T' : List ℕ = last_bit_turned T in
      let n : length c ≡ length (c ++ T') - tag_length = simp length-append (omega (arith, turned-length T, tag-length key nonce «data» tag_length text)) in
      let own : new_tag_of_length tag_length key nonce «data» c ≡ T = (((opening_exact tag_length key nonce «data» most).with_tag text T b).1 refl).verifies in
      ap (λ (w : List ℕ). same_bytes (tag_part tag_length w) (new_tag_of_length tag_length key nonce «data» (cipher_part tag_length w))) parts
      ∙ ap₂ (λ (t d : List ℕ). same_bytes t (new_tag_of_length tag_length key nonce «data» d)) (drop_at c T' _ n) (take_at c T' _ n)
      ∙ ap (same_bytes T') own ∙ differs T (omega (arith, tag-length key nonce «data» tag_length text))

  message_tag : (out : List ℕ) → WithinLimits tag_length key nonce «data» text → length text ≤ length out → (open_message tag_length key nonce «data» turned out).answer ≡ refused 7
  unfolding open_message result_of unless_refused
  message_tag out w room =
      let e = open_passed tag_length key nonce «data» turned out (record {
        tag-least = least;
        tag-most = most;
        key_size = w.key_size;
        nonce_size = w.nonce_size;
        data_limit = w.data_limit;
        tag_there = omega (arith, size);
        text_limit = omega (arith, size, w.text_limit);
        room = omega (arith, size);
      }) in
      rw (e, no_match)

-- ## Tapes

past_6 : (a b c : Bool) (rest : ℕ) → a ≡ true → b ≡ false → c ≡ false → (2 if not a else 3 if b else 6 if c else rest) ≡ rest
past_6 a b c rest p q r = rw (p, q, r)

-- a tape of 16 bytes and 13 for each of n tickets behind a head in its ranges: 7 and 8 are left
module _ (key : List ℕ) (head : Head) (k : length key ≡ key_length) (h : head_rule head ≡ true) where
  abbrev H : List ℕ
  H = pack_head head

  module _ (S : List ℕ) (n : ℕ) (long : length S ≡ full_tag_length + ticket_length * n) (few : n ≤ ticket_limit) (out : List ℕ) (room : ticket_length * n ≤ length out) where
    abbrev behind : List ℕ
    behind = H ++ S

    abbrev later : ℕ
    later = 7 if not (tag_matches key (nonce_of H) H S) else 8 if is_refused (unpack_tickets n (opened key (nonce_of H) H S)) else accepted

    whole : length behind ≡ empty_tape_length + ticket_length * n
    whole = simp length-append (omega (arith, head-length head))

    sizes : (eqb (length key) key_length && is_tape_length (length behind)) ≡ true
    unfolding is_tape_length
    sizes =
        ap₂ ◌&&◌ (eq-eqb (length key) key_length k)
        (ap₂ ◌&&◌ (le-leb empty_tape_length (length behind) (omega (arith, whole)))
        (ap is_tickets_length {x = length behind - empty_tape_length} {y = ticket_length * n} (omega (arith, whole)) ∙ length_allowed n few))

    count : ticket_count behind ≡ n
    count = omega (arith, whole)

    left : open_tape_refusal key behind out ≡ later
    unfolding open_tape_refusal plain_bytes
    left =
        let first : head_bytes behind ≡ H = take_at H S head_length (head-length head) in
        let rest : sealed_bytes behind ≡ S = drop_at H S head_length (head-length head) in
        past_6 (eqb (length key) key_length && is_tape_length (length behind)) (is_refused (unpack_head (head_bytes behind))) (ltb (length out) (ticket_length * ticket_count behind)) _
        sizes (ap is_refused (ap unpack_head first ∙ head_inverse.unpack-pack head h)) (le-ltb (length out) (ticket_length * ticket_count behind) (omega (arith, count)))
        ∙ (λ i. 7 if not (tag_matches key (nonce_of (first i)) (first i) (rest i)) else 8 if is_refused (unpack_tickets (count i) (opened key (nonce_of (first i)) (first i) (rest i))) else accepted)

    answer_7 : tag_matches key (nonce_of H) H S ≡ false → (open_tape key behind out).answer ≡ refused 7
    unfolding open_tape result_of unless_refused
    answer_7 m = rw (left, m)

  tape-tag : (tickets : List Ticket) (out : List ℕ) → length tickets ≤ ticket_limit → ticket_length * length tickets ≤ length out
      → (open_tape key (last_bit_turned (tape_of key head tickets)) out).answer ≡ refused 7
  unfolding tape_of
  tape-tag ts out few room =
      let text : List ℕ = pack_tickets ts in
      let long : length (sealed key (nonce_of H) H text) ≡ full_tag_length + ticket_length * length ts = omega (arith, sealed-length key (nonce_of H) H full_tag_length text, tickets-length ts) in
      ap (λ (t : List ℕ). (open_tape key t out).answer) (turned-append H (sealed key (nonce_of H) H text) (omega arith))
      ∙ answer_7 (turned full_tag_length (omega arith) (omega arith) key (nonce_of H) H text (tickets-bytes ts)) (length ts) (omega (arith, turned-length (sealed key (nonce_of H) H text))) few out room
      (no_match full_tag_length (omega arith) (omega arith) key (nonce_of H) H text (tickets-bytes ts))

pub refusal-examples : RefusalExamples
refusal-examples =
    record {
      table = table;
      message_tag = λ n key nonce d text out b w. message_tag n w.tag-least w.tag-most key nonce d text b out w;
      tape-tag = λ key head ts out k h. tape-tag key head k h ts out;
    }
