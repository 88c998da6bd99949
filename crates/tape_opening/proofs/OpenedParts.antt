-- Opening a tape into a scratch from its parts: the text decrypted, whether the tag matches, and the totals of the text.
use mathlib.Core.Path.{◌≡◌, refl, sym, ap, ◌∙◌}
use mathlib.Core.Bool.{Bool, true, false}
use mathlib.Core.List.{List}
use Prim.Native.Nat.{ℕ, ◌+◌, ◌-◌, ◌≤◌}
use native.Mathlib.Omega.{arith}
use lib.ListN.{length, take, drop, replicate, length-append, length-drop}
use lib.Seq.{length-take-le, take_all, take_at}
use borrow.Author.Tests.{eq-eqb, le-leb}
use Rattle.calls.specs.Calls.{◌if◌else◌, Reply, refused, done, map_reply, unless_refused, written_over, result_of, is_refused}
use Rattle.acorn_model.specs.Machine.{key_length, nonce_length}
use Rattle.acorn_model.specs.Message.{tag_matches}
use Rattle.acorn_model.specs.Stretches.{full_tag_length}
use Rattle.acorn_model.proofs.Messages.{opened-length}
use Rattle.tape_model.specs.declared.Ticket.{Ticket}
use Rattle.tape_model.specs.Ticket.{head_length}
use Rattle.tape_model.specs.declared.Totals.{Totals}
use Rattle.tape_model.specs.Tape.{nonce_of, is_tickets_length, unpack_tickets, totals_of, of_plain, plain_totals, empty_tape_length, head_bytes, sealed_bytes, ticket_count, plain_bytes, open_tape_refusal, open_tape, plain_tickets}
use Rattle.tape_model.proofs.Unpacking.{unpacked_count}
use Rattle.message.specs.Clauses.{decryptable, DecryptsInto}
use Rattle.ticket.specs.Packing.{nonce_or_zeros}
use Rattle.ticket.proofs.Nonce.{nonce_is}
use Rattle.tape_opening.specs.Clauses.{scratch_after, open_scratch, sealed_refusal}
use Rattle.tape_opening.proofs.Sizes.{text_refusal, Openable, openable, refused_into}

abbrev net_of : Reply Totals → ℕ
net_of (refused n) = 0
net_of (done k) = k.net

abbrev count_of : Reply Totals → ℕ
count_of (refused n) = 0
count_of (done k) = k.tickets

pub rest-is : (tape : List ℕ) → take (length tape - head_length) (drop head_length tape) ≡ sealed_bytes tape
rest-is tape = take_all (length tape - head_length) (drop head_length tape) (omega (arith, length-drop head_length tape))

module _ (key tape : List ℕ) (sealed : sealed_refusal key tape ≡ 0) (scratch : List ℕ) (room : length tape ≤ length scratch + empty_tape_length) where
  abbrev o : Openable key tape scratch
  o = openable key tape sealed scratch room

  plain-length : length (plain_bytes key tape) ≡ length tape - empty_tape_length
  unfolding plain_bytes
  plain-length = opened-length full_tag_length key (nonce_of (head_bytes tape)) (head_bytes tape) (sealed_bytes tape) ∙ omega (arith, length-drop head_length tape)

  -- what decrypting the sealed bytes came to
  module _ (nonce given mid : List ℕ) (good : Bool) (nonce_told : nonce ≡ nonce_or_zeros (head_bytes tape)) (given-is : given ≡ sealed_bytes tape)
      (decrypted : DecryptsInto key nonce (head_bytes tape) given scratch good mid) where
    abbrev head : List ℕ
    head = head_bytes tape

    head_size : length head ≡ head_length
    head_size = length-take-le head_length tape (omega (arith, o.tape_size.long))

    nonce_size : length (nonce_of head) ≡ nonce_length
    nonce_size = length-append head (replicate 7 0) ∙ ap (λ (n : ℕ). n + 7) head_size

    by_model : DecryptsInto key (nonce_of head) head (sealed_bytes tape) scratch good mid
    by_model = rw (nonce_told ∙ nonce_is head head_size, given-is) at decrypted

    sized : decryptable key (nonce_of head) (sealed_bytes tape) scratch ≡ true
    sized = rw (
      eq-eqb (length key) key_length o.key_size,
      eq-eqb (length (nonce_of head)) nonce_length nonce_size,
      le-leb full_tag_length (length (sealed_bytes tape)) (omega (arith, length-drop head_length tape, o.tape_size.long)),
      le-leb (length (sealed_bytes tape) - full_tag_length) (length scratch) (omega (arith, length-drop head_length tape, o.room)),
    )

    verdict : tag_matches key (nonce_of head) head (sealed_bytes tape) ≡ good
    verdict = sym (rw sized at by_model.answer)

    pub wrong_tag : good ≡ false → open_scratch key tape scratch ≡ record { answer = refused 7; out = mid }
    wrong_tag bad =
        let cleared : mid ≡ replicate (length scratch) 0 = rw (sized, verdict, bad) at by_model.left in
        refused_into key tape scratch 6 true refl (o.only_text ∙ (unfold text_refusal in rw (verdict ∙ bad))) ∙ ap (λ (l : List ℕ). record { answer = refused 7; out = l }) (sym cleared)

    module _ (piece : List ℕ) (t : Reply Totals) (right : good ≡ true) (piece_is : piece ≡ take (length tape - empty_tape_length) mid) (t_is : t ≡ plain_totals piece) where
      abbrev tickets : Reply (List Ticket)
      tickets = unpack_tickets (ticket_count tape) (plain_bytes key tape)

      text-written : mid ≡ written_over (plain_bytes key tape) scratch
      unfolding plain_bytes
      text-written = rw (sized, verdict, right) at by_model.left

      plain-is : piece ≡ plain_bytes key tape
      unfolding written_over
      plain-is =
          piece_is ∙ ap (take (length tape - empty_tape_length)) text-written
          ∙ take_at (plain_bytes key tape) (drop (length (plain_bytes key tape)) scratch) (length tape - empty_tape_length) plain-length

      totals_are : t ≡ map_reply totals_of tickets
      unfolding plain_totals of_plain plain_tickets is_tickets_length
      totals_are =
          t_is ∙ ap plain_totals plain-is
          ∙ rw (plain-length, eq-eqb _ 0 o.tape_size.whole, le-leb _ _ o.tape_size.few) refl

      number_is : open_tape_refusal key tape scratch ≡ (8 if is_refused tickets else 0)
      number_is = o.only_text ∙ (unfold text_refusal in rw (verdict ∙ right))

      pub wrong_ticket : (n : ℕ) → t ≡ refused n → open_scratch key tape scratch ≡ record { answer = refused 8; out = replicate (length scratch) 0 }
      unfolding map_reply
      wrong_ticket n e = refused_into key tape scratch 7 true refl (number_is ∙ by tickets (sym e ∙ totals_are))
        where
          by : (u : Reply (List Ticket)) → refused n ≡ map_reply totals_of u → ◌≡◌ {A = ℕ} (8 if is_refused u else 0) 8
          by (refused m) f = refl
          by (done ts) f = absurd (let z : ◌≡◌ {A = ℕ} 0 1 = cc in omega arith)

      pub opened-by_parts : (k : Totals) → t ≡ done k → open_scratch key tape scratch ≡ record { answer = done k; out = mid }
      unfolding open_scratch scratch_after open_tape result_of unless_refused map_reply
      opened-by_parts k e = by tickets refl (sym e ∙ totals_are)
        where
          by : (u : Reply (List Ticket)) → tickets ≡ u → done k ≡ map_reply totals_of u → open_scratch key tape scratch ≡ record { answer = done k; out = mid }
          by (refused m) d f = absurd (let z : ◌≡◌ {A = ℕ} 0 1 = cc in omega arith)
          by (done ts) d f =
              let number : open_tape_refusal key tape scratch ≡ 0 = number_is ∙ ap (λ (u : Reply (List Ticket)). 8 if is_refused u else 0) d in
              let count : ticket_count tape ≡ k.tickets = sym (unpacked_count (ticket_count tape) (plain_bytes key tape) ts d) ∙ sym (ap count_of f) in
              rw (number, d) (λ i. record { answer = done (record { tickets = count i; net = sym (ap net_of f) i }); out = sym text-written i })
