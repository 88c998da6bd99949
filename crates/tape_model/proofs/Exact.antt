-- Bytes open exactly where they are the tape of a right head and valid tickets, and of one head and one list of tickets only.
use mathlib.Core.Path.{◌≡◌, refl, sym, ap, ap₂, subst, ◌∙◌}
use mathlib.Core.Bool.{false}
use mathlib.Core.List.{List, [], ◌∷◌, ◌++◌}
use Prim.Native.Nat.{ℕ, zero, suc, ◌+◌, ◌*◌}
use native.Mathlib.Omega.{arith}
use lib.ListN.{length, take, drop, take-append-drop, length-drop}
use lib.Seq.{get_or-drop}
use Rattle.calls.specs.Calls.{AreBytes, Reply, refused, done, accepted, written_over, is_refused}
use Rattle.calls.proofs.AreBytes.{take_are_bytes}
use Rattle.acorn_model.specs.Paper.{decrypted}
use Rattle.acorn_model.specs.Stretches.{full_tag_length}
use Rattle.acorn_model.specs.Message.{sealed, opened_with}
use Rattle.acorn_model.proofs.Bytes.{bytes_are_bytes}
use Rattle.acorn_model.proofs.Proved.{opening_exact}
use Rattle.tape_model.specs.declared.Ticket.{Ticket}
use Rattle.tape_model.specs.declared.Head.{Head}
use Rattle.tape_model.specs.Ticket.{ticket_length, unpack_ticket, head_length, pack_head, unpack_head}
use Rattle.tape_model.specs.Tape.{nonce_of, pack_tickets, tape_of, unpack_tickets, tickets_in, Totals, head_bytes, sealed_bytes, ticket_count, plain_bytes, open_tape_refusal, open_tape}
use Rattle.tape_model.specs.Listing.{head_line, ticket_lines, line_of_totals, printed}
use Rattle.tape_model.specs.Laws.{Valid, OpensAs, TapesOpenExactly}
use Rattle.tape_model.proofs.Tickets.{ticket_inverse, head_inverse}
use Rattle.tape_model.proofs.Unpacking.{taken-apart, unpacked_count, told}
use Rattle.tape_model.proofs.Opening.{key_size, size, head_good, room, tag-matches, tickets_good, plain-length, was_accepted, count-is, net-is, wrote}
use Rattle.tape_model.proofs.Tapes.{tapes_come_back}

-- ## Packed again

drop_are_bytes : (n : ℕ) (l : List ℕ) → AreBytes l → AreBytes (drop n l)
drop_are_bytes n l h p = rw get_or-drop (h (n + p))

-- plain bytes are those of the tickets that they unpack to
pub packed-again : (n : ℕ) (s : List ℕ) (ts : List Ticket) → AreBytes s → length s ≡ ticket_length * n → unpack_tickets n s ≡ done ts → Valid ts × (pack_tickets ts ≡ s)
unfolding unpack_tickets pack_tickets
packed-again zero [] ts b l e = subst (λ (ts : List Ticket). Valid ts × (pack_tickets ts ≡ [])) (ap tickets_in e) (tt, refl)
packed-again zero (x ∷ s) ts b l e = absurd (omega arith)
packed-again (suc n) s ts b l e =
    taken-apart (λ ts. Valid ts × (pack_tickets ts ≡ s)) (unpack_ticket (take ticket_length s)) (unpack_tickets n (drop ticket_length s)) ts e
    (λ t us f g.
    let first = ticket_inverse.pack-unpack (take ticket_length s) t (take_are_bytes ticket_length s b) f in
    let later = packed-again n (drop ticket_length s) us (drop_are_bytes ticket_length s b) (omega (arith, length-drop ticket_length s)) g in
    ((first.0, later.0), ap₂ ◌++◌ first.1 later.1 ∙ take-append-drop ticket_length s))

head_told : (r : Reply Head) → is_refused r ≡ false → (head : Head) × (r ≡ done head)
head_told (refused n) h = let z : ◌≡◌ {A = ℕ} 0 1 = cc in absurd (omega arith)
head_told (done head) h = (head, refl)

-- ## What opened is such a tape

module _ (key tape out : List ℕ) (totals : Totals) (after : List ℕ) (bytes : AreBytes tape) (e : open_tape key tape out ≡ record { answer = done totals; out = after }) where
  abbrev tickets : List Ticket
  tickets = tickets_in (unpack_tickets (ticket_count tape) (plain_bytes key tape))

  no_number : open_tape_refusal key tape out ≡ accepted
  no_number = was_accepted key tape out totals after e

  unpacked : unpack_tickets (ticket_count tape) (plain_bytes key tape) ≡ done tickets
  unpacked = told (unpack_tickets (ticket_count tape) (plain_bytes key tape)) (tickets_good key tape out no_number)

  count : length tickets ≡ ticket_count tape
  count = unpacked_count (ticket_count tape) (plain_bytes key tape) tickets unpacked

  plain_are_bytes : AreBytes (plain_bytes key tape)
  unfolding plain_bytes opened_with decrypted
  plain_are_bytes = bytes_are_bytes _ _

  repacked : Valid tickets × (pack_tickets tickets ≡ plain_bytes key tape)
  repacked = packed-again (ticket_count tape) (plain_bytes key tape) tickets plain_are_bytes (plain-length key tape out no_number) unpacked

  -- the bytes behind the head are the plain bytes sealed
  sealed-again : sealed_bytes tape ≡ sealed key (nonce_of (head_bytes tape)) (head_bytes tape) (plain_bytes key tape)
  unfolding plain_bytes
  sealed-again =
      ((opening_exact full_tag_length key (nonce_of (head_bytes tape)) (head_bytes tape) (omega arith)).whole (sealed_bytes tape) (plain_bytes key tape) (drop_are_bytes head_length tape bytes) plain_are_bytes).0
      (tag-matches key tape out no_number, refl)

  tape-of : (head : Head) → pack_head head ≡ head_bytes tape → tape ≡ tape_of key head tickets
  unfolding tape_of
  tape-of head h =
      sym (take-append-drop head_length tape) ∙ ap (◌++◌ (head_bytes tape)) sealed-again
      ∙ ap₂ (λ (h text : List ℕ). h ++ sealed key (nonce_of h) h text) (sym h) (sym repacked.1)

  opened_as : (head : Head) → unpack_head (head_bytes tape) ≡ done head → OpensAs key tape out totals after head tickets
  opened_as head h =
      let right = head_inverse.pack-unpack (head_bytes tape) head (take_are_bytes head_length tape bytes) h in
      record {
        key-length = key_size key tape out no_number;
        head-right = right.0;
        valid = repacked.0;
        few = omega (arith, count, (size key tape out no_number).few);
        room = omega (arith, count, room key tape out no_number);
        tape-is = tape-of head right.1;
        answered = λ i. record { tickets = (count-is key tape out totals after e ∙ sym count) i; net = net-is key tape out totals after e i };
        written = sym (wrote key tape out totals after e) ∙ ap (λ (text : List ℕ). written_over text out) (sym repacked.1);
      }

  opens_as : (head : Head) × (tickets : List Ticket) × OpensAs key tape out totals after head tickets
  opens_as = let h = head_told (unpack_head (head_bytes tape)) (head_good key tape out no_number) in (h.0, tickets, opened_as h.0 h.1)

-- ## Such a tape opens

module _ (key tape out : List ℕ) (totals : Totals) (after : List ℕ) where
  opens : (head : Head) (tickets : List Ticket) → OpensAs key tape out totals after head tickets → open_tape key tape out ≡ record { answer = done totals; out = after }
  opens head tickets o =
      ap (λ (t : List ℕ). open_tape key t out) o.tape-is ∙ (tapes_come_back key head tickets o.key-length o.head-right o.valid o.few).opens out o.room
      ∙ (λ i. record { answer = done (sym o.answered i); out = sym o.written i })

  lists : (head : Head) (tickets : List Ticket) → OpensAs key tape out totals after head tickets
      → printed (key ++ tape) ≡ head_line head ++ ticket_lines 1 tickets ++ line_of_totals totals.tickets totals.net
  lists head tickets o =
      ap (λ (t : List ℕ). printed (key ++ t)) o.tape-is ∙ (tapes_come_back key head tickets o.key-length o.head-right o.valid o.few).lists
      ∙ ap (λ (t : Totals). head_line head ++ ticket_lines 1 tickets ++ line_of_totals t.tickets t.net) (sym o.answered)

pub tapes_open_exactly : TapesOpenExactly
tapes_open_exactly =
    record {
      exactly = λ key tape out totals after bytes. (opens_as key tape out totals after bytes, λ o. opens key tape out totals after o.0 o.1 o.2);
      lists = lists;
    }
