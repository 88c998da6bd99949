-- A tape's tickets come back: from its opened bytes, by opening, by a reader, and in the listing.
use mathlib.Core.Path.{◌≡◌, refl, sym, ap, ap₂, ◌∙◌}
use mathlib.Core.Bool.{Bool, true, false, not, ◌&&◌}
use mathlib.Core.List.{List, [], ◌∷◌, ◌++◌, append-nil, append_assoc}
use Prim.Native.Nat.{ℕ, zero, suc, ◌+◌, ◌-◌, ◌*◌, ◌/◌, ◌%◌, ◌≤◌}
use native.Mathlib.Omega.{arith}
use lib.Dec.{ltb, eqb}
use lib.ListN.{length, take, drop, replicate, length-append, length-replicate}
use lib.Seq.{take_at, drop_at, drop-drop, take_all}
use borrow.Author.Tests.{le-leb, lt-leb, le-ltb, eq-eqb}
use Rattle.calls.specs.Calls.{AreBytes, ◌if◌else◌, refused, Reply, done, map_reply, accepted, unless_refused, written_over, result_of, is_refused}
use Rattle.acorn_model.specs.Machine.{key_length, nonce_length}
use Rattle.acorn_model.specs.Stretches.{full_tag_length}
use Rattle.acorn_model.specs.Message.{sealed, tag_matches, opened}
use Rattle.calls.proofs.AreBytes.{append_are_bytes}
use Rattle.acorn_model.proofs.Outputs.{sealed-length, sealed_are_bytes}
use Rattle.acorn_model.proofs.Proved.{opening_exact}
use Rattle.tape_model.specs.declared.Ticket.{Ticket}
use Rattle.tape_model.specs.declared.Head.{Head}
use Rattle.tape_model.specs.Format.{widths}
use Rattle.tape_model.specs.Ticket.{format_of, form_in, ticket_length, ordered, values_rule, ticket_rule, pack_ticket, unpack_ticket, head_length, head_rule, pack_head, unpack_head}
use Rattle.tape_model.specs.Tape.{ticket_limit, nonce_of, pack_tickets, tape_of, is_tickets_length, ticket_then, unpack_tickets, plain_tickets, tickets_in, total_net, totals_of, of_plain, plain_totals, empty_tape_length, is_tape_length, head_bytes, sealed_bytes, ticket_count, plain_bytes, open_tape_refusal, open_tape}
use Rattle.tape_model.specs.Reader.{ticket, at_end, Reader, reader_over, read_next, stays, handed_out}
use Rattle.tape_model.specs.Listing.{head_line, ticket_lines, line_of_totals, total_line, listed, listing_unless, listing, printed}
use Rattle.tape_model.specs.Laws.{Valid, readings, reader_after, as_readings, TapeLaws, TapesComeBack, tape_with_text, BadTickets}
use Rattle.tape_model.specs.RefusalCases.{good_head, bad_ticket, last_byte_c1}
use Rattle.tape_model.proofs.Ranges.{pack-bytes}
use Rattle.tape_model.proofs.Tickets.{ticket_inverse, head_inverse, ticket-length, ticket_bytes, head-length, ticket_laws}
use Rattle.tape_model.proofs.Unpacking.{sized_hold, refused_size}

-- ## Plain bytes

pub tickets-length : (ts : List Ticket) → length (pack_tickets ts) ≡ ticket_length * length ts
unfolding pack_tickets
tickets-length [] = refl
tickets-length (t ∷ ts) = omega (arith, length-append (pack_ticket t) (pack_tickets ts), ticket-length t, tickets-length ts)

pub tickets-bytes : (ts : List Ticket) → AreBytes (pack_tickets ts)
unfolding pack_tickets
tickets-bytes [] = λ p. omega arith
tickets-bytes (t ∷ ts) = append_are_bytes (pack_ticket t) (pack_tickets ts) (ticket_bytes t) (tickets-bytes ts)

pub tickets-append : (ts us : List Ticket) → pack_tickets (ts ++ us) ≡ pack_tickets ts ++ pack_tickets us
unfolding pack_tickets
tickets-append [] us = refl
tickets-append (t ∷ ts) us = ap (◌++◌ (pack_ticket t)) (tickets-append ts us) ∙ sym (append_assoc (pack_ticket t) (pack_tickets ts) (pack_tickets us))

pub ticket_alone : (t : Ticket) → pack_tickets (t ∷ []) ≡ pack_ticket t
unfolding pack_tickets
ticket_alone t = append-nil (pack_ticket t)

pub nonce-length : (h : Head) → length (nonce_of (pack_head h)) ≡ nonce_length
unfolding pack_head
nonce-length h = refl

first_ticket : (t : Ticket) (ts : List Ticket) → take ticket_length (pack_tickets (t ∷ ts)) ≡ pack_ticket t
unfolding pack_tickets
first_ticket t ts = take_at (pack_ticket t) (pack_tickets ts) ticket_length (ticket-length t)

later-tickets : (t : Ticket) (ts : List Ticket) → drop ticket_length (pack_tickets (t ∷ ts)) ≡ pack_tickets ts
unfolding pack_tickets
later-tickets t ts = drop_at (pack_ticket t) (pack_tickets ts) ticket_length (ticket-length t)

pub tickets-unpack : (ts : List Ticket) → Valid ts → unpack_tickets (length ts) (pack_tickets ts) ≡ done ts
unfolding unpack_tickets
tickets-unpack [] v = refl
tickets-unpack (t ∷ ts) v =
    ap₂ (λ (a b : List ℕ). ticket_then (unpack_ticket a) (unpack_tickets (length ts) b)) (first_ticket t ts) (later-tickets t ts)
    ∙ ap₂ ticket_then (ticket_inverse.unpack-pack t v.0) (tickets-unpack ts v.1)

pub length_allowed : (n : ℕ) → n ≤ ticket_limit → is_tickets_length (13 * n) ≡ true
unfolding is_tickets_length
length_allowed n h = ap₂ ◌&&◌ (eq-eqb (13 * n % 13) 0 (omega arith)) (le-leb (13 * n / 13) 5000 (omega arith))

-- the plain bytes of at most 5,000 valid tickets hold them
pub tickets-held : (ts : List Ticket) → Valid ts → length ts ≤ ticket_limit → plain_tickets (pack_tickets ts) ≡ done ts
tickets-held ts v n =
    sized_hold (pack_tickets ts) (ap is_tickets_length (tickets-length ts) ∙ length_allowed (length ts) n)
    ∙ ap (λ (m : ℕ). unpack_tickets m (pack_tickets ts)) {x = length (pack_tickets ts) / ticket_length} {y = length ts} (omega (arith, tickets-length ts)) ∙ tickets-unpack ts v

-- ## Reading

-- a reader that has the packed tickets ts before it, behind p others
record Before (p : ℕ) (ts : List Ticket) (s : List ℕ) : Type 0 where
  allowed : is_tickets_length (length s) ≡ true
  count : length s ≡ 13 * (p + length ts)
  rest : drop (13 * p) s ≡ pack_tickets ts

abbrev at : List ℕ → ℕ → Reader
at s p = record { string = s; position = p }

next_ticket : (p : ℕ) (t : Ticket) (ts : List Ticket) (s : List ℕ) → ticket_rule t ≡ true → Before p (t ∷ ts) s
    → read_next (at s p) ≡ record { next = at s (p + 1); answer = done (ticket t) }
unfolding read_next handed_out
next_ticket p t ts s v b =
    rw (b.allowed, lt-leb (length s / 13) p (omega (arith, b.count)))
    (ap (λ (r : Reply Ticket). handed_out r (at s p)) (ap (λ (l : List ℕ). unpack_ticket (take ticket_length l)) b.rest ∙ ap unpack_ticket (first_ticket t ts) ∙ ticket_inverse.unpack-pack t v))

at-end : (p : ℕ) (s : List ℕ) → Before p [] s → read_next (at s p) ≡ stays (at s p) (done at_end)
unfolding read_next
at-end p s b = rw (b.allowed, le-leb (length s / 13) p (omega (arith, b.count)))

one_on : (p : ℕ) (t : Ticket) (ts : List Ticket) (s : List ℕ) → Before p (t ∷ ts) s → Before (p + 1) ts s
one_on p t ts s b =
    record {
      allowed = b.allowed;
      count = omega (arith, b.count);
      rest = ap (λ (n : ℕ). drop n s) {x = 13 * (p + 1)} {y = 13 * p + 13} (omega arith) ∙ sym (drop-drop 13 (13 * p) s) ∙ ap (drop 13) b.rest ∙ later-tickets t ts;
    }

reads_from : (p : ℕ) (ts : List Ticket) (s : List ℕ) → Valid ts → Before p ts s → readings (length ts) (at s p) ≡ as_readings ts
reads_from p [] s v b = refl
reads_from p (t ∷ ts) s v b =
    let e = next_ticket p t ts s v.0 b in
    ap₂ ◌∷◌ (λ i. (e i).answer) ((λ i. readings (length ts) (e i).next) ∙ reads_from (p + 1) ts s v.1 (one_on p t ts s b))

stays-at-end : (n p : ℕ) (s : List ℕ) → Before p [] s → (read_next (reader_after n (at s p))).answer ≡ done at_end
stays-at-end zero p s b = λ i. (at-end p s b i).answer
stays-at-end (suc n) p s b = (λ i. (read_next (reader_after n (at-end p s b i).next)).answer) ∙ stays-at-end n p s b

ends_from : (n p : ℕ) (ts : List Ticket) (s : List ℕ) → Valid ts → Before p ts s → (read_next (reader_after (length ts + n) (at s p))).answer ≡ done at_end
ends_from n p [] s v b = ap (λ (k : ℕ). (read_next (reader_after k (at s p))).answer) {x = 0 + n} {y = n} (omega arith) ∙ stays-at-end n p s b
ends_from n p (t ∷ ts) s v b =
    ap (λ (k : ℕ). (read_next (reader_after k (at s p))).answer) {x = suc (length ts) + n} {y = suc (length ts + n)} (omega arith)
    ∙ (λ i. (read_next (reader_after (length ts + n) (next_ticket p t ts s v.0 b i).next)).answer)
    ∙ ends_from n (p + 1) ts s v.1 (one_on p t ts s b)

-- ## Opening

-- a tape with the plain bytes `text`
module _ (key : List ℕ) (head : Head) (text : List ℕ) where
  abbrev with_text : List ℕ
  with_text = tape_with_text key head text

  abbrev nonce : List ℕ
  nonce = nonce_of (pack_head head)

  text_size : length with_text ≡ 25 + length text
  text_size = omega (arith, length-append (pack_head head) (sealed key nonce (pack_head head) text), head-length head, sealed-length key nonce (pack_head head) full_tag_length text)

  head_part : head_bytes with_text ≡ pack_head head
  head_part = take_at (pack_head head) (sealed key nonce (pack_head head) text) head_length (head-length head)

  sealed_part : sealed_bytes with_text ≡ sealed key nonce (pack_head head) text
  sealed_part = drop_at (pack_head head) (sealed key nonce (pack_head head) text) head_length (head-length head)

  text_head : head_rule head ≡ true → unpack_head (head_bytes with_text) ≡ done head
  text_head h = ap unpack_head head_part ∙ head_inverse.unpack-pack head h

  text_lengths : length key ≡ key_length → is_tickets_length (length text) ≡ true → (eqb (length key) key_length && is_tape_length (length with_text)) ≡ true
  unfolding is_tape_length
  text_lengths k n =
      ap₂ ◌&&◌ (eq-eqb (length key) key_length k)
      (ap₂ ◌&&◌ (le-leb empty_tape_length (length with_text) (omega (arith, text_size))) (ap is_tickets_length {x = length with_text - empty_tape_length} {y = length text} (omega (arith, text_size)) ∙ n))

  module _ (bytes : AreBytes text) where
    both : (tag_matches key nonce (pack_head head) (sealed key nonce (pack_head head) text) ≡ true) × (opened key nonce (pack_head head) (sealed key nonce (pack_head head) text) ≡ text)
    both = ((opening_exact full_tag_length key nonce (pack_head head) (omega arith)).whole (sealed key nonce (pack_head head) text) text (sealed_are_bytes key nonce (pack_head head) full_tag_length text) bytes).1 refl

    text_matches : tag_matches key (nonce_of (head_bytes with_text)) (head_bytes with_text) (sealed_bytes with_text) ≡ true
    text_matches = ap₂ (λ (a b : List ℕ). tag_matches key (nonce_of a) a b) head_part sealed_part ∙ both.0

    text-plain : plain_bytes key with_text ≡ text
    unfolding plain_bytes
    text-plain = ap₂ (λ (a b : List ℕ). opened key (nonce_of a) a b) head_part sealed_part ∙ both.1

-- no number of the chain applies
none_applies : (a b c d e : Bool) → a ≡ false → b ≡ false → c ≡ false → d ≡ false → e ≡ false
    → (2 if a else 3 if b else 6 if c else 7 if d else 8 if e else accepted) ≡ accepted
none_applies a b c d e p q r s t = rw (p, q, r, s, t)

module _ (key : List ℕ) (head : Head) (ts : List Ticket) (k : length key ≡ key_length) (h : head_rule head ≡ true) (v : Valid ts) (n : length ts ≤ ticket_limit) where
  abbrev tape : List ℕ
  tape = tape_of key head ts

  size : length tape ≡ 25 + 13 * length ts
  unfolding tape_of
  size = omega (arith, text_size key head (pack_tickets ts), tickets-length ts)

  count : ticket_count tape ≡ length ts
  count = omega (arith, size)

  plain : plain_bytes key tape ≡ pack_tickets ts
  unfolding tape_of
  plain = text-plain key head (pack_tickets ts) (tickets-bytes ts)

  pub unpacks : unpack_tickets (ticket_count tape) (plain_bytes key tape) ≡ done ts
  unpacks = ap₂ unpack_tickets count plain ∙ tickets-unpack ts v

  pub opens_head : unpack_head (head_bytes tape) ≡ done head
  unfolding tape_of
  opens_head = text_head key head (pack_tickets ts) h

  lengths : (eqb (length key) key_length && is_tape_length (length tape)) ≡ true
  unfolding tape_of
  lengths = text_lengths key head (pack_tickets ts) k (ap is_tickets_length (tickets-length ts) ∙ length_allowed (length ts) n)

  matches : tag_matches key (nonce_of (head_bytes tape)) (head_bytes tape) (sealed_bytes tape) ≡ true
  unfolding tape_of
  matches = text_matches key head (pack_tickets ts) (tickets-bytes ts)

  pub no_refusal : (out : List ℕ) → 13 * length ts ≤ length out → open_tape_refusal key tape out ≡ accepted
  unfolding open_tape_refusal
  no_refusal out room =
      none_applies (not (eqb (length key) key_length && is_tape_length (length tape))) (is_refused (unpack_head (head_bytes tape))) (ltb (length out) (ticket_length * ticket_count tape))
      (not (tag_matches key (nonce_of (head_bytes tape)) (head_bytes tape) (sealed_bytes tape))) (is_refused (unpack_tickets (ticket_count tape) (plain_bytes key tape)))
      (ap not lengths) (ap is_refused opens_head) (le-ltb (length out) (ticket_length * ticket_count tape) (omega (arith, count)))
      (ap not matches) (ap is_refused unpacks)

  opens : (out : List ℕ) → 13 * length ts ≤ length out
      → open_tape key tape out ≡ record { answer = done (record { tickets = length ts; net = total_net ts }); out = written_over (pack_tickets ts) out }
  unfolding open_tape result_of unless_refused
  opens out room =
      ap (λ (x : ℕ). result_of x (record { tickets = ticket_count tape; net = total_net (tickets_in (unpack_tickets (ticket_count tape) (plain_bytes key tape))) }) (plain_bytes key tape) out) (no_refusal out room)
      ∙ (λ i. record { answer = done (record { tickets = count i; net = total_net (tickets_in (unpacks i)) }); out = written_over (plain i) out })

  start : Before 0 ts (pack_tickets ts)
  start =
      record {
        allowed = ap is_tickets_length (tickets-length ts) ∙ length_allowed (length ts) n;
        count = omega (arith, tickets-length ts);
        rest = refl;
      }

  totals : plain_totals (pack_tickets ts) ≡ done (record { tickets = length ts; net = total_net ts })
  unfolding plain_totals of_plain map_reply
  totals = ap (map_reply totals_of) (tickets-held ts v n)

  lists : printed (key ++ tape) ≡ head_line head ++ ticket_lines 1 ts ++ line_of_totals (length ts) (total_net ts)
  unfolding printed listing listing_unless listed total_line
  lists =
      ap₂ listing (take_at key tape key_length k) (drop_at key tape key_length k)
      ∙ ap (λ (x : ℕ). listing_unless x key tape) (no_refusal (replicate (length tape) 0) (omega (arith, length-replicate {A = ℕ} (length tape) 0, size)))
      ∙ ap₂ (λ (x : Reply Head) (y : Reply (List Ticket)). listed x (tickets_in y)) opens_head (ap plain_tickets plain ∙ tickets-held ts v n)

  laws : TapeLaws key head ts
  unfolding reader_over
  laws = record { size = size; opens = opens; totals = totals; reads = reads_from 0 ts (pack_tickets ts) v start; ends = λ m. ends_from m 0 ts (pack_tickets ts) v start; lists = lists }

pub tapes_come_back : TapesComeBack
tapes_come_back = laws

-- ## A ticket that does not unpack

eight_applies : (a b c d e : Bool) → a ≡ false → b ≡ false → c ≡ false → d ≡ false → e ≡ true → (2 if a else 3 if b else 6 if c else 7 if d else 8 if e else accepted) ≡ 8
eight_applies a b c d e p q r s t = rw (p, q, r, s, t)

eight : (key : List ℕ) (head : Head) (text out : List ℕ) → length key ≡ key_length → head_rule head ≡ true → AreBytes text
    → length text ≤ length out → plain_tickets text ≡ refused 8
    → open_tape key (tape_with_text key head text) out ≡ record { answer = refused 8; out = out }
unfolding open_tape result_of unless_refused open_tape_refusal
eight key head text out k h bytes room bad =
    let tape : List ℕ = tape_with_text key head text in
    let sized = refused_size text 8 bad (λ e. omega arith) in
    let count : ticket_count tape ≡ length text / ticket_length = omega (arith, text_size key head text) in
    rw (eight_applies (not (eqb (length key) key_length && is_tape_length (length tape))) (is_refused (unpack_head (head_bytes tape))) (ltb (length out) (ticket_length * ticket_count tape))
    (not (tag_matches key (nonce_of (head_bytes tape)) (head_bytes tape) (sealed_bytes tape))) (is_refused (unpack_tickets (ticket_count tape) (plain_bytes key tape)))
    (ap not (text_lengths key head text k sized)) (ap is_refused (text_head key head text h)) (le-ltb (length out) (ticket_length * ticket_count tape) (omega (arith, count)))
    (ap not (text_matches key head text bytes)) (ap is_refused (ap₂ unpack_tickets count (text-plain key head text bytes) ∙ sym (sized_hold text sized) ∙ bad)))

last_byte-C1 : (key out : List ℕ) → length key ≡ key_length → 13 ≤ length out → open_tape key (tape_with_text key good_head last_byte_c1) out ≡ record { answer = refused 8; out = out }
unfolding head_rule plain_tickets is_tickets_length unpack_tickets unpack_ticket unless_refused values_rule ordered
last_byte-C1 key out k room =
    let bytes : AreBytes last_byte_c1 = pack-bytes (widths (format_of 1)) ticket_length (1 ∷ 5 ∷ 2 ∷ 3 ∷ 4 ∷ 3600 ∷ 4200 ∷ 250000 ∷ 110000 ∷ 1 ∷ []) in
    eight key good_head last_byte_c1 out k refl bytes room refl

tare_above : (key out : List ℕ) → length key ≡ key_length → 13 ≤ length out → open_tape key (tape_with_text key good_head (pack_ticket bad_ticket)) out ≡ record { answer = refused 8; out = out }
unfolding head_rule plain_tickets is_tickets_length unpack_tickets unpack_ticket unless_refused pack_ticket values_rule ordered
tare_above key out k room = eight key good_head (pack_ticket bad_ticket) out k refl (ticket_bytes bad_ticket) room refl

-- the bytes of one ticket
one_bad : (s : List ℕ) → length s ≡ ticket_length → unpack_ticket s ≡ refused 8 → plain_tickets s ≡ refused 8
unfolding unpack_tickets is_tickets_length
one_bad s n e =
    sized_hold s (ap is_tickets_length n) ∙ ap (λ (k : ℕ). unpack_tickets (k / ticket_length) s) n
    ∙ ap (λ (r : Reply Ticket). ticket_then r (done [])) (ap unpack_ticket (take_all ticket_length s (omega (arith, n))) ∙ e)

other_form : (key : List ℕ) (head : Head) (string out : List ℕ) → length key ≡ key_length → head_rule head ≡ true → AreBytes string → length string ≡ ticket_length
    → ticket_length ≤ length out → (form_in string ≡ 1 → ⊥) → (form_in string ≡ 2 → ⊥)
    → open_tape key (tape_with_text key head string) out ≡ record { answer = refused 8; out = out }
other_form key head string out k h bytes n room not1 not2 = eight key head string out k h bytes (omega (arith, n, room)) (one_bad string n (ticket_laws.other_form string bytes n not1 not2))

pub bad_tickets : BadTickets
bad_tickets = record { eight = eight; last_byte-C1 = last_byte-C1; tare_above = tare_above; other_form = other_form }
