-- What an opening that was not refused says of the tape, and of the bytes that it wrote.
use mathlib.Core.Path.{◌≡◌, refl, sym, ap, ◌∙◌}
use mathlib.Core.Bool.{Bool, true, false, not, ◌&&◌}
use mathlib.Core.List.{List}
use Prim.Native.Nat.{ℕ, ◌-◌, ◌*◌, ◌/◌, ◌%◌, ◌≤◌}
use native.Mathlib.Omega.{arith}
use lib.Dec.{eqb, leb, ltb}
use lib.ListN.{length, take, drop, length-drop}
use lib.Seq.{take_at}
use borrow.Author.Tests.{eqb-true, leb-true, ltb-false, eq-eqb, le-leb, not-false}
use Rattle.std.proofs.lemmas.Bool.{and_parts}
use Rattle.calls.specs.Calls.{◌if◌else◌, done, written_over, is_refused}
use Rattle.acorn_model.specs.Machine.{key_length}
use Rattle.acorn_model.specs.Stretches.{full_tag_length}
use Rattle.acorn_model.specs.Message.{tag_matches}
use Rattle.acorn_model.proofs.Messages.{opened-length}
use Rattle.calls.proofs.Results.{done-told}
use Rattle.tape_model.specs.Ticket.{ticket_length, head_length, unpack_head}
use Rattle.tape_model.specs.Tape.{ticket_limit, nonce_of, is_tickets_length, unpack_tickets, tickets_in, total_net, Totals, empty_tape_length, is_tape_length, head_bytes, sealed_bytes, ticket_count, plain_bytes, open_tape_refusal, open_tape}

-- ## A tape's length

pub record TapeSize (n : ℕ) : Type 0 where
  pub long : empty_tape_length ≤ n
  pub whole : (n - empty_tape_length) % ticket_length ≡ 0
  pub few : (n - empty_tape_length) / ticket_length ≤ ticket_limit

pub sizes_told : (key : List ℕ) (n : ℕ) (sized : Bool) → sized ≡ is_tape_length n → not (eqb (length key) key_length && sized) ≡ false → (length key ≡ key_length) × TapeSize n
unfolding is_tape_length is_tickets_length
sizes_told key n sized s e =
    let a = and_parts (eqb (length key) key_length) sized (not-false _ e) in
    let l = and_parts (leb empty_tape_length n) _ (sym s ∙ a.1) in
    let t = and_parts (eqb ((n - empty_tape_length) % ticket_length) 0) _ l.1 in
    (eqb-true _ _ a.0, record { long = leb-true _ _ l.0; whole = eqb-true _ _ t.0; few = leb-true _ _ t.1 })

-- 13 bytes for each ticket are all the text
pub text-length : (n : ℕ) → TapeSize n → ticket_length * ((n - empty_tape_length) / ticket_length) ≡ n - empty_tape_length
text-length n s = omega (arith, s.whole)

-- ## Where no number applies

none_applied : (a b c d e : Bool) → ◌≡◌ {A = ℕ} (2 if a else 3 if b else 6 if c else 7 if d else 8 if e else 0) 0
    → (a ≡ false) × (b ≡ false) × (c ≡ false) × (d ≡ false) × (e ≡ false)
none_applied true b c d e h = absurd (omega arith)
none_applied false true c d e h = absurd (omega arith)
none_applied false false true d e h = absurd (omega arith)
none_applied false false false true e h = absurd (omega arith)
none_applied false false false false true h = absurd (omega arith)
none_applied false false false false false h = (refl, refl, refl, refl, refl)

module _ (key tape out : List ℕ) (accepted : open_tape_refusal key tape out ≡ 0) where
  told : (not (eqb (length key) key_length && is_tape_length (length tape)) ≡ false)
      × (is_refused (unpack_head (head_bytes tape)) ≡ false)
      × (ltb (length out) (ticket_length * ticket_count tape) ≡ false)
      × (not (tag_matches key (nonce_of (head_bytes tape)) (head_bytes tape) (sealed_bytes tape)) ≡ false)
      × (is_refused (unpack_tickets (ticket_count tape) (plain_bytes key tape)) ≡ false)
  unfolding open_tape_refusal
  told =
      none_applied (not (eqb (length key) key_length && is_tape_length (length tape))) (is_refused (unpack_head (head_bytes tape))) (ltb (length out) (ticket_length * ticket_count tape))
      (not (tag_matches key (nonce_of (head_bytes tape)) (head_bytes tape) (sealed_bytes tape))) (is_refused (unpack_tickets (ticket_count tape) (plain_bytes key tape))) accepted

  sizes : (length key ≡ key_length) × TapeSize (length tape)
  sizes = sizes_told key (length tape) (is_tape_length (length tape)) refl told.0

  pub key_size : length key ≡ key_length
  key_size = sizes.0

  pub size : TapeSize (length tape)
  size = sizes.1

  pub head_good : is_refused (unpack_head (head_bytes tape)) ≡ false
  head_good = told.1

  pub room : ticket_length * ticket_count tape ≤ length out
  room = ltb-false _ _ told.2

  pub tag-matches : tag_matches key (nonce_of (head_bytes tape)) (head_bytes tape) (sealed_bytes tape) ≡ true
  tag-matches = not-false _ told.3

  pub tickets_good : is_refused (unpack_tickets (ticket_count tape) (plain_bytes key tape)) ≡ false
  tickets_good = told.4

  pub plain-length : length (plain_bytes key tape) ≡ ticket_length * ticket_count tape
  unfolding plain_bytes
  plain-length =
      opened-length full_tag_length key (nonce_of (head_bytes tape)) (head_bytes tape) (sealed_bytes tape)
      ∙ omega (arith, length-drop head_length tape, text-length (length tape) size)

  pub plain-count : length (plain_bytes key tape) / ticket_length ≡ ticket_count tape
  plain-count = omega (arith, plain-length)

  pub plain_sized : is_tickets_length (length (plain_bytes key tape)) ≡ true
  unfolding is_tickets_length
  plain_sized = rw (eq-eqb (length (plain_bytes key tape) % ticket_length) 0 (omega (arith, plain-length)), le-leb (length (plain_bytes key tape) / ticket_length) ticket_limit (omega (arith, plain-count, size.few)))

-- ## What it answered and wrote

module _ (key tape out : List ℕ) (k : Totals) (after : List ℕ) (e : open_tape key tape out ≡ record { answer = done k; out = after }) where
  result : (open_tape_refusal key tape out ≡ 0) × (record { tickets = ticket_count tape; net = total_net (tickets_in (unpack_tickets (ticket_count tape) (plain_bytes key tape))) } ≡ k) × (written_over (plain_bytes key tape) out ≡ after)
  unfolding open_tape
  result = done-told _ _ _ out k after e

  pub was_accepted : open_tape_refusal key tape out ≡ 0
  was_accepted = result.0

  pub count-is : k.tickets ≡ ticket_count tape
  count-is = sym (ap (λ (t : Totals). t.tickets) result.1)

  pub net-is : k.net ≡ total_net (tickets_in (unpack_tickets (ticket_count tape) (plain_bytes key tape)))
  net-is = sym (ap (λ (t : Totals). t.net) result.1)

  pub wrote : written_over (plain_bytes key tape) out ≡ after
  wrote = result.2

  pub few_tickets : k.tickets ≤ ticket_limit
  few_tickets = omega (arith, count-is, (size key tape out was_accepted).few)

  -- the plain bytes stand at the start of the output
  pub front : take (ticket_length * k.tickets) after ≡ plain_bytes key tape
  unfolding written_over
  front =
      ap (take (ticket_length * k.tickets)) (sym wrote)
      ∙ take_at (plain_bytes key tape) (drop (length (plain_bytes key tape)) out) (ticket_length * k.tickets) (omega (arith, plain-length key tape out was_accepted, count-is))
