-- What an opened tape is: the plain bytes of its tickets, and its listing by them.
use mathlib.Core.Path.{◌≡◌, refl, sym, ap, ap₂, ◌∙◌}
use mathlib.Core.Bool.{Bool, true, false, not, ◌&&◌}
use mathlib.Core.List.{List}
use Prim.Native.Nat.{ℕ, zero, suc, ◌*◌, ◌≤◌}
use native.Mathlib.Omega.{arith}
use lib.Dec.{eqb, ltb}
use lib.ListN.{length, take, replicate, length-replicate}
use borrow.Author.Tests.{le-ltb}
use Rattle.calls.specs.Calls.{◌if◌else◌, Reply, refused, done, written_over, Result, is_refused}
use Rattle.acorn_model.specs.Machine.{key_length}
use Rattle.calls.proofs.Results.{refused_told, done-told}
use Rattle.tape_model.specs.declared.Ticket.{Ticket}
use Rattle.tape_model.specs.declared.Head.{Head}
use Rattle.tape_model.specs.declared.Totals.{Totals}
use Rattle.tape_model.specs.Ticket.{ticket_length, unpack_head}
use Rattle.tape_model.specs.Tape.{plain_tickets, tickets_in, total_net, is_tape_length, head_bytes, ticket_count, plain_bytes, open_tape_refusal, open_tape}
use Rattle.tape_model.specs.Listing.{refused_line, listed, listing_unless, listing}
use Rattle.tape_model.proofs.Opening.{TapeSize, sizes_told, text-length, was_accepted, net-is, front}
use Rattle.tape_opening.specs.Clauses.{scratch_after, open_scratch}
use Rattle.listing.specs.Clauses.{longest_plain, HoldTickets}
use Rattle.tape_model.proofs.Plain.{tickets_on, plain-held}

-- ## Opening into a scratch

module _ (key tape scratch after : List ℕ) where
  pub same_answer : (a : Reply Totals) → open_scratch key tape scratch ≡ record { answer = a; out = after } → open_tape key tape scratch ≡ record { answer = a; out = (open_tape key tape scratch).out }
  unfolding open_scratch
  same_answer a e = ap (λ (r : Result Totals). record { answer = r.answer; out = (open_tape key tape scratch).out }) e

  -- where no number applies, the same bytes are written
  pub as_opened : (k : Totals) → open_scratch key tape scratch ≡ record { answer = done k; out = after } → open_tape key tape scratch ≡ record { answer = done k; out = after }
  unfolding open_tape open_scratch scratch_after
  as_opened k e =
      let o = same_answer (done k) e in
      let t = done-told _ _ _ scratch k _ o in
      let written : written_over (plain_bytes key tape) scratch ≡ after = ap (λ (n : ℕ). scratch_after n (plain_bytes key tape) scratch) (sym t.0) ∙ ap (λ (r : Result Totals). r.out) e in
      o ∙ ap (λ (l : List ℕ). record { answer = done k; out = l }) (sym t.2 ∙ written)

-- ## The chain of numbers

-- the test for room does not matter where a smaller number applies
same_but_room : (a b c c' : Bool) (n : ℕ) → (a ≡ false → c ≡ c') → (2 if a else 3 if b else 6 if c else n) ≡ (2 if a else 3 if b else 6 if c' else n)
same_but_room true b c c' n h = refl
same_but_room false true c c' n h = refl
same_but_room false false c c' n h = ap (λ (x : Bool). 6 if x else n) (h refl)

-- where another number than 6 applies, it does with room, too
same_but_6 : (a b c c' : Bool) (n m : ℕ) → (2 if a else 3 if b else 6 if c else n) ≡ m → (m ≡ 6 → ⊥) → (a ≡ false → c' ≡ false) → (2 if a else 3 if b else 6 if c' else n) ≡ m
same_but_6 true b c c' n m e z h = e
same_but_6 false true c c' n m e z h = e
same_but_6 false false true c' n m e z h = absurd (z (sym e))
same_but_6 false false false c' n m e z h = ap (λ (x : Bool). 6 if x else n) (h refl) ∙ e

module _ (key tape : List ℕ) where
  abbrev sizes-wrong : Bool
  sizes-wrong = not (eqb (length key) key_length && is_tape_length (length tape))

  abbrev enough : List ℕ
  enough = replicate (length tape) 0

  -- the tickets' bytes are as many as the tape leaves, and at most 65,000
  ticket_bytes : TapeSize (length tape) → (ticket_length * ticket_count tape ≤ length tape) × (ticket_length * ticket_count tape ≤ longest_plain)
  ticket_bytes s = (omega (arith, text-length (length tape) s), omega (arith, s.few))

  -- outputs with room for them are refused alike
  pub room-enough : (out : List ℕ) → longest_plain ≤ length out → open_tape_refusal key tape out ≡ open_tape_refusal key tape enough
  unfolding open_tape_refusal
  room-enough out room =
      same_but_room sizes-wrong (is_refused (unpack_head (head_bytes tape))) _ _ _
      (λ e. let t = ticket_bytes (sizes_told key (length tape) (is_tape_length (length tape)) refl e).1 in
      le-ltb (length out) (ticket_length * ticket_count tape) (omega (arith, t.1)) ∙ sym (le-ltb (length enough) (ticket_length * ticket_count tape) (omega (arith, t.0, length-replicate {A = ℕ} (length tape) 0))))

  pub other_number : (out : List ℕ) (m : ℕ) → open_tape_refusal key tape out ≡ m → (m ≡ 6 → ⊥) → open_tape_refusal key tape enough ≡ m
  unfolding open_tape_refusal
  other_number out m e z =
      same_but_6 sizes-wrong (is_refused (unpack_head (head_bytes tape))) (ltb (length out) (ticket_length * ticket_count tape)) _ _ m e z
      (λ f. le-ltb (length enough) (ticket_length * ticket_count tape)
      (omega (arith, (ticket_bytes (sizes_told key (length tape) (is_tape_length (length tape)) refl f).1).0, length-replicate {A = ℕ} (length tape) 0)))

  -- what the listing is where opening is refused
  pub refused_listing : (out : List ℕ) (n : ℕ) (after : List ℕ) → longest_plain ≤ length out → open_tape key tape out ≡ record { answer = refused n; out = after } → refused_line n ≡ listing key tape
  unfolding open_tape listing listing_unless
  refused_listing out n after room e = let t = refused_told _ _ _ out n after e in by n (sym (room-enough out room) ∙ t.0) (λ z. t.1 (t.0 ∙ z))
    where
      by : (m : ℕ) → open_tape_refusal key tape enough ≡ m → (m ≡ 0 → ⊥) → refused_line m ≡ listing_unless (open_tape_refusal key tape enough) key tape
      by zero f z = absurd (z refl)
      by (suc m) f z = rw f

  -- where no number applies
  module _ (out : List ℕ) (accepted : open_tape_refusal key tape out ≡ 0) where
    plain-tickets : HoldTickets (plain_bytes key tape) (total_net (tickets_on key tape))
    plain-tickets =
        let held = plain-held key tape out accepted in
        record { good = ap is_refused held; net-is = ap (λ (r : Reply (List Ticket)). total_net (tickets_in r)) (sym held) }

  -- what opening answers and writes, and the listing by it
  module _ (out : List ℕ) (k : Totals) (after : List ℕ) (room : longest_plain ≤ length out) (e : open_tape key tape out ≡ record { answer = done k; out = after }) where
    accepted : open_tape_refusal key tape out ≡ 0
    accepted = was_accepted key tape out k after e

    pub opened-tickets : HoldTickets (take (ticket_length * k.tickets) after) k.net
    opened-tickets = rw (front key tape out k after e, net-is key tape out k after e) (plain-tickets out accepted)

    pub opened-listing : (head : Reply Head) → head ≡ unpack_head (head_bytes tape) → listed head (tickets_in (plain_tickets (take (ticket_length * k.tickets) after))) ≡ listing key tape
    unfolding listing listing_unless
    opened-listing head h =
        ap₂ (λ (r : Reply Head) (l : List ℕ). listed r (tickets_in (plain_tickets l))) h (front key tape out k after e)
        ∙ ap (λ (n : ℕ). listing_unless n key tape) (sym accepted ∙ room-enough out room)
