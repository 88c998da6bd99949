-- What opened bytes hold: tickets and their plain bytes give each other back, which number bytes are refused with, and what an opening wrote.
use mathlib.Core.Path.{◌≡◌, refl, sym, ap, ap₂, subst, ◌∙◌}
use mathlib.Core.Bool.{Bool, true, false, ◌&&◌, ◌||◌, false≢true}
use mathlib.Core.Logic.{◌↔◌, ◌⊎◌, inl, inr}
use mathlib.Core.List.{List}
use Prim.Native.Nat.{ℕ, ◌*◌, ◌/◌, ◌≤◌}
use native.Mathlib.Omega.{arith}
use lib.ListN.{length, take, drop}
use lib.Seq.{take_at}
use Rattle.calls.specs.Calls.{AreBytes, Reply, refused, done, map_reply, map_replies, is_refused, written_over}
use Rattle.tape_model.specs.declared.Ticket.{Ticket}
use Rattle.tape_model.specs.declared.Head.{Head}
use Rattle.tape_model.specs.Ticket.{ticket_length}
use Rattle.tape_model.specs.Tape.{is_tickets_length, ticket_limit, pack_tickets, unpack_tickets, plain_tickets, tickets_in, Totals, totals_of, of_plain, of_two_plain, plain_totals, ticket_count, plain_bytes, open_tape_refusal, open_tape}
use Rattle.tape_model.specs.Laws.{Valid, OpensAs, PlainLaws, OfPlainLaws, OfTwoPlainLaws}
use Rattle.tape_model.proofs.Unpacking.{unpacked_count, told, sized_hold, wrong_hold, held-unpack, held_few, refused_size, only_2, only_8}
use Rattle.tape_model.proofs.Opening.{tickets_good, plain-count, plain_sized, was_accepted, count-is, net-is, front}
use Rattle.tape_model.proofs.Tapes.{tickets-length, tickets-held}
use Rattle.tape_model.proofs.Exact.{packed-again}

held : (string : List ℕ) (tickets : List Ticket) → AreBytes string → plain_tickets string ≡ done tickets
    → Valid tickets × (length tickets ≤ ticket_limit) × (pack_tickets tickets ≡ string)
held string tickets b e =
    let f = held_few string tickets e in
    let again = packed-again (length string / ticket_length) string tickets b (omega (arith, f.0)) (held-unpack string tickets e) in
    (again.0, f.1, again.1)

-- ## Where no number applies

-- the tickets on a tape
abbrev pub tickets_on : List ℕ → List ℕ → List Ticket
tickets_on key tape = tickets_in (unpack_tickets (ticket_count tape) (plain_bytes key tape))

-- the plain bytes of a tape that opens hold them
module _ (key tape out : List ℕ) (accepted : open_tape_refusal key tape out ≡ 0) where
  unpacks : unpack_tickets (ticket_count tape) (plain_bytes key tape) ≡ done (tickets_on key tape)
  unpacks = told (unpack_tickets (ticket_count tape) (plain_bytes key tape)) (tickets_good key tape out accepted)

  pub plain-held : plain_tickets (plain_bytes key tape) ≡ done (tickets_on key tape)
  plain-held =
      sized_hold (plain_bytes key tape) (plain_sized key tape out accepted) ∙ ap (λ (n : ℕ). unpack_tickets n (plain_bytes key tape)) (plain-count key tape out accepted) ∙ unpacks

  pub plain_many : length (tickets_on key tape) ≡ ticket_count tape
  plain_many = unpacked_count (ticket_count tape) (plain_bytes key tape) (tickets_on key tape) unpacks

module _ (key tape out : List ℕ) (k : Totals) (after : List ℕ) (e : open_tape key tape out ≡ record { answer = done k; out = after }) where
  accepted : open_tape_refusal key tape out ≡ 0
  accepted = was_accepted key tape out k after e

  -- and so do the bytes that opening it wrote
  pub opened-held : plain_tickets (take (ticket_length * k.tickets) after) ≡ done (tickets_on key tape)
  opened-held = ap plain_tickets (front key tape out k after e) ∙ plain-held key tape out accepted

  pub opened_many : length (tickets_on key tape) ≡ k.tickets
  opened_many = plain_many key tape out accepted ∙ sym (count-is key tape out k after e)

  opened : plain_totals (take (ticket_length * k.tickets) after) ≡ done k
  unfolding plain_totals of_plain map_reply
  opened = ap (map_reply totals_of) opened-held ∙ (λ i. done (record { tickets = opened_many i; net = sym (net-is key tape out k after e) i }))

-- bytes of a right length in which a ticket does not unpack
by_8 : (s : List ℕ) → is_tickets_length (length s) ≡ true → (r : Reply (List Ticket)) → unpack_tickets (length s / ticket_length) s ≡ r → is_refused r ≡ true → plain_tickets s ≡ refused 8
by_8 s h (refused n) e b = let f : plain_tickets s ≡ refused n = sized_hold s h ∙ e in f ∙ ap refused (only_8 s n f h)
by_8 s h (done ts) e b = absurd (false≢true b)

pub plain-laws : PlainLaws
plain-laws =
    record {
      packed = tickets-held;
      held = held;
      two = λ s. (only_2 s, wrong_hold s);
      unpacks = sized_hold;
      eight = λ s. (λ e. (refused_size s 8 e (λ z. omega arith), ap is_refused (sym (sized_hold s (refused_size s 8 e (λ z. omega arith))) ∙ e)), λ h. by_8 s h.0 _ refl h.1);
      no_other = only_8;
      opened = opened;
    }

-- ## Functions of the tickets

-- opened bytes are of a wrong length, or hold a ticket that does not unpack, or hold tickets
three : (P : Reply (List Ticket) → Bool → Type 0) → P (refused 2) false → P (refused 8) true → ((ts : List Ticket) → P (done ts) true)
    → (s : List ℕ) → P (plain_tickets s) (is_tickets_length (length s))
three P wrong bad good s = by (is_tickets_length (length s)) (plain_tickets s) refl refl
  where
    by : (b : Bool) (r : Reply (List Ticket)) → is_tickets_length (length s) ≡ b → plain_tickets s ≡ r → P r b
    by false r h e = subst (λ (x : Reply (List Ticket)). P x false) (sym (wrong_hold s h) ∙ e) wrong
    by true (refused n) h e = subst (λ (m : ℕ). P (refused m) true) (sym (only_8 s n e h)) bad
    by true (done ts) h e = good ts

-- their numbers are from 2 on
pub two_or_more : (s : List ℕ) (n : ℕ) → plain_tickets s ≡ refused n → 2 ≤ n
two_or_more =
    three (λ r b. (n : ℕ) → r ≡ refused n → 2 ≤ n) (λ n e. let same : ◌≡◌ {A = ℕ} 2 n = cc in omega arith) (λ n e. let same : ◌≡◌ {A = ℕ} 8 n = cc in omega arith)
    (λ ts n e. absurd (let z : ◌≡◌ {A = ℕ} 0 1 = cc in omega arith))

module _ {A : Type 0} (f : List Ticket → A) where
  one_refused : (string : List ℕ) (n : ℕ) → (of_plain f string ≡ refused n) ↔ (plain_tickets string ≡ refused n)
  unfolding of_plain map_reply
  one_refused string n = by (plain_tickets string)
    where
      by : (r : Reply (List Ticket)) → (map_reply f r ≡ refused n) ↔ (r ≡ refused n)
      by (refused m) = (λ e. let same : m ≡ n = cc in ap refused same, λ e. let same : m ≡ n = cc in ap refused same)
      by (done ts) = (λ e. absurd (let z : ◌≡◌ {A = ℕ} 0 1 = cc in omega arith), λ e. absurd (let z : ◌≡◌ {A = ℕ} 0 1 = cc in omega arith))

  of_opened : (key tape out : List ℕ) (totals : Totals) (after : List ℕ) (head : Head) (tickets : List Ticket) → OpensAs key tape out totals after head tickets
      → of_plain f (take (ticket_length * totals.tickets) after) ≡ done (f tickets)
  unfolding of_plain map_reply written_over
  of_opened key tape out totals after head tickets o =
      let many : ticket_length * totals.tickets ≡ length (pack_tickets tickets) =
      ap (λ (k : Totals). ticket_length * k.tickets) o.answered ∙ sym (tickets-length tickets) in
      let front : take (ticket_length * totals.tickets) after ≡ pack_tickets tickets =
      ap (take (ticket_length * totals.tickets)) o.written ∙ take_at (pack_tickets tickets) (drop (length (pack_tickets tickets)) out) (ticket_length * totals.tickets) (sym many) in
      ap (λ (s : List ℕ). map_reply f (plain_tickets s)) front ∙ ap (map_reply f) (tickets-held tickets o.valid o.few)

  pub of_plain-laws : OfPlainLaws f
  unfolding of_plain map_reply
  of_plain-laws = record { answered = λ string tickets e. ap (map_reply f) e; number = one_refused; opened = of_opened }

module _ {A : Type 0} (f : List Ticket → List Ticket → A) where
  -- which number a reply has, by whether lengths are right and whether one of the tapes is refused
  abbrev Numbered : Reply A → Bool → Bool → Type 0
  Numbered x lengths refusals =
      ((x ≡ refused 2) ↔ (lengths ≡ false)) × ((x ≡ refused 8) ↔ ((lengths ≡ true) × (refusals ≡ true)))
      × ((n : ℕ) → x ≡ refused n → (n ≡ 2) ⊎ (n ≡ 8))

  by_two : (refusals : Bool) → Numbered (refused 2) false refusals
  by_two refusals = (
    (λ e. refl, λ e. refl),
    (λ e. absurd (let z : ◌≡◌ {A = ℕ} 2 8 = cc in omega arith), λ e. absurd (false≢true e.0)),
    λ n e. inl (let same : ◌≡◌ {A = ℕ} 2 n = cc in sym same),
  )

  by-eight : Numbered (refused 8) true true
  by-eight = (
    (λ e. absurd (let z : ◌≡◌ {A = ℕ} 8 2 = cc in omega arith), λ e. absurd (false≢true (sym e))),
    (λ e. (refl, refl), λ e. refl),
    λ n e. inr (let same : ◌≡◌ {A = ℕ} 8 n = cc in sym same),
  )

  by_none : (a : A) → Numbered (done a) true false
  by_none a = (
    (λ e. absurd (let z : ◌≡◌ {A = ℕ} 0 1 = cc in omega arith), λ e. absurd (false≢true (sym e))),
    (λ e. absurd (let z : ◌≡◌ {A = ℕ} 0 1 = cc in omega arith), λ e. absurd (false≢true e.1)),
    λ n e. absurd (let z : ◌≡◌ {A = ℕ} 0 1 = cc in omega arith),
  )

  numbered : (first second : List ℕ)
      → Numbered (of_two_plain f first second) (is_tickets_length (length first) && is_tickets_length (length second))
      (is_refused (plain_tickets first) || is_refused (plain_tickets second))
  unfolding of_two_plain map_replies
  numbered first second =
      three (λ r b. Numbered (map_replies f r (plain_tickets second)) (b && is_tickets_length (length second)) (is_refused r || is_refused (plain_tickets second)))
      (three (λ r b. Numbered (map_replies f (refused 2) r) (false && b) true) (by_two true) (by_two true) (λ us. by_two true) second)
      (three (λ r b. Numbered (map_replies f (refused 8) r) (true && b) true) (by_two true) by-eight (λ us. by-eight) second)
      (λ ts. three (λ r b. Numbered (map_replies f (done ts) r) (true && b) (is_refused r)) (by_two true) by-eight (λ us. by_none (f ts us)) second)
      first

  pub of_two_plain-laws : OfTwoPlainLaws f
  unfolding of_two_plain map_replies
  of_two_plain-laws =
      record {
        answered = λ first second ts us e h. ap₂ (map_replies f) e h;
        two = λ first second. (numbered first second).0;
        eight = λ first second. (numbered first second).1;
        no_other = λ first second. (numbered first second).2;
      }
