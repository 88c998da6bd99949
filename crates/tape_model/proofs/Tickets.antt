-- Tickets and heads: packing and unpacking undo each other, what is packed is so many bytes, and what the rules say as facts on numbers.
use Prim.Native.Nat.{ℕ, suc, ◌+◌, ◌-◌, ◌*◌, ◌/◌, ◌%◌, ◌^◌, ◌≤◌}
use mathlib.Core.Path.{◌≡◌, refl, sym, ap, subst, ◌∙◌}
use mathlib.Core.Bool.{Bool, true, false}
use mathlib.Core.Logic.{◌⊎◌, inl, inr, ⊎_elim}
use mathlib.Core.List.{List, [], ◌∷◌, ◌++◌}
use native.Mathlib.Omega.{arith}
use lib.Dec.{leb, eqb}
use lib.ListN.{length, get_or}
use borrow.Author.Tests.{eqb-true, eq-eqb, ne_eqb, leb-true}
use Rattle.std.proofs.lemmas.Bool.{and_parts}
use Rattle.calls.specs.Calls.{◌if◌else◌, AreBytes, refused, done, unless_refused}
use Rattle.tape_model.specs.declared.Ticket.{Ticket}
use Rattle.tape_model.specs.declared.Head.{Head}
use Rattle.tape_model.specs.Format.{widths, in_ranges, total_width, join, cut, Fit, byte_widths, unpack, Field}
use Rattle.tape_model.specs.Ticket.{format_of, ticket_length, ticket_values, ticket_of, ordered, values_rule, ticket_rule, write_rule, net, pack_ticket, form_in, in_form, ticket_values_in, unpack_ticket, head_format, head_length, head_values, head_of, head_rule, pack_head, head_values_in, unpack_head, form1, form2}
use Rattle.tape_model.specs.Tape.{total_net}
use Rattle.tape_model.specs.Laws.{Inverse, Valid, Writable, TicketLaws}
use Rattle.tape_model.proofs.Widths.{join_lt, recut}
use Rattle.tape_model.proofs.Ranges.{InRanges, in-ranges, Roomy, ranges_fit, bytes_fit, pack-bytes}
use Rattle.tape_model.proofs.BitByBit.{bit-by-bit}
use Rattle.tape_model.proofs.Inverses.{unpack-passed, Laid, inverse, injective}

-- ## The two forms

-- what holds of both tables holds of every form's
pub of_two : (P : List Field → Type 0) → P form1 → P form2 → (form : ℕ) → P (format_of form)
of_two P first second form = by (eqb form 2)
  where
    by : (b : Bool) → P (form2 if b else form1)
    by true = second
    by false = first

-- ## The rules

pub in_order : (t : Ticket) → ordered t ≡ true → (t.loaded ≤ t.tipped) × (t.tare ≤ t.gross)
unfolding ordered
in_order t h =
    let p = and_parts (leb t.loaded t.tipped) (leb t.tare t.gross) h in
    (leb-true _ _ p.0, leb-true _ _ p.1)

pub ticket-rule : (t : Ticket) → ticket_rule t ≡ true → InRanges (format_of t.form) (ticket_values t) × (t.loaded ≤ t.tipped) × (t.tare ≤ t.gross)
unfolding ticket_rule values_rule
ticket-rule t h =
    let p = and_parts (in_ranges (format_of t.form) (ticket_values t)) (ordered t) h in
    let o = in_order t p.1 in
    (in-ranges (format_of t.form) (ticket_values t) p.0, o.0, o.1)

-- in numbers, by the form
pub form_2_rule : (t : Ticket) → ticket_rule t ≡ true → t.form ≡ 2 → InRanges form2 (ticket_values t)
form_2_rule t h e = rw (eq-eqb t.form 2 e) at (ticket-rule t h).0

pub form_1_rule : (t : Ticket) → ticket_rule t ≡ true → (t.form ≡ 2 → ⊥) → InRanges form1 (ticket_values t)
form_1_rule t h e = rw (ne_eqb t.form 2 e) at (ticket-rule t h).0

-- put into form 2, every valid ticket is in that form's ranges
pub as_form_2 : (t : Ticket) → ticket_rule t ≡ true → InRanges form2 (ticket_values (in_form 2 t))
as_form_2 t h =
    of_two (λ fs. InRanges fs (ticket_values t) → InRanges form2 (ticket_values (in_form 2 t))) (λ r. omega (arith, r)) (λ r. omega (arith, r)) t.form (ticket-rule t h).0

pub head-rule : (h : Head) → head_rule h ≡ true → InRanges head_format (head_values h)
unfolding head_rule
head-rule h e = in-ranges head_format (head_values h) e

-- what may be written is valid
pub writable_valid : (t : Ticket) → write_rule t ≡ true → ticket_rule t ≡ true
writable_valid t h = h

pub all_writable_valid : (ts : List Ticket) → Writable ts → Valid ts
all_writable_valid [] w = tt
all_writable_valid (t ∷ ts) w = (writable_valid t w.0, all_writable_valid ts w.1)

valid_writable : (t : Ticket) → ticket_rule t ≡ true → write_rule t ≡ true
valid_writable t h = h

all_valid_writable : (ts : List Ticket) → Valid ts → Writable ts
all_valid_writable [] h = tt
all_valid_writable (t ∷ ts) h = (valid_writable t h.0, all_valid_writable ts h.1)

head_fit : (h : Head) → head_rule h ≡ true → Fit (widths head_format) (head_values h)
head_fit h e = ranges_fit head_format (head_values h) (omega arith) (head-rule h e)

-- ## There and back

-- What a ticket's table of fields must have, whichever its form: each field has the bits for its highest value; the fields fill the bytes; the
-- form is the first four bits; and in range nothing is cut but what a ticket holds.
record Table (fields : List Field) : Type 0 where
  roomy : Roomy fields
  whole : total_width (byte_widths ticket_length) ≡ total_width (widths fields)
  first : (n : ℕ) → get_or (cut (widths fields) n) 0 0 ≡ n / 2 ^ 100 % 2 ^ 4
  held : (n : ℕ) → InRanges fields (cut (widths fields) n) → ticket_values (ticket_of (cut (widths fields) n)) ≡ cut (widths fields) n

table1 : Table form1
table1 = record { roomy = omega arith; whole = refl; first = λ n. refl; held = spare_zero }
  where
    spare_zero : (n : ℕ) → InRanges form1 (cut (widths form1) n) → ticket_values (ticket_of (cut (widths form1) n)) ≡ cut (widths form1) n
    spare_zero n r = let z : get_or (cut (widths form1) n) 9 0 ≡ 0 = omega arith in rw z

table2 : Table form2
table2 = record { roomy = omega arith; whole = refl; first = λ n. refl; held = no_spare }
  where
    no_spare : (n : ℕ) → InRanges form2 (cut (widths form2) n) → ticket_values (ticket_of (cut (widths form2) n)) ≡ cut (widths form2) n
    no_spare n r = let z : get_or (cut (widths form2) n) 9 0 ≡ 0 = omega arith in rw z

table : (form : ℕ) → Table (format_of form)
table = of_two Table table1 table2

ranges_of : (vs : List ℕ) → values_rule vs ≡ true → InRanges (format_of (get_or vs 0 0)) vs
unfolding values_rule
ranges_of vs h = in-ranges (format_of (get_or vs 0 0)) vs (and_parts (in_ranges (format_of (get_or vs 0 0)) vs) (ordered (ticket_of vs)) h).0

-- the first four bits are the form, whichever form the rest is read by
pub form_first : (form : ℕ) (s : List ℕ) → get_or (unpack (widths (format_of form)) s) 0 0 ≡ form_in s
form_first form s = (table form).first _

-- values in packed bytes that meet the rule are in the ranges of the form there
ranges_in_bytes : (s : List ℕ) → values_rule (ticket_values_in s) ≡ true → InRanges (format_of (form_in s)) (ticket_values_in s)
ranges_in_bytes s h = subst (λ (form : ℕ). InRanges (format_of form) (ticket_values_in s)) (form_first (form_in s) s) (ranges_of (ticket_values_in s) h)

form_in_bytes : (s : List ℕ) → AreBytes s → length s ≡ ticket_length → form_in s ≡ get_or s 0 0 / 16
form_in_bytes [] b n = absurd (omega arith)
form_in_bytes (x ∷ s) b n =
    let m : length s ≡ 12 = omega arith in
    let small = join_lt (byte_widths 12) s (subst (λ (k : ℕ). Fit (byte_widths k) s) m (bytes_fit s (λ p. b (suc p)))) in
    let byte = b 0 in
    let top : (x * 2 ^ total_width (byte_widths 12) + join (byte_widths 12) s) / 2 ^ 100 % 2 ^ 4 ≡ x / 16 = omega arith in
    ap (λ (k : ℕ). (x * 2 ^ total_width (byte_widths k) + join (byte_widths k) s) / 2 ^ 100 % 2 ^ 4) m ∙ top

abbrev form_told : List ℕ → ℕ
form_told vs = get_or vs 0 0

ticket_laid : Laid format_of form_told form_in ticket_length 7 values_rule ticket_values ticket_of
unfolding values_rule
ticket_laid =
    record {
      ranges = λ vs h. (and_parts (in_ranges (format_of (get_or vs 0 0)) vs) (ordered (ticket_of vs)) h).0;
      roomy = λ form. (table form).roomy;
      whole = λ form. (table form).whole;
      back = λ t. refl;
      forth = λ form n e h. (table form).held n (subst (λ (k : ℕ). InRanges (format_of k) (cut (widths (format_of form)) n)) e (ranges_of (cut (widths (format_of form)) n) h));
      first = λ form s b n. form_first form s;
    }

pub ticket_inverse : Inverse ticket_rule pack_ticket unpack_ticket
unfolding ticket_rule pack_ticket unpack_ticket
ticket_inverse = inverse format_of form_told form_in ticket_length 7 values_rule ticket_values ticket_of ticket_laid

-- heads have one form
head_laid : Laid (λ form. head_format) (λ vs. 0) (λ s. 0) head_length 2 (in_ranges head_format) head_values head_of
head_laid =
    record { ranges = λ vs h. h; roomy = λ form. omega arith; whole = λ form. refl; back = λ h. refl; forth = λ form n e h. refl; first = λ form s b n. refl }

pub head_inverse : Inverse head_rule pack_head unpack_head
unfolding head_rule pack_head unpack_head
head_inverse = inverse (λ form. head_format) (λ vs. 0) (λ s. 0) head_length 2 (in_ranges head_format) head_values head_of head_laid

-- what unpacks has the size of a ticket, and of a head, and keeps the rule
pub ticket_told : (s : List ℕ) (t : Ticket) → unpack_ticket s ≡ done t → (length s ≡ ticket_length) × (values_rule (ticket_values_in s) ≡ true) × (ticket_of (ticket_values_in s) ≡ t)
unfolding unpack_ticket
ticket_told s t e =
    let p = unpack-passed 7 (eqb (length s) ticket_length) (values_rule (ticket_values_in s)) (ticket_of (ticket_values_in s)) t e in
    (eqb-true (length s) ticket_length p.0, p.1, p.2)

pub unpacked_valid : (s : List ℕ) (t : Ticket) → unpack_ticket s ≡ done t → ticket_rule t ≡ true
unfolding ticket_rule
unpacked_valid s t e =
    let p = ticket_told s t e in
    ap ticket_rule (sym p.2) ∙ ap values_rule ((table (form_in s)).held _ (ranges_in_bytes s p.1)) ∙ p.1

-- a truck is 1 to 1,023
pub valid_truck : (t : Ticket) → ticket_rule t ≡ true → (1 ≤ t.truck) × (t.truck ≤ 1023)
valid_truck t h = (as_form_2 t h).1.0

pub truck_range : (s : List ℕ) (t : Ticket) → unpack_ticket s ≡ done t → (1 ≤ t.truck) × (t.truck ≤ 1023)
truck_range s t e = valid_truck t (unpacked_valid s t e)

-- a form is 1 or 2
pub two_forms : (t : Ticket) → ticket_rule t ≡ true → (t.form ≡ 1) ⊎ (t.form ≡ 2)
two_forms t h = of_two (λ fs. InRanges fs (ticket_values t) → (t.form ≡ 1) ⊎ (t.form ≡ 2)) (λ r. inl (omega arith)) (λ r. inr (omega arith)) t.form (ticket-rule t h).0

form_packed : (t : Ticket) → ticket_rule t ≡ true → form_in (pack_ticket t) ≡ t.form
form_packed t h =
    let s = pack_ticket t in
    sym (form_first (form_in s) s) ∙ ap (λ (u : Ticket). u.form) (ticket_told s t (ticket_inverse.unpack-pack t h)).2

other_form : (s : List ℕ) → AreBytes s → length s ≡ ticket_length → (form_in s ≡ 1 → ⊥) → (form_in s ≡ 2 → ⊥) → unpack_ticket s ≡ refused 8
unfolding unpack_ticket unless_refused
other_form s b n not1 not2 = by (values_rule (ticket_values_in s)) refl
  where
    first : (n : ℕ) → InRanges (format_of (form_in s)) (cut (widths (format_of (form_in s))) n)
        → (get_or (cut (widths (format_of (form_in s))) n) 0 0 ≡ 1) ⊎ (get_or (cut (widths (format_of (form_in s))) n) 0 0 ≡ 2)
    first n =
        of_two (λ fs. InRanges fs (cut (widths fs) n) → (get_or (cut (widths fs) n) 0 0 ≡ 1) ⊎ (get_or (cut (widths fs) n) 0 0 ≡ 2)) (λ r. inl (omega (arith, r.0))) (λ r. inr (omega (arith, r.0)))
        (form_in s)

    by : (v : Bool) → values_rule (ticket_values_in s) ≡ v → unpack_ticket s ≡ refused 8
    by false e = rw (eq-eqb (length s) ticket_length n, e)
    by true e =
        ⊎_elim (λ (f : get_or (ticket_values_in s) 0 0 ≡ 1). absurd (not1 (sym (form_first (form_in s) s) ∙ f)))
        (λ (f : get_or (ticket_values_in s) 0 0 ≡ 2). absurd (not2 (sym (form_first (form_in s) s) ∙ f)))
        (first (join (byte_widths (length s)) s) (ranges_in_bytes s e))

pub head_told : (s : List ℕ) (h : Head) → unpack_head s ≡ done h → (length s ≡ head_length) × InRanges head_format (head_values_in s) × (head_of (head_values_in s) ≡ h)
unfolding unpack_head
head_told s h e =
    let p = unpack-passed 2 (eqb (length s) head_length) (in_ranges head_format (head_values_in s)) (head_of (head_values_in s)) h e in
    (eqb-true (length s) head_length p.0, in-ranges head_format (head_values_in s) p.1, p.2)

-- ## Sizes

pub ticket-length : (t : Ticket) → length (pack_ticket t) ≡ ticket_length
unfolding pack_ticket
ticket-length t = refl

pub ticket_bytes : (t : Ticket) → AreBytes (pack_ticket t)
unfolding pack_ticket
ticket_bytes t = pack-bytes (widths (format_of t.form)) ticket_length (ticket_values t)

pub head-length : (h : Head) → length (pack_head h) ≡ head_length
unfolding pack_head
head-length h = refl

-- ## All of it

net-append : (ts us : List Ticket) → total_net (ts ++ us) ≡ total_net ts + total_net us
unfolding total_net
net-append [] us = omega arith
net-append (t ∷ ts) us = omega (arith, net-append ts us)

net-one : (t : Ticket) → total_net (t ∷ []) ≡ t.gross - t.tare
unfolding total_net net
net-one t = omega arith

pub ticket_laws : TicketLaws
unfolding pack_ticket pack_head
ticket_laws =
    record {
      tickets = ticket_inverse;
      heads = head_inverse;
      ticket_bits = λ t h. bit-by-bit (widths (format_of t.form)) ticket_length (ticket_values t) (table t.form).whole
          (ranges_fit (format_of t.form) (ticket_values t) (table t.form).roomy (ticket-rule t h).0);
      ticket_width = λ form. sym (table form).whole;
      two_forms = two_forms;
      form_packed = form_packed;
      other_form = other_form;
      form_first = form_first;
      form_in_bytes = form_in_bytes;
      head_bits = λ h fit. bit-by-bit (widths head_format) head_length (head_values h) refl fit;
      head_width = refl;
      head_fit = head_fit;
      head-values = λ h fit. recut (widths head_format) (byte_widths head_length) (head_values h) refl fit;
      nonce = λ h. refl;
      net-one = net-one;
      net-append = net-append;
      ticket_injective = injective ticket_inverse;
      head_injective = injective head_inverse;
      writable_valid = writable_valid;
      all_writable_valid = all_writable_valid;
      valid_writable = valid_writable;
      all_valid_writable = all_valid_writable;
    }
