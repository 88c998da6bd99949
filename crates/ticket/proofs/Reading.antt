-- What the two words of packed bytes hold, and what unpacking them answers.
use Prim.Native.Nat.{ℕ, suc, ◌/◌, ◌%◌, ◌^◌, ◌<◌}
use mathlib.Core.Path.{◌≡◌, refl, sym, ap, ap₂, ◌∙◌}
use mathlib.Core.Bool.{Bool, true, false, not, ◌&&◌}
use mathlib.Core.List.{List, [], ◌∷◌}
use mathlib.Core.Logic.{⊎_elim}
use native.Mathlib.Omega.{arith}
use lib.Dec.{eqb}
use lib.ListN.{length, get_or, take, drop}
use borrow.Author.Tests.{eq-eqb, ne_eqb, eqb-true, eqb-false}
use Rattle.calls.specs.Calls.{AreBytes, ◌if◌else◌, refused, done, accepted, unless_refused, reply_of}
use Rattle.calls.proofs.Choices.{both}
use Rattle.tape_model.specs.declared.Ticket.{Ticket}
use Rattle.tape_model.specs.Format.{Field, widths, in_ranges, join, cut, byte_widths}
use Rattle.tape_model.specs.Ticket.{form1, form2, format_of, form_in, ticket_values_in, ticket_length, ticket_of, ordered, values_rule, ticket_rule, unpack_ticket, head_format, head_length, head_of, head_rule, unpack_head}
use Rattle.tape_model.proofs.Widths.{cons}
use Rattle.tape_model.proofs.Ranges.{InRanges, in-ranges}
use Rattle.tape_model.proofs.Tickets.{of_two, two_forms, ticket_laws}
use Rattle.ticket.proofs.WordBytes.{first-bytes, last-bytes}

-- a string of the right size is answered by the test on its values
answered : {A : Type 0} (size below : ℕ) (test : List ℕ → Bool) (of_values : List ℕ → A) (n : ℕ) (vs us : List ℕ) (b : Bool)
    → n ≡ size → vs ≡ us → test us ≡ b
    → reply_of (2 if not (eqb n size) else suc below if not (test vs) else accepted) (of_values vs) ≡ (done (of_values us) if b else refused (suc below))
unfolding unless_refused
answered size below test of_values n vs us true e f g = rw (eq-eqb n size e, f, g)
answered size below test of_values n vs us false e f g = rw (eq-eqb n size e, f, g)

-- ## Tickets

-- the fields as the code reads them off the first 64 bits and the last 64, by the form
abbrev pub seen_in_form1 : ℕ → ℕ → List ℕ
seen_in_form1 h l =
    h / 2 ^ 60 ∷ h / 2 ^ 50 % 2 ^ 10 ∷ h / 2 ^ 44 % 2 ^ 6 ∷ h / 2 ^ 38 % 2 ^ 6 ∷ h / 2 ^ 34 % 2 ^ 4 ∷ h / 2 ^ 18 % 2 ^ 16
    ∷ h / 2 ^ 2 % 2 ^ 16 ∷ l / 2 ^ 22 % 2 ^ 20 ∷ l / 4 % 2 ^ 20 ∷ l % 4 ∷ []

abbrev pub seen_in_form2 : ℕ → ℕ → List ℕ
seen_in_form2 h l =
    h / 2 ^ 60 ∷ h / 2 ^ 50 % 2 ^ 10 ∷ h / 2 ^ 44 % 2 ^ 6 ∷ h / 2 ^ 38 % 2 ^ 6 ∷ h / 2 ^ 34 % 2 ^ 4 ∷ h / 2 ^ 17 % 2 ^ 17
    ∷ h % 2 ^ 17 ∷ l / 2 ^ 20 % 2 ^ 20 ∷ l % 2 ^ 20 ∷ 0 ∷ []

module _ (n h l : ℕ) (small : h < 2 ^ 64) (eh : h ≡ n / 2 ^ 40) (el : l ≡ n % 2 ^ 64) where
  pub cut-form1 : cut (widths form1) n ≡ seen_in_form1 h l
  cut-form1 =
      cons (omega arith) (cons (omega arith) (cons (omega arith) (cons (omega arith) (cons (omega arith)
      (cons (omega arith) (cons (omega arith) (cons (omega arith) (cons (omega arith) (cons (omega arith) refl)))))))))

  pub cut-form2 : cut (widths form2) n ≡ seen_in_form2 h l
  cut-form2 =
      cons (omega arith) (cons (omega arith) (cons (omega arith) (cons (omega arith) (cons (omega arith)
      (cons (omega arith) (cons (omega arith) (cons (omega arith) (cons (omega arith) (cons (omega arith) refl)))))))))

abbrev values_with : Ticket → ℕ → List ℕ
values_with t spare = t.form ∷ t.truck ∷ t.shovel ∷ t.tip ∷ t.grade ∷ t.loaded ∷ t.tipped ∷ t.gross ∷ t.tare ∷ spare ∷ []

is_false : (b : Bool) → (b ≡ true → ⊥) → b ≡ false
is_false true f = absurd (f refl)
is_false false f = refl

-- the test on all values is the ticket rule where the spare bits are zeros, and fails elsewhere
spare_test : (t : Ticket) (spare : ℕ) → values_rule (values_with t spare) ≡ (eqb spare 0 && ticket_rule t)
unfolding ticket_rule values_rule
spare_test t spare = by (eqb spare 0) refl
  where
    by : (b : Bool) → eqb spare 0 ≡ b → values_rule (values_with t spare) ≡ (b && ticket_rule t)
    by true e = ap (λ (x : ℕ). values_rule (values_with t x)) (eqb-true spare 0 e)
    by false e = is_false _ (λ h. let r = in-ranges (format_of t.form) (values_with t spare) (both _ (ordered t) h).0 in
        eqb-false spare 0 e (of_two (λ fs. InRanges fs (values_with t spare) → spare ≡ 0) (λ q. omega (arith, q)) (λ q. omega (arith, q)) t.form r))

-- 13 bytes, and the words that the code reads of them
pub record Seen (s : List ℕ) (h l : ℕ) : Type 0 where
  pub size : length s ≡ 13
  pub bytes : AreBytes s
  pub first : h ≡ join (byte_widths 8) (take 8 s)
  pub last : l ≡ join (byte_widths 8) (take 8 (drop 5 s))
  pub word : h < 2 ^ 64

pub seen : (s : List ℕ) (h l : ℕ) → length s ≡ 13 → AreBytes s → h ≡ join (byte_widths 8) (take 8 s) → l ≡ join (byte_widths 8) (take 8 (drop 5 s))
    → h < 2 ^ 64 → Seen s h l
seen s h l size bytes first last word = record { size = size; bytes = bytes; first = first; last = last; word = word }

module _ (s : List ℕ) (h l : ℕ) (seen : Seen s h l) where
  abbrev n : length s ≡ 13
  n = seen.size

  abbrev small : h < 2 ^ 64
  small = seen.word

  abbrev whole : ℕ
  whole = join (byte_widths (length s)) s

  high : h ≡ whole / 2 ^ 40
  high = seen.first ∙ first-bytes 8 5 s n seen.bytes

  low : l ≡ whole % 2 ^ 64
  low = seen.last ∙ last-bytes 5 8 s n seen.bytes

  -- by the form's table, whose values are those of a ticket and its spare bits
  ticket_answered : (fs : List Field) (t : Ticket) (spare : ℕ) → format_of (h / 2 ^ 60) ≡ fs → cut (widths fs) whole ≡ values_with t spare
      → (done t if (eqb spare 0 && ticket_rule t) else refused 8) ≡ unpack_ticket s
  unfolding unpack_ticket
  ticket_answered fs t spare table values =
      let form : form_in s ≡ h / 2 ^ 60 = omega (arith, high, small) in
      let same : ticket_values_in s ≡ values_with t spare = ap (λ (gs : List Field). cut (widths gs) whole) (ap format_of form ∙ table) ∙ values in
      sym (answered ticket_length 7 values_rule ticket_of (length s) _ (values_with t spare) _ n same (spare_test t spare))

  -- the upper half of the first byte is the form there
  pub first_byte : get_or s 0 0 / 16 ≡ h / 2 ^ 60
  first_byte = sym (ticket_laws.form_in_bytes s seen.bytes n) ∙ omega (arith, high, small)

  -- the ticket that was read, and judged v: of form 2; of form 1, without spare bits; and of neither
  pub form_2_answered : (t : Ticket) (v : Bool) → h / 2 ^ 60 ≡ 2 → ((k : ℕ) → h ≡ k / 2 ^ 40 → l ≡ k % 2 ^ 64 → t ≡ ticket_of (cut (widths form2) k)) → v ≡ ticket_rule t
      → (done t if v else refused 8) ≡ unpack_ticket s
  form_2_answered t v two et e =
      let values = cut-form2 whole h l small high low in
      ap (λ (b : Bool). done t if b else refused 8) e
      ∙ ticket_answered form2 t 0 (rw (eq-eqb (h / 2 ^ 60) 2 two)) (values ∙ ap (λ (u : Ticket). values_with u 0) (sym (et whole high low ∙ ap ticket_of values)))

  in_form_1 : (h / 2 ^ 60 ≡ 2 → ⊥) → let t = ticket_of (seen_in_form1 h l) in (done t if (eqb (l % 4) 0 && ticket_rule t) else refused 8) ≡ unpack_ticket s
  in_form_1 other = ticket_answered form1 (ticket_of (seen_in_form1 h l)) (l % 4) (rw (ne_eqb _ _ other)) (cut-form1 whole h l small high low)

  pub form_1_answered : (t : Ticket) (v : Bool) → get_or s 0 0 / 16 ≡ 1 → l % 4 ≡ 0 → ((k : ℕ) → h ≡ k / 2 ^ 40 → l ≡ k % 2 ^ 64 → t ≡ ticket_of (cut (widths form1) k)) → v ≡ ticket_rule t
      → (done t if v else refused 8) ≡ unpack_ticket s
  form_1_answered t v one none et e =
      let same : t ≡ ticket_of (seen_in_form1 h l) = et whole high low ∙ ap ticket_of (cut-form1 whole h l small high low) in
      ap₂ (λ (a b : Bool). done t if (a && b) else refused 8) (sym (eq-eqb (l % 4) 0 none)) e
      ∙ ap (λ (u : Ticket). done u if (eqb (l % 4) 0 && ticket_rule u) else refused 8) same
      ∙ in_form_1 (λ f. omega (arith, first_byte, one, f))

  -- 8 for spare bits, and for another form
  pub spare_answered : get_or s 0 0 / 16 ≡ 1 → (l % 4 ≡ 0 → ⊥) → refused 8 ≡ unpack_ticket s
  spare_answered one some = rw (ne_eqb (l % 4) 0 some) at (in_form_1 (λ f. omega (arith, first_byte, one, f)))

  pub other_answered : (get_or s 0 0 / 16 ≡ 1 → ⊥) → (h / 2 ^ 60 ≡ 2 → ⊥) → refused 8 ≡ unpack_ticket s
  other_answered not1 not2 = sym (ap (λ (b : Bool). done t if b else refused 8) (fails (eqb (l % 4) 0) (ticket_rule t) refl)) ∙ in_form_1 not2
    where
      t : Ticket
      t = ticket_of (seen_in_form1 h l)

      fails : (a b : Bool) → ticket_rule t ≡ b → (a && b) ≡ false
      fails false b e = refl
      fails true false e = refl
      fails true true e = absurd (⊎_elim (λ (g : h / 2 ^ 60 ≡ 1). not1 (first_byte ∙ g)) not2 (two_forms t e))

-- ## Heads

-- the fields as the code reads them off the first 64 bits and the last 64
abbrev head_seen : ℕ → ℕ → List ℕ
head_seen h l = h / 2 ^ 32 ∷ l / 2 ^ 20 % 2 ^ 20 ∷ l % 2 ^ 20 ∷ []

cut_head : (n h l : ℕ) → h < 2 ^ 64 → h ≡ n / 2 ^ 8 → l ≡ n % 2 ^ 64 → cut (widths head_format) n ≡ head_seen h l
cut_head n h l small eh el = cons (omega arith) (cons (omega arith) (cons (omega arith) refl))

module _ (s : List ℕ) (h l : ℕ) (n : length s ≡ 9) (f : AreBytes s) (eh : h ≡ join (byte_widths 8) (take 8 s)) (el : l ≡ join (byte_widths 8) (take 8 (drop 1 s))) where
  pub head_answered : (r b : Bool) → h < 2 ^ 64 → r ≡ head_rule (head_of (head_seen h l)) → r ≡ b → (done (head_of (head_seen h l)) if b else refused 3) ≡ unpack_head s
  unfolding unpack_head head_rule
  head_answered r b small er eb =
      sym (answered head_length 2 (in_ranges head_format) head_of (length s) _ (head_seen h l) b n
      (cut_head _ h l small (eh ∙ first-bytes 8 1 s n f) (el ∙ last-bytes 1 8 s n f)) (sym er ∙ eb))
