-- The parts in which the code tests a ticket are the ticket rule, by the form.
use Prim.Native.Nat.{ℕ, zero, suc}
use mathlib.Core.Path.{◌≡◌, refl, sym, ap, ap₂, ◌∙◌}
use mathlib.Core.Bool.{Bool, true, false, ◌&&◌, and_assoc, and-true, and-false}
use native.Mathlib.Omega.{arith}
use borrow.Author.Tests.{leb-true, le-leb, lt-leb, eqb-true, eqb-false}
use lib.Dec.{eqb, leb, leb-zero}
use Rattle.std.specs.Ordering.{is_le, nat_cmp}
use Rattle.std.proofs.lemmas.Bool.Decides.{nat_tests}
use Rattle.calls.specs.Calls.{◌if◌else◌}
use Rattle.tape_model.specs.declared.Ticket.{Ticket}
use Rattle.tape_model.specs.Format.{in_ranges}
use Rattle.tape_model.specs.Ticket.{form1, form2, ticket_values, ticket_rule, values_rule, ordered}
use Rattle.ticket.specs.Rule.{between, last_second, tipped_in_range, place_rule, load_rule}

-- the code's tests are the ranges of the nine fields, and the two orders; f and i follow from others
regroup : (a b c d e f g h i j k : Bool) → (g ≡ true → j ≡ true → f ≡ true) → (h ≡ true → k ≡ true → i ≡ true)
    → ((a && g) && ((b && c && d && e) && (h && j && k))) ≡ ((a && (b && (c && (d && (e && (f && (g && (h && (i && true))))))))) && (j && k))
regroup a b c d e f true true i true true p q = rw (p refl refl, q refl refl) (simp (and_assoc, and-true))
regroup a b c d e f true true i true false p q = simp (and-false)
regroup a b c d e f true true i false k p q = simp (and-false)
regroup a b c d e f true false i j k p q = simp (and-false)
regroup a b c d e f false h i j k p q = simp (and-false)

within : (v w n : ℕ) → leb w n ≡ true → leb v w ≡ true → leb v n ≡ true
within v w n p q = let a = leb-true w n p in let b = leb-true v w q in le-leb v n (omega arith)

-- where the form is 2, it is in the range of form 2's table; else the code's test of it is the range of form 1's
form_range : (form : ℕ) (b : Bool) → eqb form 2 ≡ b → between 1 form 2 ≡ (between 2 form 2 if b else between 1 form 1)
form_range form true e = ap (λ (x : ℕ). between 1 x 2) (eqb-true form 2 e) ∙ sym (ap (λ (x : ℕ). between 2 x 2) (eqb-true form 2 e))
form_range form false e = ap (λ (x : Bool). leb 1 form && x) (by form (eqb-false form 2 e))
  where
    by : (n : ℕ) → (n ≡ 2 → ⊥) → leb n 2 ≡ leb n 1
    by zero f = refl
    by (suc zero) f = refl
    by (suc (suc zero)) f = absurd (f refl)
    by (suc (suc (suc n))) f = lt-leb (suc (suc (suc n))) 2 (omega arith) ∙ sym (lt-leb (suc (suc (suc n))) 1 (omega arith))

module _ (t : Ticket) where
  -- with the test of the form and the last second
  abbrev parts : Bool → ℕ → Bool
  parts form last = (form && leb t.tipped last) && (place_rule t && load_rule t)

  grouped : (form : Bool) (last : ℕ)
      → parts form last
      ≡ ((form && (between 1 t.truck 1023 && (between 1 t.shovel 63 && (between 1 t.tip 63
      && (leb t.grade 9 && (leb t.loaded last && (leb t.tipped last && (leb t.gross 1048575 && (leb t.tare 1048575 && true)))))))))
      && (leb t.loaded t.tipped && leb t.tare t.gross))
  unfolding place_rule load_rule
  grouped form last =
      regroup form (between 1 t.truck 1023) (between 1 t.shovel 63) (between 1 t.tip 63) (leb t.grade 9) (leb t.loaded last) (leb t.tipped last)
      (leb t.gross 1048575) (leb t.tare 1048575) (leb t.loaded t.tipped) (leb t.tare t.gross) (within t.loaded t.tipped last)
      (within t.tare t.gross 1048575)

  by_form : (b : Bool) → eqb t.form 2 ≡ b → parts (between 1 t.form 2) (86399 if b else 43199) ≡ (in_ranges (form2 if b else form1) (ticket_values t) && ordered t)
  unfolding ordered
  by_form true e =
      ap (λ (a : Bool). parts a 86399) (form_range t.form true e)
      ∙ rw (leb-zero t.grade, leb-zero t.loaded, leb-zero t.tipped, leb-zero t.gross, leb-zero t.tare) (grouped (between 2 t.form 2) 86399)
  by_form false e =
      ap (λ (a : Bool). parts a 43199) (form_range t.form false e)
      ∙ rw (leb-zero t.grade, leb-zero t.loaded, leb-zero t.tipped, leb-zero t.gross, leb-zero t.tare) (grouped (between 1 t.form 1) 43199)

  pub in_parts : ((between 1 t.form 2 && tipped_in_range t) && (place_rule t && load_rule t)) ≡ ticket_rule t
  unfolding last_second tipped_in_range ticket_rule values_rule
  in_parts = by_form (eqb t.form 2) refl

  -- a ticket that is tipped too late breaks the rule
  pub too-late : tipped_in_range t ≡ false → false ≡ ticket_rule t
  too-late e =
      sym (ap (λ (b : Bool). (between 1 t.form 2 && b) && (place_rule t && load_rule t)) e ∙ ap (λ (b : Bool). b && (place_rule t && load_rule t)) (and-false (between 1 t.form 2)))
      ∙ in_parts

  -- where t is what was read, in form 1 or 2 and not tipped too late, the rest judges it
  pub by-rest : (read : Ticket) (form : ℕ) (v : Bool) → t ≡ read → read.form ≡ form → between 1 form 2 ≡ true → tipped_in_range read ≡ true
      → v ≡ (place_rule t && load_rule t) → v ≡ ticket_rule t
  by-rest read form v same is range on_time rest =
      let known : between 1 t.form 2 ≡ true = ap (λ (n : ℕ). between 1 n 2) (ap (λ (u : Ticket). u.form) same ∙ is) ∙ range in
      rest ∙ sym (ap₂ (λ (a b : Bool). (a && b) && (place_rule t && load_rule t)) known (ap tipped_in_range same ∙ on_time)) ∙ in_parts

-- `contains` of a range in order, as the specification has it
in-order : (a b : ℕ) → is_le (nat_cmp a b) ≡ leb a b
in-order a b = grind (arith, nat_tests)

pub contains-is : (low v high : ℕ) → (is_le (nat_cmp low v) && is_le (nat_cmp v high)) ≡ between low v high
contains-is low v high = ap₂ ◌&&◌ (in-order low v) (in-order v high)
