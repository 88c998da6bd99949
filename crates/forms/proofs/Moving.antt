-- The move between forms: `MoveLaws`, proved.
use mathlib.Core.Path.{◌≡◌, refl, sym, ap, ap₂, subst, ◌∙◌}
use mathlib.Core.Bool.{Bool, true, false, not, ◌&&◌, ◌||◌, false≢true}
use mathlib.Core.List.{List}
use mathlib.Core.Logic.{◌⊎◌, inl, inr, ⊎_elim}
use Prim.Native.Nat.{ℕ, ◌≤◌, ◌<◌}
use native.Mathlib.Omega.{arith}
use lib.Dec.{eqb, ltb}
use borrow.Author.Tests.{eqb-true, eq-eqb, ne_eqb, ltb-true, ltb-false, lt-ltb, le-ltb, le-leb}
use Rattle.calls.specs.Calls.{◌if◌else◌, AreBytes, Reply, refused, done, accepted, unless_refused, reply_of, map_reply}
use Rattle.calls.proofs.Choices.{both}
use Rattle.tape_model.specs.declared.Ticket.{Ticket}
use Rattle.tape_model.specs.Ticket.{form1, form2, ticket_values, in_form, ordered, values_rule, ticket_rule, pack_ticket, unpack_ticket}
use Rattle.tape_model.proofs.Ranges.{ranges_in}
use Rattle.tape_model.proofs.Tickets.{ticket-rule, form_1_rule, as_form_2, two_forms, ticket_inverse}
use Rattle.forms.specs.Move.{is_form, too_late, move_ticket}
use Rattle.forms.specs.Laws.{SameButForm, move_unpacked, move_bytes, ThereAndBack, MoveLaws}

-- ## What a move answers

module _ (t : Ticket) (form : ℕ) where
  abbrev right : Bool
  right = is_form form && ticket_rule t

  -- 4, 11 or the ticket in that form
  answers : (P : Reply Ticket → Type 0) → (right ≡ false → P (refused 4)) → (right ≡ true → too_late t form ≡ true → P (refused 11))
      → (right ≡ true → too_late t form ≡ false → P (done (in_form form t))) → P (move_ticket t form)
  unfolding move_ticket unless_refused
  answers P four eleven good = by right (too_late t form) refl refl
    where
      by : (a b : Bool) → right ≡ a → too_late t form ≡ b → P (reply_of (4 if not a else 11 if b else accepted) (in_form form t))
      by false b e f = four e
      by true true e f = eleven e f
      by true false e f = good e f

  told : (u : Ticket) → move_ticket t form ≡ done u → (is_form form ≡ true) × (ticket_rule t ≡ true) × (too_late t form ≡ false) × (in_form form t ≡ u)
  told u =
      answers (λ r. r ≡ done u → (is_form form ≡ true) × (ticket_rule t ≡ true) × (too_late t form ≡ false) × (in_form form t ≡ u))
      (λ e f. let z : ◌≡◌ {A = ℕ} 0 1 = cc in absurd (omega arith)) (λ e l f. let z : ◌≡◌ {A = ℕ} 0 1 = cc in absurd (omega arith))
      (λ e l f. let p = both (is_form form) (ticket_rule t) e in (p.0, p.1, l, cc))

  goes : is_form form ≡ true → ticket_rule t ≡ true → too_late t form ≡ false → move_ticket t form ≡ done (in_form form t)
  unfolding move_ticket unless_refused
  goes e h l = rw (e, h, l)

-- ## Forms and times

is-form : (form : ℕ) → is_form form ≡ true → (form ≡ 1) ⊎ (form ≡ 2)
is-form form = by (eqb form 1) (eqb form 2) refl refl
  where
    by : (a b : Bool) → eqb form 1 ≡ a → eqb form 2 ≡ b → (a || b) ≡ true → (form ≡ 1) ⊎ (form ≡ 2)
    by true b e f h = inl (eqb-true form 1 e)
    by false true e f h = inr (eqb-true form 2 f)
    by false false e f h = absurd (false≢true h)

form_is : (form : ℕ) → (form ≡ 1) ⊎ (form ≡ 2) → is_form form ≡ true
form_is form p = ⊎_elim (λ (e : form ≡ 1). ap is_form e) (λ (e : form ≡ 2). ap is_form e) p

module _ (t : Ticket) (h : ticket_rule t ≡ true) where
  -- a valid ticket of form 1 is tipped at most 43,199, and one that is not too late for it, too
  early_1 : t.form ≡ 1 → t.tipped ≤ 43199
  early_1 e = let r = form_1_rule t h (λ f. omega (arith, e, f)) in omega (arith, r)

  early : too_late t 1 ≡ false → t.tipped ≤ 43199
  early l = ⊎_elim early_1 (λ (e : t.form ≡ 2). ltb-false 43199 t.tipped (rw (eq-eqb t.form 2 e) at l)) (two_forms t h)

  not_late : t.tipped ≤ 43199 → (form : ℕ) → too_late t form ≡ false
  not_late small form = by (eqb t.form 2 && eqb form 1)
    where
      by : (a : Bool) → (a && ltb 43199 t.tipped) ≡ false
      by true = le-ltb 43199 t.tipped small
      by false = refl

  -- valid in the other form
  in_order : ordered t ≡ true
  unfolding ordered
  in_order = let r = ticket-rule t h in ap₂ ◌&&◌ (le-leb t.loaded t.tipped r.1) (le-leb t.tare t.gross r.2)

  pub rule_2 : ticket_rule (in_form 2 t) ≡ true
  unfolding ticket_rule values_rule ordered
  rule_2 = ap₂ ◌&&◌ (ranges_in form2 (ticket_values (in_form 2 t)) (as_form_2 t h)) in_order

  rule_1 : t.tipped ≤ 43199 → ticket_rule (in_form 1 t) ≡ true
  unfolding ticket_rule values_rule ordered
  rule_1 small =
      let r = as_form_2 t h in
      let before = (ticket-rule t h).1 in
      ap₂ ◌&&◌ (ranges_in form1 (ticket_values (in_form 1 t)) (omega (arith, r, small, before))) in_order

-- ## The laws

module _ (t u : Ticket) (form : ℕ) (e : move_ticket t form ≡ done u) where
  pub given : u ≡ in_form form t
  given = sym (told t form u e).3

  valid : ticket_rule u ≡ true
  valid =
      let p = told t form u e in
      ap ticket_rule given
      ∙ ⊎_elim (λ (f : form ≡ 1). ap (λ (x : ℕ). ticket_rule (in_form x t)) f ∙ rule_1 t p.1 (early t p.1 (subst (λ (x : ℕ). too_late t x ≡ false) f p.2)))
      (λ (f : form ≡ 2). ap (λ (x : ℕ). ticket_rule (in_form x t)) f ∙ rule_2 t p.1) (is-form form p.0)

  back : move_ticket u t.form ≡ done t
  back =
      let p = told t form u e in
      subst (λ (x : Ticket). ticket_rule x ≡ true → move_ticket x t.form ≡ done t) (told t form u e).3
      (λ v. goes (in_form form t) t.form (form_is t.form (two_forms t p.1)) v
      (⊎_elim (λ (f : t.form ≡ 1). not_late (in_form form t) v (early_1 t p.1 f) t.form)
      (λ (f : t.form ≡ 2). rw f (never (eqb form 2) (ltb 43199 t.tipped))) (two_forms t p.1))) valid
    where
      never : (a b : Bool) → ((a && false) && b) ≡ false
      never true b = refl
      never false b = refl

  kept : SameButForm t u
  kept = subst (SameButForm t) (told t form u e).3
      (record { truck = refl; shovel = refl; tip = refl; grade = refl; loaded = refl; tipped = refl; gross = refl; tare = refl })

as_it_is : (t : Ticket) → ticket_rule t ≡ true → move_ticket t t.form ≡ done t
as_it_is t h =
    goes t t.form (form_is t.form (two_forms t h)) h
    (⊎_elim (λ (f : t.form ≡ 1). not_late t h (early_1 t h f) t.form) (λ (f : t.form ≡ 2). rw f) (two_forms t h))

to_form_1 : (t : Ticket) → (move_ticket t 1 ≡ done (in_form 1 t)) → (ticket_rule t ≡ true) × (t.tipped ≤ 43199)
to_form_1 t e = let p = told t 1 (in_form 1 t) e in (p.1, early t p.1 p.2)

-- 2 is too late for no ticket
on_time : (t : Ticket) → too_late t 2 ≡ false
on_time t = by (eqb t.form 2)
  where
    by : (a : Bool) → ((a && false) && ltb 43199 t.tipped) ≡ false
    by true = refl
    by false = refl

four : (t : Ticket) (form : ℕ) → move_ticket t form ≡ refused 4 → ((form ≡ 1 → ⊥) × (form ≡ 2 → ⊥)) ⊎ (ticket_rule t ≡ false)
four t form =
    answers t form (λ r. r ≡ refused 4 → ((form ≡ 1 → ⊥) × (form ≡ 2 → ⊥)) ⊎ (ticket_rule t ≡ false)) (λ e f. wrong (is_form form) (ticket_rule t) refl refl e)
    (λ e l f. let z : ◌≡◌ {A = ℕ} 11 4 = cc in absurd (omega arith)) (λ e l f. let z : ◌≡◌ {A = ℕ} 0 1 = cc in absurd (omega arith))
  where
    wrong : (a b : Bool) → is_form form ≡ a → ticket_rule t ≡ b → (a && b) ≡ false → ((form ≡ 1 → ⊥) × (form ≡ 2 → ⊥)) ⊎ (ticket_rule t ≡ false)
    wrong false b e f h = inl (λ g. false≢true (sym e ∙ form_is form (inl g)), λ g. false≢true (sym e ∙ form_is form (inr g)))
    wrong true false e f h = inr f
    wrong true true e f h = absurd (false≢true (sym h))

refuses_4 : (t : Ticket) (form : ℕ) → ((form ≡ 1 → ⊥) × (form ≡ 2 → ⊥)) ⊎ (ticket_rule t ≡ false) → move_ticket t form ≡ refused 4
unfolding move_ticket unless_refused
refuses_4 t form p =
    ⊎_elim (λ (q : (form ≡ 1 → ⊥) × (form ≡ 2 → ⊥)). rw (ne_eqb form 1 q.0, ne_eqb form 2 q.1))
    (λ (f : ticket_rule t ≡ false). rw f (by (is_form form))) p
  where
    by : (a : Bool) → reply_of (4 if not (a && false) else 11 if too_late t form else accepted) (in_form form t) ≡ refused 4
    by true = refl
    by false = refl

eleven : (t : Ticket) (form : ℕ) → move_ticket t form ≡ refused 11 → (ticket_rule t ≡ true) × (t.form ≡ 2) × (form ≡ 1) × (43199 < t.tipped)
eleven t form =
    answers t form (λ r. r ≡ refused 11 → (ticket_rule t ≡ true) × (t.form ≡ 2) × (form ≡ 1) × (43199 < t.tipped))
    (λ e f. let z : ◌≡◌ {A = ℕ} 4 11 = cc in absurd (omega arith))
    (λ e l f.
    let p = both (is_form form) (ticket_rule t) e in
    let q = both (eqb t.form 2 && eqb form 1) (ltb 43199 t.tipped) l in
    let r = both (eqb t.form 2) (eqb form 1) q.0 in
    (p.1, eqb-true t.form 2 r.0, eqb-true form 1 r.1, ltb-true 43199 t.tipped q.1))
    (λ e l f. let z : ◌≡◌ {A = ℕ} 0 1 = cc in absurd (omega arith))

refuses_11 : (t : Ticket) (form : ℕ) → (ticket_rule t ≡ true) × (t.form ≡ 2) × (form ≡ 1) × (43199 < t.tipped) → move_ticket t form ≡ refused 11
unfolding move_ticket unless_refused
refuses_11 t form p = rw (p.0, eq-eqb form 1 p.2, eq-eqb t.form 2 p.1, lt-ltb 43199 t.tipped p.3)

no_other : (t : Ticket) (form n : ℕ) → move_ticket t form ≡ refused n → (n ≡ 4) ⊎ (n ≡ 11)
no_other t form n =
    answers t form (λ r. r ≡ refused n → (n ≡ 4) ⊎ (n ≡ 11)) (λ e f. inl cc) (λ e l f. inr cc) (λ e l f. let z : ◌≡◌ {A = ℕ} 0 1 = cc in absurd (omega arith))

-- in bytes
there_and_back : (s : List ℕ) (t u : Ticket) (form : ℕ) → AreBytes s → unpack_ticket s ≡ done t → move_ticket t form ≡ done u → ThereAndBack s form t.form
unfolding move_bytes map_reply
there_and_back s t u form b e m =
    record {
      moved = pack_ticket u;
      goes = ap (λ (r : Reply Ticket). map_reply pack_ticket (move_unpacked form r)) e ∙ ap (map_reply pack_ticket) m;
      returns = ap (λ (r : Reply Ticket). map_reply pack_ticket (move_unpacked t.form r)) (ticket_inverse.unpack-pack u (valid t u form m)) ∙ ap (map_reply pack_ticket) (back t u form m)
          ∙ ap done (ticket_inverse.pack-unpack s t b e).1;
    }

pub move-laws : MoveLaws
move-laws =
    record {
      form = λ t u form e. ap (λ (x : Ticket). x.form) (given t u form e);
      kept = kept;
      valid = valid;
      as_it_is = as_it_is;
      to_form_2 = λ t. (λ e. (told t 2 (in_form 2 t) e).1, λ h. goes t 2 refl h (on_time t));
      to_form_1 = λ t. (to_form_1 t, λ p. goes t 1 refl p.0 (not_late t p.0 p.1 1));
      four = λ t form. (four t form, refuses_4 t form);
      eleven = λ t form. (eleven t form, refuses_11 t form);
      no_other = no_other;
      back = back;
      from_form_1 = λ s t b e f.
          let h = (ticket_inverse.pack-unpack s t b e).0 in
          subst (λ (x : ℕ). ThereAndBack s 2 x) f (there_and_back s t (in_form 2 t) 2 b e (goes t 2 refl h (on_time t)));
      from_form_2 = λ s t u b e f m. subst (λ (x : ℕ). ThereAndBack s 1 x) f (there_and_back s t u 1 b e m);
    }
