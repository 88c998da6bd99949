-- The statements of specs/Forms.antt, proved.
use mathlib.Core.Path.{◌≡◌, refl, sym, ap, subst, ◌∙◌}
use mathlib.Core.Bool.{Bool, true, false, not}
use mathlib.Core.List.{List}
use mathlib.Core.Logic.{◌↔◌, ◌⊎◌, inl, inr, ⊎_elim}
use Prim.Native.Nat.{ℕ, ◌≤◌}
use native.Mathlib.Omega.{arith}
use lib.ListN.{length}
use lib.Dec.{eqb}
use borrow.Author.Tests.{le-ltb}
use Rattle.calls.specs.Calls.{◌if◌else◌, AreBytes, Reply, refused, done, accepted, unless_refused, reply_of, result_of, written_over}
use Rattle.tape_model.specs.declared.Ticket.{Ticket}
use Rattle.tape_model.specs.Ticket.{no_ticket, ticket_length, ticket_of, in_form, values_rule, ticket_rule, pack_ticket, pack_ticket_into, ticket_values_in, unpack_ticket}
use Rattle.tape_model.proofs.Tickets.{ticket_inverse}
use Rattle.forms.specs.Move.{move_ticket}
use Rattle.forms.proofs.Moving.{given, move-laws}
use Rattle.c_answers.specs.declared.HtUnpackedTicket.{HtUnpackedTicket}
use Rattle.c_answers.specs.declared.HtWritten.{HtWritten}
use Rattle.c_answers.specs.Answers.{written_numbers, ticket_numbers}
use Rattle.haul_tape.specs.Clauses.{UnpackTicketSeen, MoveTicketSeen, PackTicketSeen}
use Rattle.haul_tape.specs.Forms.{MoveAnswered, MoveExports}

-- what numbers tell of an answer
done-told : (x : Reply Ticket) (u : Ticket) → ticket_numbers x ≡ record { refused = 0; ticket = u } → (x ≡ refused 0 → ⊥) → x ≡ done u
unfolding ticket_numbers
done-told (refused n) u e f = absurd (f (ap refused (ap (λ (r : HtUnpackedTicket). r.refused) e)))
done-told (done t) u e f = ap done (ap (λ (r : HtUnpackedTicket). r.ticket) e)

refused_told : (x : Reply Ticket) (n : ℕ) → ticket_numbers x ≡ record { refused = n; ticket = no_ticket } → (n ≡ 0 → ⊥) → x ≡ refused n
unfolding ticket_numbers
refused_told (refused m) n e f = ap refused (ap (λ (r : HtUnpackedTicket). r.refused) e)
refused_told (done t) n e f = absurd (f (sym (ap (λ (r : HtUnpackedTicket). r.refused) e)))

numbers-done : (x : Reply Ticket) (u : Ticket) → x ≡ done u → ticket_numbers x ≡ record { refused = 0; ticket = u }
unfolding ticket_numbers
numbers-done x u e = ap ticket_numbers e

numbers_refused : (x : Reply Ticket) (n : ℕ) → x ≡ refused n → ticket_numbers x ≡ record { refused = n; ticket = no_ticket }
unfolding ticket_numbers
numbers_refused x n e = ap ticket_numbers e

-- unpacking is not refused with 0
never_refused_0 : (packed : List ℕ) → unpack_ticket packed ≡ refused 0 → ⊥
unfolding unpack_ticket unless_refused
never_refused_0 packed = by (eqb (length packed) ticket_length) (values_rule (ticket_values_in packed))
  where
    by : (a b : Bool) → reply_of (2 if not a else 8 if not b else accepted) (ticket_of (ticket_values_in packed)) ≡ refused 0 → ⊥
    by false b e = let z : ◌≡◌ {A = ℕ} 2 0 = cc in omega arith
    by true false e = let z : ◌≡◌ {A = ℕ} 8 0 = cc in omega arith
    by true true e = let z : ◌≡◌ {A = ℕ} 0 1 = cc in omega arith

-- a valid ticket packs into room enough
packs_valid : (t : Ticket) (out : List ℕ) → ticket_rule t ≡ true → ticket_length ≤ length out
    → (written_numbers (pack_ticket_into t out).answer ≡ record { refused = 0; bytes = ticket_length }) × ((pack_ticket_into t out).out ≡ written_over (pack_ticket t) out)
unfolding pack_ticket_into result_of unless_refused written_numbers
packs_valid t out h room = rw (h, le-ltb (length out) ticket_length room) (refl, refl)

module _ (t : Ticket) (form : ℕ) (r : HtUnpackedTicket) (seen : MoveTicketSeen t form r) where
  -- a move is not refused with 0
  never_0 : move_ticket t form ≡ refused 0 → ⊥
  never_0 e = ⊎_elim (λ (f : ◌≡◌ {A = ℕ} 0 4). omega (arith, f)) (λ (f : ◌≡◌ {A = ℕ} 0 11). omega (arith, f)) (move-laws.no_other t form 0 e)

  as_done : (u : Ticket) → (r ≡ record { refused = 0; ticket = u }) ↔ (move_ticket t form ≡ done u)
  as_done u = (λ e. done-told (move_ticket t form) u (sym seen ∙ e) never_0, λ e. seen ∙ numbers-done (move_ticket t form) u e)

  as_refused : (n : ℕ) → (n ≡ 0 → ⊥) → (r ≡ record { refused = n; ticket = no_ticket }) ↔ (move_ticket t form ≡ refused n)
  as_refused n some = (λ e. refused_told (move_ticket t form) n (sym seen ∙ e) some, λ e. seen ∙ numbers_refused (move_ticket t form) n e)

  -- every answer is one of the three
  answers : (x : Reply Ticket) → move_ticket t form ≡ x → (move_ticket t form ≡ done (in_form form t)) ⊎ ((move_ticket t form ≡ refused 4) ⊎ (move_ticket t form ≡ refused 11))
  answers (refused n) e =
      ⊎_elim (λ (f : n ≡ 4). inr (inl (e ∙ ap refused f))) (λ (f : n ≡ 11). inr (inr (e ∙ ap refused f))) (move-laws.no_other t form n e)
  answers (done u) e = inl (e ∙ ap done (given t u form e))

  -- what was answered with no refusal
  moved : r.refused ≡ 0 → (r.ticket ≡ in_form form t) × (move_ticket t form ≡ done (in_form form t))
  moved z =
      ⊎_elim (λ (e : move_ticket t form ≡ done (in_form form t)). (ap (λ (x : HtUnpackedTicket). x.ticket) ((as_done (in_form form t)).1 e), e))
      (λ p. absurd (⊎_elim
      (λ (e : move_ticket t form ≡ refused 4). let n = ap (λ (x : HtUnpackedTicket). x.refused) ((as_refused 4 (λ f. omega (arith, f))).1 e) in omega (arith, n, z))
      (λ (e : move_ticket t form ≡ refused 11). let n = ap (λ (x : HtUnpackedTicket). x.refused) ((as_refused 11 (λ f. omega (arith, f))).1 e) in omega (arith, n, z)) p))
      (answers (move_ticket t form) refl)

  packs : r.refused ≡ 0 → (out : List ℕ) → ticket_length ≤ length out → (w : HtWritten) (after : List ℕ) → PackTicketSeen r.ticket out w after
      → (w ≡ record { refused = 0; bytes = ticket_length }) × (after ≡ written_over (pack_ticket (in_form form t)) out)
  packs z out room w after p =
      let m = moved z in
      let packed = packs_valid (in_form form t) out (move-laws.valid t (in_form form t) form m.1) room in
      (p.0 ∙ ap (λ (u : Ticket). written_numbers (pack_ticket_into u out).answer) m.0 ∙ packed.0, p.1 ∙ ap (λ (u : Ticket). (pack_ticket_into u out).out) m.0 ∙ packed.1)

  back : r.refused ≡ 0 → (b : HtUnpackedTicket) → MoveTicketSeen r.ticket t.form b → b ≡ record { refused = 0; ticket = t }
  back z b s =
      let m = moved z in
      s ∙ ap (λ (u : Ticket). ticket_numbers (move_ticket u t.form)) m.0 ∙ numbers-done (move_ticket (in_form form t) t.form) t (move-laws.back t (in_form form t) form m.1)

  move-answered : MoveAnswered t form r
  move-answered =
      record {
        to_form_2 = λ f. (
          λ e. (move-laws.to_form_2 t).0 (subst (λ (x : ℕ). move_ticket t x ≡ done (in_form 2 t)) f ((as_done (in_form 2 t)).0 e)),
          λ h. (as_done (in_form 2 t)).1 (subst (λ (x : ℕ). move_ticket t x ≡ done (in_form 2 t)) (sym f) ((move-laws.to_form_2 t).1 h)),
        );
        to_form_1 = λ f. (
          λ e. (move-laws.to_form_1 t).0 (subst (λ (x : ℕ). move_ticket t x ≡ done (in_form 1 t)) f ((as_done (in_form 1 t)).0 e)),
          λ h. (as_done (in_form 1 t)).1 (subst (λ (x : ℕ). move_ticket t x ≡ done (in_form 1 t)) (sym f) ((move-laws.to_form_1 t).1 h)),
        );
        four = (λ e. (move-laws.four t form).0 ((as_refused 4 (λ f. omega (arith, f))).0 e), λ p. (as_refused 4 (λ f. omega (arith, f))).1 ((move-laws.four t form).1 p));
        eleven = (λ e. (move-laws.eleven t form).0 ((as_refused 11 (λ f. omega (arith, f))).0 e), λ p. (as_refused 11 (λ f. omega (arith, f))).1 ((move-laws.eleven t form).1 p));
        one_of = ⊎_elim (λ e. inl ((as_done (in_form form t)).1 e))
            (λ p. inr (⊎_elim (λ e. inl ((as_refused 4 (λ f. omega (arith, f))).1 e)) (λ e. inr ((as_refused 11 (λ f. omega (arith, f))).1 e)) p)) (answers (move_ticket t form) refl);
        packs = packs;
        back = back;
      }

-- a ticket that unpacking answered: it is valid, and packs to the bytes
unpacked_told : (packed : List ℕ) (u : HtUnpackedTicket) → UnpackTicketSeen packed u → u.refused ≡ 0 → unpack_ticket packed ≡ done u.ticket
unfolding ticket_numbers
unpacked_told packed u seen z = by (unpack_ticket packed) refl
  where
    by : (x : Reply Ticket) → unpack_ticket packed ≡ x → unpack_ticket packed ≡ done u.ticket
    by (refused n) e =
        let same : u.refused ≡ n = ap (λ (r : HtUnpackedTicket). r.refused) (seen ∙ ap ticket_numbers e) in
        absurd (never_refused_0 packed (e ∙ ap refused (sym same ∙ z)))
    by (done t) e = e ∙ ap done (sym (ap (λ (r : HtUnpackedTicket). r.ticket) (seen ∙ ap ticket_numbers e)))

same_bytes : (packed : List ℕ) (u r b : HtUnpackedTicket) (form : ℕ) → AreBytes packed → UnpackTicketSeen packed u → u.refused ≡ 0
    → MoveTicketSeen u.ticket form r → r.refused ≡ 0 → MoveTicketSeen r.ticket u.ticket.form b
    → (out : List ℕ) → ticket_length ≤ length out → (w : HtWritten) (after : List ℕ) → PackTicketSeen b.ticket out w after
    → (w ≡ record { refused = 0; bytes = ticket_length }) × (after ≡ written_over packed out)
same_bytes packed u r b form bytes seen z moves y returns out room w after p =
    let held = ticket_inverse.pack-unpack packed u.ticket bytes (unpacked_told packed u seen z) in
    let is : b.ticket ≡ u.ticket = ap (λ (x : HtUnpackedTicket). x.ticket) (back u.ticket form r moves y b returns) in
    let put = packs_valid u.ticket out held.0 room in (
      p.0 ∙ ap (λ (t : Ticket). written_numbers (pack_ticket_into t out).answer) is ∙ put.0,
      p.1 ∙ ap (λ (t : Ticket). (pack_ticket_into t out).out) is ∙ put.1 ∙ ap (λ (string : List ℕ). written_over string out) held.1,
    )

pub move_exports : MoveExports
move_exports = record { move = move-answered; same_bytes = same_bytes }
