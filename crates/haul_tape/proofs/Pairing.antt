-- The statements of specs/Pairing.antt, proved.
use mathlib.Core.Path.{◌≡◌, refl, sym, ap, ap₂, ◌∙◌}
use mathlib.Core.Bool.{false}
use mathlib.Core.List.{List}
use mathlib.Core.Logic.{◌↔◌, ◌⊎◌, inl, inr, ⊎_elim}
use Prim.Native.Nat.{ℕ}
use native.Mathlib.Omega.{arith}
use native.Mathlib.Decide.{ℕ_discrete}
use lib.ListN.{length}
use Rattle.calls.specs.Calls.{Reply, refused, done}
use Rattle.tape_model.specs.declared.Ticket.{Ticket}
use Rattle.tape_model.specs.Tape.{plain_tickets}
use Rattle.pairing.specs.declared.Counts.{Counts}
use Rattle.pairing.specs.Pairing.{Paired, paired, times_fall, plain_paired, Outputs, too_short, counts, pair_tapes}
use Rattle.pairing.specs.Laws.{PlainPairedLaws, CallLaws}
use Rattle.pairing.proofs.Proved.{pairing_laws}
use Rattle.c_answers.specs.declared.HtPaired.{HtPaired}
use Rattle.c_answers.specs.Answers.{paired_numbers}
use Rattle.haul_tape.specs.Clauses.{PairTapesSeen}
use Rattle.haul_tape.specs.Pairing.{refused_with, PairTapesAnswered, PairTapesDone, PairingExports}

through : {A B C : Type 0} → A ↔ B → B ↔ C → A ↔ C
through f g = (λ a. g.0 (f.0 a), λ c. f.1 (g.1 c))

-- ## Numbers

refused_told : (x : Reply Counts) (n : ℕ) → paired_numbers x ≡ refused_with n → (n ≡ 0 → ⊥) → x ≡ refused n
unfolding paired_numbers
refused_told (refused m) n e d = ap (λ (k : ℕ). refused k) (ap (λ (r : HtPaired). r.refused) e)
refused_told (done c) n e d = absurd (d (sym (ap (λ (r : HtPaired). r.refused) e)))

numbers_refused : (x : Reply Counts) (n : ℕ) → x ≡ refused n → paired_numbers x ≡ refused_with n
unfolding paired_numbers
numbers_refused x n e = ap paired_numbers e

done-told : (x : Reply Counts) (c : Counts) → x ≡ done c → paired_numbers x ≡ record { refused = 0; pairs = c.pairs; left_first = c.left_first; left_second = c.left_second }
unfolding paired_numbers
done-told x c e = ap paired_numbers e

module _ (first second : List ℕ) (out : Outputs) (r : HtPaired) (after : Outputs) (seen : PairTapesSeen first second out r after) where
  calls : CallLaws first second out
  calls = pairing_laws.calls first second out

  opened : PlainPairedLaws first second
  opened = pairing_laws.opened first second

  as_refused : (n : ℕ) → (n ≡ 0 → ⊥) → (r ≡ refused_with n) ↔ ((pair_tapes first second out).answer ≡ refused n)
  as_refused n d = (λ e. refused_told _ n (sym seen.0 ∙ e) d, λ e. seen.0 ∙ numbers_refused _ n e)

  of_tapes : (n : ℕ) → (n ≡ 0 → ⊥) → (n ≡ 6 → ⊥) → (r ≡ refused_with n) ↔ (plain_paired first second ≡ refused n)
  of_tapes n d s = through (as_refused n d) (calls.number n s)

  -- ## Which answer it was

  Ways : Type 0
  Ways = (r ≡ refused_with 2) ⊎ ((r ≡ refused_with 8) ⊎ ((r ≡ refused_with 12) ⊎ (r ≡ refused_with 6)))

  of_number : (n : ℕ) → plain_paired first second ≡ refused n → (n ≡ 2) ⊎ ((n ≡ 8) ⊎ (n ≡ 12)) → Ways
  unfolding Ways
  of_number n e (inl h) = inl ((of_tapes 2 (λ z. omega arith) (λ z. omega arith)).1 (e ∙ ap (λ (k : ℕ). refused k) h))
  of_number n e (inr (inl h)) = inr (inl ((of_tapes 8 (λ z. omega arith) (λ z. omega arith)).1 (e ∙ ap (λ (k : ℕ). refused k) h)))
  of_number n e (inr (inr h)) = inr (inr (inl ((of_tapes 12 (λ z. omega arith) (λ z. omega arith)).1 (e ∙ ap (λ (k : ℕ). refused k) h))))

  ways : (x : Reply Counts) → (pair_tapes first second out).answer ≡ x → ((c : Counts) × ((pair_tapes first second out).answer ≡ done c)) ⊎ Ways
  unfolding Ways
  ways (done c) e = inl (c, e)
  ways (refused n) e = inr (by (ℕ_discrete n 6))
    where
      by : Dec (n ≡ 6) → (r ≡ refused_with 2) ⊎ ((r ≡ refused_with 8) ⊎ ((r ≡ refused_with 12) ⊎ (r ≡ refused_with 6)))
      by (yes h) = inr (inr (inr ((as_refused 6 (λ z. omega arith)).1 (e ∙ ap (λ (k : ℕ). refused k) h))))
      by (no h) = let t = (calls.number n h).0 e in of_number n t (opened.no_other n t)

  not_done : (n : ℕ) → (n ≡ 0 → ⊥) → r ≡ refused_with n → r.refused ≡ 0 → ⊥
  not_done n d e z = d (sym (ap (λ (x : HtPaired). x.refused) e) ∙ z)

  was_done : r.refused ≡ 0 → (c : Counts) × ((pair_tapes first second out).answer ≡ done c)
  unfolding Ways
  was_done z = by (ways (pair_tapes first second out).answer refl)
    where
      by : ((c : Counts) × ((pair_tapes first second out).answer ≡ done c)) ⊎ Ways → (c : Counts) × ((pair_tapes first second out).answer ≡ done c)
      by (inl h) = h
      by (inr (inl e)) = absurd (not_done 2 (λ k. omega arith) e z)
      by (inr (inr (inl e))) = absurd (not_done 8 (λ k. omega arith) e z)
      by (inr (inr (inr (inl e)))) = absurd (not_done 12 (λ k. omega arith) e z)
      by (inr (inr (inr (inr e)))) = absurd (not_done 6 (λ k. omega arith) e z)

  one_of : (r.refused ≡ 0) ⊎ Ways
  one_of =
      ⊎_elim (λ (h : (c : Counts) × ((pair_tapes first second out).answer ≡ done c)). inl (ap (λ (x : HtPaired). x.refused) (seen.0 ∙ done-told _ h.0 h.1)))
      (λ (w : Ways). inr w) (ways (pair_tapes first second out).answer refl)

  left : (r.refused ≡ 0 → ⊥) → after ≡ out
  left d = by (pair_tapes first second out).answer refl
    where
      by : (x : Reply Counts) → (pair_tapes first second out).answer ≡ x → after ≡ out
      by (refused n) e = seen.1 ∙ calls.unchanged n e
      by (done c) e = absurd (d (ap (λ (x : HtPaired). x.refused) (seen.0 ∙ done-told _ c e)))

  -- ## The statements

  pub answered : PairTapesAnswered first second out r after
  unfolding Ways
  answered = record {
    written = λ ts us e f h g s.
        let w = calls.written (paired ts us) (opened.answered ts us e f h g) s in (seen.0 ∙ done-told _ (counts (paired ts us)) w.0, seen.1 ∙ w.1);
    done_where = λ z.
        let d = was_done z in
        let g = calls.given d.0 d.1 in
        let h = opened.held g.0 g.1 in
        (h.0, h.1, h.2, h.3, h.4, h.5, ap (λ (p : Paired). too_short p out) (sym h.6) ∙ g.2);
    two = through (of_tapes 2 (λ z. omega arith) (λ z. omega arith)) opened.two;
    eight = through (of_tapes 8 (λ z. omega arith) (λ z. omega arith)) opened.eight;
    twelve = through (of_tapes 12 (λ z. omega arith) (λ z. omega arith)) opened.twelve;
    six = (
      λ e.
          let g = calls.six.0 ((as_refused 6 (λ z. omega arith)).0 e) in
          let h = opened.held g.0 g.1 in
          (h.0, h.1, h.2, h.3, h.4, h.5, ap (λ (p : Paired). too_short p out) (sym h.6) ∙ g.2),
      λ h. (as_refused 6 (λ z. omega arith)).1 (calls.six.1 (paired h.0 h.1, opened.answered h.0 h.1 h.2 h.3 h.4 h.5, h.6)),
    );
    one_of = one_of;
    left = left;
  }

  module _ (z : r.refused ≡ 0) where
    -- the counts, by the tickets of the tapes
    pub counted : (ts us : List Ticket) → plain_tickets first ≡ done ts → plain_tickets second ≡ done us
        → (times_fall ts ≡ false) × (times_fall us ≡ false)
        × (r
        ≡ record {
          refused = 0;
          pairs = length (paired ts us).pairs;
          left_first = length (paired ts us).left_first;
          left_second = length (paired ts us).left_second;
        })
    counted ts us e f =
        let w = answered.done_where z in
        let one : w.0 ≡ ts = cc w.2 in
        let other : w.1 ≡ us = cc w.3 in
        let h : times_fall ts ≡ false = ap times_fall (sym one) ∙ w.4 in
        let g : times_fall us ≡ false = ap times_fall (sym other) ∙ w.5 in
        let s : too_short (paired ts us) out ≡ false = ap₂ (λ (x y : List Ticket). too_short (paired x y) out) (sym one) (sym other) ∙ w.6 in
        (h, g, (answered.written ts us e f h g s).0)

    pub pairs_done : (ts us : List Ticket) → plain_tickets first ≡ done ts → plain_tickets second ≡ done us → PairTapesDone ts us r
    pairs_done ts us e f =
        let c = counted ts us e f in
        let l = pairing_laws.pairings ts us in
        let is = c.2 in
        rw is
        (record {
          first_sum = l.first_sum;
          second_sum = l.second_sum;
          none_has_more = l.none_has_more c.0 c.1;
          the_one = λ pairs t. ap length ((l.the_one pairs).0 t);
        })

pub pairing_exports : PairingExports
pairing_exports =
    record {
      answered = answered;
      pairs = λ first second out r after seen z ts us e f. pairs_done first second out r after seen z ts us e f;
      exchanged = λ first second out out' r s after after' seen seen' z z'.
          let w = (answered first second out r after seen).done_where z in
          let a = counted first second out r after seen z w.0 w.1 w.2 w.3 in
          let b = counted second first out' s after' seen' z' w.1 w.0 w.3 w.2 in
          let many = (pairing_laws.pairings w.0 w.1).exchanged a.0 a.1 in
          let p = pairing_laws.pairings w.0 w.1 in
          let q = pairing_laws.pairings w.1 w.0 in
          let is = a.2 in
          let is' = b.2 in
          rw (is, is') (many, omega (arith, p.second_sum, q.first_sum), omega (arith, p.first_sum, q.second_sum));
    }
