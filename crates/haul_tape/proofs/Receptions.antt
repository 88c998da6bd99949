-- The part of a reception told as mast and length; and the statements of specs/Receptions.antt, proved.
use mathlib.Core.Path.{◌≡◌, refl, sym, ap, ap₂, ◌∙◌, subst}
use mathlib.Core.Bool.{true}
use mathlib.Core.List.{List}
use mathlib.Core.Logic.{◌⊎◌, inl, inr}
use Prim.Native.Nat.{ℕ, ◌*◌, ◌≤◌, ◌<◌}
use native.Mathlib.Omega.{arith}
use lib.ListN.{length, take}
use denote.Ref.{Bor}
use Rattle.calls.specs.Calls.{Result, written_over}
use Rattle.acorn_model.specs.Machine.{key_length}
use Rattle.tape_model.specs.declared.Ticket.{Ticket}
use Rattle.tape_model.specs.declared.Head.{Head}
use Rattle.tape_model.specs.Ticket.{ticket_length, head_rule}
use Rattle.tape_model.specs.declared.Totals.{Totals}
use Rattle.tape_model.specs.Tape.{ticket_limit, pack_tickets, tape_of, total_net, open_tape}
use Rattle.tape_model.specs.Laws.{Valid}
use Rattle.tape_model.proofs.Tapes.{tapes_come_back}
use Rattle.receptions.specs.Receptions.{Mast, first_mast, second_mast, of_mast, Part, PartingReply, refused_at, not_parted, parting, longer, longer_bytes}
use Rattle.receptions.specs.Clauses.{IsPart}
use Rattle.receptions.specs.Laws.{Begins, PlaceLaws, LongerLaws}
use Rattle.receptions.specs.Opening.{HeardWhole}
use Rattle.receptions.proofs.Proved.{reception_laws, joined_to_opening}
use Rattle.c_answers.specs.declared.HtParted.{HtParted}
use Rattle.c_answers.specs.declared.HtReception.{HtReception}
use Rattle.c_answers.specs.declared.HtOpened.{HtOpened}
use Rattle.c_answers.specs.Answers.{opened_numbers, mast_number, parted_numbers, part_numbers}
use Rattle.haul_tape.specs.Clauses.{PartingSeen, LongerSeen, OpenTapeSeen}
use Rattle.haul_tape.specs.Receptions.{reception_of, bytes_of, PartingAnswered, LongerAnswered, ReceptionExports}

-- ## The mast, by lengths

not-second : (m : Mast) → (m ≡ second_mast → ⊥) → m ≡ first_mast
not-second first_mast h = refl
not-second second_mast h = absurd (h refl)

module _ (first second r : Bor (List ℕ)) (part : IsPart (longer first.now second.now) first second r) where
  laws : LongerLaws first.now second.now
  laws = reception_laws.longers first.now second.now

  size : length r.now ≡ (longer first.now second.now).bytes
  size = (reception_laws.slices first second r part).size

  told : (m : Mast) → (longer first.now second.now).mast ≡ m → record { mast = mast_number m; bytes = length r.now } ≡ part_numbers (longer first.now second.now)
  unfolding part_numbers
  told m e = ap₂ {C = HtReception} (λ (m : Mast) (n : ℕ). record { mast = mast_number m; bytes = n }) (sym e) size

  pub second_told : length first.now < length r.now → record { mast = 2; bytes = length r.now } ≡ part_numbers (longer first.now second.now)
  second_told l = told second_mast (laws.by_length.1 (omega (arith, l, size)))

  pub first_told : length r.now ≤ length first.now → record { mast = 1; bytes = length r.now } ≡ part_numbers (longer first.now second.now)
  first_told l = told first_mast (not-second _ (λ s. absurd (omega (arith, l, size, laws.by_length.0 s))))

-- ## The statements

module _ (first second : List ℕ) where
  -- by what the first call answers: 10 is the only number
  by-reply : {A : Type 0} → ((k : ℕ) → parting first second ≡ refused_at 10 k → A) → (parting first second ≡ not_parted → A) → A
  by-reply {A = A} parted none = of (parting first second) refl
    where
      of : (reply : PartingReply) → parting first second ≡ reply → A
      of (refused_at n k) e = parted k (e ∙ ap (λ (m : ℕ). refused_at m k) (((reception_laws.places first second).place n k).0 e).0)
      of not_parted e = none e

  module _ (a : HtParted) (seen : PartingSeen first second a) where
    places : PlaceLaws first second
    places = reception_laws.places first second

    at : (k : ℕ) → parting first second ≡ refused_at 10 k → a ≡ record { refused = 10; place = k }
    unfolding parted_numbers
    at k e = seen ∙ ap parted_numbers e

    none : parting first second ≡ not_parted → a ≡ record { refused = 0; place = 0 }
    unfolding parted_numbers
    none e = seen ∙ ap parted_numbers e

    pub parting-answered : PartingAnswered first second a
    parting-answered = record {
      place = λ k. (
        λ e. by-reply (λ j p. ((places.place 10 k).0 (p ∙ ap (refused_at 10) (ap (λ (x : HtParted). x.place) (sym (at j p) ∙ e)))).1) (λ p. absurd (omega (arith, ap (λ (x : HtParted). x.refused) (sym (none p) ∙ e)))),
        λ h. at k ((places.place 10 k).1 (refl, h)),
      );
      no_place = (
        λ e. by-reply (λ j p. absurd (omega (arith, ap (λ (x : HtParted). x.refused) (sym (at j p) ∙ e)))) (λ p. places.no_place.0 p),
        λ h. none (places.no_place.1 h),
      );
      either = by-reply (λ j p. inr (j, at j p)) (λ p. inl (none p));
    }

    -- which answer it was, by the number alone
    was_parted : {A : Type 0} → a.refused ≡ 10 → ((k : ℕ) → parting first second ≡ refused_at 10 k → A) → A
    was_parted e f = by-reply f (λ p. absurd (omega (arith, e, ap (λ (x : HtParted). x.refused) (none p))))

    was_not_parted : a.refused ≡ 0 → parting first second ≡ not_parted
    was_not_parted e = by-reply (λ j p. absurd (omega (arith, e, ap (λ (x : HtParted). x.refused) (at j p)))) (λ p. p)

    module _ (r : HtReception) (heard : LongerSeen first second r) where
      parts : LongerLaws first second
      parts = reception_laws.longers first second

      numbers_of : (p : Part) → longer first second ≡ p → r ≡ record { mast = mast_number p.mast; bytes = p.bytes }
      unfolding part_numbers
      numbers_of p e = heard ∙ ap part_numbers e

      one_or_two : (m : Mast) → (mast_number m ≡ 1) ⊎ (mast_number m ≡ 2)
      one_or_two first_mast = inl refl
      one_or_two second_mast = inr refl

      of_number : (m : Mast) → reception_of (mast_number m) first second ≡ of_mast m first second
      of_number first_mast = refl
      of_number second_mast = refl

      answered : r ≡ record { mast = mast_number (longer first second).mast; bytes = (longer first second).bytes }
      answered = numbers_of (longer first second) refl

      handed_back : bytes_of r first second ≡ longer_bytes first second
      unfolding longer_bytes
      handed_back = ap (λ (x : HtReception). bytes_of x first second) answered ∙ ap (take (longer first second).bytes) (of_number (longer first second).mast)

      opened : (key : List ℕ) (head : Head) (tickets : List Ticket) → length key ≡ key_length → head_rule head ≡ true → Valid tickets → length tickets ≤ ticket_limit
          → HeardWhole (tape_of key head tickets) first second → (out : List ℕ) → ticket_length * length tickets ≤ length out
          → (o : HtOpened) (after : List ℕ) → OpenTapeSeen key (bytes_of r first second) out o after
          → (o ≡ record { refused = 0; tickets = length tickets; net = total_net tickets }) × (after ≡ written_over (pack_tickets tickets) out)
      unfolding opened_numbers
      opened key head tickets sixteen right valid few h out room o after told =
          let e = ap (λ (l : List ℕ). open_tape key l out) handed_back ∙ (joined_to_opening.whole-tape _ first second h).opens key out ∙ (tapes_come_back key head tickets sixteen right valid few).opens out room in
          (told.0 ∙ ap (λ (x : Result Totals). opened_numbers x.answer) e, told.1 ∙ ap (λ (x : Result Totals). x.out) e)

      pub longer-answered : LongerAnswered first second a r
      longer-answered = record {
        mast = subst (λ (x : HtReception). (x.mast ≡ 1) ⊎ (x.mast ≡ 2)) (sym answered) (one_or_two (longer first second).mast);
        within = subst (λ (x : HtReception). x.bytes ≤ length (reception_of x.mast first second)) (sym answered) (subst (λ (l : List ℕ). (longer first second).bytes ≤ length l) (sym (of_number (longer first second).mast)) parts.within);
        parted = λ e. was_parted e (λ k p. numbers_of _ (parts.parted 10 k p));
        first-longer = λ e l. numbers_of _ (parts.first-longer (was_not_parted e) l);
        second-longer = λ e l. numbers_of _ (parts.second-longer (was_not_parted e) l);
        begins_with = λ e. subst (λ (l : List ℕ). Begins first l × Begins second l) (sym handed_back) (parts.begins_with (was_not_parted e));
        opens = λ tape h key out. ap (λ (l : List ℕ). open_tape key l out) handed_back ∙ (joined_to_opening.whole-tape tape first second h).opens key out;
        opened = opened;
      }

pub reception_exports : ReceptionExports
reception_exports = record { parting = parting-answered; longer = λ first second a r seen heard. longer-answered first second a seen r heard }
