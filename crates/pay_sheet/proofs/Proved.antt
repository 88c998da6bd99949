-- The laws of the pay sheet.
use mathlib.Core.Path.{◌≡◌, refl, sym, ap, ap₂, subst, ◌∙◌, fun_ext}
use mathlib.Core.Bool.{Bool, true, false}
use mathlib.Core.List.{List, [], ◌∷◌, ◌++◌, map}
use mathlib.Core.Logic.{◌↔◌, ◌⊎◌, inl, inr, ⊎_elim}
use Prim.Native.Nat.{ℕ, ◌+◌, ◌-◌, ◌*◌, ◌/◌, ◌%◌, ◌^◌, ◌≤◌, ◌<◌}
use native.Mathlib.Omega.{arith}
use native.Mathlib.Nat.{mul-le-mul_left, le_trans, zero-mul}
use lib.Dec.{ltb, eqb}
use lib.ListN.{length, get_or, take}
use borrow.Author.Tests.{lt-ltb}
use Rattle.calls.specs.Calls.{◌if◌else◌, Reply, refused, done, map_reply}
use Rattle.calls.proofs.Choices.{lt_or_ge, if_equal, if_unequal}
use Rattle.tape_model.specs.declared.Ticket.{Ticket}
use Rattle.tape_model.specs.declared.Head.{Head}
use Rattle.tape_model.specs.declared.Totals.{Totals}
use Rattle.tape_model.specs.Ticket.{in_form, ticket_length, net}
use Rattle.tape_model.specs.Tape.{ticket_limit, pack_tickets, is_tickets_length, plain_tickets, total_net, of_plain}
use Rattle.tape_model.specs.Laws.{OpensAs}
use Rattle.tape_model.proofs.Tickets.{ticket_laws}
use Rattle.tape_model.proofs.Plain.{plain-laws, of_plain-laws}
use Rattle.forms.specs.Laws.{AlikeButForms}
use Rattle.trucks.specs.Words.{one}
use Rattle.pay_sheet.specs.PaySheet.{contractors, contractor_of, net_of, sum_to, each, rank, pay, exact_share, whole_cents, remainder, cents_left, share, Sheet, sheet_of, highest_rate, pay_sheet}
use Rattle.pay_sheet.specs.Laws.{HaveContractors, NothingHauled, PaidOut, ShareLaws, NetLaws, SheetLaws, PlainSheetLaws, PaySheetLaws}
use Rattle.pay_sheet.proofs.Sums.{sum_eq, sum_mul}
use Rattle.pay_sheet.proofs.Filled.{each-length, each_at}
use Rattle.pay_sheet.proofs.Hauled.{nets_add_up}
use Rattle.pay_sheet.proofs.Remaining as remaining
use Rattle.pay_sheet.proofs.Opened.{held-valid, valid-contractors, held_weight}
use Rattle.pay_sheet.proofs.Made.{not_too_high}

-- replies with one number
same_number : {A : Type 0} {m n : ℕ} → ◌≡◌ {A = Reply A} (refused m) (refused n) → m ≡ n
same_number e = cc

alone_net : (t : Ticket) → total_net (t ∷ []) ≡ net t
unfolding total_net
alone_net t = omega arith

-- a larger number, the same many times
more_times : (x k r : ℕ) → 0 < r → x * r < (x + (k + 1)) * r
more_times x k r h = omega arith

less_times : (x y r : ℕ) → x < y → 0 < r → x * r < y * r
less_times x y r l h = subst (λ (n : ℕ). x * r < n * r) (let same : x + (y - (x + 1) + 1) ≡ y = omega arith in same) (more_times x (y - (x + 1)) r h)

-- ## Shares

module _ (tickets : List Ticket) (rate : ℕ) (known : HaveContractors tickets) where
  abbrev exact : ℕ → ℕ
  exact = exact_share tickets rate

  exact_is : sum_to contractors exact ≡ total_net tickets * rate
  unfolding exact_share
  exact_is = sym (ap (λ (n : ℕ). n * rate) (sym (nets_add_up tickets known)) ∙ sum_mul contractors (net_of tickets) rate)

  no_cents : (c : ℕ) → rate ≡ 0 → exact c ≡ 0
  unfolding exact_share
  no_cents c e = ap (λ (n : ℕ). net_of tickets c * n) e ∙ (let none : net_of tickets c * 0 ≡ 0 = omega arith in none)

  more_exact : (c d : ℕ) → net_of tickets c < net_of tickets d → 0 < rate → exact c < exact d
  unfolding exact_share
  more_exact c d l p = less_times (net_of tickets c) (net_of tickets d) rate l p

  -- the pay is that of all exact shares together
  pay_is : pay tickets rate ≡ remaining.total exact
  unfolding pay exact_share
  pay_is = ap (λ (n : ℕ). n / 1000) (sym exact_is)

  left_is : cents_left tickets rate ≡ remaining.left exact
  unfolding cents_left whole_cents
  left_is = ap (λ (n : ℕ). n - sum_to contractors (λ c. exact c / 1000)) pay_is

  share_is : (c : ℕ) → share tickets rate c ≡ remaining.share_of exact c
  unfolding share whole_cents remainder
  share_is c = ap (λ (n : ℕ). exact c / 1000 + one (ltb (rank (λ d. exact d % 1000) c) n)) left_is

  hauled_none : (c : ℕ) → net_of tickets c ≡ 0 → exact c ≡ 0
  unfolding exact_share
  hauled_none c e = ap (λ (n : ℕ). n * rate) e ∙ zero-mul rate

  shares_paid_out : PaidOut tickets rate (share tickets rate)
  unfolding whole_cents remainder
  shares_paid_out =
      record {
        adds-up = sum_eq contractors (share tickets rate) (remaining.share_of exact) (λ c h. share_is c) ∙ remaining.shares_sum exact ∙ sym pay_is;
        whole_or_one_more = λ c h. ⊎_elim (λ p. inr (share_is c ∙ p.1)) (λ p. inl (share_is c ∙ p.1)) (remaining.share_cases exact c);
        in_order = λ c d hc hd p q. remaining.in_order exact c d hc hd (sym (share_is c) ∙ p) (sym (share_is d) ∙ q);
      }

  pub share_laws : ShareLaws tickets rate
  unfolding whole_cents remainder exact_share
  share_laws =
      record {
        nets = nets_add_up tickets known;
        exact_shares = exact_is;
        order = λ c d. (remaining.before-told (λ e. exact e % 1000) c d, remaining.before-known (λ e. exact e % 1000) c d);
        paid_out = shares_paid_out;
        the_only = λ shares p c h. remaining.the_only exact shares (p.adds-up ∙ pay_is) p.whole_or_one_more p.in_order c h ∙ sym (share_is c);
        not-above = λ c. omega (arith, remaining.above exact c, share_is c);
        not-below = λ c. omega (arith, remaining.under exact c, share_is c);
        left = omega (arith, remaining.total-is exact, left_is, pay_is);
        few_left = omega (arith, remaining.few exact, left_is);
        nothing = λ c e. share_is c ∙ remaining.nothing exact c (hauled_none c e);
        more_for_more = λ c d hc hd l. ⊎_elim (λ p. omega (arith, share_is c, share_is d, remaining.no_less exact c d hc hd (more_exact c d l p)))
            (λ p. omega (arith, share_is c, remaining.nothing exact c (no_cents c (omega arith)))) (lt_or_ge 0 rate);
        alike = λ c d e. omega (arith, share_is c, share_is d, remaining.at_most_a_cent exact c d (ap (λ (n : ℕ). n * rate) e));
        more_has_remainder = λ c e. remaining.more_rest exact c (sym (share_is c) ∙ e);
      }

-- ## Nets

joined : (ts us : List Ticket) (c : ℕ) → net_of (ts ++ us) c ≡ net_of ts c + net_of us c
unfolding net_of
joined [] us c = omega arith
joined (t ∷ ts) us c = omega (arith, joined ts us c)

nothing_hauled : (ts : List Ticket) (c : ℕ) → NothingHauled ts c → net_of ts c ≡ 0
unfolding net_of
nothing_hauled [] c h = refl
nothing_hauled (t ∷ ts) c h =
    ⊎_elim (λ p. omega (arith, if_unequal (contractor_of t.truck) {n = c} {b = 0} {c = 0} (net t) p refl, nothing_hauled ts c h.1))
    (λ p. omega (arith, at_most (eqb (contractor_of t.truck) c), p, nothing_hauled ts c h.1)) h.0
  where
    at_most : (b : Bool) → (net t if b else 0) ≤ net t
    at_most true = omega arith
    at_most false = omega arith

net-laws : NetLaws
unfolding net_of
net-laws =
    record {
      block = λ truck c. (λ e. (omega arith, omega arith), λ p. omega (arith, p.0, p.1));
      sixteen = λ truck. (λ h. omega arith, λ h. omega arith);
      joined = joined;
      its_own = λ t. omega (arith, if_equal (contractor_of t.truck) {n = contractor_of t.truck} {a = net t} {c = net t} 0 refl refl);
      nothing_hauled = nothing_hauled;
      not_its_own = λ t c h. omega (arith, if_unequal (contractor_of t.truck) {n = c} {b = 0} {c = 0} (net t) h refl);
    }

-- ## Sheets

net_part : (ts : List Ticket) (c : ℕ) → net_of ts c ≤ total_net ts
unfolding net_of total_net
net_part [] c = omega arith
net_part (t ∷ ts) c = omega (arith, part (eqb (contractor_of t.truck) c), net_part ts c)
  where
    part : (b : Bool) → (net t if b else 0) ≤ net t
    part true = omega arith
    part false = omega arith

-- net and contractor do not depend on the form
net-kept : (ts : List Ticket) (c : ℕ) → net_of (map (in_form 1) ts) c ≡ net_of ts c
unfolding net_of net
net-kept [] c = refl
net-kept (t ∷ ts) c = ap (λ (n : ℕ). (t.gross - t.tare if eqb (contractor_of t.truck) c else 0) + n) (net-kept ts c)

total_kept : (ts : List Ticket) → total_net (map (in_form 1) ts) ≡ total_net ts
unfolding total_net net
total_kept [] = refl
total_kept (t ∷ ts) = ap (λ (n : ℕ). t.gross - t.tare + n) (total_kept ts)

module _ (rate : ℕ) where
  -- the sheet by the tape's net and the contractors'
  unfoldable pub sheet_by : ℕ → (ℕ → ℕ) → Sheet
  sheet_by total nets =
      record {
        pay = total * rate / 1000;
        shares = each contractors (λ c. nets c * rate / 1000
            + one (ltb (rank (λ d. nets d * rate % 1000) c) (total * rate / 1000 - sum_to contractors (λ d. nets d * rate / 1000))));
      }

  pub sheet-by : (ts : List Ticket) → sheet_of rate ts ≡ sheet_by (total_net ts) (net_of ts)
  unfolding sheet_of sheet_by pay share cents_left whole_cents remainder exact_share
  sheet-by ts = refl

  same_nets : (ts us : List Ticket) → total_net ts ≡ total_net us → ((c : ℕ) → net_of ts c ≡ net_of us c) → sheet_of rate ts ≡ sheet_of rate us
  same_nets ts us e f = sheet-by ts ∙ ap₂ sheet_by e (fun_ext f) ∙ sym (sheet-by us)

  forms : (ts us : List Ticket) → AlikeButForms ts us → sheet_of rate ts ≡ sheet_of rate us
  forms ts us e = sym (in_form_1 ts) ∙ ap (sheet_of rate) e ∙ in_form_1 us
    where
      in_form_1 : (ls : List Ticket) → sheet_of rate (map (in_form 1) ls) ≡ sheet_of rate ls
      in_form_1 ls = same_nets (map (in_form 1) ls) ls (total_kept ls) (net-kept ls)

  sheet_laws : SheetLaws rate
  unfolding sheet_of
  sheet_laws =
      record {
        same_nets = same_nets;
        forms = forms;
        swapped = λ ts us t u. same_nets (ts ++ t ∷ u ∷ us) (ts ++ u ∷ t ∷ us)
            (omega (arith, total ts (t ∷ u ∷ us), total ts (u ∷ t ∷ us), front t (u ∷ us), front t us, front u (t ∷ us), front u us))
            (λ c. omega (arith, joined ts (t ∷ u ∷ us) c, joined ts (u ∷ t ∷ us) c, first t (u ∷ us) c, first t us c, first u (t ∷ us) c, first u us c));
        empty-trip = λ ts us t e. same_nets (ts ++ t ∷ us) (ts ++ us)
            (omega (arith, total ts (t ∷ us), total ts us, front t us, alone_net t))
            (λ c. omega (arith, joined ts (t ∷ us) c, joined ts us c, first t us c, net_part (t ∷ []) c, alone_net t));
        sixteen = λ ts. each-length contractors (share ts rate);
        at_place = λ ts c h. each_at contractors (share ts rate) c h;
      }
    where
      total : (ts us : List Ticket) → total_net (ts ++ us) ≡ total_net ts + total_net us
      total = ticket_laws.net-append

      front : (t : Ticket) (us : List Ticket) → total_net (t ∷ us) ≡ total_net (t ∷ []) + total_net us
      front t us = total (t ∷ []) us

      first : (t : Ticket) (us : List Ticket) (c : ℕ) → net_of (t ∷ us) c ≡ net_of (t ∷ []) c + net_of us c
      first t us c = joined (t ∷ []) us c

-- ## Opened tapes

module _ (plain : List ℕ) (rate : ℕ) where
  above : highest_rate < rate → pay_sheet plain rate ≡ refused 13
  unfolding pay_sheet
  above h = ap (λ (b : Bool). refused 13 if b else of_plain (sheet_of rate) plain) (lt-ltb highest_rate rate h)

  -- by the rate
  by_rate : (P : Reply Sheet → Type 0) → (highest_rate < rate → P (refused 13)) → (rate ≤ highest_rate → P (of_plain (sheet_of rate) plain)) → P (pay_sheet plain rate)
  by_rate P high low =
      ⊎_elim (λ h. subst P (sym (above h)) (high h)) (λ h. subst P (sym (not_too_high plain rate h)) (low h)) (lt_or_ge highest_rate rate)

  number : (n : ℕ) → (of_plain (sheet_of rate) plain ≡ refused n) ↔ (plain_tickets plain ≡ refused n)
  number n = (of_plain-laws (sheet_of rate)).number plain n

  two_or_eight : (n : ℕ) → plain_tickets plain ≡ refused n → (n ≡ 2) ⊎ (n ≡ 8)
  two_or_eight n e = by (is_tickets_length (length plain)) refl
    where
      by : (b : Bool) → is_tickets_length (length plain) ≡ b → (n ≡ 2) ⊎ (n ≡ 8)
      by true h = inr (plain-laws.no_other plain n e h)
      by false h = inl (same_number (sym e ∙ (plain-laws.two plain).1 h))

  held : (sheet : Sheet) → pay_sheet plain rate ≡ done sheet
      → (rate ≤ highest_rate) × ((ts : List Ticket) × (plain_tickets plain ≡ done ts) × (sheet ≡ sheet_of rate ts))
  unfolding of_plain map_reply
  held sheet =
      by_rate (λ r. r ≡ done sheet → (rate ≤ highest_rate) × ((ts : List Ticket) × (plain_tickets plain ≡ done ts) × (sheet ≡ sheet_of rate ts)))
      (λ h e. absurd (let z : ◌≡◌ {A = ℕ} 0 1 = cc in omega arith)) (λ h e. (h, by (plain_tickets plain) refl e))
    where
      by : (r : Reply (List Ticket)) → plain_tickets plain ≡ r → map_reply (sheet_of rate) r ≡ done sheet
          → (ts : List Ticket) × (plain_tickets plain ≡ done ts) × (sheet ≡ sheet_of rate ts)
      by (refused n) h e = absurd (let z : ◌≡◌ {A = ℕ} 0 1 = cc in omega arith)
      by (done ts) h e = (ts, h, let same : sheet ≡ sheet_of rate ts = cc in same)

  shares : (ts : List Ticket) → plain_tickets plain ≡ done ts → ShareLaws ts rate
  shares ts e = share_laws ts rate (valid-contractors ts (held-valid plain ts e))

  adds-up : (sheet : Sheet) → pay_sheet plain rate ≡ done sheet → sum_to contractors (λ c. get_or sheet.shares c 0) ≡ sheet.pay
  unfolding sheet_of
  adds-up sheet e =
      let h = (held sheet e).1 in
      let ts = h.0 in
      ap (λ (s : Sheet). sum_to contractors (λ c. get_or s.shares c 0)) h.2
      ∙ sum_eq contractors (λ c. get_or (each contractors (share ts rate)) c 0) (share ts rate) (λ c l. each_at contractors (share ts rate) c l)
      ∙ (shares ts h.1).paid_out.adds-up
      ∙ ap (λ (s : Sheet). s.pay) (sym h.2)

  fits_by : (n : ℕ) → n ≤ ticket_limit * 1048575 → rate ≤ highest_rate → n * rate < 2 ^ 64
  fits_by n h low = omega (arith, le_trans (mul-le-mul_left n low) (let most : n * highest_rate ≤ 5242875000000000 = omega arith in most))

  plain_sheet_laws : PlainSheetLaws plain rate
  unfolding exact_share
  plain_sheet_laws =
      record {
        answered = λ ts low e. not_too_high plain rate low ∙ (of_plain-laws (sheet_of rate)).answered plain ts e;
        held = held;
        shares = shares;
        adds-up = adds-up;
        thirteen = (
          by_rate (λ r. r ≡ refused 13 → highest_rate < rate) (λ h e. h)
              (λ h e. absurd (⊎_elim (λ p. omega arith) (λ p. omega arith) (two_or_eight 13 ((number 13).0 e)))),
          above,
        );
        two = (
          by_rate (λ r. r ≡ refused 2 → (rate ≤ highest_rate) × (is_tickets_length (length plain) ≡ false)) (λ h e. absurd (let z : 13 ≡ 2 = same_number e in omega arith))
              (λ h e. (h, (plain-laws.two plain).0 ((number 2).0 e))),
          λ p. not_too_high plain rate p.0 ∙ (number 2).1 ((plain-laws.two plain).1 p.1),
        );
        eight = (
          by_rate (λ r. r ≡ refused 8 → (rate ≤ highest_rate) × (plain_tickets plain ≡ refused 8)) (λ h e. absurd (let z : 13 ≡ 8 = same_number e in omega arith))
              (λ h e. (h, (number 8).0 e)),
          λ p. not_too_high plain rate p.0 ∙ (number 8).1 p.1,
        );
        no_other = λ n. by_rate (λ r. r ≡ refused n → (n ≡ 13) ⊎ ((n ≡ 2) ⊎ (n ≡ 8))) (λ h e. inl (sym (same_number e))) (λ h e. inr (two_or_eight n ((number n).0 e)));
        weight = held_weight plain;
        fits = λ ts e low. fits_by (total_net ts) (held_weight plain ts e) low;
        fits_each = λ ts c e low. fits_by (net_of ts c) (omega (arith, net_part ts c, held_weight plain ts e)) low;
      }

of_opened : (key tape out : List ℕ) (totals : Totals) (after : List ℕ) (head : Head) (tickets : List Ticket) (rate : ℕ)
    → OpensAs key tape out totals after head tickets → rate ≤ highest_rate
    → (pay_sheet (take (ticket_length * totals.tickets) after) rate ≡ done (sheet_of rate tickets)) × (pay tickets rate ≡ totals.net * rate / 1000)
unfolding pay
of_opened key tape out totals after head tickets rate o low = (
  not_too_high (take (ticket_length * totals.tickets) after) rate low ∙ (of_plain-laws (sheet_of rate)).opened key tape out totals after head tickets o,
  ap (λ (k : Totals). k.net * rate / 1000) (sym o.answered),
)

pub pay_sheet_laws : PaySheetLaws
pay_sheet_laws =
    record {
      nets = net-laws;
      shares = share_laws;
      sheets = sheet_laws;
      opened = plain_sheet_laws;
      valid = valid-contractors;
      of_opened = of_opened;
      packed = λ ts rate v few low. not_too_high (pack_tickets ts) rate low ∙ (of_plain-laws (sheet_of rate)).answered (pack_tickets ts) ts (plain-laws.packed ts v few);
    }
