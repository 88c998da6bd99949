-- What the code makes on the way to a sheet, and the answers by it.
use mathlib.Core.Path.{◌≡◌, refl, sym, ap, ap₂, ◌∙◌}
use mathlib.Core.Bool.{Bool}
use mathlib.Core.List.{List}
use Prim.Native.Nat.{ℕ, ◌+◌, ◌-◌, ◌*◌, ◌/◌, ◌%◌, ◌^◌, ◌≤◌, ◌<◌}
use native.Mathlib.Omega.{arith}
use lib.Dec.{ltb}
use borrow.Author.Tests.{lt-ltb, le-ltb}
use Rattle.calls.specs.Calls.{◌if◌else◌, Reply, refused, done, map_reply}
use Rattle.tape_model.specs.declared.Ticket.{Ticket}
use Rattle.tape_model.specs.Tape.{plain_tickets, total_net, of_plain}
use Rattle.trucks.specs.Words.{one}
use Rattle.trucks.proofs.Counting.{count_same}
use Rattle.pay_sheet.specs.PaySheet.{contractors, net_of, sum_to, each, comes_before, rank, pay, exact_share, whole_cents, remainder, cents_left, share, sheet_of, highest_rate, pay_sheet}
use Rattle.pay_sheet.specs.Clauses.{at, nets_of, InRange, SharesBy}
use Rattle.pay_sheet.specs.Laws.{HaveContractors}
use Rattle.pay_sheet.proofs.Sums.{sum_eq, sum_mul}
use Rattle.pay_sheet.proofs.Filled.{each_at, each_same, total-fits, product_fits}
use Rattle.pay_sheet.proofs.Hauled.{nets_add_up}
use Rattle.pay_sheet.proofs.Remaining.{total-is}
use Rattle.pay_sheet.proofs.Opened.{held-valid, valid-contractors}

-- ## The shares

-- the same remainders give the same ranks
pub rank_same : (r s : ℕ → ℕ) → ((i : ℕ) → i < contractors → r i ≡ s i) → (c : ℕ) → c < contractors → rank r c ≡ rank s c
unfolding rank comes_before
rank_same r s h c l =
    count_same contractors (λ d. comes_before r d c) (λ d. comes_before s d c) (λ d k. rw (h d k, h c l))

module _ (nets : List ℕ) (rate : ℕ) (w : List ℕ) (is_whole : w ≡ each contractors (λ c. at nets c * rate / 1000)) where
  abbrev exact : ℕ → ℕ
  exact c = at nets c * rate

  w_at : (c : ℕ) → c < contractors → at w c ≡ exact c / 1000
  w_at c h = ap (λ (l : List ℕ). at l c) is_whole ∙ each_at contractors (λ d. exact d / 1000) c h

  w_sum : sum_to contractors (at w) ≡ sum_to contractors (λ c. exact c / 1000)
  w_sum = sum_eq contractors (at w) (λ c. exact c / 1000) w_at

  -- whole cents are never more than the pay
  pub w_most : sum_to contractors (at w) ≤ sum_to contractors (at nets) * rate / 1000
  w_most = omega (arith, w_sum, total-is exact, ap (λ (n : ℕ). n / 1000) (sum_mul contractors (at nets) rate))

  module _ (r : InRange nets rate) where
    pub w_fits : sum_to contractors (at w) < 2 ^ 64
    w_fits = omega (arith, w_most, total-fits nets rate r)

    pub w_small : (c : ℕ) → c < contractors → at w c + 1 < 2 ^ 64
    w_small c h = omega (arith, w_at c h, product_fits nets rate r c h)

  pub w_shares : (q : List ℕ) (p s : ℕ) → q ≡ each contractors (λ c. exact c % 1000) → p ≡ sum_to contractors (at nets) * rate / 1000 → s ≡ sum_to contractors (at w)
      → SharesBy nets rate (each contractors (λ c. at w c + one (ltb (rank (at q) c) (p - s))))
  unfolding share cents_left whole_cents remainder exact_share pay
  w_shares q p s is-rest ep es tickets is-nets is-total =
      each_same contractors (λ c. at w c + one (ltb (rank (at q) c) (p - s))) (share tickets rate)
      (λ c h. ap₂ (λ (x y : ℕ). x + y) (whole c h) (ap₂ (λ (x y : ℕ). one (ltb x y)) (rank_same (at q) (remainder tickets rate) rests c h) cents))
    where
      its_net : (c : ℕ) → c < contractors → at nets c ≡ net_of tickets c
      its_net c h = ap (λ (l : List ℕ). at l c) is-nets ∙ each_at contractors (net_of tickets) c h

      whole : (c : ℕ) → c < contractors → at w c ≡ net_of tickets c * rate / 1000
      whole c h = w_at c h ∙ ap (λ (n : ℕ). n * rate / 1000) (its_net c h)

      rests : (c : ℕ) → c < contractors → at q c ≡ net_of tickets c * rate % 1000
      rests c h = ap (λ (l : List ℕ). at l c) is-rest ∙ each_at contractors (λ d. exact d % 1000) c h ∙ ap (λ (n : ℕ). n * rate % 1000) (its_net c h)

      cents : p - s ≡ total_net tickets * rate / 1000 - sum_to contractors (λ c. net_of tickets c * rate / 1000)
      cents = ap₂ (λ (x y : ℕ). x - y) (ep ∙ ap (λ (n : ℕ). n * rate / 1000) is-total) (es ∙ sum_eq contractors (at w) (λ c. net_of tickets c * rate / 1000) whole)

-- the nets of tickets are their total
nets_total : {nets : List ℕ} (ts : List Ticket) → nets ≡ nets_of ts → HaveContractors ts → sum_to contractors (at nets) ≡ total_net ts
nets_total ts e h =
    ap (λ (l : List ℕ). sum_to contractors (at l)) e
    ∙ sum_eq contractors (at (nets_of ts)) (net_of ts) (λ c l. each_at contractors (net_of ts) c l)
    ∙ nets_add_up ts h

-- ## The answers

module _ (plain : List ℕ) (rate : ℕ) where
  pub too_high : highest_rate < rate → refused 13 ≡ pay_sheet plain rate
  unfolding pay_sheet
  too_high h = ap (λ (b : Bool). refused 13 if b else of_plain (sheet_of rate) plain) (sym (lt-ltb highest_rate rate h))

  pub not_too_high : rate ≤ highest_rate → pay_sheet plain rate ≡ of_plain (sheet_of rate) plain
  unfolding pay_sheet
  not_too_high h = ap (λ (b : Bool). refused 13 if b else of_plain (sheet_of rate) plain) (le-ltb highest_rate rate h)

  module _ (low : rate ≤ highest_rate) where
    -- the number that the tape has
    pub sent_back : (n : ℕ) → refused n ≡ of_plain nets_of plain → refused n ≡ pay_sheet plain rate
    unfolding of_plain map_reply
    sent_back n found = by (plain_tickets plain) found ∙ sym (not_too_high low)
      where
        by : (r : Reply (List Ticket)) → refused n ≡ map_reply nets_of r → refused n ≡ map_reply (sheet_of rate) r
        by (refused k) e = ap refused (let same : n ≡ k = cc in same)
        by (done ts) e = absurd (let z : ◌≡◌ {A = ℕ} 0 1 = cc in omega arith)

    -- the nets that were found on it
    pub paid_for : (nets : List ℕ) → done nets ≡ of_plain nets_of plain → (p : ℕ) (shares : List ℕ) → p ≡ sum_to contractors (at nets) * rate / 1000 → SharesBy nets rate shares
        → done (record { pay = p; shares = shares }) ≡ pay_sheet plain rate
    unfolding of_plain map_reply sheet_of pay
    paid_for nets found p shares paid shared = by (plain_tickets plain) refl found ∙ sym (not_too_high low)
      where
        by : (r : Reply (List Ticket)) → plain_tickets plain ≡ r → done nets ≡ map_reply nets_of r → done (record { pay = p; shares = shares }) ≡ map_reply (sheet_of rate) r
        by (refused k) h e = absurd (let z : ◌≡◌ {A = ℕ} 0 1 = cc in omega arith)
        by (done ts) h e =
            let same : nets ≡ nets_of ts = cc in
            let total = nets_total ts same (valid-contractors ts (held-valid plain ts h)) in
            ap₂ (λ (k : ℕ) (l : List ℕ). done (record { pay = k; shares = l })) (paid ∙ ap (λ (k : ℕ). k * rate / 1000) total) (shared ts same total)
