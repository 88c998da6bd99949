-- The call: its number, and what it has written.
use mathlib.Core.Path.{◌≡◌, refl, sym, ap, ◌∙◌}
use mathlib.Core.Bool.{Bool, true, false, ◌||◌, or-true, true≢false}
use mathlib.Core.List.{List}
use mathlib.Core.Logic.{◌↔◌, ◌⊎◌, inl, inr, ⊎_elim}
use Prim.Native.Nat.{ℕ, ◌+◌, ◌*◌, ◌/◌, ◌≤◌, ◌<◌}
use native.Mathlib.Omega.{arith}
use lib.Dec.{ltb}
use lib.ListN.{length}
use borrow.Author.Tests.{ltb-true, ltb-false, lt-ltb, le-ltb}
use Rattle.std.proofs.lemmas.Bool.{or_parts}
use Rattle.calls.specs.Calls.{◌if◌else◌, Reply, refused, done}
use Rattle.calls.proofs.Writing.{written-length}
use Rattle.tape_model.specs.declared.Ticket.{Ticket}
use Rattle.tape_model.specs.Ticket.{ticket_length}
use Rattle.tape_model.proofs.Unpacking.{held-count}
use Rattle.pairing.specs.Pairing.{Paired, paired, plain_paired, Outputs, pair_numbers, too_short, put, Counts, counts, PairingResult, put_unless_short, pair_tapes}
use Rattle.pairing.specs.Laws.{CallLaws}
use Rattle.pairing.proofs.Leftovers.{room, first_sum, second_sum}
use Rattle.pairing.proofs.Opened.{only-numbers, opened-laws}

-- ## The result, by the reply of the tapes

data Called (out : Outputs) : Reply Paired → PairingResult → Type 0 where
  refusal : (n : ℕ) → Called out (refused n) (record { answer = refused n; out = out })
  short : (found : Paired) → too_short found out ≡ true → Called out (done found) (record { answer = refused 6; out = out })
  writes : (found : Paired) → too_short found out ≡ false → Called out (done found) (record { answer = done (counts found); out = put found out })

called : (first second : List ℕ) (out : Outputs) → Called out (plain_paired first second) (pair_tapes first second out)
unfolding pair_tapes
called first second out = by (plain_paired first second)
  where
    choose : (found : Paired) (b : Bool) → too_short found out ≡ b
        → Called out (done found) (record { answer = refused 6; out = out } if b else record { answer = done (counts found); out = put found out })
    choose found true e = short found e
    choose found false e = writes found e

    by : (r : Reply Paired) → Called out r (put_unless_short r out)
    by (refused n) = refusal n
    by (done found) = choose found (too_short found out) refl

-- ## The laws

told_six : {out : Outputs} {r : Reply Paired} {x : PairingResult} → Called out r x → (r ≡ refused 6 → ⊥)
    → (x.answer ≡ refused 6) ↔ ((found : Paired) × (r ≡ done found) × (too_short found out ≡ true))
told_six (refusal n) other = (
  λ e. let six : n ≡ 6 = cc in absurd (other (ap refused six)),
  λ h. absurd (let e = h.1 in let z : ◌≡◌ {A = ℕ} 0 1 = cc in omega arith),
)
told_six (short found h) other = (λ e. (found, refl, h), λ h. refl)
told_six {out} (writes found h) other = (
  λ e. absurd (let z : ◌≡◌ {A = ℕ} 0 1 = cc in omega arith),
  λ g. let e = g.1 in let same : found ≡ g.0 = cc in absurd (true≢false (sym g.2 ∙ ap (λ (f : Paired). too_short f out) (sym same) ∙ h)),
)

told-number : {out : Outputs} {r : Reply Paired} {x : PairingResult} → Called out r x → (n : ℕ) → (n ≡ 6 → ⊥) → (x.answer ≡ refused n) ↔ (r ≡ refused n)
told-number (refusal m) n other = (λ e. let same : m ≡ n = cc in ap refused same, λ e. let same : m ≡ n = cc in ap refused same)
told-number (short found h) n other = (λ e. absurd (other cc), λ e. absurd (let z : ◌≡◌ {A = ℕ} 0 1 = cc in omega arith))
told-number (writes found h) n other = (λ e. absurd (let z : ◌≡◌ {A = ℕ} 0 1 = cc in omega arith), λ e. absurd (let z : ◌≡◌ {A = ℕ} 0 1 = cc in omega arith))

told-unchanged : {out : Outputs} {r : Reply Paired} {x : PairingResult} → Called out r x → (n : ℕ) → x.answer ≡ refused n → x.out ≡ out
told-unchanged (refusal m) n e = refl
told-unchanged (short found h) n e = refl
told-unchanged (writes found h) n e = let z : ◌≡◌ {A = ℕ} 0 1 = cc in absurd (omega arith)

told-written : {out : Outputs} {r : Reply Paired} {x : PairingResult} → Called out r x → (found : Paired) → r ≡ done found → too_short found out ≡ false
    → (x.answer ≡ done (counts found)) × (x.out ≡ put found out)
told-written (refusal m) found e h = let z : ◌≡◌ {A = ℕ} 0 1 = cc in absurd (omega arith)
told-written {out} (short given g) found e h = let same : given ≡ found = cc in absurd (true≢false (sym g ∙ ap (λ (f : Paired). too_short f out) same ∙ h))
told-written {out} (writes given g) found e h = let same : given ≡ found = cc in (ap (λ (f : Paired). done (counts f)) same, ap (λ (f : Paired). put f out) same)

told_lengths : {out : Outputs} {r : Reply Paired} {x : PairingResult} → Called out r x
    → (length x.out.pairs ≡ length out.pairs) × (length x.out.left_first ≡ length out.left_first) × (length x.out.left_second ≡ length out.left_second)
told_lengths (refusal m) = (refl, refl, refl)
told_lengths (short found h) = (refl, refl, refl)
told_lengths {out} (writes found h) =
    let p = or_parts _ _ h in
    let q = or_parts _ _ p.1 in (
      written-length (pair_numbers found.pairs) out.pairs (ltb-false _ _ p.0),
      written-length found.left_first out.left_first (ltb-false _ _ q.0),
      written-length found.left_second out.left_second (ltb-false _ _ q.1),
    )

told-given : {out : Outputs} {r : Reply Paired} {x : PairingResult} → Called out r x → (c : Counts) → x.answer ≡ done c
    → (found : Paired) × (r ≡ done found) × (too_short found out ≡ false) × (c ≡ counts found) × (x.out ≡ put found out)
told-given (refusal m) c e = let z : ◌≡◌ {A = ℕ} 0 1 = cc in absurd (omega arith)
told-given (short found h) c e = let z : ◌≡◌ {A = ℕ} 0 1 = cc in absurd (omega arith)
told-given (writes found h) c e = (found, refl, h, cc, refl)

-- pairs plus leftovers, in what was answered
told_sums : (first second : List ℕ) (found : Paired) → plain_paired first second ≡ done found → (c : Counts) → c ≡ counts found
    → (c.pairs + c.left_first ≡ length first / ticket_length) × (c.pairs + c.left_second ≡ length second / ticket_length)
told_sums first second found e c is =
    let h = (opened-laws first second).held found e in
    let f : found ≡ paired h.0 h.1 = h.6 in
    rw (is, f) (first_sum h.0 h.1 ∙ held-count first h.0 h.2, second_sum h.0 h.1 ∙ held-count second h.1 h.3)

-- ## Outputs that are too short, and such as are long enough

either_is : (a b : Bool) → (a || b) ≡ true → (a ≡ true) ⊎ (b ≡ true)
either_is true b e = inl refl
either_is false b e = inr e

module _ (found : Paired) (out : Outputs) where
  abbrev TooShort : Type 0
  TooShort =
      (length out.pairs < 2 * length found.pairs)
      ⊎ ((length out.left_first < length found.left_first) ⊎ (length out.left_second < length found.left_second))

  pub short_is : (too_short found out ≡ true) ↔ TooShort
  short_is = (λ e. first_of (either_is _ _ e), λ h. holds h)
    where
      second_of : (ltb (length out.left_first) (length found.left_first) ≡ true) ⊎ (ltb (length out.left_second) (length found.left_second) ≡ true) → TooShort
      second_of (inl e) = inr (inl (ltb-true _ _ e))
      second_of (inr e) = inr (inr (ltb-true _ _ e))

      first_of : (ltb (length out.pairs) (length (pair_numbers found.pairs)) ≡ true)
          ⊎ ((ltb (length out.left_first) (length found.left_first) || ltb (length out.left_second) (length found.left_second)) ≡ true) → TooShort
      first_of (inl e) = inl (omega (arith, ltb-true (length out.pairs) (length (pair_numbers found.pairs)) e, room found.pairs))
      first_of (inr e) = second_of (either_is _ _ e)

      holds : TooShort → too_short found out ≡ true
      holds (inl h) =
          let l : length out.pairs < length (pair_numbers found.pairs) = omega (arith, room found.pairs) in
          rw (lt-ltb (length out.pairs) (length (pair_numbers found.pairs)) l)
      holds (inr (inl h)) = rw (lt-ltb (length out.left_first) (length found.left_first) h, or-true)
      holds (inr (inr h)) = rw (lt-ltb (length out.left_second) (length found.left_second) h, or-true, or-true)

  pub long_enough : 2 * length found.pairs ≤ length out.pairs → length found.left_first ≤ length out.left_first → length found.left_second ≤ length out.left_second
      → too_short found out ≡ false
  long_enough p f s =
      let l : length (pair_numbers found.pairs) ≤ length out.pairs = omega (arith, room found.pairs) in
      rw (
        le-ltb (length out.pairs) (length (pair_numbers found.pairs)) l,
        le-ltb (length out.left_first) (length found.left_first) f,
        le-ltb (length out.left_second) (length found.left_second) s,
      )

pub enough : (ts us : List Ticket) (out : Outputs) → (2 * length ts ≤ length out.pairs) ⊎ (2 * length us ≤ length out.pairs) → length ts ≤ length out.left_first
    → length us ≤ length out.left_second → too_short (paired ts us) out ≡ false
enough ts us out p f s =
    let one = first_sum ts us in
    let other = second_sum ts us in
    long_enough (paired ts us) out (⊎_elim (λ h. omega arith) (λ h. omega arith) p) (omega arith) (omega arith)

-- 6 is no number of the tapes
not_six : (first second : List ℕ) → plain_paired first second ≡ refused 6 → ⊥
not_six first second e = by (only-numbers first second 6 e)
  where
    by : (◌≡◌ {A = ℕ} 6 2) ⊎ ((◌≡◌ {A = ℕ} 6 8) ⊎ (◌≡◌ {A = ℕ} 6 12)) → ⊥
    by (inl h) = omega arith
    by (inr (inl h)) = omega arith
    by (inr (inr h)) = omega arith

pub call-laws : (first second : List ℕ) (out : Outputs) → CallLaws first second out
call-laws first second out =
    let c = called first second out in
    record {
      six = told_six c (not_six first second);
      number = told-number c;
      unchanged = told-unchanged c;
      written = told-written c;
      given = told-given c;
      sums = λ n e. let h = told-given c n e in told_sums first second h.0 h.1 n h.3;
      kept-length = told_lengths c;
    }
