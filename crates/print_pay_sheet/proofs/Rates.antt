-- The rate that an input begins with: its digits counted one by one, and the number that they make.
use mathlib.Core.Path.{◌≡◌, refl, ap, ◌∙◌}
use mathlib.Core.Bool.{Bool, true, false, ◌&&◌}
use mathlib.Core.Logic.{⊎_elim}
use mathlib.Core.List.{List, [], ◌∷◌, ◌++◌, append_assoc}
use Prim.Native.Nat.{ℕ, zero, suc, min, ◌+◌, ◌-◌, ◌*◌, ◌^◌, ◌≤◌, ◌<◌}
use native.Mathlib.Nat.{pow-suc, pow-le-pow_right}
use native.Mathlib.Omega.{arith}
use lib.Dec.{leb}
use lib.ListN.{length, get_or, take, get_or-eq_default}
use lib.Seq.{take-suc, length-take-le, get_or-take, take_at, drop-append-add, get_or-append_seam}
use borrow.Author.Tests.{leb-true, eqb-true, le-leb}
use Rattle.std.specs.List.{prefix_len}
use Rattle.std.specs.Char.{is_ascii_digit}
use Rattle.calls.specs.Calls.{◌if◌else◌}
use Rattle.calls.proofs.Choices.{lt_or_ge, both}
use Rattle.tape_model.specs.Listing.{line_end, decimal}
use Rattle.tape_model.specs.Laws.{value_after}
use Rattle.tape_model.proofs.Listing.{decimal-length, listing-laws}
use Rattle.listing.proofs.LineLengths.{one_digit, digit_more}
use Rattle.print_pay_sheet.specs.Printed.{is_digit, digit_count, most_digits, has_rate, rate_in, behind_rate}
use Rattle.print_pay_sheet.specs.Clauses.{RateDigits}

-- ## Digits counted

module _ (x : ℕ) (l : List ℕ) where
  digit_first : is_digit x ≡ true → digit_count (x ∷ l) ≡ suc (digit_count l)
  unfolding digit_count
  digit_first e = ap (λ (b : Bool). suc (digit_count l) if b else 0) e

  other_first : is_digit x ≡ false → digit_count (x ∷ l) ≡ 0
  unfolding digit_count
  other_first e = ap (λ (b : Bool). suc (digit_count l) if b else 0) e

pub count-within : (l : List ℕ) → digit_count l ≤ length l
unfolding digit_count
count-within [] = omega arith
count-within (x ∷ l) = by (is_digit x) (count-within l)
  where
    by : (b : Bool) → digit_count l ≤ length l → (suc (digit_count l) if b else 0) ≤ suc (length l)
    by true h = omega arith
    by false h = omega arith

pub count-taken : (n : ℕ) (l : List ℕ) → digit_count (take n l) ≡ min n (digit_count l)
unfolding digit_count
count-taken zero l = omega arith
count-taken (suc n) [] = omega arith
count-taken (suc n) (x ∷ l) = by (is_digit x) (count-taken n l)
  where
    by : (b : Bool) → digit_count (take n l) ≡ min n (digit_count l) → (suc (digit_count (take n l)) if b else 0) ≡ min (suc n) (suc (digit_count l) if b else 0)
    by true e = omega arith
    by false e = omega arith

-- what is counted are digits
counted_digit : (l : List ℕ) (i : ℕ) → i < digit_count l → is_digit (get_or l i 0) ≡ true
unfolding digit_count
counted_digit [] i h = absurd (omega arith)
counted_digit (x ∷ l) i h = by (is_digit x) refl (counted_digit l) i h
  where
    by : (b : Bool) → is_digit x ≡ b → ((j : ℕ) → j < digit_count l → is_digit (get_or l j 0) ≡ true)
        → (j : ℕ) → j < (suc (digit_count l) if b else 0) → is_digit (get_or (x ∷ l) j 0) ≡ true
    by true e others zero h = e
    by true e others (suc j) h = others j (omega arith)
    by false e others j h = absurd (omega arith)

-- std's test of a digit, and its count of those that a list begins with
pub counted : (l : List ℕ) → prefix_len is_ascii_digit l ≡ digit_count l
unfolding digit_count
counted [] = refl
counted (x ∷ l) = by (is_digit x) (counted l)
  where
    by : (b : Bool) → prefix_len is_ascii_digit l ≡ digit_count l → (1 + prefix_len is_ascii_digit l if b else 0) ≡ (suc (digit_count l) if b else 0)
    by true e = omega arith
    by false e = refl

-- ## The number that digits make

value_last : (a d : ℕ) (ds : List ℕ) → value_after a (ds ++ (d ∷ [])) ≡ 10 * value_after a ds + (d - 0x30)
value_last a d [] = refl
value_last a d (e ∷ ds) = value_last (10 * a + (e - 0x30)) d ds

pub value_more : (ds : List ℕ) (i : ℕ) → i < length ds → value_after 0 (take (i + 1) ds) ≡ 10 * value_after 0 (take i ds) + (get_or ds i 0 - 0x30)
value_more ds i here =
    ap (λ (k : ℕ). value_after 0 (take k ds)) {x = i + 1} {y = suc i} (omega arith) ∙ ap (value_after 0) (take-suc ds i 0 here) ∙ value_last 0 (get_or ds i 0) (take i ds)

-- nineteen digits make no number of more than 64 bits
pub value_small : (n i : ℕ) → n < 10 ^ i → i < most_digits → n < 10 ^ 18
value_small n i small few = omega (arith, pow-le-pow_right {n = 10} (omega arith) {i = i} {j = 18} (omega arith))

pub value_below : (n d i : ℕ) → n < 10 ^ i → d < 10 → 10 * n + d < 10 ^ (i + 1)
value_below n d i small digit = omega (arith, pow-suc 10 i, ap (λ (k : ℕ). 10 ^ k) {x = i + 1} {y = suc i} (omega arith))

-- ## An input that begins with a rate

module _ (input : List ℕ) (has : has_rate input ≡ true) where
  told : (1 ≤ digit_count input) × (digit_count input ≤ most_digits) × (get_or input (digit_count input) 0 ≡ 0x0a)
  unfolding has_rate
  told =
      let a = both (leb 1 (digit_count input) && leb (digit_count input) most_digits) _ has in
      let b = both (leb 1 (digit_count input)) _ a.0 in
      (leb-true _ _ b.0, leb-true _ _ b.1, eqb-true _ _ a.1)

  pub few_digits : digit_count input ≤ most_digits
  few_digits = told.1

  pub end-inside : digit_count input < length input
  end-inside =
      ⊎_elim (λ (p : digit_count input < length input). p)
      (λ (p : length input ≤ digit_count input). absurd (omega (arith, told.2, get_or-eq_default input 0 p)))
      (lt_or_ge (digit_count input) (length input))

  pub rate_digits : RateDigits (take (digit_count input) input)
  rate_digits =
      let long = length-take-le (digit_count input) input (count-within input) in
      let digit : (i : ℕ) → i < length (take (digit_count input) input) → is_digit (get_or (take (digit_count input) input) i 0) ≡ true =
      λ i h. ap is_digit (get_or-take (digit_count input) input i 0 (omega arith)) ∙ counted_digit input i (omega arith) in
      record {
        few = omega (arith, few_digits);
        least = λ i h. leb-true _ _ (both (leb 0x30 (get_or (take (digit_count input) input) i 0)) _ (digit i h)).0;
        most = λ i h. leb-true _ _ (both (leb 0x30 (get_or (take (digit_count input) input) i 0)) _ (digit i h)).1;
      }

-- ## A number in decimal is read as the rate that it is

some_digits : (n : ℕ) → n < 2 ^ 64 → 1 ≤ length (decimal n)
some_digits n bound = ⊎_elim (λ (p : n < 10). omega (arith, one_digit n p)) (λ (p : 10 ≤ n). omega (arith, digit_more n p bound)) (lt_or_ge n 10)

count_of : (ds rest : List ℕ) → ((i : ℕ) → i < length ds → (0x30 ≤ get_or ds i 0) × (get_or ds i 0 ≤ 0x39)) → digit_count (ds ++ 0x0a ∷ rest) ≡ length ds
unfolding digit_count
count_of [] rest h = refl
count_of (d ∷ ds) rest h =
    let first = h 0 (omega arith) in
    digit_first d (ds ++ 0x0a ∷ rest) (rw (le-leb 0x30 d first.0, le-leb d 0x39 first.1)) ∙ ap suc (count_of ds rest (λ i b. h (suc i) (omega arith)))

module _ (rate : ℕ) (rest : List ℕ) (small : rate < 10 ^ most_digits) where
  abbrev line : List ℕ
  line = decimal rate ++ 0x0a ∷ rest

  as_line : decimal rate ++ line_end ++ rest ≡ line
  as_line = append_assoc (decimal rate) line_end rest

  count : digit_count line ≡ length (decimal rate)
  count = count_of (decimal rate) rest (listing-laws.digits rate (omega arith))

  pub rate_read : (has_rate (decimal rate ++ line_end ++ rest) ≡ true) × (rate_in (decimal rate ++ line_end ++ rest) ≡ rate) × (behind_rate (decimal rate ++ line_end ++ rest) ≡ rest)
  unfolding has_rate rate_in behind_rate
  rate_read =
      rw (as_line, count) (
        rw (
          le-leb 1 (length (decimal rate)) (some_digits rate (omega arith)),
          le-leb (length (decimal rate)) most_digits (decimal-length 18 rate small),
          get_or-append_seam (decimal rate) 0x0a rest 0,
        ),
        ap (value_after 0) (take_at (decimal rate) (0x0a ∷ rest) (length (decimal rate)) refl) ∙ listing-laws.value rate (omega arith),
        drop-append-add (decimal rate) (0x0a ∷ rest) 1,
      )
