-- What is printed for an input: by whether it begins with a rate, how long it is, and that one byte more than the longest input is enough.
use mathlib.Core.Path.{◌≡◌, refl, sym, ap, ap₂, ◌∙◌}
use mathlib.Core.Bool.{Bool, true, false, ◌&&◌}
use mathlib.Core.Logic.{⊎_elim}
use mathlib.Core.List.{List}
use Prim.Native.Nat.{ℕ, ◌+◌, ◌-◌, ◌≤◌, ◌<◌}
use native.Mathlib.Omega.{arith}
use lib.Dec.{leb, ltb}
use lib.ListN.{length, take, drop, length-take, length-drop}
use lib.Seq.{take_all, take-take, get_or-take}
use borrow.Author.Tests.{lt-leb}
use Rattle.calls.specs.Calls.{◌if◌else◌, Reply, refused, done}
use Rattle.calls.proofs.Choices.{lt_or_ge}
use Rattle.acorn_model.specs.Machine.{key_length}
use Rattle.tape_model.specs.Laws.{value_after}
use Rattle.pay_sheet.specs.PaySheet.{Sheet, highest_rate}
use Rattle.print_pay_sheet.specs.Printed.{digit_count, most_digits, has_rate, rate_in, behind_rate, tape_sheet, no_rate_line, sheet_text, printed_sheet, printed}
use Rattle.print_pay_sheet.specs.Laws.{text_room, longest_input}
use Rattle.print_pay_sheet.proofs.Rates.{few_digits, count-taken}
use Rattle.print_pay_sheet.proofs.Texts.{paid_length, refused_short}
use Rattle.print_pay_sheet.proofs.Sheets.{Sixteen, sixteen, long_sheet}

-- ## With a rate, and without

module _ (input : List ℕ) where
  abbrev with_rate : List ℕ
  with_rate = printed_sheet (take key_length (behind_rate input)) (drop key_length (behind_rate input)) (rate_in input)

  pub no_rate : has_rate input ≡ false → printed input ≡ no_rate_line
  unfolding printed
  no_rate e = ap (λ (b : Bool). with_rate if b else no_rate_line) e

  pub with-rate : has_rate input ≡ true → printed input ≡ with_rate
  unfolding printed
  with-rate e = ap (λ (b : Bool). with_rate if b else no_rate_line) e

  -- by the digits counted, the rate that they make and the bytes behind the line
  pub rate_printed : (n rate : ℕ) → has_rate input ≡ true → n ≡ digit_count input → rate ≡ value_after 0 (take n input)
      → (let rest = take (length input - (n + 1)) (drop (n + 1) input) in printed_sheet (take key_length rest) (drop key_length rest) rate ≡ printed input)
  unfolding rate_in behind_rate
  rate_printed n rate has e v =
      ap₂ (λ (rest : List ℕ) (r : ℕ). printed_sheet (take key_length rest) (drop key_length rest) r)
      (take_all (length input - (n + 1)) (drop (n + 1) input) (omega (arith, length-drop (n + 1) input)) ∙ ap (λ (k : ℕ). drop (k + 1) input) e)
      (v ∙ ap (λ (k : ℕ). value_after 0 (take k input)) e)
      ∙ sym (with-rate has)

-- ## How long the text is

sheet_length : (r : Reply Sheet) → Sixteen r → length (sheet_text r) ≤ text_room
unfolding sheet_text
sheet_length (refused n) h = refused_short n
sheet_length (done sheet) h = paid_length sheet.pay sheet.shares h

pub printed-length : (input : List ℕ) → length (printed input) ≤ text_room
unfolding printed printed_sheet
printed-length input = by (has_rate input)
  where
    by : (b : Bool) → length (with_rate input if b else no_rate_line) ≤ text_room
    by true = sheet_length (tape_sheet (take key_length (behind_rate input)) (drop key_length (behind_rate input)) (rate_in input)) (sixteen _ _ (rate_in input))
    by false = omega arith

-- ## Inputs that are too long

-- too many digits
many_digits : (input : List ℕ) → most_digits < digit_count input → printed input ≡ no_rate_line
unfolding has_rate
many_digits input many = no_rate input (none (leb 1 (digit_count input)) (leb (digit_count input) most_digits) _ (lt-leb (digit_count input) most_digits many))
  where
    none : (a b c : Bool) → b ≡ false → (a && b && c) ≡ false
    none true b c e = rw e
    none false b c e = refl

-- a tape that is too long
long_printed : (input : List ℕ) → has_rate input ≡ true → longest_input < length input
    → printed input ≡ sheet_text (refused 13 if ltb highest_rate (rate_in input) else refused 2)
unfolding printed_sheet behind_rate
long_printed input has h =
    with-rate input has
    ∙ ap sheet_text (long_sheet (take key_length (behind_rate input)) (drop key_length (behind_rate input)) (rate_in input)
    (omega (arith, few_digits input has, length-drop (digit_count input + 1) input, length-drop key_length (behind_rate input))))

module _ (input : List ℕ) (n : ℕ) (long : longest_input < n) (within : n ≤ length input) where
  taken : length (take n input) ≡ n
  taken = omega (arith, length-take n input)

  module _ (few : digit_count input ≤ most_digits) where
    same_count : digit_count (take n input) ≡ digit_count input
    same_count = omega (arith, count-taken n input)

    same_has : has_rate (take n input) ≡ has_rate input
    unfolding has_rate
    same_has = rw (same_count, get_or-take n input (digit_count input) 0 (omega arith))

    same_rate : rate_in (take n input) ≡ rate_in input
    unfolding rate_in
    same_rate = ap (value_after 0) (ap (λ (k : ℕ). take k (take n input)) same_count ∙ take-take (digit_count input) n input (omega arith))

    few_enough : (b : Bool) → has_rate input ≡ b → printed (take n input) ≡ printed input
    few_enough true has =
        long_printed (take n input) (same_has ∙ has) (omega (arith, taken))
        ∙ ap (λ (rate : ℕ). sheet_text (refused 13 if ltb highest_rate rate else refused 2)) same_rate
        ∙ sym (long_printed input has (omega arith))
    few_enough false has = no_rate (take n input) (same_has ∙ has) ∙ sym (no_rate input has)

  pub read_enough : printed (take n input) ≡ printed input
  read_enough =
      ⊎_elim (λ (p : most_digits < digit_count input). many_digits (take n input) (omega (arith, count-taken n input)) ∙ sym (many_digits input p))
      (λ (p : digit_count input ≤ most_digits). few_enough p (has_rate input) refl) (lt_or_ge most_digits (digit_count input))
