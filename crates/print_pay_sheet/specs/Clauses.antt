-- What the program's private functions cite.
use Rattle.std.specs.Prelude.{List, [], ◌∷◌, ◌++◌, ℕ, ◌≤◌, ◌<◌, length, get_or}
use Rattle.tape_model.specs.Listing.{line_end, decimal, numbers}
use Rattle.print_pay_sheet.specs.Printed.{most_digits, word_pay, contractor_lines}

-- as many decimal digits as a rate has, and nothing else
pub record RateDigits (digits : List ℕ) : Type 0 where
  pub few : length digits ≤ most_digits
  pub least : (i : ℕ) → i < length digits → 0x30 ≤ get_or digits i 0
  pub most : (i : ℕ) → i < length digits → get_or digits i 0 ≤ 0x39

-- contractor c's line
abbrev pub share_line : ℕ → ℕ → List ℕ
share_line c share = decimal c ++ numbers (share ∷ []) ++ line_end

-- the line of the pay, and the contractors'
abbrev pub paid_text : ℕ → List ℕ → List ℕ
paid_text pay shares = word_pay ++ numbers (pay ∷ []) ++ line_end ++ contractor_lines 0 shares
