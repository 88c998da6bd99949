-- What the pay sheet program prints, as ASCII bytes, for the bytes on its standard input: a rate in decimal and a line feed, then a key and a tape.
use Rattle.std.specs.Prelude.{Bool, ◌&&◌, List, [], ◌∷◌, ◌++◌, ℕ, suc, ◌+◌, leb, eqb, ltb, length, get_or, take, drop, replicate}
use Rattle.calls.specs.Calls.{◌if◌else◌, Reply, refused, done, unless_refused}
use Rattle.acorn_model.specs.Machine.{key_length}
use Rattle.tape_model.specs.Tape.{plain_bytes, open_tape_refusal}
use Rattle.tape_model.specs.Listing.{line_end, decimal, numbers, refused_line}
use Rattle.tape_model.specs.Laws.{value_after}
use Rattle.pay_sheet.specs.PaySheet.{Sheet, highest_rate, pay_sheet}

-- ## The rate

abbrev pub is_digit : ℕ → Bool
is_digit x = leb 0x30 x && leb x 0x39

-- how many decimal digits the input begins with
unfoldable pub digit_count : List ℕ → ℕ
digit_count [] = 0
digit_count (x ∷ l) = suc (digit_count l) if is_digit x else 0

-- a rate has at most 19 digits, leading zeros among them: any 19 make a number below 2 ^ 64
abbrev pub most_digits : ℕ
most_digits = 19

-- whether the input begins with a rate and the end of a line; the rate, and what stands behind that line
unfoldable pub has_rate : List ℕ → Bool
has_rate input = leb 1 (digit_count input) && leb (digit_count input) most_digits && eqb (get_or input (digit_count input) 0) 0x0a

unfoldable pub rate_in : List ℕ → ℕ
rate_in input = value_after 0 (take (digit_count input) input)

unfoldable pub behind_rate : List ℕ → List ℕ
behind_rate input = drop (digit_count input + 1) input

-- ## The pay sheet of a sealed tape

-- by the number that refuses to open the tape: the sheet of its plain bytes, or that number
abbrev pub sheet_unless : ℕ → List ℕ → List ℕ → ℕ → Reply Sheet
sheet_unless number key tape rate = unless_refused number (pay_sheet (plain_bytes key tape) rate) (refused number)

-- 13 comes first; the tape is opened into room enough for its plain bytes
unfoldable pub tape_sheet : List ℕ → List ℕ → ℕ → Reply Sheet
tape_sheet key tape rate = refused 13 if ltb highest_rate rate else sheet_unless (open_tape_refusal key tape (replicate (length tape) 0)) key tape rate

-- ## The text

-- 'PAY', and the line 'NO RATE'
abbrev pub word_pay : List ℕ
word_pay = 0x50 ∷ 0x41 ∷ 0x59 ∷ []

abbrev pub no_rate_line : List ℕ
no_rate_line = (0x4e ∷ 0x4f ∷ 0x20 ∷ 0x52 ∷ 0x41 ∷ 0x54 ∷ 0x45 ∷ []) ++ line_end

-- a line a contractor, from number c on: number and share
unfoldable pub contractor_lines : ℕ → List ℕ → List ℕ
contractor_lines c [] = []
contractor_lines c (share ∷ shares) = decimal c ++ numbers (share ∷ []) ++ line_end ++ contractor_lines (c + 1) shares

-- the line of the pay, and the contractors'; or the refusal alone
unfoldable pub sheet_text : Reply Sheet → List ℕ
sheet_text (refused n) = refused_line n
sheet_text (done sheet) = word_pay ++ numbers (sheet.pay ∷ []) ++ line_end ++ contractor_lines 0 sheet.shares

-- ## What is printed

unfoldable pub printed_sheet : List ℕ → List ℕ → ℕ → List ℕ
printed_sheet key tape rate = sheet_text (tape_sheet key tape rate)

unfoldable pub printed : List ℕ → List ℕ
printed input =
    printed_sheet (take key_length (behind_rate input)) (drop key_length (behind_rate input)) (rate_in input) if has_rate input else
    no_rate_line
