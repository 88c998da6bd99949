-- Packed formats: a format is a list of fields, each with its width and its range. Fields are packed one after the other, each from its most
-- significant bit, and fill each byte from its most significant bit.
use Rattle.std.specs.Prelude.{Bool, true, false, ◌&&◌, List, [], ◌∷◌, ◌++◌, ℕ, ◌+◌, ◌*◌, ◌/◌, ◌%◌, ◌^◌, ◌<◌, leb, length, replicate}

infixl 80 ◌bits◌to◌
-- ## Fields and ranges

-- a field of so many bits, whose value lies in low to high
pub data Field : Type 0 where
  ◌bits◌to◌ : (width low high : ℕ) → Field

abbrev pub width_of : Field → ℕ
width_of (width bits low to high) = width

abbrev pub widths : List Field → List ℕ
widths [] = []
widths (f ∷ fs) = width_of f ∷ widths fs

abbrev pub in_range : Field → ℕ → Bool
in_range (width bits low to high) v = leb low v && leb v high

-- there is a value for each field, and it lies in the field's range
abbrev pub in_ranges : List Field → List ℕ → Bool
in_ranges [] [] = true
in_ranges [] (v ∷ vs) = false
in_ranges (f ∷ fs) [] = false
in_ranges (f ∷ fs) (v ∷ vs) = in_range f v && in_ranges fs vs

-- ## Values side by side

-- the bits of values of these widths
abbrev pub total_width : List ℕ → ℕ
total_width [] = 0
total_width (w ∷ ws) = w + total_width ws

-- values of these widths, side by side with the first on top, as one number
abbrev pub join : List ℕ → List ℕ → ℕ
join [] vs = 0
join (w ∷ ws) [] = 0
join (w ∷ ws) (v ∷ vs) = v * 2 ^ total_width ws + join ws vs

-- a number cut into values of these widths, the first from the top
abbrev pub cut : List ℕ → ℕ → List ℕ
cut [] n = []
cut (w ∷ ws) n = n / 2 ^ total_width ws % 2 ^ w ∷ cut ws n

-- a value for each width, and each below 2 ^ its width
abbrev pub Fit : List ℕ → List ℕ → Type 0
Fit [] [] = Unit {0}
Fit [] (v ∷ vs) = ⊥
Fit (w ∷ ws) [] = ⊥
Fit (w ∷ ws) (v ∷ vs) = (v < 2 ^ w) × Fit ws vs

-- a string of n bytes is n values of width 8
abbrev pub byte_widths : ℕ → List ℕ
byte_widths n = replicate n 8

-- values of these widths packed into n bytes, and the values in packed bytes
abbrev pub pack : List ℕ → ℕ → List ℕ → List ℕ
pack ws n vs = cut (byte_widths n) (join ws vs)

abbrev pub unpack : List ℕ → List ℕ → List ℕ
unpack ws string = cut ws (join (byte_widths (length string)) string)

-- ## Bit by bit

-- the w bits of v, the most significant first
abbrev pub bits_of : ℕ → ℕ → List ℕ
bits_of w v = cut (replicate w 1) v

-- the bits of values of these widths, one value after the other
abbrev pub bit_string : List ℕ → List ℕ → List ℕ
bit_string [] vs = []
bit_string (w ∷ ws) [] = []
bit_string (w ∷ ws) (v ∷ vs) = bits_of w v ++ bit_string ws vs
