-- Document 01, "Bits of a byte": the bits of a byte string, and the bytes that bits make.
use Rattle.std.specs.Prelude.{Bool, true, false, not, List, [], ◌∷◌, ℕ, zero, suc, ◌+◌, ◌*◌, ◌/◌, ◌%◌, ◌^◌, eqb, get_or}
use Rattle.calls.specs.Calls.{◌if◌else◌}

infixl 40 ◌⊕◌
-- bits by their number, from 0: those of a state, of a string, of a keystream
abbrev pub Bits : Type 0
Bits = ℕ → Bool

-- exclusive or
abbrev pub ◌⊕◌ : Bool → Bool → Bool
true ⊕ b = not b
false ⊕ b = b

-- the bit of weight 2 ^ j of a number
unfoldable pub bit : ℕ → Bits
bit x j = eqb (x / 2 ^ j % 2) 1

-- the cipher's bits of a string: 8 to a byte, from the byte's lowest bit up
unfoldable pub bits_in : List ℕ → Bits
bits_in string i = bit (get_or string (i / 8) 0) (i % 8)

-- the number whose n low bits are those of b
unfoldable pub number : ℕ → Bits → ℕ
number zero b = 0
number (suc n) b = (1 if b 0 else 0) + 2 * number n (λ j. b (suc j))

-- the string of n bytes whose bits are those of b
unfoldable pub bytes : ℕ → Bits → List ℕ
bytes zero b = []
bytes (suc n) b = number 8 b ∷ bytes n (λ i. b (8 + i))
