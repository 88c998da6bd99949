-- The bits of a number, and the number that bits make.
use mathlib.Core.Path.{◌≡◌, refl, sym, ap, ap₂, ◌∙◌, fun_ext}
use mathlib.Core.Bool.{Bool, true, false}
use mathlib.Core.Logic.{⊎_elim, ◌⊎◌, inl, inr}
use Prim.Native.Nat.{ℕ, zero, suc, ◌+◌, ◌-◌, ◌*◌, ◌/◌, ◌%◌, ◌^◌, ◌<◌}
use native.Mathlib.Nat.{mod-one, mod-lt, zero-lt-suc, pow-suc}
use native.Mathlib.Omega.{arith}
use lib.Arith.{mod-mul}
use lib.Pow.{shr-shr, pow_pos, field, mod-mod-pow}
use lib.Dec.{eqb}
use Rattle.acorn_model.specs.Bits.{Bits, bit, number}
use Rattle.calls.specs.Calls.{◌if◌else◌}

-- ## One bit

pub zero_or_one : (x : ℕ) → x < 2 → (x ≡ 0) ⊎ (x ≡ 1)
zero_or_one zero h = inl refl
zero_or_one (suc zero) h = inr refl
zero_or_one (suc (suc x)) h = absurd (omega arith)

of_digit : (x : ℕ) → x < 2 → (1 if eqb x 1 else 0) ≡ x
of_digit x h = ⊎_elim (λ (e : x ≡ 0). rw e) (λ (e : x ≡ 1). rw e) (zero_or_one x h)

pub bit-zero : (x : ℕ) → (1 if bit x 0 else 0) ≡ x % 2
unfolding bit
bit-zero x = let e : x / 2 ^ 0 ≡ x = omega arith in ap (λ (y : ℕ). 1 if eqb (y % 2) 1 else 0) e ∙ of_digit (x % 2) (mod-lt x (zero-lt-suc 1))

pub bit_shift : (x k j : ℕ) → bit (x / 2 ^ k) j ≡ bit x (k + j)
unfolding bit
bit_shift x k j = ap (λ (y : ℕ). eqb (y % 2) 1) (shr-shr x k j)

pub bit-suc : (x j : ℕ) → bit x (suc j) ≡ bit (x / 2) j
bit-suc x j = ap (bit x) (omega arith) ∙ sym (bit_shift x 1 j)

-- the low bits of a number are those of its remainder
pub bit_mod : (x n j : ℕ) → j < n → bit (x % 2 ^ n) j ≡ bit x j
unfolding bit
bit_mod x n j h =
    ap (λ (k : ℕ). eqb (x % 2 ^ k / 2 ^ j % 2) 1) (omega arith)
    ∙ ap (λ (y : ℕ). eqb (y % 2) 1) (field x ((n - suc j) + 1) j)
    ∙ ap (λ (y : ℕ). eqb y 1) (mod-mod-pow (x / 2 ^ j) (n - suc j) 1)

-- a number with b as its lowest bit
pub bit_lowest : (b : Bool) (n : ℕ) → bit ((1 if b else 0) + 2 * n) 0 ≡ b
unfolding bit
bit_lowest true n = let e : (1 + 2 * n) / 2 ^ 0 % 2 ≡ 1 = omega arith in ap (λ (x : ℕ). eqb x 1) e
bit_lowest false n = let e : (0 + 2 * n) / 2 ^ 0 % 2 ≡ 0 = omega arith in ap (λ (x : ℕ). eqb x 1) e

pub half : (b : Bool) (n : ℕ) → ((1 if b else 0) + 2 * n) / 2 ≡ n
half true n = omega arith
half false n = omega arith

-- ## The number of n bits

-- the n low bits of a number make its remainder
pub number_of : (n x : ℕ) → number n (bit x) ≡ x % 2 ^ n
unfolding number
number_of zero x = sym (mod-one x)
number_of (suc n) x =
    ap₂ (λ (a b : ℕ). a + 2 * b) (bit-zero x) (ap (number n) (fun_ext (λ j. bit-suc x j)) ∙ number_of n (x / 2))
    ∙ omega (arith, mod-mul x {m = 2 ^ n} {c = 2} (pow_pos n) (zero-lt-suc 1), ap (λ (y : ℕ). x % y) (pow-suc 2 n))

pub number_same : (n : ℕ) (a b : Bits) → ((j : ℕ) → j < n → a j ≡ b j) → number n a ≡ number n b
unfolding number
number_same zero a b h = refl
number_same (suc n) a b h = ap₂ (λ (x : Bool) (y : ℕ). (1 if x else 0) + 2 * y) (h 0 (omega arith)) (number_same n (λ j. a (suc j)) (λ j. b (suc j)) (λ j l. h (suc j) (omega arith)))

-- its bits are the bits that made it
pub number_bit : (n : ℕ) (b : Bits) (j : ℕ) → j < n → bit (number n b) j ≡ b j
unfolding number
number_bit zero b j h = absurd (omega arith)
number_bit (suc n) b zero h = bit_lowest (b 0) (number n (λ j. b (suc j)))
number_bit (suc n) b (suc j) h =
    bit-suc ((1 if b 0 else 0) + 2 * number n (λ i. b (suc i))) j
    ∙ ap (λ (x : ℕ). bit x j) (half (b 0) (number n (λ i. b (suc i))))
    ∙ number_bit n (λ i. b (suc i)) j (omega arith)

pub number_lt : (n : ℕ) (b : Bits) → number n b < 2 ^ n
unfolding number
number_lt zero b = omega arith
number_lt (suc n) b = omega (arith, carried (b 0), number_lt n (λ j. b (suc j)), pow-suc 2 n)
  where
    carried : (c : Bool) → (1 if c else 0) < 2
    carried true = omega arith
    carried false = omega arith
