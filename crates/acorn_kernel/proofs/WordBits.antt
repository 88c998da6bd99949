-- The bits of what the machine's operations make of words.
use mathlib.Core.Path.{◌≡◌, refl, sym, ap, ◌∙◌}
use mathlib.Core.Bool.{Bool, true, false, not, ◌&&◌, ◌||◌}
use mathlib.Core.Logic.{⊎_elim}
use Prim.Native.Nat.{ℕ, suc, ◌+◌, ◌-◌, ◌*◌, ◌/◌, ◌%◌, ◌^◌, ◌≤◌, ◌<◌}
use native.Mathlib.Nat.{mod-lt, mod-eq_of_lt, div-eq_of_lt, mul_assoc, mul-div_cancel, lt_of_lt_of_le, zero-lt-suc}
use native.Mathlib.Omega.{arith}
use lib.Dec.{eqb}
use lib.Pow.{pow_pos, pow_mono, pow-add, shl-shr}
use lib.Bits.{bit_and, bit_or, bit_xor, and_shr, or_shr, xor_shr, and_mod, or_mod, xor_mod, and_mask, shifted_even, xor_add_and}
use Rattle.acorn_model.specs.Bits.{◌⊕◌, bit}
use Rattle.acorn_model.proofs.Numbers.{zero_or_one, bit_shift, bit_mod}

-- an operation that works on each run of digits apart, by its table on digits
module _ (op : ℕ → ℕ → ℕ) (f : Bool → Bool → Bool) (shr : (a b k : ℕ) → op a b / 2 ^ k ≡ op (a / 2 ^ k) (b / 2 ^ k)) (low : (a b k : ℕ) → op a b % 2 ^ k ≡ op (a % 2 ^ k) (b % 2 ^ k))
    (t00 : eqb (op 0 0) 1 ≡ f false false) (t01 : eqb (op 0 1) 1 ≡ f false true) (t10 : eqb (op 1 0) 1 ≡ f true false) (t11 : eqb (op 1 1) 1 ≡ f true true) where
  table : (x y : ℕ) → x < 2 → y < 2 → eqb (op x y) 1 ≡ f (eqb x 1) (eqb y 1)
  table x y hx hy =
      ⊎_elim (λ (e : x ≡ 0). ⊎_elim (λ (d : y ≡ 0). rw (e, d) t00) (λ (d : y ≡ 1). rw (e, d) t01) (zero_or_one y hy))
      (λ (e : x ≡ 1). ⊎_elim (λ (d : y ≡ 0). rw (e, d) t10) (λ (d : y ≡ 1). rw (e, d) t11) (zero_or_one y hy)) (zero_or_one x hx)

  bit_op : (a b j : ℕ) → bit (op a b) j ≡ f (bit a j) (bit b j)
  unfolding bit
  bit_op a b j =
      ap (λ (x : ℕ). eqb (x % 2) 1) (shr a b j) ∙ ap (λ (x : ℕ). eqb x 1) (low (a / 2 ^ j) (b / 2 ^ j) 1)
      ∙ table (a / 2 ^ j % 2) (b / 2 ^ j % 2) (mod-lt (a / 2 ^ j) (zero-lt-suc 1)) (mod-lt (b / 2 ^ j) (zero-lt-suc 1))

pub bit-xor : (a b j : ℕ) → bit (bit_xor a b) j ≡ bit a j ⊕ bit b j
bit-xor = bit_op bit_xor ◌⊕◌ xor_shr xor_mod refl refl refl refl

pub bit-and : (a b j : ℕ) → bit (bit_and a b) j ≡ (bit a j && bit b j)
bit-and = bit_op bit_and ◌&&◌ and_shr and_mod refl refl refl refl

pub bit-or : (a b j : ℕ) → bit (bit_or a b) j ≡ (bit a j || bit b j)
bit-or = bit_op bit_or ◌||◌ or_shr or_mod refl refl refl refl

-- `w << k`, where nothing is lost
pub bit_shl_high : (w k j : ℕ) → bit (w * 2 ^ k) (k + j) ≡ bit w j
bit_shl_high w k j = sym (bit_shift (w * 2 ^ k) k j) ∙ ap (λ (x : ℕ). bit x j) (shl-shr w k)

pub bit_shl_low : (w k j : ℕ) → j < k → bit (w * 2 ^ k) j ≡ false
unfolding bit
bit_shl_low w k j h =
    ap (λ (x : ℕ). eqb (x % 2) 1)
    (ap (λ (x : ℕ). w * 2 ^ x / 2 ^ j) (omega arith) ∙ ap (λ (x : ℕ). w * x / 2 ^ j) (pow-add 2 (suc (k - suc j)) j)
    ∙ ap (λ (x : ℕ). x / 2 ^ j) (sym (mul_assoc w (2 ^ suc (k - suc j)) (2 ^ j))) ∙ mul-div_cancel (w * 2 ^ suc (k - suc j)) (pow_pos j))
    ∙ ap (λ (x : ℕ). eqb x 1) (shifted_even w (k - suc j))

-- the digits above a number
pub bit-above : (w n j : ℕ) → w < 2 ^ n → n ≤ j → bit w j ≡ false
unfolding bit
bit-above w n j h l = ap (λ (x : ℕ). eqb (x % 2) 1) (div-eq_of_lt (lt_of_lt_of_le h (pow_mono l)))

pub bit_mod_above : (w n j : ℕ) → n ≤ j → bit (w % 2 ^ n) j ≡ false
bit_mod_above w n j l = bit-above (w % 2 ^ n) n j (mod-lt w (pow_pos n)) l

-- a number of no bits
pub bit-zero : (j : ℕ) → bit 0 j ≡ false
bit-zero j = bit-above 0 0 j (omega arith) (omega arith)

-- a number of ones
pub bit-ones : (k j : ℕ) → j < k → bit (2 ^ k - 1) j ≡ true
unfolding bit
bit-ones k j h =
    ap (λ (b : Bool). b && bit (2 ^ k - 1) j) (sym set)
    ∙ sym (bit-and (1 * 2 ^ j) (2 ^ k - 1) j) ∙ ap (λ (x : ℕ). bit x j) (and_mask (1 * 2 ^ j) k) ∙ bit_mod (1 * 2 ^ j) k j h ∙ set
  where
    set : bit (1 * 2 ^ j) j ≡ true
    set = ap (bit (1 * 2 ^ j)) (omega arith) ∙ bit_shl_high 1 j 0

xor_true : (b : Bool) → b ⊕ true ≡ not b
xor_true true = refl
xor_true false = refl

pub xor_false : (b : Bool) → b ⊕ false ≡ b
xor_false true = refl
xor_false false = refl

pub or-false : (b : Bool) → (b || false) ≡ b
or-false true = refl
or-false false = refl

-- `!a`
not_is : (a : ℕ) → a < 2 ^ 32 → (2 ^ 32 - 1) - a ≡ bit_xor a (2 ^ 32 - 1)
not_is a h = omega (arith, xor_add_and a (2 ^ 32 - 1), and_mask a 32, mod-eq_of_lt h)

pub bit_not : (a j : ℕ) → a < 2 ^ 32 → j < 32 → bit ((2 ^ 32 - 1) - a) j ≡ not (bit a j)
bit_not a j h l =
    ap (λ (x : ℕ). bit x j) (not_is a h) ∙ bit-xor a (2 ^ 32 - 1) j ∙ ap (λ (b : Bool). bit a j ⊕ b) (bit-ones 32 j l) ∙ xor_true (bit a j)
