-- Strings of bytes and their bits: the bits of joined strings, the string that bits make, and that each gives the other again.
use mathlib.Core.Path.{◌≡◌, refl, sym, ap, ap₂, ◌∙◌}
use mathlib.Core.List.{List, [], ◌∷◌, ◌++◌}
use mathlib.Core.Logic.{⊎_elim}
use Prim.Native.Nat.{ℕ, zero, suc, ◌+◌, ◌-◌, ◌*◌, ◌/◌, ◌%◌, ◌≤◌, ◌<◌}
use native.Mathlib.Nat.{mod-eq_of_lt}
use native.Mathlib.Omega.{arith}
use lib.ListN.{length, drop, get_or, get_or-append}
use lib.Seq.{drop_at, get_or-append-add}
use Rattle.std.proofs.lemmas.Bool.{cases_lt}
use Rattle.acorn_model.specs.Bits.{Bits, bit, bits_in, number, bytes}
use Rattle.calls.specs.Calls.{AreBytes}
use Rattle.acorn_model.specs.Laws.{BitOrder}
use Rattle.acorn_model.proofs.Numbers.{number_of, number_same, number_bit, number_lt}

-- ## The bits of a string

pub bits_first : (x : ℕ) (l : List ℕ) (i : ℕ) → i < 8 → bits_in (x ∷ l) i ≡ bit x i
unfolding bits_in
bits_first x l i h =
    let d : i / 8 ≡ 0 = omega arith in
    let e : i % 8 ≡ i = omega arith in
    ap₂ (λ (a b : ℕ). bit (get_or (x ∷ l) a 0) b) d e

pub bits_rest : (x : ℕ) (l : List ℕ) (i : ℕ) → bits_in (x ∷ l) (8 + i) ≡ bits_in l i
unfolding bits_in
bits_rest x l i = ap₂ (λ (a b : ℕ). bit (get_or (x ∷ l) a 0) b) {x = (8 + i) / 8} {y = suc (i / 8)} (omega arith) (omega arith)

pub bits_left : (l k : List ℕ) (i : ℕ) → i < 8 * length l → bits_in (l ++ k) i ≡ bits_in l i
unfolding bits_in
bits_left l k i h = ap (λ (x : ℕ). bit x (i % 8)) (get_or-append l k 0 (i / 8) (omega arith))

pub bits_right : (l k : List ℕ) (i : ℕ) → bits_in (l ++ k) (8 * length l + i) ≡ bits_in k i
unfolding bits_in
bits_right l k i =
    let d : (8 * length l + i) / 8 ≡ length l + i / 8 = omega arith in
    let e : (8 * length l + i) % 8 ≡ i % 8 = omega arith in
    ap₂ (λ (a b : ℕ). bit (get_or (l ++ k) a 0) b) d e
    ∙ ap (λ (x : ℕ). bit x (i % 8)) (get_or-append-add l k (i / 8) 0)

-- ## The string of n bytes

pub bytes-length : (n : ℕ) (b : Bits) → length (bytes n b) ≡ n
unfolding bytes
bytes-length zero b = refl
bytes-length (suc n) b = ap suc (bytes-length n (λ i. b (8 + i)))

pub bytes_same : (n : ℕ) (a b : Bits) → ((j : ℕ) → j < 8 * n → a j ≡ b j) → bytes n a ≡ bytes n b
unfolding bytes
bytes_same zero a b h = refl
bytes_same (suc n) a b h =
    ap₂ ◌∷◌ (number_same 8 a b (λ j l. h j (omega arith))) (bytes_same n (λ i. a (8 + i)) (λ i. b (8 + i)) (λ j l. h (8 + j) (omega arith)))

pub bytes_add : (m n : ℕ) (b : Bits) → bytes (m + n) b ≡ bytes m b ++ bytes n (λ i. b (8 * m + i))
unfolding bytes
bytes_add zero n b = ap₂ bytes {x = zero + n} {y = n} (omega arith) refl ∙ bytes_same n b (λ i. b (8 * 0 + i)) (λ j l. ap b (omega arith))
bytes_add (suc m) n b =
    let e : suc m + n ≡ suc (m + n) = omega arith in
    ap (λ (k : ℕ). bytes k b) e
    ∙ ap (λ (t : List ℕ). number 8 b ∷ t)
    (bytes_add m n (λ i. b (8 + i)) ∙ ap (λ (t : List ℕ). bytes m (λ i. b (8 + i)) ++ t) (bytes_same n _ _ (λ j l. ap b (omega arith))))

-- the last n of m + n bytes
pub bytes_last : (m n : ℕ) (b : Bits) → drop m (bytes (m + n) b) ≡ bytes n (λ i. b (8 * m + i))
bytes_last m n b = ap (drop m) (bytes_add m n b) ∙ drop_at (bytes m b) _ m (bytes-length m b)

pub bytes_are_bytes : (n : ℕ) (b : Bits) → AreBytes (bytes n b)
unfolding bytes
bytes_are_bytes zero b p = omega arith
bytes_are_bytes (suc n) b zero = number_lt 8 b
bytes_are_bytes (suc n) b (suc p) = bytes_are_bytes n (λ i. b (8 + i)) p

-- ## Bits of bytes, and bytes of bits

pub bits_of_bytes : (n : ℕ) (b : Bits) (j : ℕ) → j < 8 * n → bits_in (bytes n b) j ≡ b j
unfolding bytes
bits_of_bytes zero b j h = absurd (omega arith)
bits_of_bytes (suc n) b j h = ⊎_elim here (there (λ q l. bits_of_bytes n (λ i. b (8 + i)) q l)) (cases_lt j 8)
  where
    rest : List ℕ
    rest = bytes n (λ i. b (8 + i))

    here : j < 8 → bits_in (number 8 b ∷ rest) j ≡ b j
    here l = bits_first (number 8 b) rest j l ∙ number_bit 8 b j l

    there : ((q : ℕ) → q < 8 * n → bits_in rest q ≡ b (8 + q)) → 8 ≤ j → bits_in (number 8 b ∷ rest) j ≡ b j
    there g l =
        let e : 8 + (j - 8) ≡ j = omega arith in
        ap (bits_in (number 8 b ∷ rest)) (sym e) ∙ bits_rest (number 8 b) rest (j - 8) ∙ g (j - 8) (omega arith) ∙ ap b e

pub bytes_of_bits : (l : List ℕ) → AreBytes l → bytes (length l) (bits_in l) ≡ l
unfolding bytes
bytes_of_bits [] h = refl
bytes_of_bits (x ∷ l) h =
    ap₂ ◌∷◌ (number_same 8 (bits_in (x ∷ l)) (bit x) (λ j m. bits_first x l j m) ∙ number_of 8 x ∙ mod-eq_of_lt (h 0))
    (bytes_same (length l) (λ i. bits_in (x ∷ l) (8 + i)) (bits_in l) (λ j m. bits_rest x l j) ∙ bytes_of_bits l (λ p. h (suc p)))

-- ## The order of the bits

bit_in_string : (string : List ℕ) (k j : ℕ) → j < 8 → bits_in string (8 * k + j) ≡ bit (get_or string k 0) j
unfolding bits_in
bit_in_string string k j h =
    let d : (8 * k + j) / 8 ≡ k = omega arith in
    let e : (8 * k + j) % 8 ≡ j = omega arith in
    ap₂ (λ (a b : ℕ). bit (get_or string a 0) b) d e

pub bit_order : BitOrder
bit_order = record {
  in_string = bit_in_string;
  made = λ n k j b h l. sym (bit_in_string (bytes n b) k j l) ∙ bits_of_bytes n b (8 * k + j) (omega arith);
}
