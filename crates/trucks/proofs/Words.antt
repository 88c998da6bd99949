-- Bits of words, and the sets that sixteen words hold.
use mathlib.Core.Path.{◌≡◌, refl, sym, ap, ap₂, ◌∙◌, fun_ext}
use mathlib.Core.Bool.{Bool, true, false, not, ◌&&◌, ◌||◌, or_comm, false≢true}
use mathlib.Core.List.{List, [], ◌∷◌}
use Prim.Native.Nat.{ℕ, zero, suc, ◌+◌, ◌-◌, ◌*◌, ◌/◌, ◌%◌, ◌^◌, ◌≤◌, ◌<◌}
use native.Mathlib.Nat.{pow-suc, one-mul, mod-eq_of_lt}
use native.Mathlib.Omega.{arith}
use native.Mathlib.Decide.{dec_le}
use lib.Arith.{lt-one}
use lib.Pow.{pow-lt}
use lib.Dec.{eqb, eqb-zero-suc, eqb-suc-zero, eqb-suc-suc}
use lib.Bits.{bit_and, bit_or, bit_xor, or_lt, and_mask, xor_add_and}
use lib.Count.{ones, ones_step}
use lib.ListN.{length, get_or, set, replicate, get_or-eq_default}
use lib.Seq.{get_or-set_same, get_or-set_other, ext_get_or}
use borrow.Author.Tests.{eq-eqb, ne_eqb, eqb-true, eqb-false}
use Rattle.calls.specs.Calls.{◌if◌else◌}
use Rattle.acorn_model.specs.Bits.{◌⊕◌, bit, number}
use Rattle.acorn_model.proofs.Numbers.{bit-suc, number_of, number_same, number_bit, number_lt, bit-zero as bit_lowest}
use Rattle.acorn_kernel.proofs.WordBits.{bit-and, bit-or, bit-xor, bit-zero, bit-ones}
use Rattle.trucks.specs.Trucks.{NumberSet}
use Rattle.trucks.specs.Words.{held, set_bits, AreWords, words_of, set_words, count, empty_set}
use Rattle.trucks.proofs.Counting.{added, told, count_same, count_front, count_sum}

-- ## One word

-- the bits of two words combined
pub bit_xor_is : (a b j : ℕ) → bit (bit_xor a b) j ≡ (not (bit b j) if bit a j else bit b j)
bit_xor_is a b j = bit-xor a b j ∙ by (bit a j) (bit b j)
  where
    by : (x y : Bool) → (x ⊕ y) ≡ (not y if x else y)
    by true y = refl
    by false y = refl

-- `!b`
not_is : (b : ℕ) → b < 2 ^ 64 → (2 ^ 64 - 1) - b ≡ bit_xor b (2 ^ 64 - 1)
not_is b h = omega (arith, xor_add_and b (2 ^ 64 - 1), and_mask b 64, mod-eq_of_lt h)

pub bit_without : (a b j : ℕ) → b < 2 ^ 64 → j < 64 → bit (bit_and a ((2 ^ 64 - 1) - b)) j ≡ (bit a j && not (bit b j))
bit_without a b j h l =
    bit-and a ((2 ^ 64 - 1) - b) j
    ∙ ap (λ (x : Bool). bit a j && x)
    (ap (λ (x : ℕ). bit x j) (not_is b h) ∙ bit_xor_is b (2 ^ 64 - 1) j ∙ ap (λ (x : Bool). not x if bit b j else x) (bit-ones 64 j l) ∙ by (bit b j))
  where
    by : (x : Bool) → (false if x else true) ≡ not x
    by true = refl
    by false = refl

-- the one set bit of a power of 2
pub bit_power : (n j : ℕ) → bit (2 ^ n) j ≡ eqb n j
unfolding bit
bit_power zero zero = refl
bit_power zero (suc j) = bit-suc 1 j ∙ bit-zero j ∙ sym (eqb-zero-suc j)
bit_power (suc n) zero = even ∙ sym (eqb-suc-zero n)
  where
    even : bit (2 ^ suc n) 0 ≡ false
    even = ne_eqb (2 ^ suc n / 1 % 2) 1 (λ e. omega (arith, pow-suc 2 n))
bit_power (suc n) (suc j) = bit-suc (2 ^ suc n) j ∙ ap (λ (x : ℕ). bit x j) half ∙ bit_power n j ∙ sym (eqb-suc-suc n j)
  where
    half : 2 ^ suc n / 2 ≡ 2 ^ n
    half = omega (arith, pow-suc 2 n)

-- a shifted one
pub shl_one : (b : ℕ) → b < 64 → 1 * 2 ^ b % 2 ^ 64 ≡ 2 ^ b
shl_one b h = ap (λ (x : ℕ). x % 2 ^ 64) (one-mul (2 ^ b)) ∙ mod-eq_of_lt (pow-lt h)

-- a word counts its bits
pub ones-count : (n w : ℕ) → w < 2 ^ n → ones w ≡ count n (bit w)
unfolding count ones
ones-count zero w h = ap ones (lt-one h)
ones-count (suc n) w h =
    ones_step w
    ∙ ap₂ (λ (x y : ℕ). x + y) (sym (bit_lowest w)) (ones-count n (w / 2) (omega (arith, pow-suc 2 n)) ∙ count_same n (bit (w / 2)) (λ j. bit w (suc j)) (λ j _. sym (bit-suc w j)))
    ∙ sym (count_front n (bit w))

-- a word is determined by its bits
same_word : (n v w : ℕ) → v < 2 ^ n → w < 2 ^ n → ((j : ℕ) → j < n → bit v j ≡ bit w j) → v ≡ w
same_word n v w g h e = sym (mod-eq_of_lt g) ∙ sym (number_of n v) ∙ number_same n (bit v) (bit w) e ∙ number_of n w ∙ mod-eq_of_lt h

-- ## Sixteen words

-- the words hold no number from 1,024 on
held_past : (ws : List ℕ) (k : ℕ) → length ws ≤ k / 64 → held ws k ≡ false
unfolding held
held_past ws k h = ap (λ (w : ℕ). bit w (k % 64)) (get_or-eq_default ws 0 h) ∙ bit-zero (k % 64)

pub held-above : (ws : List ℕ) (k : ℕ) → length ws ≡ 16 → 1023 < k → held ws k ≡ false
held-above ws k sixteen h = held_past ws k (omega arith)

-- the bits of word i
pub in_word : (ws : List ℕ) (i j : ℕ) → j < 64 → held ws (64 * i + j) ≡ bit (get_or ws i 0) j
unfolding held
in_word ws i j h =
    let q : (64 * i + j) / 64 ≡ i = omega arith in
    let r : (64 * i + j) % 64 ≡ j = omega arith in
    ap₂ (λ (x y : ℕ). bit (get_or ws x 0) y) q r

-- the first word, and the words behind it
held-here : (w : ℕ) (ws : List ℕ) (k : ℕ) → k < 64 → held (w ∷ ws) k ≡ bit w k
unfolding held
held-here w ws k g =
    let q : k / 64 ≡ 0 = omega arith in
    let r : k % 64 ≡ k = omega arith in
    ap₂ (λ (i j : ℕ). bit (get_or (w ∷ ws) i 0) j) q r

held-behind : (w : ℕ) (ws : List ℕ) (k : ℕ) → held (w ∷ ws) (64 + k) ≡ held ws k
unfolding held
held-behind w ws k =
    let q : (64 + k) / 64 ≡ suc (k / 64) = omega arith in
    let r : (64 + k) % 64 ≡ k % 64 = omega arith in
    ap₂ (λ (i j : ℕ). bit (get_or (w ∷ ws) i 0) j) q r

-- the set bits of all words
set-bits : (ws : List ℕ) → AreWords ws → set_bits ws ≡ count (64 * length ws) (held ws)
unfolding set_bits count
set-bits [] h = refl
set-bits (w ∷ ws) h =
    let e : 64 * suc (length ws) ≡ 64 + 64 * length ws = omega arith in
    ap₂ (λ (x y : ℕ). x + y) (ones-count 64 w (h 0) ∙ count_same 64 (bit w) (held (w ∷ ws)) (λ k g. sym (held-here w ws k g)))
    (set-bits ws (λ i. h (suc i)) ∙ count_same (64 * length ws) (held ws) (λ k. held (w ∷ ws) (64 + k)) (λ k _. sym (held-behind w ws k)))
    ∙ sym (ap (λ (n : ℕ). count n (held (w ∷ ws))) e ∙ count_sum 64 (64 * length ws) (held (w ∷ ws)))

pub set_bits_16 : (ws : List ℕ) → length ws ≡ 16 → AreWords ws → set_bits ws ≡ count 1024 (held ws)
set_bits_16 ws sixteen h = set-bits ws h ∙ ap (λ (i : ℕ). count (64 * i) (held ws)) sixteen

-- sixteen words are determined by the numbers that they hold
same-words : (a b : List ℕ) → length a ≡ 16 → length b ≡ 16 → AreWords a → AreWords b → held a ≡ held b → a ≡ b
unfolding held
same-words a b la lb wa wb e =
    ext_get_or 0 a b (la ∙ sym lb) (λ i _. same_word 64 (get_or a i 0) (get_or b i 0) (wa i) (wb i) (λ j h. sym (in_word a i j h) ∙ ap (λ (s : NumberSet). s (64 * i + j)) e ∙ in_word b i j h))

-- ## The words of a set

words-length : (n : ℕ) (s : NumberSet) → length (words_of n s) ≡ n
unfolding words_of
words-length zero s = refl
words-length (suc n) s = ap suc (words-length n (λ k. s (64 + k)))

words_small : (n : ℕ) (s : NumberSet) → AreWords (words_of n s)
unfolding words_of
words_small zero s i = omega arith
words_small (suc n) s zero = number_lt 64 s
words_small (suc n) s (suc i) = words_small n (λ k. s (64 + k)) i

words_hold : (n : ℕ) (s : NumberSet) (k : ℕ) → k < 64 * n → held (words_of n s) k ≡ s k
unfolding words_of
words_hold zero s k h = absurd (omega arith)
words_hold (suc n) s k h = by (λ j g. words_hold n (λ i. s (64 + i)) j g) (dec_le 64 k)
  where
    by : ((j : ℕ) → j < 64 * n → held (words_of n (λ i. s (64 + i))) j ≡ s (64 + j)) → Dec (64 ≤ k) → held (number 64 s ∷ words_of n (λ j. s (64 + j))) k ≡ s k
    by rest (yes g) =
        let e : k ≡ 64 + (k - 64) = omega arith in
        ap (held (number 64 s ∷ words_of n (λ j. s (64 + j)))) e ∙ held-behind (number 64 s) (words_of n (λ j. s (64 + j))) (k - 64)
        ∙ rest (k - 64) (omega arith) ∙ ap s (sym e)
    by rest (no g) = held-here (number 64 s) (words_of n (λ j. s (64 + j))) k (omega arith) ∙ number_bit 64 s k (omega arith)

pub sixteen-words : (s : NumberSet) → (length (set_words s) ≡ 16) × AreWords (set_words s)
sixteen-words s = (words-length 16 s, words_small 16 s)

-- sixteen zeros are those of the empty set
pub no_words : replicate 16 0 ≡ set_words empty_set
unfolding words_of number
no_words = refl

-- they hold a set of numbers below 1,024
pub held-words : (s : NumberSet) → ((k : ℕ) → s k ≡ true → k < 1024) → held (set_words s) ≡ s
held-words s below = fun_ext (λ k. by k (dec_le 1024 k))
  where
    by : (k : ℕ) → Dec (1024 ≤ k) → held (set_words s) k ≡ s k
    by k (yes h) =
        held-above (set_words s) k (words-length 16 s) (omega arith) ∙ told (s k) (λ e. absurd (let g = below k e in omega arith)) (λ e. sym e)
    by k (no h) = words_hold 16 s k (omega arith)

-- and words are those of the set that they hold
pub words_back : (words : List ℕ) → length words ≡ 16 → AreWords words → set_words (held words) ≡ words
words_back words sixteen w =
    same-words (set_words (held words)) words (words-length 16 (held words)) sixteen (words_small 16 (held words)) w
    (held-words (held words) (λ k e. by k e (dec_le 1024 k)))
  where
    by : (k : ℕ) → held words k ≡ true → Dec (1024 ≤ k) → k < 1024
    by k e (yes h) = absurd (false≢true (sym (held-above words k sixteen (omega arith)) ∙ e))
    by k e (no h) = omega arith

-- one bit set
same_test : (a b c d : ℕ) → (a ≡ b → c ≡ d) → (c ≡ d → a ≡ b) → eqb a b ≡ eqb c d
same_test a b c d f g = told (eqb a b) (λ e. e ∙ sym (eq-eqb c d (f (eqb-true a b e)))) (λ e. e ∙ sym (ne_eqb c d (λ q. eqb-false a b e (g q))))

-- n: a truck's number
module _ (ws : List ℕ) (n : ℕ) (sixteen : length ws ≡ 16) (small : n < 1024) where
  abbrev with : List ℕ
  with = set ws (n / 64) (bit_or (get_or ws (n / 64) 0) (2 ^ (n % 64)))

  in_its_word : (k : ℕ) → k / 64 ≡ n / 64 → held with k ≡ added n (held ws) k
  unfolding held
  in_its_word k e =
      ap (λ (i : ℕ). bit (get_or with i 0) (k % 64)) e
      ∙ ap (λ (w : ℕ). bit w (k % 64)) (get_or-set_same ws (n / 64) _ 0 (omega arith))
      ∙ bit-or (get_or ws (n / 64) 0) (2 ^ (n % 64)) (k % 64)
      ∙ or_comm (bit (get_or ws (n / 64) 0) (k % 64)) (bit (2 ^ (n % 64)) (k % 64))
      ∙ ap₂ (λ (a b : Bool). a || b)
      (bit_power (n % 64) (k % 64) ∙ same_test (n % 64) (k % 64) n k (λ q. omega arith) (λ q. ap (λ (x : ℕ). x % 64) q))
      (ap (λ (i : ℕ). bit (get_or ws i 0) (k % 64)) (sym e))

  in_another : (k : ℕ) → (k / 64 ≡ n / 64 → ⊥) → held with k ≡ added n (held ws) k
  unfolding held
  in_another k h =
      ap (λ (w : ℕ). bit w (k % 64)) (get_or-set_other ws (n / 64) (k / 64) _ 0 h)
      ∙ ap (λ (b : Bool). b || held ws k) (sym (ne_eqb n k (λ e. h (ap (λ (x : ℕ). x / 64) (sym e)))))

  abbrev word : ℕ
  word = bit_or (get_or ws (n / 64) 0) (2 ^ (n % 64))

  pub words-added : AreWords ws → AreWords (set ws (n / 64) (bit_or (get_or ws (n / 64) 0) (2 ^ (n % 64))))
  words-added h i = told (eqb i (n / 64)) (λ e. here (eqb-true i (n / 64) e) (omega arith) (omega arith)) (λ e. other (eqb-false i (n / 64) e))
    where
      here : i ≡ n / 64 → n / 64 < length ws → n % 64 < 64 → get_or (set ws (n / 64) word) i 0 < 2 ^ 64
      here e within g = rw (e, get_or-set_same ws (n / 64) word 0 within) (or_lt 64 (get_or ws (n / 64) 0) (2 ^ (n % 64)) (h (n / 64)) (pow-lt g))

      other : (i ≡ n / 64 → ⊥) → get_or (set ws (n / 64) word) i 0 < 2 ^ 64
      other f = rw (get_or-set_other ws (n / 64) i word 0 f) (h i)

  pub held-added : (k : ℕ) → held (set ws (n / 64) (bit_or (get_or ws (n / 64) 0) (2 ^ (n % 64)))) k ≡ added n (held ws) k
  held-added k = told (eqb (k / 64) (n / 64)) (λ e. in_its_word k (eqb-true (k / 64) (n / 64) e)) (λ e. in_another k (eqb-false (k / 64) (n / 64) e))

-- two sets made one, word by word: each bit of a word is made of the two bits at its place
pub held-combined : (f : Bool → Bool → Bool) → f false false ≡ false → (a b r : List ℕ) → length a ≡ 16 → length b ≡ 16 → length r ≡ 16
    → ((q : ℕ) → q < 16 → (j : ℕ) → j < 64 → bit (get_or r q 0) j ≡ f (bit (get_or a q 0) j) (bit (get_or b q 0) j)) → held r ≡ (λ k. f (held a k) (held b k))
unfolding held
held-combined f none a b r la lb lr e = fun_ext (λ k. by k (dec_le 16 (k / 64)))
  where
    by : (k : ℕ) → Dec (16 ≤ k / 64) → held r k ≡ f (held a k) (held b k)
    by k (yes h) = held_past r k (omega arith) ∙ sym (ap₂ f (held_past a k (omega arith)) (held_past b k (omega arith)) ∙ none)
    by k (no h) = e (k / 64) (omega arith) (k % 64) (omega arith)
