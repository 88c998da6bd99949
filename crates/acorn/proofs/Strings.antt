-- Words that are read from a string, and written to one.
use mathlib.Core.Path.{◌≡◌, refl, sym, ap, ap₂, ◌∙◌}
use mathlib.Core.List.{List, [], ◌∷◌}
use Prim.Native.Nat.{ℕ, zero, suc, ◌+◌, ◌-◌, ◌*◌, ◌/◌, ◌%◌, ◌^◌, ◌≤◌, ◌<◌}
use native.Mathlib.Omega.{arith}
use lib.ListN.{length, get_or, set, take, drop, length-drop, get_or-eq_default}
use lib.Seq.{paste, drop-drop, length-take-le}
use mathlib.Core.Logic.{⊎_elim}
use Rattle.std.specs.Simd.{first_chunks}
use Rattle.std.proofs.lemmas.List.{get_or-take, get_or-drop}
use Rattle.calls.proofs.Choices.{lt_or_ge}
use borrow.Rule.Slice.PartMut.{put_mid}
use Rattle.std.proofs.lemmas.Slice.{put_mid-paste}
use Rattle.std.proofs.lemmas.List.Edits.{paste_none, paste_more}
use Rattle.std.specs.Int.{w32, to_le_bytes, from_le_bytes}
use Rattle.std.proofs.lemmas.Nat.{le_bytes_4}
use Rattle.acorn_model.specs.Bits.{Bits, bit, bits_in, number, bytes}
use Rattle.acorn_model.proofs.Numbers.{bit_shift, number_of, number_same}
use Rattle.acorn_model.proofs.Bytes.{bits_of_bytes, bytes-length}

-- byte j of a word
byte_is : (x j k : ℕ) (b : Bits) → k ≡ 8 * j → ((i : ℕ) → i < 8 → b i ≡ bit x (k + i)) → x / 2 ^ k % 2 ^ 8 ≡ number 8 b
byte_is x j k b e h = sym (number_same 8 b (bit (x / 2 ^ k)) (λ i l. h i l ∙ sym (bit_shift x k i)) ∙ number_of 8 (x / 2 ^ k))

-- the four bytes of a word, as the library makes them
pub le_bytes-is : (x : ℕ) → to_le_bytes w32 x ≡ bytes 4 (bit x)
unfolding bytes
le_bytes-is x =
    let b0 : x % 256 ≡ number 8 (bit x) = sym (number_of 8 x) in
    let b1 : x / 256 % 256 ≡ number 8 (λ i. bit x (8 + i)) = byte_is x 1 8 _ refl (λ i l. refl) in
    let b2 : x / 65536 % 256 ≡ number 8 (λ i. bit x (8 + (8 + i))) = byte_is x 2 16 _ refl (λ i l. ap (bit x) (omega arith)) in
    let b3 : x / 16777216 % 256 ≡ number 8 (λ i. bit x (8 + (8 + (8 + i)))) = byte_is x 3 24 _ refl (λ i l. ap (bit x) (omega arith)) in
    ap₂ ◌∷◌ b0 (ap₂ ◌∷◌ b1 (ap₂ ◌∷◌ b2 (ap (λ (b : ℕ). b ∷ []) b3)))

-- the bits of the word that it makes of four bytes
pub word_bits : (four : List ℕ) (x : ℕ) → length four ≡ 4 → ((p : ℕ) → get_or four p 0 < 2 ^ 8) → x ≡ from_le_bytes w32 four → (i : ℕ) → i < 32 → bit x i ≡ bits_in four i
word_bits four x size small e i h = sym (bits_of_bytes 4 (bit x) i h) ∙ ap (λ (l : List ℕ). bits_in l i) (sym (le_bytes-is x) ∙ le_bytes_4 four x size small e)

-- the bits of k bytes that stand in a string from place a on
pub bits_moved : (part string : List ℕ) (a k : ℕ) → ((j : ℕ) → j < k → get_or part j 0 ≡ get_or string (a + j) 0) → (i : ℕ) → i < 8 * k → bits_in part i ≡ bits_in string (8 * a + i)
unfolding bits_in
bits_moved part string a k same i h =
    let place : a + i / 8 ≡ (8 * a + i) / 8 = omega arith in
    ap₂ bit (same (i / 8) (omega arith) ∙ ap (λ (p : ℕ). get_or string p 0) place) (omega arith)

-- four bytes, the first k of them those of a string from place a on
module _ (l : List ℕ) (a : ℕ) (h : (p : ℕ) → get_or l p 0 < 256) (b c d : ℕ) (hb : b < 256) (hc : c < 256) (hd : d < 256) where
  abbrev four_from : List ℕ
  four_from = get_or l a 0 ∷ b ∷ c ∷ d ∷ []

  small : (p : ℕ) → get_or four_from p 0 < 256
  small zero = h a
  small (suc zero) = hb
  small (suc (suc zero)) = hc
  small (suc (suc (suc zero))) = hd
  small (suc (suc (suc (suc p)))) = omega arith

  same : (k : ℕ) → (1 < k → b ≡ get_or l (a + 1) 0) → (2 < k → c ≡ get_or l (a + 2) 0) → (3 < k → d ≡ get_or l (a + 3) 0) → k ≤ 4 → (j : ℕ) → j < k → get_or four_from j 0 ≡ get_or l (a + j) 0
  same k eb ec ed l4 zero g = let e : a ≡ a + 0 = omega arith in ap (λ (p : ℕ). get_or l p 0) e
  same k eb ec ed l4 (suc zero) g = eb g
  same k eb ec ed l4 (suc (suc zero)) g = ec g
  same k eb ec ed l4 (suc (suc (suc zero))) g = ed g
  same k eb ec ed l4 (suc (suc (suc (suc j)))) g = absurd (omega arith)

  -- the word made of them
  pub loaded : (k x : ℕ) → x ≡ from_le_bytes w32 four_from → (1 < k → b ≡ get_or l (a + 1) 0) → (2 < k → c ≡ get_or l (a + 2) 0) → (3 < k → d ≡ get_or l (a + 3) 0) → k ≤ 4
      → (i : ℕ) → i < 8 * k → bit x i ≡ bits_in l (8 * a + i)
  loaded k x e eb ec ed l4 i g = word_bits four_from x refl small e i (omega arith) ∙ bits_moved four_from l a k (same k eb ec ed l4) i g

-- the words of a string, four bytes each, and the bytes behind them
chunk_at : (l : List ℕ) (k n : ℕ) → n < k → get_or (first_chunks 4 k l) n [] ≡ take 4 (drop (4 * n) l)
chunk_at l zero n h = absurd (omega arith)
chunk_at l (suc k) zero h = let none : 0 ≡ 4 * 0 = omega arith in ap (λ (p : ℕ). take 4 (drop p l)) none
chunk_at l (suc k) (suc n) h =
    let there : 4 + 4 * n ≡ 4 * suc n = omega arith in
    chunk_at (drop 4 l) k n (omega arith) ∙ ap (take 4) (drop-drop (4 * n) 4 l ∙ ap (λ (p : ℕ). drop p l) there)

module _ (l : List ℕ) (small : (p : ℕ) → get_or l p 0 < 256) where
  pub chunk_bits : (n x : ℕ) (chunks : List (List ℕ)) → chunks ≡ first_chunks 4 (length l / 4) l → n < length l / 4 → x ≡ from_le_bytes w32 (get_or chunks n [])
      → (i : ℕ) → i < 32 → bit x i ≡ bits_in l (8 * (4 * n) + i)
  chunk_bits n x chunks e h made i g =
      let read = ap (λ (cs : List (List ℕ)). get_or cs n []) e ∙ chunk_at l (length l / 4) n h in
      let four = take 4 (drop (4 * n) l) in
      word_bits four x (length-take-le 4 (drop (4 * n) l) (omega (arith, length-drop (4 * n) l))) few (made ∙ ap (from_le_bytes w32) read) i g
      ∙ bits_moved four l (4 * n) 4 (λ j k. get_or-take 4 (drop (4 * n) l) j 0 k ∙ get_or-drop (4 * n) l j 0) i g
    where
      few : (p : ℕ) → get_or (take 4 (drop (4 * n) l)) p 0 < 256
      few p = ⊎_elim (λ (k : p < 4). omega (arith, get_or-take 4 (drop (4 * n) l) p 0 k, get_or-drop (4 * n) l p 0, small (4 * n + p)))
          (λ (k : 4 ≤ p). omega (arith, get_or-eq_default (take 4 (drop (4 * n) l)) 0 {n = p} (omega (arith, length-take-le 4 (drop (4 * n) l) (omega (arith, length-drop (4 * n) l)))))) (lt_or_ge p 4)

  pub rest_bits : (rest : List ℕ) (k x : ℕ) → rest ≡ drop (length l / 4 * 4) l → ((i : ℕ) → i < 8 * k → bit x i ≡ bits_in rest (8 * 0 + i))
      → (i : ℕ) → i < 8 * k → bit x i ≡ bits_in l (8 * (4 * (length l / 4)) + i)
  rest_bits rest k x e loaded i h =
      let none : 8 * 0 + i ≡ i = omega arith in
      let there : length l / 4 * 4 ≡ 4 * (length l / 4) = omega arith in
      loaded i h ∙ ap (bits_in rest) none
      ∙ bits_moved rest l (4 * (length l / 4)) k
      (λ j g. ap (λ (t : List ℕ). get_or t j 0) (e ∙ ap (λ (p : ℕ). drop p l) there) ∙ get_or-drop (4 * (length l / 4)) l j 0) i h

-- the first one, two or three bytes of a word, written from place a on
module _ (d : List ℕ) (a x k : ℕ) where
  pub stored_one : (v : ℕ) → v ≡ get_or (bytes 4 (bit x)) 0 0 → a < length d → k ≡ 1 → set d a v ≡ paste d a (bytes 4 (bit x)) k
  stored_one v e h g =
      let there : a ≡ a + 0 = omega arith in
      ap₂ (λ (l : List ℕ) (p : ℕ). set l p v) (paste_none d a (bytes 4 (bit x))) there ∙ ap (set (paste d a (bytes 4 (bit x)) 0) (a + 0)) e
      ∙ paste_more d a (bytes 4 (bit x)) 0 0 (omega arith) (omega (arith, bytes-length 4 (bit x))) ∙ ap (paste d a (bytes 4 (bit x))) (sym g)

  pub stored_two : (part : List ℕ) → part ≡ get_or (bytes 4 (bit x)) 0 0 ∷ get_or (bytes 4 (bit x)) 1 0 ∷ [] → k ≡ 2 → put_mid a (a + 2 - a) d part ≡ paste d a (bytes 4 (bit x)) k
  unfolding bytes
  stored_two part e g =
      put_mid-paste a (a + 2 - a) d part (get_or (bytes 4 (bit x)) 0 0 ∷ get_or (bytes 4 (bit x)) 1 0 ∷ []) 2 e (omega arith) refl ∙ ap (paste d a (bytes 4 (bit x))) (sym g)

  pub stored_three : (part : List ℕ) → part ≡ get_or (bytes 4 (bit x)) 0 0 ∷ get_or (bytes 4 (bit x)) 1 0 ∷ get_or (bytes 4 (bit x)) 2 0 ∷ [] → k ≡ 3
      → put_mid a (a + 3 - a) d part ≡ paste d a (bytes 4 (bit x)) k
  unfolding bytes
  stored_three part e g =
      put_mid-paste a (a + 3 - a) d part (get_or (bytes 4 (bit x)) 0 0 ∷ get_or (bytes 4 (bit x)) 1 0 ∷ get_or (bytes 4 (bit x)) 2 0 ∷ []) 3 e (omega arith) refl
      ∙ ap (paste d a (bytes 4 (bit x))) (sym g)
