-- Laws of values side by side, over every list of widths: `join` and `cut` undo each other, and both go part by part.
use Prim.Native.Nat.{ℕ, ◌+◌, ◌*◌, ◌/◌, ◌%◌, ◌^◌, ◌<◌, ◌≤◌}
use mathlib.Core.Path.{◌≡◌, refl, sym, ap, ap₂, ◌∙◌}
use mathlib.Core.List.{List, [], ◌∷◌, ◌++◌}
use native.Mathlib.Omega.{arith}
use native.Mathlib.Nat.{mul_assoc, mul-add-div_right, mul-add-mod_self_right, mod-eq_of_lt, mod-lt, mod-one, add_comm, add-mul}
use native.Mathlib.Numerals.{add-one}
use lib.Arith.{digits_lt}
use lib.Pow.{pow_pos, pow-add, shr-shr, high, mod-pow-add}
use lib.ListN.{length, take, drop, length-append, length-drop, length-replicate, replicate-append-replicate}
use lib.Seq.{length-take-le, take_all}
use Rattle.tape_model.specs.Format.{total_width, join, cut, Fit, byte_widths}

pub cons : {a b : ℕ} {l r : List ℕ} → a ≡ b → l ≡ r → (a ∷ l) ≡ (b ∷ r)
cons e f = ap₂ (λ (x : ℕ) (l : List ℕ). x ∷ l) e f

-- ## There and back

-- values that fit make a number of as many bits
pub join_lt : (ws vs : List ℕ) → Fit ws vs → join ws vs < 2 ^ total_width ws
join_lt [] [] f = omega arith
join_lt [] (v ∷ vs) f = absurd f
join_lt (w ∷ ws) [] f = absurd f
join_lt (w ∷ ws) (v ∷ vs) f = rw pow-add (digits_lt f.0 (join_lt ws vs f.1))

-- what is cut fits
pub cut-fit : (ws : List ℕ) (n : ℕ) → Fit ws (cut ws n)
cut-fit [] n = tt
cut-fit (w ∷ ws) n = (mod-lt _ (pow_pos w), cut-fit ws n)

up : (a w b : ℕ) → a * 2 ^ (w + b) ≡ a * 2 ^ w * 2 ^ b
up a w b = rw (pow-add, mul_assoc)

-- what stands above the bits of the widths is not seen
pub cut-above : (ws : List ℕ) (a n : ℕ) → cut ws (a * 2 ^ total_width ws + n) ≡ cut ws n
cut-above [] a n = refl
cut-above (w ∷ ws) a n =
    let e : a * 2 ^ (w + total_width ws) + n ≡ a * 2 ^ w * 2 ^ total_width ws + n = ap (λ (x : ℕ). x + n) (up a w (total_width ws)) in
    ap (cut (w ∷ ws)) e
    ∙ cons (ap (λ (x : ℕ). x % 2 ^ w) (mul-add-div_right (pow_pos (total_width ws)) (a * 2 ^ w) n) ∙ mul-add-mod_self_right a (2 ^ w) (n / 2 ^ total_width ws))
    (cut-above ws (a * 2 ^ w) n)

-- the values come back
pub cut-join : (ws vs : List ℕ) → Fit ws vs → cut ws (join ws vs) ≡ vs
cut-join [] [] f = refl
cut-join [] (v ∷ vs) f = absurd f
cut-join (w ∷ ws) [] f = absurd f
cut-join (w ∷ ws) (v ∷ vs) f =
    cons (ap (λ (x : ℕ). x % 2 ^ w) (high v (total_width ws) (join_lt ws vs f.1)) ∙ mod-eq_of_lt f.0)
    (cut-above ws v (join ws vs) ∙ cut-join ws vs f.1)

-- the number comes back, but for what stands above
pub join-cut : (ws : List ℕ) (n : ℕ) → join ws (cut ws n) ≡ n % 2 ^ total_width ws
join-cut [] n = sym (mod-one n)
join-cut (w ∷ ws) n =
    ap (λ (x : ℕ). (n / 2 ^ total_width ws % 2 ^ w) * 2 ^ total_width ws + x) (join-cut ws n) ∙ sym (mod-pow-add n w (total_width ws))

-- values that fit one list of widths make a number that another of as many bits holds whole
pub rejoin : (ws us vs : List ℕ) → total_width us ≡ total_width ws → Fit ws vs → join us (cut us (join ws vs)) ≡ join ws vs
rejoin ws us vs e f = join-cut us (join ws vs) ∙ mod-eq_of_lt (rw e (join_lt ws vs f))

-- so they come back: packing and unpacking are both such cuts
pub recut : (ws us vs : List ℕ) → total_width us ≡ total_width ws → Fit ws vs → cut ws (join us (cut us (join ws vs))) ≡ vs
recut ws us vs e f = ap (cut ws) (rejoin ws us vs e f) ∙ cut-join ws vs f

-- ## Part by part

total_width-append : (us ws : List ℕ) → total_width (us ++ ws) ≡ total_width us + total_width ws
total_width-append [] ws = omega arith
total_width-append (u ∷ us) ws = omega (arith, total_width-append us ws)

-- a number of two parts is cut part by part
pub cut-append : (us ws : List ℕ) (h l : ℕ) → l < 2 ^ total_width ws → cut (us ++ ws) (h * 2 ^ total_width ws + l) ≡ cut us h ++ cut ws l
cut-append [] ws h l f = cut-above ws h l
cut-append (u ∷ us) ws h l f =
    let n = h * 2 ^ total_width ws + l in
    cons
    (ap (λ (x : ℕ). x % 2 ^ u)
    (ap (λ (k : ℕ). n / 2 ^ k) (total_width-append us ws ∙ add_comm _ _) ∙ sym (shr-shr n (total_width ws) (total_width us))
    ∙ ap (λ (x : ℕ). x / 2 ^ total_width us) (high h (total_width ws) f)))
    (cut-append us ws h l f)

-- values in two parts make a number of two parts
pub join-split : (us ws vs : List ℕ) → length us ≤ length vs
    → join (us ++ ws) vs ≡ join us (take (length us) vs) * 2 ^ total_width ws + join ws (drop (length us) vs)
join-split [] ws vs f = omega arith
join-split (u ∷ us) ws [] f = omega arith
join-split (u ∷ us) ws (v ∷ vs) f =
    omega (
      arith,
      join-split us ws vs (omega arith),
      ap (λ (k : ℕ). v * 2 ^ k) (total_width-append us ws),
      up v (total_width us) (total_width ws),
      add-mul (v * 2 ^ total_width us) (join us (take (length us) vs)) (2 ^ total_width ws),
    )

-- ## Byte strings

-- one byte more
pub join_byte : (vs : List ℕ) (b : ℕ)
    → join (byte_widths (length (vs ++ (b ∷ [])))) (vs ++ (b ∷ [])) ≡ join (byte_widths (length vs)) vs * 256 + b
join_byte [] b = omega arith
join_byte (v ∷ vs) b =
    let k = total_width (byte_widths (length vs)) in
    let e : total_width (byte_widths (length (vs ++ (b ∷ [])))) ≡ k + 8 =
    ap (λ (i : ℕ). total_width (byte_widths i)) (length-append vs (b ∷ []) ∙ add-one (length vs)) ∙ add_comm 8 k in
    omega (arith, join_byte vs b, ap (λ (i : ℕ). v * 2 ^ i) e, up v k 8)

by_length : (n : ℕ) (s : List ℕ) → length s ≡ n → join (byte_widths (length s)) s ≡ join (byte_widths n) s
by_length n s e = ap (λ (k : ℕ). join (byte_widths k) s) e

-- a string of a + b bytes in two parts
pub join_parts : (a b : ℕ) (s : List ℕ) → length s ≡ a + b
    → join (byte_widths (length s)) s
    ≡ join (byte_widths (length (take a s))) (take a s) * 2 ^ total_width (byte_widths b) + join (byte_widths (length (take b (drop a s)))) (take b (drop a s))
join_parts a b s n =
    let r : length (drop a s) ≡ b = simp length-drop (omega arith) in
    by_length (a + b) s n ∙ ap (λ (ws : List ℕ). join ws s) (sym (replicate-append-replicate a b 8))
    ∙ rw length-replicate at (join-split (byte_widths a) (byte_widths b) s (rw length-replicate (omega arith)))
    ∙ ap₂ (λ (x y : ℕ). x * 2 ^ total_width (byte_widths b) + y)
    (sym (by_length a (take a s) (length-take-le a s (omega arith))))
    (ap (join (byte_widths b)) (sym (take_all b (drop a s) (omega arith)))
    ∙ sym (by_length b (take b (drop a s)) (length-take-le b (drop a s) (omega arith))))
