-- The formulas in code; stores into the places of a state: one update, the six of them, the shift; and the step that they make together.
use mathlib.Core.Path.{◌≡◌, refl, ap, ap₂, ◌∙◌, fun_ext}
use mathlib.Core.Bool.{Bool, true, false, not, ◌&&◌, beq}
use mathlib.Core.List.{List, [], ◌∷◌, ◌++◌}
use Prim.Native.Nat.{ℕ, suc, ◌+◌, ◌<◌}
use native.Mathlib.Omega.{arith}
use borrow.Author.Rules.{set_long}
use borrow.Author.Tests.{eqb-true, eqb-false}
use lib.Dec.{eqb}
use lib.ListN.{length, get_or, take, drop, set, length-append, length-drop}
use lib.Seq.{get_or-set_same, get_or-set_other, length-take-le}
use Rattle.std.proofs.lemmas.List.{get_or_append_left, get_or-take}
use Rattle.std.proofs.lemmas.Grind.{get_or_after_one}
use Rattle.calls.specs.Calls.{◌if◌else◌}
use Rattle.acorn_model.specs.Bits.{Bits, ◌⊕◌}
use Rattle.acorn_model.specs.Step.{◌⊕=◌and◌, lfsr_update, maj, ch, ksg128, fbk128, keystream_bit, feedback_bit}
use Rattle.acorn_model.proofs.States.{step-by_bits}
use Rattle.single_step.specs.Clauses.{state_of, Steps}

-- ## The formulas, with exclusive or as the language computes it

infixl 40 ◌xor◌
abbrev ◌xor◌ : Bool → Bool → Bool
a xor b = not (beq a b)

xor_is : ◌xor◌ ≡ ◌⊕◌
xor_is = fun_ext (λ a. fun_ext (by a))
  where
    by : (a b : Bool) → a xor b ≡ a ⊕ b
    by true true = refl
    by true false = refl
    by false true = refl
    by false false = refl

pub maj-is : (x y z : Bool) → (x && y) xor (x && z) xor (y && z) ≡ maj x y z
unfolding maj
maj-is x y z = ap (λ (op : Bool → Bool → Bool). op (op (x && y) (x && z)) (y && z)) xor_is

pub ch-is : (x y z : Bool) → (x && y) xor (not x && z) ≡ ch x y z
unfolding ch
ch-is x y z = ap (λ (op : Bool → Bool → Bool). op (x && y) (not x && z)) xor_is

pub ksg128-is : (S : Bits) → S 12 xor S 154 xor maj (S 235) (S 61) (S 193) xor ch (S 230) (S 111) (S 66) ≡ ksg128 S
unfolding ksg128
ksg128-is S = ap (λ (op : Bool → Bool → Bool). op (op (op (S 12) (S 154)) (maj (S 235) (S 61) (S 193))) (ch (S 230) (S 111) (S 66))) xor_is

pub fbk128-is : (ca cb ks : Bool) (S : Bits) → S 0 xor not (S 107) xor maj (S 244) (S 23) (S 160) xor (ca && S 196) xor (cb && ks) ≡ fbk128 ca cb ks S
unfolding fbk128
fbk128-is ca cb ks S =
    ap (λ (op : Bool → Bool → Bool). op (op (op (op (S 0) (not (S 107))) (maj (S 244) (S 23) (S 160))) (ca && S 196)) (cb && ks)) xor_is

sum_is : (a b c : Bool) → a xor b xor c ≡ a ⊕ (b ⊕ c)
sum_is true true true = refl
sum_is true true false = refl
sum_is true false true = refl
sum_is true false false = refl
sum_is false true true = refl
sum_is false true false = refl
sum_is false false true = refl
sum_is false false false = refl

-- ## Stores

-- a store changes its place and no other
stored : (s : List Bool) (p : ℕ) (v : Bool) → p < length s → (q : ℕ) → state_of (set s p v) q ≡ (v if eqb q p else state_of s q)
stored s p v h q = by (eqb q p) refl
  where
    by : (b : Bool) → eqb q p ≡ b → state_of (set s p v) q ≡ (v if b else state_of s q)
    by true e = rw (eqb-true q p e) (get_or-set_same s p v false h)
    by false e = get_or-set_other s p q v false (eqb-false q p e)

-- ## Step 1

-- the line s[p] = s[p] ^ s[a] ^ s[b]
abbrev line : List Bool → ℕ → ℕ → ℕ → List Bool
line s p a b = set s p (state_of s p xor state_of s a xor state_of s b)

abbrev six_lines : List Bool → List Bool
six_lines s = line (line (line (line (line (line s 289 235 230) 230 196 193) 193 160 154) 154 111 107) 107 66 61) 61 23 0

-- 293 places that hold S
record Holds (S : Bits) (s : List Bool) : Type 0 where
  pub size : length s ≡ 293
  pub bits : state_of s ≡ S

line-holds : (p a b : ℕ) → p < 293 → {S : Bits} {s : List Bool} → Holds S s → Holds ((p ⊕= a and b) S) (line s p a b)
unfolding ◌⊕=◌and◌
line-holds p a b h {S} {s} held = record {
  size = set_long Bool s p 293 _ held.size;
  bits =
      fun_ext (λ q. stored s p _ (omega (arith, held.size)) q ∙ ap (λ (v : Bool). v if eqb q p else state_of s q) (sum_is (state_of s p) (state_of s a) (state_of s b)))
      ∙ ap (p ⊕= a and b) held.bits;
}

six-lines : (s : List Bool) → length s ≡ 293 → Holds (lfsr_update (state_of s)) (six_lines s)
unfolding lfsr_update
six-lines s h =
    line-holds 61 23 0 (omega arith)
    (line-holds 107 66 61 (omega arith)
    (line-holds 154 111 107 (omega arith)
    (line-holds 193 160 154 (omega arith)
    (line-holds 230 196 193 (omega arith)
    (line-holds 289 235 230 (omega arith) {s = s} (record { size = h; bits = refl }))))))

-- ## Step 4

-- `next`, all zeros, after the line next[0..=291].copy_from_slice(&s[1..=292])
abbrev shifted : List Bool → List Bool
shifted moved = moved ++ (false ∷ [])

module _ (s moved : List Bool) (h : length s ≡ 293) (copied : moved ≡ take 292 (drop 1 s)) where
  moved-length : length moved ≡ 292
  moved-length = rw copied (length-take-le 292 (drop 1 s) (omega (arith, length-drop 1 s)))

  shifted-length : length (shifted moved) ≡ 293
  shifted-length = omega (arith, moved-length, length-append moved (false ∷ []))

  shifted-places : (p : ℕ) → p < 292 → state_of (shifted moved) p ≡ state_of s (suc p)
  shifted-places p g =
      let next : 1 + p ≡ suc p = omega arith in
      get_or_append_left moved (false ∷ []) false p (omega (arith, moved-length))
      ∙ ap (λ (l : List Bool). get_or l p false) copied
      ∙ get_or-take 292 (drop 1 s) p false g
      ∙ get_or_after_one s p false
      ∙ ap (state_of s) next

-- ## The step

module _ (before moved : List Bool) (m ca cb ks f : Bool) (h : length before ≡ 293) (k : ks ≡ ksg128 (state_of (six_lines before)))
    (g : f ≡ fbk128 ca cb ks (state_of (six_lines before))) where
  ks_is : ks ≡ keystream_bit (state_of before)
  unfolding keystream_bit
  ks_is = k ∙ ap ksg128 (six-lines before h).bits

  f_is : f ≡ feedback_bit ca cb (state_of before)
  unfolding feedback_bit
  f_is = g ∙ ap₂ (fbk128 ca cb) ks_is (six-lines before h).bits

  abbrev updated : List Bool
  updated = six_lines before

  -- with the line next[292] = f ^ m
  pub step_made : moved ≡ take 292 (drop 1 updated) → Steps before m ca cb ks (set (shifted moved) 292 (f xor m))
  step_made copied =
      let size = (six-lines before h).size in
      let next = shifted moved in (
        ks_is,
        step-by_bits ca cb m (state_of before) (state_of (set next 292 (f xor m)))
            (λ p q. get_or-set_other next 292 p (f xor m) false (omega arith) ∙ shifted-places updated moved size copied p (omega arith)
            ∙ ap (λ (S : Bits). S (suc p)) (six-lines before h).bits)
            (get_or-set_same next 292 (f xor m) false (omega (arith, shifted-length updated moved size copied)) ∙ ap (λ (op : Bool → Bool → Bool). op f m) xor_is
            ∙ ap (λ (b : Bool). b ⊕ m) f_is),
      )
