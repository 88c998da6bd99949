-- The state after i single steps in closed form, for every i up to 32: the theorem `closed`.
use mathlib.Core.Path.{◌≡◌, sym, ap, ap₂, ◌∙◌}
use mathlib.Core.Bool.{Bool, false}
use mathlib.Core.Logic.{⊎_elim}
use Prim.Native.Nat.{ℕ, zero, suc, ◌+◌, ◌-◌, ◌≤◌, ◌<◌}
use native.Mathlib.Nat.{eq-or-lt_of_le}
use native.Mathlib.Omega.{arith}
use borrow.Author.Tests.{ne_eqb}
use Rattle.acorn_model.specs.Bits.{Bits, ◌⊕◌}
use Rattle.acorn_model.specs.Step.{◌⊕=◌and◌, lfsr_update, ksg128, fbk128, keystream_bit, feedback_bit, step, StepInput, step_on, run}
use Rattle.acorn_kernel.specs.Together.{◌bits◌then◌, moved_down}
use Rattle.acorn_kernel.proofs.Sequences.{then_low, then_high}

-- t holds, in its n places from lo on, what S held there i steps before, and above that the bits u that have moved in
abbrev pub Register : (lo n : ℕ) → Bits → Bits → ℕ → Bits → Type 0
Register lo n u S i t = (j : ℕ) → j < n → t (lo + j) ≡ (n bits (λ p. S (lo + p)) then u) (j + i)

module _ (lo n : ℕ) (u S : Bits) (i : ℕ) (t : Bits) where
  -- a place that has not been reached by the bits that move in
  tap : (j : ℕ) → j + i < n → Register lo n u S i t → t (lo + j) ≡ S (lo + j + i)
  tap j h r = r j (omega arith) ∙ then_low n (λ p. S (lo + p)) u (j + i) h ∙ ap S (omega arith)

  -- one step more
  register_more : (t' : Bits) → 0 < n → ((j : ℕ) → suc j < n → t' (lo + j) ≡ t (suc (lo + j))) → t' (lo + (n - 1)) ≡ u i
      → Register lo n u S i t → Register lo n u S (suc i) t'
  register_more t' h0 moved top r j h = ⊎_elim last within (eq-or-lt_of_le h)
    where
      last : suc j ≡ n → t' (lo + j) ≡ (n bits (λ p. S (lo + p)) then u) (j + suc i)
      last e = ap t' (omega arith) ∙ top ∙ sym (ap (n bits (λ p. S (lo + p)) then u) (omega arith) ∙ then_high n (λ p. S (lo + p)) u i)

      within : suc j < n → t' (lo + j) ≡ (n bits (λ p. S (lo + p)) then u) (j + suc i)
      within l = moved j l ∙ ap t (omega arith) ∙ r (suc j) l ∙ ap (n bits (λ p. S (lo + p)) then u) (omega arith)

-- the places that rule 1 does not write, and those that only take the bit above them
abbrev Kept : ℕ → Type 0
Kept p = (p ≡ 61 → ⊥) × (p ≡ 107 → ⊥) × (p ≡ 154 → ⊥) × (p ≡ 193 → ⊥) × (p ≡ 230 → ⊥) × (p ≡ 289 → ⊥)

abbrev Plain : ℕ → Type 0
Plain p = (p ≡ 292 → ⊥) × Kept (suc p)

kept : (p : ℕ) → Kept p → (t : Bits) → lfsr_update t p ≡ t p
unfolding lfsr_update ◌⊕=◌and◌
kept p n t = simp (ne_eqb p 61 n.0, ne_eqb p 107 n.1, ne_eqb p 154 n.2, ne_eqb p 193 n.3, ne_eqb p 230 n.4, ne_eqb p 289 n.5)

plain : (input : StepInput) (t : Bits) (p : ℕ) → Plain p → step_on input t p ≡ t (suc p)
unfolding step
plain input t p n = rw (ne_eqb p 292 n.0) (kept (suc p) n.1 t)

-- two states agree at the places that ks and f read
pub record SameTaps (t r : Bits) : Type 0 where
  pub e0 : t 0 ≡ r 0
  pub e12 : t 12 ≡ r 12
  pub e23 : t 23 ≡ r 23
  pub e61 : t 61 ≡ r 61
  pub e66 : t 66 ≡ r 66
  pub e107 : t 107 ≡ r 107
  pub e111 : t 111 ≡ r 111
  pub e154 : t 154 ≡ r 154
  pub e160 : t 160 ≡ r 160
  pub e193 : t 193 ≡ r 193
  pub e196 : t 196 ≡ r 196
  pub e230 : t 230 ≡ r 230
  pub e235 : t 235 ≡ r 235
  pub e244 : t 244 ≡ r 244

ks_by_taps : (t r : Bits) → SameTaps t r → keystream_bit t ≡ keystream_bit r
unfolding keystream_bit ksg128 lfsr_update ◌⊕=◌and◌
ks_by_taps t r e = cc

f_by_taps : (ca cb : Bool) (t r : Bits) → SameTaps t r → feedback_bit ca cb t ≡ feedback_bit ca cb r
unfolding feedback_bit fbk128 lfsr_update ◌⊕=◌and◌
f_by_taps ca cb t r e = cc (ks_by_taps t r e)

module _ (γ : ℕ → StepInput) (S : Bits) where
  -- the bits that enter S292, by step
  abbrev pub entering : Bits
  entering q = feedback_bit (γ q).ca (γ q).cb (moved_down q S) ⊕ (γ q).m (keystream_bit (moved_down q S))

  -- those that reach S289
  abbrev pub reaching289 : Bits
  reaching289 = 4 bits (λ p. S (289 + p)) then entering

  -- those that leave a place that rule 1 writes
  abbrev pub leaving : ℕ → Bits
  leaving p q = lfsr_update (moved_down q S) p

  abbrev pub leaving289 : Bits
  leaving289 q = reaching289 q ⊕ (S (235 + q) ⊕ S (230 + q))

  pub record Closed (i : ℕ) (t : Bits) : Type 0 where
    pub r0 : Register 0 61 (leaving 61) S i t
    pub r1 : Register 61 46 (leaving 107) S i t
    pub r2 : Register 107 47 (leaving 154) S i t
    pub r3 : Register 154 39 (leaving 193) S i t
    pub r4 : Register 193 37 (leaving 230) S i t
    pub r5 : Register 230 59 leaving289 S i t
    pub r6 : Register 289 4 entering S i t

  taps : (i : ℕ) (t : Bits) → i < 32 → Closed i t → SameTaps t (moved_down i S)
  taps i t h c =
      record {
        e0 = tap 0 61 (leaving 61) S i t 0 (omega arith) c.r0;
        e12 = tap 0 61 (leaving 61) S i t 12 (omega arith) c.r0;
        e23 = tap 0 61 (leaving 61) S i t 23 (omega arith) c.r0;
        e61 = tap 61 46 (leaving 107) S i t 0 (omega arith) c.r1;
        e66 = tap 61 46 (leaving 107) S i t 5 (omega arith) c.r1;
        e107 = tap 107 47 (leaving 154) S i t 0 (omega arith) c.r2;
        e111 = tap 107 47 (leaving 154) S i t 4 (omega arith) c.r2;
        e154 = tap 154 39 (leaving 193) S i t 0 (omega arith) c.r3;
        e160 = tap 154 39 (leaving 193) S i t 6 (omega arith) c.r3;
        e193 = tap 193 37 (leaving 230) S i t 0 (omega arith) c.r4;
        e196 = tap 193 37 (leaving 230) S i t 3 (omega arith) c.r4;
        e230 = tap 230 59 leaving289 S i t 0 (omega arith) c.r5;
        e235 = tap 230 59 leaving289 S i t 5 (omega arith) c.r5;
        e244 = tap 230 59 leaving289 S i t 14 (omega arith) c.r5;
      }

  register_none : (lo n : ℕ) (u : Bits) → Register lo n u S 0 S
  register_none lo n u j h = sym (then_low n (λ p. S (lo + p)) u (j + 0) (omega arith) ∙ ap (λ (p : ℕ). S (lo + p)) (omega arith))

  none : Closed 0 S
  none =
      record {
        r0 = register_none 0 61 (leaving 61);
        r1 = register_none 61 46 (leaving 107);
        r2 = register_none 107 47 (leaving 154);
        r3 = register_none 154 39 (leaving 193);
        r4 = register_none 193 37 (leaving 230);
        r5 = register_none 230 59 leaving289;
        r6 = register_none 289 4 entering;
      }

  module _ (i : ℕ) (t : Bits) (h : i < 32) (c : Closed i t) where
    abbrev next : Bits
    next = step_on (γ i) t

    top0 : next 60 ≡ leaving 61 i
    unfolding step lfsr_update ◌⊕=◌and◌
    top0 = let e = taps i t h c in cc

    top1 : next 106 ≡ leaving 107 i
    unfolding step lfsr_update ◌⊕=◌and◌
    top1 = let e = taps i t h c in cc

    top2 : next 153 ≡ leaving 154 i
    unfolding step lfsr_update ◌⊕=◌and◌
    top2 = let e = taps i t h c in cc

    top3 : next 192 ≡ leaving 193 i
    unfolding step lfsr_update ◌⊕=◌and◌
    top3 = let e = taps i t h c in cc

    top4 : next 229 ≡ leaving 230 i
    unfolding step lfsr_update ◌⊕=◌and◌
    top4 = let e = taps i t h c in cc

    top5 : next 288 ≡ leaving289 i
    unfolding step lfsr_update ◌⊕=◌and◌
    top5 = let e = taps i t h c in let g : t 289 ≡ reaching289 i = c.r6 0 (omega arith) ∙ ap reaching289 (omega arith) in cc

    top6 : next 292 ≡ entering i
    unfolding step
    top6 = ap₂ ◌⊕◌ (f_by_taps (γ i).ca (γ i).cb t (moved_down i S) (taps i t h c)) (ap (γ i).m (ks_by_taps t (moved_down i S) (taps i t h c)))

    moved : (lo n : ℕ) (u : Bits) → 0 < n → ((j : ℕ) → suc j < n → Plain (lo + j)) → next (lo + (n - 1)) ≡ u i → Register lo n u S i t → Register lo n u S (suc i) next
    moved lo n u h0 p top r = register_more lo n u S i t next h0 (λ j l. plain (γ i) t (lo + j) (p j l)) top r

    more : Closed (suc i) next
    more =
        record {
          r0 = moved 0 61 (leaving 61) (omega arith) (λ j l. omega arith) top0 c.r0;
          r1 = moved 61 46 (leaving 107) (omega arith) (λ j l. omega arith) top1 c.r1;
          r2 = moved 107 47 (leaving 154) (omega arith) (λ j l. omega arith) top2 c.r2;
          r3 = moved 154 39 (leaving 193) (omega arith) (λ j l. omega arith) top3 c.r3;
          r4 = moved 193 37 (leaving 230) (omega arith) (λ j l. omega arith) top4 c.r4;
          r5 = moved 230 59 leaving289 (omega arith) (λ j l. omega arith) top5 c.r5;
          r6 = moved 289 4 entering (omega arith) (λ j l. omega arith) top6 c.r6;
        }

  -- for every i up to 32 the state after i single steps is the closed form
  pub closed : (i : ℕ) → i ≤ 32 → Closed i (run γ i S)
  unfolding run
  closed zero h = none
  closed (suc i) h = more i (run γ i S) h (closed i (omega arith))

  -- the ks of step i is read off the state before the steps
  pub ks_closed : (i : ℕ) → i < 32 → keystream_bit (run γ i S) ≡ keystream_bit (moved_down i S)
  ks_closed i h = ks_by_taps (run γ i S) (moved_down i S) (taps i (run γ i S) h (closed i (omega arith)))

  -- above the 293 places nothing is ever set
  pub run-above : ((q : ℕ) → S (293 + q) ≡ false) → (i q : ℕ) → run γ i S (293 + q) ≡ false
  unfolding run
  run-above h zero q = h q
  run-above h (suc i) q = plain (γ i) (run γ i S) (293 + q) (omega arith) ∙ ap (run γ i S) (omega arith) ∙ run-above h i (suc q)
