-- A state as one number, and a step as a few operations on it, so that whole messages compute.
use mathlib.Core.Path.{◌≡◌, refl, sym, ap, ◌∙◌}
use mathlib.Core.Bool.{Bool, true, false}
use mathlib.Core.Logic.{⊎_elim}
use Prim.Native.Nat.{ℕ, zero, suc, ◌+◌, ◌-◌, ◌*◌, ◌/◌, ◌%◌, ◌^◌, ◌≤◌, ◌<◌}
use native.Mathlib.Nat.{mod-lt}
use native.Mathlib.Omega.{arith}
use lib.Pow.{pow_pos, high, low}
use borrow.Author.Tests.{ne_eqb}
use Rattle.std.proofs.lemmas.Bool.{cases_lt}
use Rattle.acorn_model.specs.Bits.{Bits, ◌⊕◌, bit}
use Rattle.calls.specs.Calls.{◌if◌else◌}
use Rattle.acorn_model.specs.Step.{◌⊕=◌and◌, lfsr_update, keystream_bit, feedback_bit, step, StepInput, step_on, run}
use Rattle.acorn_model.specs.Laws.{SameState}
use Rattle.acorn_model.proofs.Numbers.{bit_mod, bit_shift, bit-suc, bit_lowest, half}
use Rattle.acorn_model.proofs.States.{same-step_on}

-- ## Numbers joined

-- the low L bits of a, and u above them
unfoldable pub join_at : ℕ → ℕ → ℕ → ℕ
join_at L a u = u * 2 ^ L + a % 2 ^ L

abbrev pub one : Bool → ℕ
one b = 1 if b else 0

-- from place lo on, L bits of S are those of a, and the n behind them those of u
joined_bits : (lo L a u n : ℕ) (S : Bits) → ((j : ℕ) → j < L → bit a j ≡ S (lo + j)) → ((j : ℕ) → j < n → bit u j ≡ S (lo + L + j))
    → (j : ℕ) → j < L + n → bit (join_at L a u) j ≡ S (lo + j)
unfolding join_at
joined_bits lo L a u n S ha hu j h = ⊎_elim below above (cases_lt j L)
  where
    both : ℕ
    both = u * 2 ^ L + a % 2 ^ L

    below : j < L → bit both j ≡ S (lo + j)
    below l = sym (bit_mod both L j l) ∙ ap (λ (x : ℕ). bit x j) (low u L (mod-lt a (pow_pos L))) ∙ bit_mod a L j l ∙ ha j l

    above : L ≤ j → bit both j ≡ S (lo + j)
    above l =
        let e : L + (j - L) ≡ j = omega arith in
        let d : lo + L + (j - L) ≡ lo + j = omega arith in
        ap (bit both) (sym e) ∙ sym (bit_shift both L (j - L)) ∙ ap (λ (x : ℕ). bit x (j - L)) (high u L (mod-lt a (pow_pos L)))
        ∙ hu (j - L) (omega arith) ∙ ap S d

-- ## A step

-- the bits between the six updated places move down as blocks, and each updated bit is set
unfoldable pub step_n : StepInput → ℕ → ℕ
step_n input x =
    join_at 60 (x / 2 ^ 1) (join_at 1 (one (lfsr_update (bit x) 61))
    (join_at 45 (x / 2 ^ 62) (join_at 1 (one (lfsr_update (bit x) 107))
    (join_at 46 (x / 2 ^ 108) (join_at 1 (one (lfsr_update (bit x) 154))
    (join_at 38 (x / 2 ^ 155) (join_at 1 (one (lfsr_update (bit x) 193))
    (join_at 36 (x / 2 ^ 194) (join_at 1 (one (lfsr_update (bit x) 230))
    (join_at 58 (x / 2 ^ 231) (join_at 1 (one (lfsr_update (bit x) 289))
    (join_at 3 (x / 2 ^ 290) (one (feedback_bit input.ca input.cb (bit x) ⊕ input.m (keystream_bit (bit x))))))))))))))))

-- p is none of the six places that rule 1 writes
abbrev NotUpdated : ℕ → Type 0
NotUpdated p = (p ≡ 61 → ⊥) × (p ≡ 107 → ⊥) × (p ≡ 154 → ⊥) × (p ≡ 193 → ⊥) × (p ≡ 230 → ⊥) × (p ≡ 289 → ⊥)

not-updated : (p : ℕ) → NotUpdated p → (S : Bits) → lfsr_update S p ≡ S p
unfolding lfsr_update ◌⊕=◌and◌
not-updated p n S = simp (ne_eqb p 61 n.0, ne_eqb p 107 n.1, ne_eqb p 154 n.2, ne_eqb p 193 n.3, ne_eqb p 230 n.4, ne_eqb p 289 n.5)

bit-one : (b : Bool) → bit (one b) 0 ≡ b
unfolding bit
bit-one true = refl
bit-one false = refl

module _ (input : StepInput) (x : ℕ) where
  abbrev after : Bits
  after = step_on input (bit x)

  moved : (lo j : ℕ) → ((lo + j) ≡ 292 → ⊥) × NotUpdated (suc (lo + j)) → bit (x / 2 ^ suc lo) j ≡ after (lo + j)
  unfolding step
  moved lo j n =
      let e : suc lo + j ≡ suc (lo + j) = omega arith in
      bit_shift x (suc lo) j ∙ ap (bit x) e ∙ sym (rw (ne_eqb (lo + j) 292 n.0) (not-updated (suc (lo + j)) n.1 (bit x)))

  set : (lo : ℕ) (b : Bool) → b ≡ after lo → (j : ℕ) → j < 1 → bit (one b) j ≡ after (lo + j)
  set lo b e j l =
      let d : j ≡ 0 = omega arith in
      let f : lo ≡ lo + j = omega arith in
      ap (bit (one b)) d ∙ bit-one b ∙ e ∙ ap after f

  pub step_n-is : SameState after (bit (step_n input x))
  unfolding step_n step
  step_n-is q l =
      let e : 0 + q ≡ q = omega arith in
      sym (joined_bits 0 60 (x / 2 ^ 1) _ 233 after (λ j h. moved 0 j (omega arith))
      (joined_bits 60 1 (one (lfsr_update (bit x) 61)) _ 232 after (set 60 (lfsr_update (bit x) 61) refl)
      (joined_bits 61 45 (x / 2 ^ 62) _ 187 after (λ j h. moved 61 j (omega arith))
      (joined_bits 106 1 (one (lfsr_update (bit x) 107)) _ 186 after (set 106 (lfsr_update (bit x) 107) refl)
      (joined_bits 107 46 (x / 2 ^ 108) _ 140 after (λ j h. moved 107 j (omega arith))
      (joined_bits 153 1 (one (lfsr_update (bit x) 154)) _ 139 after (set 153 (lfsr_update (bit x) 154) refl)
      (joined_bits 154 38 (x / 2 ^ 155) _ 101 after (λ j h. moved 154 j (omega arith))
      (joined_bits 192 1 (one (lfsr_update (bit x) 193)) _ 100 after (set 192 (lfsr_update (bit x) 193) refl)
      (joined_bits 193 36 (x / 2 ^ 194) _ 64 after (λ j h. moved 193 j (omega arith))
      (joined_bits 229 1 (one (lfsr_update (bit x) 230)) _ 63 after (set 229 (lfsr_update (bit x) 230) refl)
      (joined_bits 230 58 (x / 2 ^ 231) _ 5 after (λ j h. moved 230 j (omega arith))
      (joined_bits 288 1 (one (lfsr_update (bit x) 289)) _ 4 after (set 288 (lfsr_update (bit x) 289) refl)
      (joined_bits 289 3 (x / 2 ^ 290) _ 1 after (λ j h. moved 289 j (omega arith))
      (set 292 (feedback_bit input.ca input.cb (bit x) ⊕ input.m (keystream_bit (bit x))) refl))))))))))))) q (omega arith)
      ∙ ap after e)

-- ## Runs

unfoldable pub run_n : (ℕ → StepInput) → ℕ → ℕ → ℕ
run_n g zero x = x
run_n g (suc n) x = step_n (g n) (run_n g n x)

pub run_n-is : (g : ℕ → StepInput) (n x : ℕ) (S : Bits) → SameState S (bit x) → SameState (run g n S) (bit (run_n g n x))
unfolding run run_n
run_n-is g zero x S h q l = h q l
run_n-is g (suc n) x S h q l =
    same-step_on (run g n S) (bit (run_n g n x)) (run_n-is g n x S h) (g n) q l ∙ step_n-is (g n) (run_n g n x) q l

-- the number of the ks bits of n steps
unfoldable pub keystream_n : (ℕ → StepInput) → ℕ → ℕ → ℕ
keystream_n g zero x = 0
keystream_n g (suc n) x = one (keystream_bit (bit x)) + 2 * keystream_n (λ i. g (suc i)) n (step_n (g 0) x)

first_step : (g : ℕ → StepInput) (j x : ℕ) → run_n g (suc j) x ≡ run_n (λ i. g (suc i)) j (step_n (g 0) x)
unfolding run_n
first_step g zero x = refl
first_step g (suc j) x = ap (step_n (g (suc j))) (first_step g j x)

pub keystream_n-bit : (g : ℕ → StepInput) (n j x : ℕ) → j < n → bit (keystream_n g n x) j ≡ keystream_bit (bit (run_n g j x))
unfolding keystream_n run_n
keystream_n-bit g zero j x h = absurd (omega arith)
keystream_n-bit g (suc n) zero x h = bit_lowest (keystream_bit (bit x)) (keystream_n (λ i. g (suc i)) n (step_n (g 0) x))
keystream_n-bit g (suc n) (suc j) x h =
    bit-suc (one (keystream_bit (bit x)) + 2 * rest) j ∙ ap (λ (y : ℕ). bit y j) (half (keystream_bit (bit x)) rest)
    ∙ keystream_n-bit (λ i. g (suc i)) n j (step_n (g 0) x) (omega arith) ∙ ap (λ (y : ℕ). keystream_bit (bit y)) (sym (first_step g j x))
  where
    rest : ℕ
    rest = keystream_n (λ i. g (suc i)) n (step_n (g 0) x)
