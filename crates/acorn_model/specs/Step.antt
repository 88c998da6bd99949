-- Document 01, "One step": the four rules in their order. They are StateUpdate128 of the cipher's paper (document 003, 1.3.2).
use Rattle.std.specs.Prelude.{Bool, not, ◌&&◌, ℕ, zero, suc, eqb}
use Rattle.acorn_model.specs.Bits.{Bits, ◌⊕◌}
use Rattle.calls.specs.Calls.{◌if◌else◌}

infix 20 ◌⊕=◌and◌
infixl 10 ◌then◌
-- A state S: its bits 0 to 292 are S0 to S292. What stands from 293 on never moves into them.

-- S p ⊕= S a ⊕ S b
unfoldable pub ◌⊕=◌and◌ : ℕ → ℕ → ℕ → Bits → Bits
◌⊕=◌and◌ p a b S q = (S p ⊕ (S a ⊕ S b)) if eqb q p else S q

-- first this, then that
abbrev pub ◌then◌ : Bits → (Bits → Bits) → Bits
S then update = update S

-- rule 1: the six linear feedback shift registers are updated
unfoldable pub lfsr_update : Bits → Bits
lfsr_update S =
    S then
    289 ⊕= 235 and 230 then
    230 ⊕= 196 and 193 then
    193 ⊕= 160 and 154 then
    154 ⊕= 111 and 107 then
    107 ⊕= 66 and 61 then
    61 ⊕= 23 and 0

unfoldable pub maj : Bool → Bool → Bool → Bool
maj a b c = (a && b) ⊕ (a && c) ⊕ (b && c)

unfoldable pub ch : Bool → Bool → Bool → Bool
ch a b c = (a && b) ⊕ (not a && c)

-- rule 2, of a state after rule 1: the keystream bit ks (the paper's KSG128)
unfoldable pub ksg128 : Bits → Bool
ksg128 S = S 12 ⊕ S 154 ⊕ maj (S 235) (S 61) (S 193) ⊕ ch (S 230) (S 111) (S 66)

-- rule 3, of a state after rule 1 and its ks: the feedback bit f (the paper's FBK128)
unfoldable pub fbk128 : Bool → Bool → Bool → Bits → Bool
fbk128 ca cb ks S = S 0 ⊕ not (S 107) ⊕ maj (S 244) (S 23) (S 160) ⊕ (ca && S 196) ⊕ (cb && ks)

-- the ks and the f of a step, from the state before it
unfoldable pub keystream_bit : Bits → Bool
keystream_bit S = ksg128 (lfsr_update S)

unfoldable pub feedback_bit : Bool → Bool → Bits → Bool
feedback_bit ca cb S = fbk128 ca cb (keystream_bit S) (lfsr_update S)

-- the step, with rule 4: the bits shift down by one, and f ⊕ m comes in at the top
unfoldable pub step : Bool → Bool → Bool → Bits → Bits
step ca cb m S p = (feedback_bit ca cb S ⊕ m) if eqb p 292 else lfsr_update S (suc p)

-- What a step takes: its control bits, and its message bit as it goes by the step's own ks (in opening it does).
pub record StepInput : Type 0 where
  pub ca : Bool
  pub cb : Bool
  pub m : Bool → Bool

abbrev pub step_on : StepInput → Bits → Bits
step_on input S = step input.ca input.cb (input.m (keystream_bit S)) S

-- n steps from S, of which step i takes inputs i
unfoldable pub run : (ℕ → StepInput) → ℕ → Bits → Bits
run inputs zero S = S
run inputs (suc i) S = step_on (inputs i) (run inputs i S)
