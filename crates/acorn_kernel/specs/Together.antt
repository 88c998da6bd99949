-- The 293 bits that the six words of a state hold, and what up to 32 steps run together do to them.
use Rattle.std.specs.Prelude.{◌≡◌, Bool, ◌&&◌, ℕ, ◌+◌, ◌-◌, ◌/◌, ◌^◌, ◌<◌, ltb}
use Rattle.acorn_model.specs.Bits.{Bits, ◌⊕◌, bit}
use Rattle.calls.specs.Calls.{◌if◌else◌}
use Rattle.acorn_model.specs.Step.{StepInput, run, keystream_bit}
use Rattle.acorn_model.specs.Stretches.{zeros}
use Rattle.acorn_kernel.specs.declared.State.{State}

infixr 5 ◌bits◌then◌
-- the first n bits of a, and then those of b
unfoldable pub ◌bits◌then◌ : ℕ → Bits → Bits → Bits
◌bits◌then◌ n a b p = a p if ltb p n else b (p - n)

-- S0 to S60, S61 to S106, S107 to S153, S154 to S192, S193 to S229, S230 to S292. Each word's own bits are its highest; those below do not count.
unfoldable pub state_of : State → Bits
state_of s =
    61 bits bit (s.w0 / 2 ^ 3) then
    46 bits bit (s.w1 / 2 ^ 18) then
    47 bits bit (s.w2 / 2 ^ 17) then
    39 bits bit (s.w3 / 2 ^ 25) then
    37 bits bit (s.w4 / 2 ^ 27) then
    63 bits bit (s.w5 / 2 ^ 1) then
    zeros

-- the first place above those of the word that holds place p
abbrev pub word_end : ℕ → ℕ
word_end p =
    61 if ltb p 61 else
    107 if ltb p 107 else
    154 if ltb p 154 else
    193 if ltb p 193 else
    230 if ltb p 230 else
    293

-- every bit of a state q places down
abbrev pub moved_down : ℕ → Bits → Bits
moved_down q S p = S (p + q)

-- Steps with the same controls that take the bits b in turn: in sealing they are the message bits, in opening the message bits are b ⊕ ks.
abbrev pub inputs_from : Bool → Bool → Bool → Bits → ℕ → StepInput
inputs_from opening ca cb b i = record { ca = ca; cb = cb; m = λ ks. (opening && ks) ⊕ b i }

-- such steps from S that take the bits of the word x: S' is the state after k, at most 32, and the bits of the word z are the ks of 32
pub record Together (S : Bits) (x : ℕ) (opening ca cb : Bool) (k : ℕ) (S' : Bits) (z : ℕ) : Type 0 where
  pub state : S' ≡ run (inputs_from opening ca cb (bit x)) k S
  pub ks : (j : ℕ) → j < 32 → bit z j ≡ keystream_bit (run (inputs_from opening ca cb (bit x)) j S)
