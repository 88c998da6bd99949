-- The contract of the single step: document 01's one step, of a state held in 293 places.
use Rattle.std.specs.Prelude.{◌≡◌, Bool, false, List, get_or}
use Rattle.acorn_model.specs.Bits.{Bits}
use Rattle.acorn_model.specs.Step.{keystream_bit, step}
use Rattle.acorn_model.specs.Laws.{SameState}

-- the state that places hold, one place a bit: place j holds S j
abbrev pub state_of : List Bool → Bits
state_of places j = get_or places j false

-- a step from the places `before`, with m, ca and cb, gives ks and the places `after`: S 0 to S 292, each of them
abbrev pub Steps : List Bool → Bool → Bool → Bool → Bool → List Bool → Type 0
Steps before m ca cb ks after = (ks ≡ keystream_bit (state_of before)) × SameState (state_of after) (step ca cb m (state_of before))
