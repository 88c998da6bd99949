-- One step from a state of zeros but for the bits named: how such a case is stated, and a table of cases beside document 01's. Those fix one
-- neighbouring pair of rule 1's updates; these fix the order of all six, that each is made, and the terms of ks and f.
use Rattle.std.specs.Prelude.{◌≡◌, Bool, true, false, ◌||◌, List, [], ◌∷◌, ℕ, eqb}
use Rattle.acorn_model.specs.Bits.{Bits}
use Rattle.acorn_model.specs.Step.{keystream_bit, step}

infix 80 ◌is◌
-- a control bit that a case gives; or one that it leaves open, and then it holds for both values
pub data Control : Type 0 where
  set : Bool → Control
  either : Control

-- what is looked at: the step's ks, or a bit of the state after it
pub data Observation : Type 0 where
  ks : Bool → Observation
  ◌is◌ : ℕ → Bool → Observation

pub record StepCase : Type 0 where
  -- the places that hold 1 before the step
  pub ones : List ℕ
  pub m : Bool
  pub ca : Control
  pub cb : Control
  pub expected : List Observation

abbrev pub state_with : List ℕ → Bits
state_with [] p = false
state_with (n ∷ ns) p = eqb p n || state_with ns p

abbrev pub ForEach : Control → (Bool → Type 0) → Type 0
ForEach (set b) P = P b
ForEach either P = P false × P true

abbrev pub Observed : Bool → Bool → Bool → Bits → List Observation → Type 0
Observed ca cb m S [] = Unit {0}
Observed ca cb m S (ks b ∷ expected) = (keystream_bit S ≡ b) × Observed ca cb m S expected
Observed ca cb m S ((p is b) ∷ expected) = (step ca cb m S p ≡ b) × Observed ca cb m S expected

abbrev pub StepHolds : StepCase → Type 0
StepHolds c = ForEach c.ca (λ ca. ForEach c.cb (λ cb. Observed ca cb c.m (state_with c.ones) c.expected))

abbrev pub AllSteps : List StepCase → Type 0
AllSteps [] = Unit {0}
AllSteps (c ∷ cs) = StepHolds c × AllSteps cs

-- a case with m = 0 and ca open, and cb as given
abbrev pub step_from : List ℕ → Control → List Observation → StepCase
step_from ones cb expected = record { ones = ones; m = false; ca = either; cb = cb; expected = expected }

abbrev pub further_cases : List StepCase
further_cases =
    -- the order of the updates: each reads the next one's bit as it was before that
    step_from (196 ∷ []) either (288 is false ∷ [])
    ∷ step_from (160 ∷ []) either (229 is false ∷ [])
    ∷ step_from (111 ∷ []) either (192 is false ∷ [])
    ∷ step_from (66 ∷ []) either (153 is false ∷ [])
    ∷ step_from (0 ∷ []) either (106 is false ∷ [])
    -- each update is made, from both of its places; and the places that ks and f read
    ∷ step_from (235 ∷ []) either (288 is true ∷ ks false ∷ 292 is true ∷ [])
    ∷ step_from (230 ∷ []) either (288 is true ∷ ks false ∷ 292 is true ∷ [])
    ∷ step_from (196 ∷ []) either (229 is true ∷ ks false ∷ [])
    ∷ step_from (193 ∷ []) either (229 is true ∷ ks false ∷ 292 is true ∷ [])
    ∷ step_from (160 ∷ []) either (192 is true ∷ ks false ∷ 292 is true ∷ [])
    ∷ step_from (154 ∷ []) (set false) (192 is true ∷ ks true ∷ 292 is true ∷ [])
    ∷ step_from (111 ∷ []) (set false) (153 is true ∷ ks true ∷ 292 is true ∷ [])
    ∷ step_from (107 ∷ []) (set false) (153 is true ∷ ks true ∷ 292 is false ∷ [])
    ∷ step_from (66 ∷ []) (set false) (106 is true ∷ ks true ∷ 292 is false ∷ [])
    ∷ step_from (61 ∷ []) either (106 is true ∷ ks false ∷ 292 is false ∷ [])
    ∷ step_from (23 ∷ []) either (60 is true ∷ ks false ∷ 292 is true ∷ [])
    ∷ step_from (12 ∷ []) (set false) (ks true ∷ 292 is true ∷ [])
    ∷ step_from (0 ∷ []) either (60 is true ∷ ks false ∷ 292 is false ∷ [])
    -- maj and ch in ks
    ∷ step_from (235 ∷ 61 ∷ []) either (ks true ∷ [])
    ∷ step_from (235 ∷ 193 ∷ []) either (ks true ∷ [])
    ∷ step_from (61 ∷ 193 ∷ []) either (ks true ∷ [])
    ∷ step_from (230 ∷ 111 ∷ []) either (ks false ∷ [])
    ∷ step_from (230 ∷ 66 ∷ []) either (ks false ∷ [])
    -- maj in f
    ∷ step_from (244 ∷ []) either (292 is true ∷ [])
    ∷ step_from (244 ∷ 23 ∷ []) either (292 is false ∷ [])
    ∷ step_from (244 ∷ 160 ∷ []) either (292 is false ∷ [])
    ∷ step_from (23 ∷ 160 ∷ []) (set false) (292 is false ∷ [])
    -- ca and cb in f, each by itself
    ∷ record { ones = 196 ∷ 0 ∷ []; m = false; ca = set true; cb = either; expected = 292 is true ∷ [] }
    ∷ record { ones = 196 ∷ 0 ∷ []; m = false; ca = set false; cb = either; expected = 292 is false ∷ [] }
    ∷ step_from (12 ∷ []) (set true) (292 is false ∷ [])
    ∷ []
