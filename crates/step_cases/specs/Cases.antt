-- Cases (a) to (g) of document 01, and the further cases of one step, as the single step meets them.
use Rattle.std.specs.Prelude.{◌≡◌, Bool, List, [], ◌∷◌}
use Rattle.acorn_model.specs.StepCases.{Observation, ks, ◌is◌, StepCase, state_with, ForEach, further_cases}
use Rattle.acorn_model.specs.Laws.{SameState}
use Rattle.tape_model.specs.Cases.{Case, steps, packs, packs_head, valid, cases}
use Rattle.single_step.specs.Clauses.{state_of, Steps}

-- a step that gave this keystream bit and left these places shows what is expected
abbrev pub Shows : Bool → List Bool → List Observation → Type 0
Shows keystream after [] = Unit {0}
Shows keystream after (ks b ∷ expected) = (keystream ≡ b) × Shows keystream after expected
Shows keystream after ((p is b) ∷ expected) = (state_of after p ≡ b) × Shows keystream after expected

-- from places that hold the case's state, with its m and the control bits given, whatever the function gives shows what the case expects
abbrev pub Meets : StepCase → Bool → Bool → Type 0
Meets c ca cb = (before after : List Bool) (keystream : Bool) → SameState (state_of before) (state_with c.ones)
    → Steps before c.m ca cb keystream after → Shows keystream after c.expected

-- so it does for both values of a control bit that the case leaves open
abbrev pub AllMeet : List StepCase → Type 0
AllMeet [] = Unit {0}
AllMeet (c ∷ cs) = ForEach c.ca (λ ca. ForEach c.cb (Meets c ca)) × AllMeet cs

-- those of the twelve cases that are of one step
abbrev pub of_one_step : List Case → List StepCase
of_one_step [] = []
of_one_step (steps c ∷ cs) = c ∷ of_one_step cs
of_one_step (packs t string ∷ cs) = of_one_step cs
of_one_step (packs_head h string ∷ cs) = of_one_step cs
of_one_step (valid t b ∷ cs) = of_one_step cs

-- (a) to (g), and the further cases, on the function
pub record CasesMet : Type 0 where
  pub a_to_g : AllMeet (of_one_step cases)
  pub further : AllMeet further_cases
