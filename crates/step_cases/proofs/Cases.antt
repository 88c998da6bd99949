-- The single step meets the cases: they hold of document 01's step, and by its contract the function gives that step's ks and places.
use mathlib.Core.Path.{◌≡◌, refl, ◌∙◌}
use mathlib.Core.Bool.{Bool, true, false, ◌&&◌}
use mathlib.Core.List.{List, [], ◌∷◌}
use Prim.Native.Nat.{ℕ}
use lib.Dec.{leb}
use borrow.Author.Tests.{leb-true}
use Rattle.calls.proofs.Choices.{both}
use Rattle.acorn_model.specs.StepCases.{Control, set, either, Observation, ks, ◌is◌, StepCase, state_with, ForEach, Observed, StepHolds, AllSteps, further_cases}
use Rattle.acorn_model.specs.Laws.{SameState}
use Rattle.acorn_model.proofs.States.{same-keystream_bit, same_step}
use Rattle.acorn_model.proofs.StepCases.{further-cases}
use Rattle.tape_model.specs.Cases.{Case, steps, packs, packs_head, valid, AllHold, cases}
use Rattle.tape_model.proofs.Cases.{twelve_cases}
use Rattle.single_step.specs.Clauses.{state_of, Steps}
use Rattle.step_cases.specs.Cases.{Shows, Meets, AllMeet, of_one_step, CasesMet}

-- ## One case

-- every place looked at is one of S 0 to S 292
abbrev within : List Observation → Bool
within [] = true
within (ks b ∷ expected) = within expected
within ((p is b) ∷ expected) = leb p 292 && within expected

shows : (ca cb m : Bool) (ones : List ℕ) (expected : List Observation) → within expected ≡ true → Observed ca cb m (state_with ones) expected
    → (before after : List Bool) (keystream : Bool) → SameState (state_of before) (state_with ones) → Steps before m ca cb keystream after → Shows keystream after expected
shows ca cb m ones [] w o before after keystream h s = tt
shows ca cb m ones (ks b ∷ expected) w o before after keystream h s =
    (s.0 ∙ same-keystream_bit (state_of before) (state_with ones) h ∙ o.0, shows ca cb m ones expected w o.1 before after keystream h s)
shows ca cb m ones ((p is b) ∷ expected) w o before after keystream h s =
    let v = both (leb p 292) (within expected) w in
    let l = leb-true p 292 v.0 in
    (s.1 p l ∙ same_step (state_of before) (state_with ones) h ca cb m p l ∙ o.0, shows ca cb m ones expected v.1 o.1 before after keystream h s)

for-each : (c : Control) (P Q : Bool → Type 0) → ((b : Bool) → P b → Q b) → ForEach c P → ForEach c Q
for-each (set b) P Q f p = f b p
for-each either P Q f p = (f false p.0, f true p.1)

met : (c : StepCase) → within c.expected ≡ true → StepHolds c → ForEach c.ca (λ ca. ForEach c.cb (Meets c ca))
met c w =
    for-each c.ca (λ ca. ForEach c.cb (λ cb. Observed ca cb c.m (state_with c.ones) c.expected)) (λ ca. ForEach c.cb (Meets c ca))
    (λ ca. for-each c.cb (λ cb. Observed ca cb c.m (state_with c.ones) c.expected) (Meets c ca)
    (λ cb. shows ca cb c.m c.ones c.expected w))

-- ## All of them

abbrev all_within : List StepCase → Bool
all_within [] = true
all_within (c ∷ cs) = within c.expected && all_within cs

all_met : (cs : List StepCase) → all_within cs ≡ true → AllSteps cs → AllMeet cs
all_met [] w h = tt
all_met (c ∷ cs) w h = let v = both (within c.expected) (all_within cs) w in (met c v.0 h.0, all_met cs v.1 h.1)

of_one-step : (cs : List Case) → AllHold cs → AllSteps (of_one_step cs)
of_one-step [] h = tt
of_one-step (steps c ∷ cs) h = (h.0, of_one-step cs h.1)
of_one-step (packs t string ∷ cs) h = of_one-step cs h.1
of_one-step (packs_head d string ∷ cs) h = of_one-step cs h.1
of_one-step (valid t b ∷ cs) h = of_one-step cs h.1

pub cases-met : CasesMet
cases-met = record { a_to_g = all_met (of_one_step cases) refl (of_one-step cases twelve_cases); further = all_met further_cases refl further-cases }
