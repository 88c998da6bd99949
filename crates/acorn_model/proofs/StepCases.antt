-- Cases of one step are shown by a test that is computed; the further cases hold.
use mathlib.Core.Path.{◌≡◌, refl}
use mathlib.Core.Bool.{Bool, true, false, ◌&&◌, beq, false≢true}
use mathlib.Core.List.{List, [], ◌∷◌}
use Rattle.std.proofs.lemmas.Bool.{and_parts}
use Rattle.acorn_model.specs.Bits.{Bits}
use Rattle.acorn_model.specs.Step.{◌⊕=◌and◌, lfsr_update, maj, ch, ksg128, fbk128, keystream_bit, feedback_bit, step}
use Rattle.acorn_model.specs.StepCases.{Control, set, either, Observation, ks, ◌is◌, StepCase, state_with, ForEach, Observed, StepHolds, AllSteps, further_cases}

-- ## The test

abbrev seen : Bool → Bool → Bool → Bits → List Observation → Bool
seen ca cb m S [] = true
seen ca cb m S (ks b ∷ expected) = beq (keystream_bit S) b && seen ca cb m S expected
seen ca cb m S ((p is b) ∷ expected) = beq (step ca cb m S p) b && seen ca cb m S expected

abbrev for_each : Control → (Bool → Bool) → Bool
for_each (set b) p = p b
for_each either p = p false && p true

abbrev pub step_holds : StepCase → Bool
step_holds c = for_each c.ca (λ ca. for_each c.cb (λ cb. seen ca cb c.m (state_with c.ones) c.expected))

-- ## What it shows

pub same : (a b : Bool) → beq a b ≡ true → a ≡ b
same true true h = refl
same true false h = absurd (false≢true h)
same false true h = absurd (false≢true h)
same false false h = refl

shown-seen : (ca cb m : Bool) (S : Bits) (expected : List Observation) → seen ca cb m S expected ≡ true → Observed ca cb m S expected
shown-seen ca cb m S [] h = tt
shown-seen ca cb m S (ks b ∷ expected) h =
    let p = and_parts (beq (keystream_bit S) b) (seen ca cb m S expected) h in
    (same (keystream_bit S) b p.0, shown-seen ca cb m S expected p.1)
shown-seen ca cb m S ((q is b) ∷ expected) h =
    let p = and_parts (beq (step ca cb m S q) b) (seen ca cb m S expected) h in
    (same (step ca cb m S q) b p.0, shown-seen ca cb m S expected p.1)

shown-each : (c : Control) (p : Bool → Bool) (P : Bool → Type 0) → ((b : Bool) → p b ≡ true → P b) → for_each c p ≡ true → ForEach c P
shown-each (set b) p P f h = f b h
shown-each either p P f h = let q = and_parts (p false) (p true) h in (f false q.0, f true q.1)

pub shown-step : (c : StepCase) → step_holds c ≡ true → StepHolds c
shown-step c h =
    shown-each c.ca (λ ca. for_each c.cb (λ cb. seen ca cb c.m (state_with c.ones) c.expected))
    (λ ca. ForEach c.cb (λ cb. Observed ca cb c.m (state_with c.ones) c.expected))
    (λ ca g. shown-each c.cb (λ cb. seen ca cb c.m (state_with c.ones) c.expected)
    (λ cb. Observed ca cb c.m (state_with c.ones) c.expected) (λ cb. shown-seen ca cb c.m (state_with c.ones) c.expected) g) h

-- ## The further cases

abbrev all_hold : List StepCase → Bool
all_hold [] = true
all_hold (c ∷ cs) = step_holds c && all_hold cs

shown_all : (cs : List StepCase) → all_hold cs ≡ true → AllSteps cs
shown_all [] h = tt
shown_all (c ∷ cs) h = let p = and_parts (step_holds c) (all_hold cs) h in (shown-step c p.0, shown_all cs p.1)

pub further-cases : AllSteps further_cases
unfolding step feedback_bit fbk128 keystream_bit ksg128 lfsr_update ◌⊕=◌and◌ maj ch
further-cases = shown_all further_cases refl
