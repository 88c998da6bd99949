-- The twelve cases of document 01 hold: each computes.
use mathlib.Core.Path.{◌≡◌, refl}
use mathlib.Core.Bool.{true}
use mathlib.Core.List.{List, [], ◌∷◌}
use Rattle.acorn_model.specs.Step.{◌⊕=◌and◌, lfsr_update, maj, ch, ksg128, fbk128, keystream_bit, feedback_bit, step}
use Rattle.acorn_model.proofs.StepCases.{step_holds, shown-step}
use Rattle.tape_model.specs.Ticket.{ordered, values_rule, ticket_rule, pack_ticket, pack_head}
use Rattle.tape_model.specs.Cases.{Case, steps, packs, packs_head, valid, Holds, AllHold, cases}

-- what is computed of a case
abbrev Computed : Case → Type 0
Computed (steps c) = step_holds c ≡ true
Computed (packs t string) = pack_ticket t ≡ string
Computed (packs_head h string) = pack_head h ≡ string
Computed (valid t b) = ticket_rule t ≡ b

abbrev AllComputed : List Case → Type 0
AllComputed [] = Unit {0}
AllComputed (c ∷ cs) = Computed c × AllComputed cs

shown : (c : Case) → Computed c → Holds c
shown (steps c) h = shown-step c h
shown (packs t string) h = h
shown (packs_head d string) h = h
shown (valid t b) h = h

shown_all : (cs : List Case) → AllComputed cs → AllHold cs
shown_all [] h = tt
shown_all (c ∷ cs) h = (shown c h.0, shown_all cs h.1)

pub twelve_cases : AllHold cases
unfolding step feedback_bit fbk128 keystream_bit ksg128 lfsr_update ◌⊕=◌and◌ maj ch pack_ticket pack_head ticket_rule values_rule ordered
twelve_cases =
    shown_all cases (refl, (refl, (refl, (refl, (refl, (refl, (refl, (refl, (refl, (refl, (refl, (refl, (refl, tt)))))))))))))
