-- Document 01, "Cases to prove": the twelve cases as one table.
use Rattle.std.specs.Prelude.{◌≡◌, Bool, true, false, List, [], ◌∷◌, ℕ}
use Rattle.acorn_model.specs.StepCases.{set, either, ks, ◌is◌, StepCase, StepHolds}
use Rattle.tape_model.specs.declared.Ticket.{Ticket}
use Rattle.tape_model.specs.declared.Head.{Head}
use Rattle.tape_model.specs.Ticket.{ticket_rule, pack_ticket, pack_head}

-- one step; a ticket's packed bytes; a head's packed bytes; whether a ticket is valid
pub data Case : Type 0 where
  steps : StepCase → Case
  packs : Ticket → List ℕ → Case
  packs_head : Head → List ℕ → Case
  valid : Ticket → Bool → Case

abbrev pub Holds : Case → Type 0
Holds (steps c) = StepHolds c
Holds (packs t string) = pack_ticket t ≡ string
Holds (packs_head h string) = pack_head h ≡ string
Holds (valid t b) = ticket_rule t ≡ b

abbrev pub AllHold : List Case → Type 0
AllHold [] = Unit {0}
AllHold (c ∷ cs) = Holds c × AllHold cs

-- the ticket of case (h) with these times and weights
abbrev pub ticket_with : ℕ → ℕ → ℕ → ℕ → Ticket
ticket_with loaded tipped gross tare =
    record { form = 1; truck = 5; shovel = 2; tip = 3; grade = 4; loaded = loaded; tipped = tipped; gross = gross; tare = tare }

abbrev pub cases : List Case
cases =
    -- (a)
    steps (record { ones = []; m = false; ca = set true; cb = set true; expected = ks false ∷ 292 is true ∷ [] })
    -- (b)
    ∷ steps (record { ones = []; m = true; ca = either; cb = either; expected = 292 is false ∷ [] })
    -- (c)
    ∷ steps (record { ones = 0 ∷ []; m = false; ca = either; cb = either; expected = ks false ∷ 292 is false ∷ 60 is true ∷ [] })
    -- (d)
    ∷ steps (record { ones = 66 ∷ []; m = false; ca = either; cb = set true; expected = ks true ∷ 292 is true ∷ 106 is true ∷ [] })
    -- (e)
    ∷ steps (record { ones = 66 ∷ []; m = false; ca = either; cb = set false; expected = 292 is false ∷ [] })
    -- (f)
    ∷ steps (record { ones = 196 ∷ []; m = false; ca = set true; cb = either; expected = 292 is false ∷ [] })
    -- (g)
    ∷ steps (record { ones = 196 ∷ []; m = false; ca = set false; cb = either; expected = 292 is true ∷ [] })
    -- (h)
    ∷ packs (ticket_with 3600 4200 250000 110000) (0x10 ∷ 0x14 ∷ 0x20 ∷ 0xD0 ∷ 0x38 ∷ 0x40 ∷ 0x41 ∷ 0xA0 ∷ 0xF4 ∷ 0x24 ∷ 0x06 ∷ 0xB6 ∷ 0xC0 ∷ [])
    -- (i)
    ∷ packs_head (record { device = 7; shift = 2; sheet = 1 }) (0x00 ∷ 0x00 ∷ 0x00 ∷ 0x07 ∷ 0x00 ∷ 0x00 ∷ 0x20 ∷ 0x00 ∷ 0x01 ∷ [])
    -- (j)
    ∷ valid (ticket_with 3600 43199 250000 110000) true
    ∷ valid (ticket_with 3600 43200 250000 110000) false
    -- (k)
    ∷ valid (ticket_with 4200 4200 250000 110000) true
    -- (l), as P2 of document 02 amends it
    ∷ valid (ticket_with 3600 4200 250000 250000) true
    ∷ []
