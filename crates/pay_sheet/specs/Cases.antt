-- Pay sheets worked out by the prover.
use Rattle.std.specs.Prelude.{◌≡◌, List, [], ◌∷◌, ◌++◌, ℕ, ◌+◌, ◌*◌, replicate}
use Rattle.calls.specs.Calls.{refused, done}
use Rattle.tape_model.specs.declared.Ticket.{Ticket}
use Rattle.tape_model.specs.Tape.{ticket_limit, pack_tickets}
use Rattle.acorn_model.specs.RefusalCases.{string}
use Rattle.tape_model.specs.RefusalCases.{last_byte_c1}
use Rattle.pay_sheet.specs.PaySheet.{contractors, each, whole_cents, remainder, cents_left, pay_sheet}

-- a ticket of this form, truck and net
abbrev haul : ℕ → ℕ → ℕ → Ticket
haul form truck net = record { form = form; truck = truck; shovel = 2; tip = 3; grade = 4; loaded = 3600; tipped = 4200; gross = 110000 + net; tare = 110000 }

-- Contractor 0 hauled 2 kg (trucks 63 and 1, 1 kg each); 1 hauled 1 kg (truck 64; 127 went back empty); 2 nothing (128 went back empty);
-- 4 hauled 3 kg (256), 9 hauled 1 kg (576) and 15 hauled 1 kg (1,023). The tickets are of both forms.
abbrev pub tickets : List Ticket
tickets = haul 1 64 1 ∷ haul 2 63 1 ∷ haul 1 256 3 ∷ haul 2 1023 1 ∷ haul 1 128 0 ∷ haul 2 1 1 ∷ haul 1 127 0 ∷ haul 2 576 1 ∷ []

-- At 500 cents per tonne the exact shares are 1,000, 500, 1,500, 500 and 500 thousandths, the pay of 8 kg is 4 cents, and 2 whole cents leave 2: of the
-- four equal remainders those of 1 and 4 get them, and 9 and 15 get none.
abbrev pub shares : List ℕ
shares = 1 ∷ 1 ∷ 0 ∷ 0 ∷ 2 ∷ 0 ∷ 0 ∷ 0 ∷ 0 ∷ 0 ∷ 0 ∷ 0 ∷ 0 ∷ 0 ∷ 0 ∷ 0 ∷ []

-- Each contractor hauled 1 kg: at 999 cents per tonne the pay is 15 cents and no exact share has a whole one, so 0 to 14 get a cent each, and 15 none.
abbrev of_contractor : ℕ → Ticket
of_contractor c = haul 1 (64 * c + 1) 1

abbrev pub many_left : List Ticket
many_left =
    of_contractor 0 ∷ of_contractor 1 ∷ of_contractor 2 ∷ of_contractor 3 ∷ of_contractor 4 ∷ of_contractor 5 ∷ of_contractor 6 ∷ of_contractor 7
    ∷ of_contractor 8 ∷ of_contractor 9 ∷ of_contractor 10 ∷ of_contractor 11 ∷ of_contractor 12 ∷ of_contractor 13 ∷ of_contractor 14 ∷ of_contractor 15 ∷ []

-- a full tape of the most net, of one truck
abbrev pub heavy : Ticket
heavy = record { form = 1; truck = 1023; shovel = 2; tip = 3; grade = 4; loaded = 3600; tipped = 4200; gross = 1048575; tare = 0 }

abbrev pub heaviest : List Ticket
heaviest = replicate ticket_limit heavy

pub record PaySheetCases : Type 0 where
  pub whole : each contractors (whole_cents tickets 500) ≡ 1 ∷ 0 ∷ 0 ∷ 0 ∷ 1 ∷ replicate 11 0
  pub rests : each contractors (remainder tickets 500) ≡ 0 ∷ 500 ∷ 0 ∷ 0 ∷ 500 ∷ 0 ∷ 0 ∷ 0 ∷ 0 ∷ 500 ∷ 0 ∷ 0 ∷ 0 ∷ 0 ∷ 0 ∷ 500 ∷ []
  pub left : cents_left tickets 500 ≡ 2
  pub paid : pay_sheet (pack_tickets tickets) 500 ≡ done (record { pay = 4; shares = shares })
  -- a cent left goes to 800 thousandths, not to the lower number with 400
  pub larger_first : pay_sheet (pack_tickets (haul 1 200 1 ∷ haul 1 800 2 ∷ [])) 400 ≡ done (record { pay = 1; shares = replicate 12 0 ++ 1 ∷ 0 ∷ 0 ∷ 0 ∷ [] })
  -- exact shares are of net and rate, not parts of the rounded pay: 10,000 and 999 kg at 1 cent are 10.000 and 0.999 cents of 10.999
  pub own_shares : pay_sheet (pack_tickets (haul 1 1 10000 ∷ haul 1 64 999 ∷ [])) 1 ≡ done (record { pay = 10; shares = 10 ∷ replicate 15 0 })
  -- fifteen cents left, the most there can be
  pub most_left : (cents_left many_left 999 ≡ 15) × (pay_sheet (pack_tickets many_left) 999 ≡ done (record { pay = 15; shares = replicate 15 1 ++ 0 ∷ [] }))
  -- no tickets; and a rate of 0
  pub no_tickets : pay_sheet [] 1000000 ≡ done (record { pay = 0; shares = replicate contractors 0 })
  pub rate_0 : pay_sheet (pack_tickets tickets) 0 ≡ done (record { pay = 0; shares = replicate contractors 0 })
  -- the highest rate is paid, one above it refused; 13 before 2 and 8
  pub highest : pay_sheet (pack_tickets tickets) 1000000 ≡ done (record { pay = 8000; shares = 2000 ∷ 1000 ∷ 0 ∷ 0 ∷ 3000 ∷ 0 ∷ 0 ∷ 0 ∷ 0 ∷ 1000 ∷ 0 ∷ 0 ∷ 0 ∷ 0 ∷ 0 ∷ 1000 ∷ [] })
  pub above : pay_sheet (pack_tickets tickets) 1000001 ≡ refused 13
  pub thirteen_first : (pay_sheet (string 12) 1000001 ≡ refused 13) × (pay_sheet last_byte_c1 1000001 ≡ refused 13)
  pub refusals : (pay_sheet (string 12) 1000000 ≡ refused 2) × (pay_sheet (last_byte_c1 ++ 0 ∷ []) 500 ≡ refused 2) × (pay_sheet last_byte_c1 1000000 ≡ refused 8) × (pay_sheet (pack_tickets tickets ++ last_byte_c1) 500 ≡ refused 8)
  -- 5,000 tickets of 1,048,575 kilograms at the highest rate
  pub most : pay_sheet (pack_tickets heaviest) 1000000 ≡ done (record { pay = 5242875000000; shares = replicate 15 0 ++ 5242875000000 ∷ [] })
