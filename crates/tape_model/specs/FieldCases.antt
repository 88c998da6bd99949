-- Document 01's ranges of a ticket's and a head's fields, and those of form 2 (P6 of document 02), from both sides: which values of a field are right,
-- the others being those of an example.
use Rattle.std.specs.Prelude.{◌≡◌, Bool, true, false, List, [], ◌∷◌, map, ℕ, zero, suc, length, replicate}
use Rattle.tape_model.specs.Format.{in_ranges}
use Rattle.tape_model.specs.Ticket.{values_rule, ticket_rule, head_format}
use Rattle.tape_model.specs.Cases.{ticket_with}

-- a list with another value at a place
abbrev pub put : ℕ → ℕ → List ℕ → List ℕ
put place v [] = []
put zero v (x ∷ l) = v ∷ l
put (suc place) v (x ∷ l) = x ∷ put place v l

-- by this rule, these are right, and those are wrong
abbrev pub Judges : {A : Type 0} → (A → Bool) → List A → List A → Type 0
Judges rule right wrong = (map rule right ≡ replicate (length right) true) × (map rule wrong ≡ replicate (length wrong) false)

-- these values at a place of the example
abbrev pub Allows : (List ℕ → Bool) → List ℕ → ℕ → List ℕ → List ℕ → Type 0
Allows rule example place right wrong = Judges (λ v. rule (put place v example)) right wrong

-- form, truck, shovel, tip point, grade, loaded, tipped, gross, tare, spare
abbrev pub OfTicket : ℕ → List ℕ → List ℕ → Type 0
OfTicket = Allows values_rule (1 ∷ 5 ∷ 2 ∷ 3 ∷ 4 ∷ 3600 ∷ 43199 ∷ 1048575 ∷ 110000 ∷ 0 ∷ [])

-- in form 2, tipped in the last second of the day
abbrev pub OfForm2 : ℕ → List ℕ → List ℕ → Type 0
OfForm2 = Allows values_rule (2 ∷ 5 ∷ 2 ∷ 3 ∷ 4 ∷ 3600 ∷ 86399 ∷ 1048575 ∷ 110000 ∷ 0 ∷ [])

-- the values of case (l), an empty trip
abbrev pub OfEmptyTrip : ℕ → List ℕ → List ℕ → Type 0
OfEmptyTrip = Allows values_rule (1 ∷ 5 ∷ 2 ∷ 3 ∷ 4 ∷ 3600 ∷ 4200 ∷ 250000 ∷ 250000 ∷ 0 ∷ [])

-- a gross and a tare, of the ticket of case (h)
abbrev pub Weights : List (ℕ × ℕ) → List (ℕ × ℕ) → Type 0
Weights = Judges (λ w. ticket_rule (ticket_with 3600 4200 w.0 w.1))

-- device, shift, sheet
abbrev pub OfHead : ℕ → List ℕ → List ℕ → Type 0
OfHead = Allows (in_ranges head_format) (7 ∷ 2 ∷ 1 ∷ [])

pub record FieldCases : Type 0 where
  pub form : OfTicket 0 (1 ∷ 2 ∷ []) (0 ∷ 3 ∷ 15 ∷ 17 ∷ 18 ∷ [])
  pub truck : OfTicket 1 (1 ∷ 1023 ∷ []) (0 ∷ 1024 ∷ [])
  pub shovel : OfTicket 2 (1 ∷ 63 ∷ []) (0 ∷ 64 ∷ [])
  pub tip : OfTicket 3 (1 ∷ 63 ∷ []) (0 ∷ 64 ∷ [])
  pub grade : OfTicket 4 (0 ∷ 9 ∷ []) (10 ∷ [])
  pub loaded : OfTicket 5 (0 ∷ 43199 ∷ []) (43200 ∷ [])
  pub tipped : OfTicket 6 (3600 ∷ 43199 ∷ []) (3599 ∷ 43200 ∷ [])
  pub gross : OfTicket 7 (110000 ∷ 1048575 ∷ []) (109999 ∷ 1048576 ∷ [])
  pub tare : OfTicket 8 (0 ∷ 1048575 ∷ []) (1048576 ∷ [])
  -- P2 of document 02: tare may be gross, and not above it; both may be 0
  pub weights : Weights ((0, 0) ∷ (1, 0) ∷ (5, 5) ∷ (1048575, 1048575) ∷ []) ((0, 1) ∷ (5, 6) ∷ (1048574, 1048575) ∷ [])
  -- and the rest of the rule is an empty trip's, too
  pub empty_form : OfEmptyTrip 0 (1 ∷ 2 ∷ []) (0 ∷ 3 ∷ 15 ∷ 17 ∷ 18 ∷ [])
  pub empty_truck : OfEmptyTrip 1 (1 ∷ 1023 ∷ []) (0 ∷ 1024 ∷ [])
  pub empty_grade : OfEmptyTrip 4 (0 ∷ 9 ∷ []) (10 ∷ [])
  pub empty_loaded : OfEmptyTrip 5 (0 ∷ 4200 ∷ []) (4201 ∷ [])
  pub empty_tipped : OfEmptyTrip 6 (3600 ∷ 43199 ∷ []) (3599 ∷ 43200 ∷ [])
  pub empty_spare : OfEmptyTrip 9 (0 ∷ []) (1 ∷ 2 ∷ 3 ∷ [])
  pub spare : OfTicket 9 (0 ∷ []) (1 ∷ 2 ∷ 3 ∷ [])
  -- P6 of document 02: in form 2 loaded and tipped go up to 86,399, and there are no spare bits; form 1 is wrong here for tipped
  pub form_2 : OfForm2 0 (2 ∷ []) (0 ∷ 1 ∷ 3 ∷ 15 ∷ [])
  pub truck_2 : OfForm2 1 (1 ∷ 1023 ∷ []) (0 ∷ 1024 ∷ [])
  pub shovel_2 : OfForm2 2 (1 ∷ 63 ∷ []) (0 ∷ 64 ∷ [])
  pub tip_2 : OfForm2 3 (1 ∷ 63 ∷ []) (0 ∷ 64 ∷ [])
  pub grade_2 : OfForm2 4 (0 ∷ 9 ∷ []) (10 ∷ [])
  pub loaded_2 : OfForm2 5 (0 ∷ 43200 ∷ 65535 ∷ 65536 ∷ 86399 ∷ []) (86400 ∷ [])
  pub tipped_2 : OfForm2 6 (3600 ∷ 43199 ∷ 43200 ∷ 65535 ∷ 65536 ∷ 86399 ∷ []) (3599 ∷ 86400 ∷ 131071 ∷ [])
  pub gross_2 : OfForm2 7 (110000 ∷ 1048575 ∷ []) (109999 ∷ 1048576 ∷ [])
  pub tare_2 : OfForm2 8 (0 ∷ 1048575 ∷ []) (1048576 ∷ [])
  pub spare_2 : OfForm2 9 (0 ∷ []) (1 ∷ [])
  pub device : OfHead 0 (1 ∷ 4294967295 ∷ []) (0 ∷ 4294967296 ∷ [])
  pub shift : OfHead 1 (1 ∷ 1000000 ∷ []) (0 ∷ 1000001 ∷ [])
  pub sheet : OfHead 2 (1 ∷ 1000000 ∷ []) (0 ∷ 1000001 ∷ [])
