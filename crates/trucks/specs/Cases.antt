-- Two tapes worked out by the prover, and a set in its words.
use Rattle.std.specs.Prelude.{◌≡◌, true, false, List, [], ◌∷◌, ◌++◌, ℕ, ◌^◌, replicate}
use Rattle.calls.specs.Calls.{refused, done}
use Rattle.tape_model.specs.declared.Ticket.{Ticket}
use Rattle.tape_model.specs.Tape.{pack_tickets}
use Rattle.tape_model.specs.RefusalCases.{last_byte_c1}
use Rattle.acorn_model.specs.RefusalCases.{string}
use Rattle.trucks.specs.Trucks.{trucks_in, truck_set, plain_trucks, plain_trucks_of_two}
use Rattle.trucks.specs.Words.{held, set_words}

-- a ticket of this truck
abbrev of_truck : ℕ → Ticket
of_truck truck = record { form = 1; truck = truck; shovel = 2; tip = 3; grade = 4; loaded = 3600; tipped = 4200; gross = 250000; tare = 110000 }

abbrev pub first : List Ticket
first = of_truck 7 ∷ of_truck 1023 ∷ of_truck 7 ∷ of_truck 64 ∷ of_truck 7 ∷ []

abbrev pub second : List Ticket
second = of_truck 1 ∷ of_truck 64 ∷ of_truck 1023 ∷ of_truck 1 ∷ []

-- the words of the first: truck 7 in word 0, 64 in word 1, 1,023 in word 15
abbrev pub words : List ℕ
words = 2 ^ 7 ∷ 2 ^ 0 ∷ replicate 13 0 ++ 2 ^ 63 ∷ []

pub record TruckCases : Type 0 where
  pub each-once : trucks_in first ≡ 1023 ∷ 64 ∷ 7 ∷ []
  pub one-tape : (plain_trucks (pack_tickets first) ≡ done 3) × (plain_trucks (pack_tickets second) ≡ done 3)
  pub two_tapes : plain_trucks_of_two (pack_tickets first) (pack_tickets second) ≡ done (record { both = 2; either = 4; just_one = 2 })
  pub no_tickets : (plain_trucks [] ≡ done 0) × (plain_trucks_of_two [] [] ≡ done (record { both = 0; either = 0; just_one = 0 }))
  pub first-words : set_words (truck_set first) ≡ words
  pub in_words : (held words 7 ≡ true) × (held words 64 ≡ true) × (held words 1023 ≡ true)
  pub not_in_words : (held words 0 ≡ false) × (held words 63 ≡ false) × (held words 65 ≡ false) × (held words 1087 ≡ false)
  -- 12 bytes are of a wrong length; 13 that end in C1 do not unpack; 2 is the smaller, whichever tape it is of
  pub refusals : (plain_trucks (string 12) ≡ refused 2) × (plain_trucks last_byte_c1 ≡ refused 8) × (plain_trucks (pack_tickets second ++ last_byte_c1) ≡ refused 8)
  pub first_refused : plain_trucks_of_two last_byte_c1 [] ≡ refused 8
  pub second_refused : plain_trucks_of_two [] last_byte_c1 ≡ refused 8
  pub two_before_eight : (plain_trucks_of_two last_byte_c1 (string 12) ≡ refused 2) × (plain_trucks_of_two (string 12) last_byte_c1 ≡ refused 2)
