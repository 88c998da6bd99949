-- Tapes of few tickets, paired by the prover.
use Rattle.std.specs.Prelude.{◌≡◌, true, false, List, [], ◌∷◌, ◌++◌, ℕ, replicate}
use Rattle.calls.specs.Calls.{refused, done}
use Rattle.acorn_model.specs.RefusalCases.{string}
use Rattle.tape_model.specs.declared.Ticket.{Ticket}
use Rattle.tape_model.specs.Tape.{pack_tickets}
use Rattle.tape_model.specs.RefusalCases.{last_byte_c1}
use Rattle.pairing.specs.Pairing.{Pair, KeepsRules, Paired, paired, times_fall, plain_paired, Outputs, PairingResult, pair_tapes}

-- a ticket of this truck, tipped then, in form 1; and in form 2
abbrev pub in_form1 : (truck tipped : ℕ) → Ticket
in_form1 truck tipped = record { form = 1; truck = truck; shovel = 2; tip = 3; grade = 4; loaded = 0; tipped = tipped; gross = 250000; tare = 110000 }

abbrev pub in_form2 : (truck tipped : ℕ) → Ticket
in_form2 truck tipped = record { form = 2; truck = truck; shovel = 2; tip = 3; grade = 4; loaded = 0; tipped = tipped; gross = 250000; tare = 110000 }

abbrev pub pair : ℕ → ℕ → Pair
pair p q = record { first = p; second = q }

abbrev pub result : List Pair → List ℕ → List ℕ → Paired
result pairs left_first left_second = record { pairs = pairs; left_first = left_first; left_second = left_second }

-- one ticket against one: a pair, or not
abbrev pub together : Paired
together = result (pair 1 1 ∷ []) [] []

abbrev pub apart : Paired
apart = result [] (1 ∷ []) (1 ∷ [])

-- the tape of a cab, with three trucks, and the crusher's, with one that the cab's does not have; both forms on each
abbrev pub cab : List Ticket
cab = in_form1 7 100 ∷ in_form1 9 50 ∷ in_form1 7 200 ∷ in_form2 1023 70000 ∷ []

abbrev pub crusher : List Ticket
crusher = in_form2 7 210 ∷ in_form1 9 171 ∷ in_form1 8 400 ∷ in_form2 1023 69880 ∷ in_form1 7 320 ∷ in_form1 7 320 ∷ []

-- truck 7 tips at 200, and then at 100; against `partners` the first takes the only partner of the second
abbrev pub falling : List Ticket
falling = in_form1 7 200 ∷ in_form1 7 100 ∷ []

abbrev pub partners : List Ticket
partners = in_form1 7 220 ∷ in_form1 7 320 ∷ []

-- three outputs of so many numbers, all of them 9
abbrev pub nines : ℕ → ℕ → ℕ → Outputs
nines pairs left_first left_second = record { pairs = replicate pairs 9; left_first = replicate left_first 9; left_second = replicate left_second 9 }

-- refused, and nothing written
abbrev pub sent_back : ℕ → Outputs → PairingResult
sent_back n out = record { answer = refused n; out = out }

pub record PairingCases : Type 0 where
  -- 120 seconds apart and 121, whichever is earlier; equal times; another truck
  pub at_120 : (paired (in_form1 7 1000 ∷ []) (in_form1 7 1120 ∷ []) ≡ together) × (paired (in_form1 7 1120 ∷ []) (in_form1 7 1000 ∷ []) ≡ together)
  pub at_121 : (paired (in_form1 7 1000 ∷ []) (in_form1 7 1121 ∷ []) ≡ apart) × (paired (in_form1 7 1121 ∷ []) (in_form1 7 1000 ∷ []) ≡ apart)
  pub at_once : paired (in_form1 7 1000 ∷ []) (in_form1 7 1000 ∷ []) ≡ together
  pub other_truck : (paired (in_form1 7 1000 ∷ []) (in_form1 8 1000 ∷ []) ≡ apart) × (paired (in_form1 7 1000 ∷ []) (in_form1 263 1000 ∷ []) ≡ apart)
      × (paired (in_form1 7 1000 ∷ []) (in_form1 519 1000 ∷ []) ≡ apart)
  -- seconds above 65,535, and one form against the other
  pub whole_day : (paired (in_form2 7 65535 ∷ []) (in_form2 7 65655 ∷ []) ≡ together) × (paired (in_form2 7 65535 ∷ []) (in_form2 7 65656 ∷ []) ≡ apart)
  pub two_forms : (paired (in_form1 7 43199 ∷ []) (in_form2 7 43319 ∷ []) ≡ together) × (paired (in_form1 7 43199 ∷ []) (in_form2 7 43320 ∷ []) ≡ apart)
  -- two of the first for one of the second; one that has the choice of two; two and two of equal times
  pub two_for_one : paired (in_form1 7 100 ∷ in_form1 7 150 ∷ []) (in_form1 7 200 ∷ []) ≡ result (pair 1 1 ∷ []) (2 ∷ []) []
  pub choice_of_two : paired (in_form1 7 100 ∷ []) (in_form1 7 50 ∷ in_form1 7 100 ∷ []) ≡ result (pair 1 1 ∷ []) [] (2 ∷ [])
  pub equal_times : paired (in_form1 7 100 ∷ in_form1 7 100 ∷ []) (in_form1 7 100 ∷ in_form1 7 100 ∷ []) ≡ result (pair 1 1 ∷ pair 2 2 ∷ []) [] []
  -- empty tapes
  pub both_empty : paired [] [] ≡ result [] [] []
  pub one_empty : (paired [] cab ≡ result [] [] (1 ∷ 2 ∷ 3 ∷ 4 ∷ [])) × (paired cab [] ≡ result [] (1 ∷ 2 ∷ 3 ∷ 4 ∷ []) [])
  -- several trucks, both forms; and from the plain bytes
  pub tapes : paired cab crusher ≡ result (pair 1 1 ∷ pair 3 5 ∷ pair 4 4 ∷ []) (2 ∷ []) (2 ∷ 3 ∷ 6 ∷ [])
  pub exchanged : paired crusher cab ≡ result (pair 1 1 ∷ pair 4 4 ∷ pair 5 3 ∷ []) (2 ∷ 3 ∷ 6 ∷ []) (2 ∷ [])
  pub from_bytes : plain_paired (pack_tickets cab) (pack_tickets crusher) ≡ done (paired cab crusher)
  -- times that fall, and such as do not: of two trucks, or equal
  pub fall : times_fall falling ≡ true
  pub do_not_fall : (times_fall cab ≡ false) × (times_fall crusher ≡ false) × (times_fall (in_form1 7 200 ∷ in_form1 8 100 ∷ in_form1 7 200 ∷ []) ≡ false)
  pub not_neighbours : times_fall (in_form1 7 200 ∷ in_form1 8 150 ∷ in_form2 7 199 ∷ []) ≡ true
  -- with such times the first free partner can cost a pair: one is made where two can be
  pub one_of_falling : paired falling partners ≡ result (pair 1 1 ∷ []) (2 ∷ []) (2 ∷ [])
  pub two_of_falling : KeepsRules falling partners (pair 1 2 ∷ pair 2 1 ∷ [])
  -- so they are refused, on either tape
  pub first-falls : plain_paired (pack_tickets falling) (pack_tickets partners) ≡ refused 12
  pub second-falls : plain_paired (pack_tickets partners) (pack_tickets falling) ≡ refused 12
  -- the numbers in their order, each on both tapes before the next
  pub two_first : (plain_paired (string 12) last_byte_c1 ≡ refused 2) × (plain_paired last_byte_c1 (string 12) ≡ refused 2)
      × (plain_paired (string 12) (pack_tickets falling) ≡ refused 2) × (plain_paired (pack_tickets falling) (string 12) ≡ refused 2)
  pub then_eight : (plain_paired last_byte_c1 (pack_tickets falling) ≡ refused 8) × (plain_paired (pack_tickets falling) last_byte_c1 ≡ refused 8)
  -- on one tape, too: times have fallen when a later ticket does not unpack, or bytes are left
  pub same-tape : (plain_paired (pack_tickets falling ++ last_byte_c1) [] ≡ refused 8) × (plain_paired [] (pack_tickets falling ++ last_byte_c1) ≡ refused 8)
      × (plain_paired (pack_tickets falling ++ string 12) [] ≡ refused 2)
  pub then_twelve : pair_tapes (pack_tickets falling) (pack_tickets partners) (nines 0 0 0) ≡ sent_back 12 (nines 0 0 0)
  -- each output one short; just long enough; and longer, with nothing written behind
  pub pairs_short : pair_tapes (pack_tickets cab) (pack_tickets crusher) (nines 5 1 3) ≡ sent_back 6 (nines 5 1 3)
  pub first_short : pair_tapes (pack_tickets cab) (pack_tickets crusher) (nines 6 0 3) ≡ sent_back 6 (nines 6 0 3)
  pub second_short : pair_tapes (pack_tickets cab) (pack_tickets crusher) (nines 6 1 2) ≡ sent_back 6 (nines 6 1 2)
  pub long_enough : pair_tapes (pack_tickets cab) (pack_tickets crusher) (nines 6 1 3)
      ≡ record {
        answer = done (record { pairs = 3; left_first = 1; left_second = 3 });
        out = record { pairs = 1 ∷ 1 ∷ 3 ∷ 5 ∷ 4 ∷ 4 ∷ []; left_first = 2 ∷ []; left_second = 2 ∷ 3 ∷ 6 ∷ [] };
      }
  pub longer : pair_tapes (pack_tickets cab) (pack_tickets crusher) (nines 8 2 5)
      ≡ record {
        answer = done (record { pairs = 3; left_first = 1; left_second = 3 });
        out = record { pairs = 1 ∷ 1 ∷ 3 ∷ 5 ∷ 4 ∷ 4 ∷ 9 ∷ 9 ∷ []; left_first = 2 ∷ 9 ∷ []; left_second = 2 ∷ 3 ∷ 6 ∷ 9 ∷ 9 ∷ [] };
      }
