-- What a C caller knows from the answers on trucks: statements, to be read without their proofs.
use Rattle.std.specs.Prelude.{◌≡◌, true, false, ◌&&◌, ◌||◌, List, ◌↔◌, ℕ, ◌+◌, length}
use Rattle.calls.specs.Calls.{refused, done, is_refused}
use Rattle.tape_model.specs.declared.Ticket.{Ticket}
use Rattle.tape_model.specs.Tape.{is_tickets_length, plain_tickets}
use Rattle.trucks.specs.Trucks.{truck_count, trucks_of_two, truck_set}
use Rattle.trucks.specs.Words.{held, set_bits}
use Rattle.c_answers.specs.declared.HtTruckCount.{HtTruckCount}
use Rattle.c_answers.specs.declared.HtTruckCounts.{HtTruckCounts}
use Rattle.haul_tape.specs.Clauses.{TrucksSeen, TrucksOfTwoSeen, TruckSetSeen}

-- a: what was answered of an opened tape
pub record TruckAnswer (plain : List ℕ) (a : HtTruckCount) : Type 0 where
  pub counted : (tickets : List Ticket) → plain_tickets plain ≡ done tickets → a ≡ record { refused = 0; trucks = truck_count tickets }
  pub number : (n : ℕ) → plain_tickets plain ≡ refused n → a ≡ record { refused = n; trucks = 0 }

-- r: what was answered of two
pub record TrucksOfTwoAnswer (first second : List ℕ) (r : HtTruckCounts) : Type 0 where
  pub counted : (ts us : List Ticket) → plain_tickets first ≡ done ts → plain_tickets second ≡ done us
      → r ≡ record { refused = 0; both = (trucks_of_two ts us).both; either = (trucks_of_two ts us).either; just_one = (trucks_of_two ts us).just_one }
  pub two : (is_tickets_length (length first) && is_tickets_length (length second)) ≡ false → r ≡ record { refused = 2; both = 0; either = 0; just_one = 0 }
  pub eight : (is_tickets_length (length first) && is_tickets_length (length second)) ≡ true
      → (is_refused (plain_tickets first) || is_refused (plain_tickets second)) ≡ true → r ≡ record { refused = 8; both = 0; either = 0; just_one = 0 }

-- a and b: what was answered of each of two; r: what was answered of both
pub record TruckAnswers (a b : HtTruckCount) (r : HtTruckCounts) : Type 0 where
  -- the call on two is done exactly where each call on one is
  pub done_where : (r.refused ≡ 0) ↔ ((a.refused ≡ 0) × (b.refused ≡ 0))
  -- and then the numbers fit
  pub fit : r.refused ≡ 0 → (r.either + r.both ≡ a.trucks + b.trucks) × (r.just_one + r.both ≡ r.either)

-- r: what was answered of an opened tape; `after`: the words then
pub record SetAnswer (plain words : List ℕ) (r : HtTruckCount) (after : List ℕ) : Type 0 where
  -- where the call is done the words hold the trucks of the tickets and nothing else, and their set bits are as many as the answer says
  pub trucks : r.refused ≡ 0 → (tickets : List Ticket) × (plain_tickets plain ≡ done tickets) × (held after ≡ truck_set tickets)
  pub set-bits : r.refused ≡ 0 → set_bits after ≡ r.trucks
  -- where it is refused they are what they were
  pub left : (r.refused ≡ 0 → ⊥) → (after ≡ words) × (r.trucks ≡ 0)

pub record TruckExports : Type 0 where
  pub one : (plain : List ℕ) (a : HtTruckCount) → TrucksSeen plain a → TruckAnswer plain a
  pub of_two : (first second : List ℕ) (r : HtTruckCounts) → TrucksOfTwoSeen first second r → TrucksOfTwoAnswer first second r
  pub answers : (first second : List ℕ) (a b : HtTruckCount) (r : HtTruckCounts) → TrucksSeen first a → TrucksSeen second b → TrucksOfTwoSeen first second r
      → TruckAnswers a b r
  pub sets : (plain words : List ℕ) (r : HtTruckCount) (after : List ℕ) → TruckSetSeen plain words r after → SetAnswer plain words r after
