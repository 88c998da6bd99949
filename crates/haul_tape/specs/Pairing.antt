-- What a C caller knows from the answer on two tapes in pairs: statements, to be read without their proofs.
use Rattle.std.specs.Prelude.{◌≡◌, true, false, ◌&&◌, ◌||◌, List, ◌↔◌, ◌⊎◌, ℕ, ◌+◌, ◌≤◌, length}
use Rattle.calls.specs.Calls.{is_refused, done}
use Rattle.tape_model.specs.declared.Ticket.{Ticket}
use Rattle.tape_model.specs.Tape.{is_tickets_length, plain_tickets}
use Rattle.pairing.specs.Pairing.{Pair, KeepsRules, paired, times_fall, Outputs, too_short, put}
use Rattle.pairing.specs.Laws.{TakesFirstFree}
use Rattle.c_answers.specs.declared.HtPaired.{HtPaired}
use Rattle.haul_tape.specs.Clauses.{PairTapesSeen}

-- a number, and zeros
abbrev pub refused_with : ℕ → HtPaired
refused_with n = record { refused = n; pairs = 0; left_first = 0; left_second = 0 }

-- r: what was answered of two opened tapes; `after`: the outputs then
pub record PairTapesAnswered (first second : List ℕ) (out : Outputs) (r : HtPaired) (after : Outputs) : Type 0 where
  -- where both hold tickets, no times fall and no output is too short, the call is done: the answer counts what was written
  pub written : (ts us : List Ticket) → plain_tickets first ≡ done ts → plain_tickets second ≡ done us → times_fall ts ≡ false → times_fall us ≡ false
      → too_short (paired ts us) out ≡ false
      → (r
      ≡ record {
        refused = 0;
        pairs = length (paired ts us).pairs;
        left_first = length (paired ts us).left_first;
        left_second = length (paired ts us).left_second;
      })
      × (after ≡ put (paired ts us) out)
  -- and only there
  pub done_where : r.refused ≡ 0 → (ts : List Ticket) × (us : List Ticket) × (plain_tickets first ≡ done ts) × (plain_tickets second ≡ done us)
      × (times_fall ts ≡ false) × (times_fall us ≡ false) × (too_short (paired ts us) out ≡ false)
  -- each number exactly where document 02 has it, with zeros; and there is no other
  pub two : (r ≡ refused_with 2) ↔ ((is_tickets_length (length first) && is_tickets_length (length second)) ≡ false)
  pub eight : (r ≡ refused_with 8)
      ↔ (((is_tickets_length (length first) && is_tickets_length (length second)) ≡ true)
      × ((is_refused (plain_tickets first) || is_refused (plain_tickets second)) ≡ true))
  pub twelve : (r ≡ refused_with 12)
      ↔ ((ts : List Ticket) × (us : List Ticket) × (plain_tickets first ≡ done ts) × (plain_tickets second ≡ done us) × ((times_fall ts || times_fall us) ≡ true))
  pub six : (r ≡ refused_with 6)
      ↔ ((ts : List Ticket) × (us : List Ticket) × (plain_tickets first ≡ done ts) × (plain_tickets second ≡ done us) × (times_fall ts ≡ false) × (times_fall us ≡ false)
      × (too_short (paired ts us) out ≡ true))
  pub one_of : (r.refused ≡ 0) ⊎ ((r ≡ refused_with 2) ⊎ ((r ≡ refused_with 8) ⊎ ((r ≡ refused_with 12) ⊎ (r ≡ refused_with 6))))
  -- a refused call leaves every output as it was
  pub left : (r.refused ≡ 0 → ⊥) → after ≡ out

-- of a call that was done, with the tickets of the tapes
pub record PairTapesDone (ts us : List Ticket) (r : HtPaired) : Type 0 where
  -- pairs plus leftovers are the tickets of that tape
  pub first_sum : r.pairs + r.left_first ≡ length ts
  pub second_sum : r.pairs + r.left_second ≡ length us
  -- no pairing that keeps the rules has more pairs
  pub none_has_more : (pairs : List Pair) → KeepsRules ts us pairs → length pairs ≤ r.pairs
  -- and the one that document 02 names has as many
  pub the_one : (pairs : List Pair) → TakesFirstFree ts us pairs → length pairs ≡ r.pairs

pub record PairingExports : Type 0 where
  pub answered : (first second : List ℕ) (out : Outputs) (r : HtPaired) (after : Outputs) → PairTapesSeen first second out r after → PairTapesAnswered first second out r after
  pub pairs : (first second : List ℕ) (out : Outputs) (r : HtPaired) (after : Outputs) → PairTapesSeen first second out r after → r.refused ≡ 0
      → (ts us : List Ticket) → plain_tickets first ≡ done ts → plain_tickets second ≡ done us → PairTapesDone ts us r
  -- two calls with the tapes exchanged, both done: as many pairs, and the leftovers exchanged
  pub exchanged : (first second : List ℕ) (out out' : Outputs) (r s : HtPaired) (after after' : Outputs) → PairTapesSeen first second out r after
      → PairTapesSeen second first out' s after' → r.refused ≡ 0 → s.refused ≡ 0
      → (s.pairs ≡ r.pairs) × (s.left_first ≡ r.left_second) × (s.left_second ≡ r.left_first)
