-- The tape that docs/FORMAT.md works through (also conformance/tapes/1_ticket.tape), and what it is for the definitions to give it.
use Rattle.std.specs.Prelude.{◌≡◌, List, [], ◌∷◌, ◌++◌, ℕ, ◌≤◌, length}
use Rattle.calls.specs.Calls.{done, written_over}
use Rattle.tape_model.specs.Ticket.{pack_ticket}
use Rattle.tape_model.specs.Tape.{tape_of, open_tape}
use Rattle.tape_model.specs.Listing.{printed, example_text}
use Rattle.tape_model.specs.RefusalCases.{good_head, good_ticket}
use Rattle.known_answers.specs.Answers.{counted_key}

abbrev pub worked_cipher : List ℕ
worked_cipher = 0x0b ∷ 0x69 ∷ 0x28 ∷ 0xf1 ∷ 0x6e ∷ 0xe3 ∷ 0xff ∷ 0xef ∷ 0xdd ∷ 0xc2 ∷ 0x1f ∷ 0x9b ∷ 0xb3 ∷ []

abbrev pub worked_tag : List ℕ
worked_tag = 0xb3 ∷ 0x70 ∷ 0x07 ∷ 0x51 ∷ 0x69 ∷ 0x3d ∷ 0x72 ∷ 0xb8 ∷ 0x81 ∷ 0x6c ∷ 0x95 ∷ 0xc0 ∷ 0x95 ∷ 0x06 ∷ 0x73 ∷ 0x82 ∷ []

-- the 38 bytes: head, ciphertext, tag
abbrev pub worked_tape : List ℕ
worked_tape = (0x00 ∷ 0x00 ∷ 0x00 ∷ 0x07 ∷ 0x00 ∷ 0x00 ∷ 0x20 ∷ 0x00 ∷ 0x01 ∷ []) ++ worked_cipher ++ worked_tag

-- the head of case (i) and the ticket of case (h)
pub record WorkedTape : Type 0 where
  pub bytes : tape_of counted_key good_head (good_ticket ∷ []) ≡ worked_tape
  pub opens : (out : List ℕ) → 13 ≤ length out
      → open_tape counted_key worked_tape out ≡ record { answer = done (record { tickets = 1; net = 140000 }); out = written_over (pack_ticket good_ticket) out }
  -- document 01's example
  pub lists : printed (counted_key ++ worked_tape) ≡ example_text
