-- What a C caller knows from the answers on two receptions: statements, to be read without their proofs.
use Rattle.std.specs.Prelude.{◌≡◌, true, List, ◌↔◌, ◌⊎◌, ℕ, ◌*◌, ◌≤◌, ◌<◌, eqb, length, take}
use Rattle.calls.specs.Calls.{◌if◌else◌, written_over}
use Rattle.acorn_model.specs.Machine.{key_length}
use Rattle.tape_model.specs.declared.Ticket.{Ticket}
use Rattle.tape_model.specs.declared.Head.{Head}
use Rattle.tape_model.specs.Ticket.{ticket_length, head_rule}
use Rattle.tape_model.specs.Tape.{ticket_limit, pack_tickets, tape_of, total_net, open_tape}
use Rattle.tape_model.specs.Laws.{Valid}
use Rattle.receptions.specs.Laws.{FirstDifferenceAt, Begins}
use Rattle.receptions.specs.Opening.{HeardWhole}
use Rattle.c_answers.specs.declared.HtParted.{HtParted}
use Rattle.c_answers.specs.declared.HtReception.{HtReception}
use Rattle.c_answers.specs.declared.HtOpened.{HtOpened}
use Rattle.haul_tape.specs.Clauses.{PartingSeen, LongerSeen, OpenTapeSeen}

-- the reception of mast 1 or 2, and its first bytes, as an answer names them
abbrev pub reception_of : ℕ → List ℕ → List ℕ → List ℕ
reception_of mast first second = first if eqb mast 1 else second

abbrev pub bytes_of : HtReception → List ℕ → List ℕ → List ℕ
bytes_of r first second = take r.bytes (reception_of r.mast first second)

-- a: what was answered of where two receptions part
pub record PartingAnswered (first second : List ℕ) (a : HtParted) : Type 0 where
  -- 10, with the place, exactly where they part there
  pub place : (k : ℕ) → (a ≡ record { refused = 10; place = k }) ↔ FirstDifferenceAt first second k
  -- zeros exactly where one is the beginning of the other
  pub no_place : (a ≡ record { refused = 0; place = 0 }) ↔ (Begins first second ⊎ Begins second first)
  -- and there is no other answer
  pub either : (a ≡ record { refused = 0; place = 0 }) ⊎ ((k : ℕ) × (a ≡ record { refused = 10; place = k }))

-- r: what was answered of the longer, beside it
pub record LongerAnswered (first second : List ℕ) (a : HtParted) (r : HtReception) : Type 0 where
  -- mast 1 or 2, and no more bytes than the reception of that mast has
  pub mast : (r.mast ≡ 1) ⊎ (r.mast ≡ 2)
  pub within : r.bytes ≤ length (reception_of r.mast first second)
  -- where the receptions part, none of the first mast's; else all of the longer, with equal lengths the first mast's, and it begins with both
  pub parted : a.refused ≡ 10 → r ≡ record { mast = 1; bytes = 0 }
  pub first-longer : a.refused ≡ 0 → length second ≤ length first → r ≡ record { mast = 1; bytes = length first }
  pub second-longer : a.refused ≡ 0 → length first < length second → r ≡ record { mast = 2; bytes = length second }
  pub begins_with : a.refused ≡ 0 → Begins first (bytes_of r first second) × Begins second (bytes_of r first second)
  -- a whole tape that one mast heard, where the other heard its beginning, is handed back: opening the bytes gives what opening the tape gives
  pub opens : (tape : List ℕ) → HeardWhole tape first second → (key out : List ℕ) → open_tape key (bytes_of r first second) out ≡ open_tape key tape out
  -- so for the tape of a head and tickets: where the call that opens tapes, given these bytes, answers o and leaves `after` in its output, o has the tickets' number and
  -- net, and `after` begins with their packed bytes
  pub opened : (key : List ℕ) (head : Head) (tickets : List Ticket) → length key ≡ key_length → head_rule head ≡ true → Valid tickets → length tickets ≤ ticket_limit
      → HeardWhole (tape_of key head tickets) first second → (out : List ℕ) → ticket_length * length tickets ≤ length out
      → (o : HtOpened) (after : List ℕ) → OpenTapeSeen key (bytes_of r first second) out o after
      → (o ≡ record { refused = 0; tickets = length tickets; net = total_net tickets }) × (after ≡ written_over (pack_tickets tickets) out)

pub record ReceptionExports : Type 0 where
  pub parting : (first second : List ℕ) (a : HtParted) → PartingSeen first second a → PartingAnswered first second a
  pub longer : (first second : List ℕ) (a : HtParted) (r : HtReception) → PartingSeen first second a → LongerSeen first second r → LongerAnswered first second a r
