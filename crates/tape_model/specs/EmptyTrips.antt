-- Document 02, P2: a trip back empty, with gross equal to tare and net 0, is a ticket like others, and is counted.
use Rattle.std.specs.Prelude.{◌≡◌, true, List, [], ◌∷◌, ◌++◌, ◌↔◌, ℕ, suc, ◌≤◌, length}
use Rattle.calls.specs.Calls.{done, written_over}
use Rattle.acorn_model.specs.Machine.{key_length}
use Rattle.tape_model.specs.declared.Ticket.{Ticket}
use Rattle.tape_model.specs.Ticket.{ticket_length, ticket_rule, net}
use Rattle.tape_model.specs.Tape.{pack_tickets, tape_of, total_net, totals_of, open_tape}
use Rattle.tape_model.specs.Listing.{decimal, numbers, line_end, ticket_line, listed}
use Rattle.tape_model.specs.RefusalCases.{good_head, good_ticket, empty_trip}

-- the ticket with these weights
abbrev pub weighing : ℕ → ℕ → Ticket → Ticket
weighing gross tare t =
    record {
      form = t.form;
      truck = t.truck;
      shovel = t.shovel;
      tip = t.tip;
      grade = t.grade;
      loaded = t.loaded;
      tipped = t.tipped;
      gross = gross;
      tare = tare;
    }

-- 'TAPE 7 2 1', '1 5 2 3 4 3600 4200 140000', '2 5 2 3 4 3600 4200 0' and 'TOTAL 2 140000', a line each
abbrev pub empty_trip_text : List ℕ
empty_trip_text =
    (0x54 ∷ 0x41 ∷ 0x50 ∷ 0x45 ∷ 0x20 ∷ 0x37 ∷ 0x20 ∷ 0x32 ∷ 0x20 ∷ 0x31 ∷ 0x0a ∷ [])
    ++ (0x31 ∷ 0x20 ∷ 0x35 ∷ 0x20 ∷ 0x32 ∷ 0x20 ∷ 0x33 ∷ 0x20 ∷ 0x34 ∷ 0x20 ∷ 0x33 ∷ 0x36 ∷ 0x30 ∷ 0x30 ∷ 0x20 ∷ 0x34 ∷ 0x32 ∷ 0x30 ∷ 0x30 ∷ 0x20 ∷ 0x31 ∷ 0x34 ∷ 0x30 ∷ 0x30 ∷ 0x30 ∷ 0x30 ∷ 0x0a ∷ [])
    ++ (0x32 ∷ 0x20 ∷ 0x35 ∷ 0x20 ∷ 0x32 ∷ 0x20 ∷ 0x33 ∷ 0x20 ∷ 0x34 ∷ 0x20 ∷ 0x33 ∷ 0x36 ∷ 0x30 ∷ 0x30 ∷ 0x20 ∷ 0x34 ∷ 0x32 ∷ 0x30 ∷ 0x30 ∷ 0x20 ∷ 0x30 ∷ 0x0a ∷ [])
    ++ (0x54 ∷ 0x4f ∷ 0x54 ∷ 0x41 ∷ 0x4c ∷ 0x20 ∷ 0x32 ∷ 0x20 ∷ 0x31 ∷ 0x34 ∷ 0x30 ∷ 0x30 ∷ 0x30 ∷ 0x30 ∷ 0x0a ∷ [])

pub record EmptyTripLaws : Type 0 where
  -- every valid ticket is valid with its gross as its tare, too
  pub valid : (t : Ticket) → ticket_rule t ≡ true → ticket_rule (weighing t.gross t.gross t) ≡ true
  -- the net of a valid ticket is 0 for empty trips and no others
  pub net_0 : (t : Ticket) → ticket_rule t ≡ true → (net t ≡ 0) ↔ (t.gross ≡ t.tare)
  -- an empty trip among tickets is one ticket more, and their total net is as without it
  pub counted : (ts us : List Ticket) (t : Ticket) → t.gross ≡ t.tare
      → totals_of (ts ++ t ∷ us) ≡ record { tickets = suc (length (ts ++ us)); net = total_net (ts ++ us) }
  -- the line of an empty trip in the listing ends in 0
  pub line : (position : ℕ) (t : Ticket) → t.gross ≡ t.tare
      → ticket_line position t ≡ decimal position ++ numbers (t.truck ∷ t.shovel ∷ t.tip ∷ t.grade ∷ t.loaded ∷ t.tipped ∷ 0 ∷ []) ++ line_end
  -- a tape of one empty trip opens
  pub opens : (key out : List ℕ) → length key ≡ key_length → ticket_length ≤ length out
      → open_tape key (tape_of key good_head (empty_trip ∷ [])) out ≡ record { answer = done (record { tickets = 1; net = 0 }); out = written_over (pack_tickets (empty_trip ∷ [])) out }
  -- the listing of document 01's ticket and an empty trip behind it
  pub example : listed (done good_head) (good_ticket ∷ empty_trip ∷ []) ≡ empty_trip_text
