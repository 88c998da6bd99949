-- P6 worked out by the prover: tickets of form 2 in bytes, the ends of the ranges from both sides, moves, and a tape that holds both forms.
use Rattle.std.specs.Prelude.{◌≡◌, List, [], ◌∷◌, ◌++◌, ℕ, ◌≤◌, length}
use Rattle.calls.specs.Calls.{refused, done, written_over}
use Rattle.acorn_model.specs.Machine.{key_length}
use Rattle.tape_model.specs.declared.Ticket.{Ticket}
use Rattle.tape_model.specs.Ticket.{in_form, pack_ticket, unpack_ticket}
use Rattle.tape_model.specs.Tape.{pack_tickets, tape_of, plain_tickets, open_tape}
use Rattle.tape_model.specs.Reader.{reader_over}
use Rattle.tape_model.specs.Listing.{second_ticket, listed}
use Rattle.tape_model.specs.Cases.{ticket_with}
use Rattle.tape_model.specs.RefusalCases.{good_head, good_ticket, bad_ticket, whole_day_ticket}
use Rattle.tape_model.specs.Laws.{readings, as_readings}
use Rattle.trucks.specs.Trucks.{plain_trucks}
use Rattle.forms.specs.Move.{move_ticket}

-- the ticket of case (h), tipped then, in form 2
abbrev pub form2_tipped : ℕ → Ticket
form2_tipped tipped = in_form 2 (ticket_with 3600 tipped 250000 110000)

-- its 13 bytes with tipped 4,200; and these bytes with another upper half of the first byte, or another last byte
abbrev pub form2_bytes : (first last : ℕ) → List ℕ
form2_bytes first last = first ∷ 0x14 ∷ 0x20 ∷ 0xD0 ∷ 0x1C ∷ 0x20 ∷ 0x10 ∷ 0x68 ∷ 0x3D ∷ 0x09 ∷ 0x01 ∷ 0xAD ∷ last ∷ []

-- a ticket of form 2 with every field at its highest
abbrev pub highest : Ticket
highest = record { form = 2; truck = 1023; shovel = 63; tip = 63; grade = 9; loaded = 86399; tipped = 86399; gross = 1048575; tare = 1048575 }

-- a tape's tickets: form 1, form 2 tipped in the last second of the day, form 1
abbrev pub mixed : List Ticket
mixed = good_ticket ∷ whole_day_ticket ∷ second_ticket ∷ []

-- 'TAPE 7 2 1', '1 5 2 3 4 3600 4200 140000', '2 5 2 3 4 3600 86399 140000', '3 12 1 63 0 4000 4100 60097' and 'TOTAL 3 340097', a line each
abbrev pub mixed_text : List ℕ
mixed_text =
    (0x54 ∷ 0x41 ∷ 0x50 ∷ 0x45 ∷ 0x20 ∷ 0x37 ∷ 0x20 ∷ 0x32 ∷ 0x20 ∷ 0x31 ∷ 0x0a ∷ [])
    ++ (0x31 ∷ 0x20 ∷ 0x35 ∷ 0x20 ∷ 0x32 ∷ 0x20 ∷ 0x33 ∷ 0x20 ∷ 0x34 ∷ 0x20 ∷ 0x33 ∷ 0x36 ∷ 0x30 ∷ 0x30 ∷ 0x20 ∷ 0x34 ∷ 0x32 ∷ 0x30 ∷ 0x30 ∷ 0x20 ∷ 0x31 ∷ 0x34 ∷ 0x30 ∷ 0x30 ∷ 0x30 ∷ 0x30 ∷ 0x0a ∷ [])
    ++ (0x32 ∷ 0x20 ∷ 0x35 ∷ 0x20 ∷ 0x32 ∷ 0x20 ∷ 0x33 ∷ 0x20 ∷ 0x34 ∷ 0x20 ∷ 0x33 ∷ 0x36 ∷ 0x30 ∷ 0x30 ∷ 0x20 ∷ 0x38 ∷ 0x36 ∷ 0x33 ∷ 0x39 ∷ 0x39 ∷ 0x20 ∷ 0x31 ∷ 0x34 ∷ 0x30 ∷ 0x30 ∷ 0x30 ∷ 0x30 ∷ 0x0a ∷ [])
    ++ (0x33 ∷ 0x20 ∷ 0x31 ∷ 0x32 ∷ 0x20 ∷ 0x31 ∷ 0x20 ∷ 0x36 ∷ 0x33 ∷ 0x20 ∷ 0x30 ∷ 0x20 ∷ 0x34 ∷ 0x30 ∷ 0x30 ∷ 0x30 ∷ 0x20 ∷ 0x34 ∷ 0x31 ∷ 0x30 ∷ 0x30 ∷ 0x20 ∷ 0x36 ∷ 0x30 ∷ 0x30 ∷ 0x39 ∷ 0x37 ∷ 0x0a ∷ [])
    ++ (0x54 ∷ 0x4f ∷ 0x54 ∷ 0x41 ∷ 0x4c ∷ 0x20 ∷ 0x33 ∷ 0x20 ∷ 0x33 ∷ 0x34 ∷ 0x30 ∷ 0x30 ∷ 0x39 ∷ 0x37 ∷ 0x0a ∷ [])

pub record FormCases : Type 0 where
  -- case (h) in form 2, and with tipped on both sides of sixteen bits and at the end of the day
  pub packs : pack_ticket (form2_tipped 4200) ≡ form2_bytes 0x20 0xB0
  pub packs_65535 : pack_ticket (form2_tipped 65535) ≡ 0x20 ∷ 0x14 ∷ 0x20 ∷ 0xD0 ∷ 0x1C ∷ 0x20 ∷ 0xFF ∷ 0xFF ∷ 0x3D ∷ 0x09 ∷ 0x01 ∷ 0xAD ∷ 0xB0 ∷ []
  pub packs_65536 : pack_ticket (form2_tipped 65536) ≡ 0x20 ∷ 0x14 ∷ 0x20 ∷ 0xD0 ∷ 0x1C ∷ 0x21 ∷ 0x00 ∷ 0x00 ∷ 0x3D ∷ 0x09 ∷ 0x01 ∷ 0xAD ∷ 0xB0 ∷ []
  pub packs_86399 : pack_ticket (form2_tipped 86399) ≡ 0x20 ∷ 0x14 ∷ 0x20 ∷ 0xD0 ∷ 0x1C ∷ 0x21 ∷ 0x51 ∷ 0x7F ∷ 0x3D ∷ 0x09 ∷ 0x01 ∷ 0xAD ∷ 0xB0 ∷ []
  -- loaded has a seventeenth bit, too; and every field at its highest
  pub packs_loaded : pack_ticket (in_form 2 (ticket_with 86399 86399 250000 110000))
      ≡ 0x20 ∷ 0x14 ∷ 0x20 ∷ 0xD2 ∷ 0xA2 ∷ 0xFF ∷ 0x51 ∷ 0x7F ∷ 0x3D ∷ 0x09 ∷ 0x01 ∷ 0xAD ∷ 0xB0 ∷ []
  pub packs_highest : pack_ticket highest ≡ 0x2F ∷ 0xFF ∷ 0xFF ∷ 0xE6 ∷ 0xA2 ∷ 0xFF ∷ 0x51 ∷ 0x7F ∷ 0xFF ∷ 0xFF ∷ 0xFF ∷ 0xFF ∷ 0xFF ∷ []
  pub unpacks : unpack_ticket (form2_bytes 0x20 0xB0) ≡ done (form2_tipped 4200)
  pub unpacks_65535 : unpack_ticket (pack_ticket (form2_tipped 65535)) ≡ done (form2_tipped 65535)
  pub unpacks_65536 : unpack_ticket (pack_ticket (form2_tipped 65536)) ≡ done (form2_tipped 65536)
  pub unpacks_86399 : unpack_ticket (pack_ticket (form2_tipped 86399)) ≡ done (form2_tipped 86399)
  pub unpacks_86400 : unpack_ticket (pack_ticket (form2_tipped 86400)) ≡ refused 8
  -- in form 1
  pub form_1_43199 : unpack_ticket (pack_ticket (ticket_with 3600 43199 250000 110000)) ≡ done (ticket_with 3600 43199 250000 110000)
  pub form_1_43200 : unpack_ticket (pack_ticket (ticket_with 3600 43200 250000 110000)) ≡ refused 8
  -- no spare bits: the last bit is tare's
  pub last_bit : unpack_ticket (form2_bytes 0x20 0xB1) ≡ done (in_form 2 (ticket_with 3600 4200 250000 110001))
  -- forms 0, 3 and 15
  pub form_0 : unpack_ticket (form2_bytes 0x00 0xB0) ≡ refused 8
  pub form_3 : unpack_ticket (form2_bytes 0x30 0xB0) ≡ refused 8
  pub form_15 : unpack_ticket (form2_bytes 0xF0 0xB0) ≡ refused 8
  -- moves
  pub to_2 : move_ticket good_ticket 2 ≡ done (form2_tipped 4200)
  pub to_1 : move_ticket (form2_tipped 4200) 1 ≡ done good_ticket
  pub stays_1 : move_ticket good_ticket 1 ≡ done good_ticket
  pub stays_2 : move_ticket (form2_tipped 86399) 2 ≡ done (form2_tipped 86399)
  pub at_43199 : move_ticket (form2_tipped 43199) 1 ≡ done (ticket_with 3600 43199 250000 110000)
  pub at_43200 : move_ticket (form2_tipped 43200) 1 ≡ refused 11
  pub at_86399 : move_ticket (form2_tipped 86399) 1 ≡ refused 11
  -- 4, and before 11
  pub other_form : (move_ticket good_ticket 0 ≡ refused 4) × (move_ticket good_ticket 3 ≡ refused 4) × (move_ticket (form2_tipped 43200) 3 ≡ refused 4)
  pub bad-ticket : (move_ticket bad_ticket 1 ≡ refused 4) × (move_ticket bad_ticket 2 ≡ refused 4) × (move_ticket (form2_tipped 86400) 1 ≡ refused 4)
  pub bad_form : (move_ticket (in_form 3 good_ticket) 1 ≡ refused 4) × (move_ticket (in_form 3 good_ticket) 3 ≡ refused 4)
  pub late_form_1 : move_ticket (ticket_with 3600 43200 250000 110000) 2 ≡ refused 4
  -- a tape of both forms: its plain bytes hold the tickets, and a reader hands them out; two trucks; its listing; and it opens
  pub holds : plain_tickets (pack_tickets mixed) ≡ done mixed
  pub reads : readings 3 (reader_over (pack_tickets mixed)) ≡ as_readings mixed
  pub trucks : plain_trucks (pack_tickets mixed) ≡ done 2
  pub lists : listed (done good_head) mixed ≡ mixed_text
  pub opens : (key out : List ℕ) → length key ≡ key_length → 39 ≤ length out
      → open_tape key (tape_of key good_head mixed) out ≡ record { answer = done (record { tickets = 3; net = 340097 }); out = written_over (pack_tickets mixed) out }
