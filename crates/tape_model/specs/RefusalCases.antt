-- Document 01, "What sends a call back", on the writer, tapes and the reader: a table of cases. They are its examples, its limits from both sides, and
-- calls to which several numbers apply.
use Rattle.std.specs.Prelude.{◌≡◌, Bool, true, false, List, [], ◌∷◌, ◌++◌, ℕ}
use Rattle.acorn_model.specs.declared.Kind.TheVariants.{Sealing}
use Rattle.calls.specs.Calls.{refused, done, accepted}
use Rattle.acorn_model.specs.Machine.{fresh}
use Rattle.acorn_model.specs.RefusalCases.{string}
use Rattle.tape_model.specs.declared.Ticket.{Ticket}
use Rattle.tape_model.specs.declared.Head.{Head}
use Rattle.tape_model.specs.declared.WriterPhase.{WriterPhase}
use Rattle.tape_model.specs.declared.WriterPhase.TheVariants.{Fresh, Open, Closed}
use Rattle.tape_model.specs.Ticket.{in_form, pack_ticket, unpack_ticket, pack_ticket_into, pack_head, unpack_head, pack_head_into}
use Rattle.tape_model.specs.Tape.{is_tickets_length, plain_totals, is_tape_length, open_tape_refusal}
use Rattle.tape_model.specs.Writer.{PlainWriter, WriterCall, start, add, finish, refusal}
use Rattle.tape_model.specs.Reader.{Reader, ticket, stays, read_next}
use Rattle.tape_model.specs.Cases.{ticket_with}

-- a plain writer in this phase with so many tickets
abbrev pub writer_with : WriterPhase → ℕ → PlainWriter
writer_with phase tickets = record { machine = fresh Sealing; phase = phase; tickets = tickets }

-- the head of case (i), and one with these values; the ticket of case (h), the one of the table's example, tare 6 and gross 5 (P2 of
-- document 02), an empty trip, and the ticket of case (h) in form 2, tipped in the last second of the day (P6)
abbrev pub head_with : ℕ → ℕ → ℕ → Head
head_with device shift sheet = record { device = device; shift = shift; sheet = sheet }

abbrev pub good_head : Head
good_head = head_with 7 2 1

abbrev pub good_ticket : Ticket
good_ticket = ticket_with 3600 4200 250000 110000

abbrev pub bad_ticket : Ticket
bad_ticket = ticket_with 3600 4200 5 6

abbrev pub empty_trip : Ticket
empty_trip = ticket_with 3600 4200 5 5

abbrev pub whole_day_ticket : Ticket
whole_day_ticket = in_form 2 (ticket_with 3600 86399 250000 110000)

-- a call of such a writer, and the number; opening of a tape into an output, and the number; whether so many bytes are a tape's, or a reader's
pub data RefusalCase : Type 0 where
  writes : (phase : WriterPhase) (tickets : ℕ) (call : WriterCall) (number : ℕ) → RefusalCase
  opens : (key tape out : List ℕ) (number : ℕ) → RefusalCase
  sizes : (bytes : ℕ) (tape tickets : Bool) → RefusalCase

abbrev pub Gets : RefusalCase → Type 0
Gets (writes phase tickets call number) = refusal (writer_with phase tickets) call ≡ number
Gets (opens key tape out number) = open_tape_refusal key tape out ≡ number
Gets (sizes bytes tape tickets) = (is_tape_length bytes ≡ tape) × (is_tickets_length bytes ≡ tickets)

abbrev pub AllGet : List RefusalCase → Type 0
AllGet [] = Unit {0}
AllGet (c ∷ cs) = Gets c × AllGet cs

abbrev pub tape_refusal_cases : List RefusalCase
tape_refusal_cases =
    -- 1
    writes Open 0 (start (string 16) good_head (string 9)) 1
    ∷ writes Closed 0 (start (string 16) good_head (string 9)) 1
    ∷ writes Fresh 0 (add good_ticket (string 13)) 1
    ∷ writes Closed 0 (add good_ticket (string 13)) 1
    ∷ writes Fresh 0 (finish (string 16)) 1
    ∷ writes Closed 0 (finish (string 16)) 1
    -- 2
    ∷ writes Fresh 0 (start (string 15) good_head (string 9)) 2
    ∷ opens (string 17) (pack_head good_head ++ string 16) [] 2
    ∷ opens (string 16) (string 37) (string 13) 2
    ∷ sizes 0 false true
    ∷ sizes 24 false false
    ∷ sizes 25 true false
    ∷ sizes 37 false false
    ∷ sizes 38 true false
    ∷ sizes 13 false true
    ∷ sizes 65000 false true
    ∷ sizes 65013 false false
    ∷ sizes 65025 true false
    ∷ sizes 65038 false false
    -- 3
    ∷ writes Fresh 0 (start (string 16) (head_with 0 2 1) (string 9)) 3
    ∷ writes Fresh 0 (start (string 16) (head_with 7 1000001 1) (string 9)) 3
    ∷ writes Fresh 0 (start (string 16) (head_with 4294967295 1000000 1000000) (string 9)) accepted
    ∷ opens (string 16) (pack_head (head_with 0 2 1) ++ string 16) [] 3
    ∷ opens (string 16) (pack_head (head_with 7 2 1000001) ++ string 16) [] 3
    -- 4
    ∷ writes Open 0 (add bad_ticket (string 13)) 4
    ∷ writes Open 0 (add empty_trip (string 13)) accepted
    ∷ writes Open 0 (add (ticket_with 3600 4200 0 0) (string 13)) accepted
    ∷ writes Open 0 (add (ticket_with 3600 4200 0 1) (string 13)) 4
    ∷ writes Open 0 (add (ticket_with 3600 43199 250000 110000) (string 13)) accepted
    ∷ writes Open 0 (add (ticket_with 3600 43200 250000 110000) (string 13)) 4
    ∷ writes Open 0 (add whole_day_ticket (string 13)) accepted
    ∷ writes Open 0 (add (in_form 2 (ticket_with 3600 86400 250000 110000)) (string 13)) 4
    ∷ writes Open 0 (add (in_form 0 good_ticket) (string 13)) 4
    ∷ writes Open 0 (add (in_form 3 good_ticket) (string 13)) 4
    ∷ writes Open 0 (add (in_form 15 good_ticket) (string 13)) 4
    -- 5
    ∷ writes Open 4999 (add good_ticket (string 13)) accepted
    ∷ writes Open 5000 (add good_ticket (string 13)) 5
    ∷ writes Open 5000 (finish (string 16)) accepted
    -- 6
    ∷ writes Fresh 0 (start (string 16) good_head (string 8)) 6
    ∷ writes Fresh 0 (start (string 16) good_head (string 9)) accepted
    ∷ writes Open 0 (add good_ticket (string 12)) 6
    ∷ writes Open 0 (add good_ticket (string 13)) accepted
    ∷ writes Open 0 (finish (string 15)) 6
    ∷ writes Open 0 (finish (string 16)) accepted
    ∷ opens (string 16) (pack_head good_head ++ string 29) (string 12) 6
    -- several numbers apply: the smallest is given
    ∷ writes Open 0 (start [] (head_with 0 0 0) []) 1
    ∷ writes Fresh 0 (start [] (head_with 0 0 0) []) 2
    ∷ writes Fresh 0 (start (string 16) (head_with 0 0 0) []) 3
    ∷ writes Fresh 5000 (add bad_ticket []) 1
    ∷ writes Open 5000 (add bad_ticket []) 4
    ∷ writes Open 5000 (add good_ticket []) 5
    ∷ writes Open 5000 (add empty_trip []) 5
    ∷ writes Open 0 (add empty_trip (string 12)) 6
    ∷ writes Fresh 0 (finish []) 1
    ∷ opens [] (string 25) [] 2
    ∷ opens (string 16) (string 38) [] 3
    ∷ []

-- the plain bytes of the table's last example: those of case (h) with the last byte C1
abbrev pub last_byte_c1 : List ℕ
last_byte_c1 = 0x10 ∷ 0x14 ∷ 0x20 ∷ 0xD0 ∷ 0x38 ∷ 0x40 ∷ 0x41 ∷ 0xA0 ∷ 0xF4 ∷ 0x24 ∷ 0x06 ∷ 0xB6 ∷ 0xC1 ∷ []

abbrev pub reader_with : List ℕ → ℕ → Reader
reader_with string position = record { string = string; position = position }

-- 2 and 8 of a reader, which stays where it is; and of the totals of plain bytes
pub record ReaderCases : Type 0 where
  pub too_short : read_next (reader_with (string 12) 0) ≡ stays (reader_with (string 12) 0) (refused 2)
  pub not-whole : read_next (reader_with (string 14) 2) ≡ stays (reader_with (string 14) 2) (refused 2)
  pub bad : unpack_ticket last_byte_c1 ≡ refused 8
  pub bad_first : read_next (reader_with last_byte_c1 0) ≡ stays (reader_with last_byte_c1 0) (refused 8)
  pub bad_second : read_next (reader_with (pack_ticket good_ticket ++ last_byte_c1) 1) ≡ stays (reader_with (pack_ticket good_ticket ++ last_byte_c1) 1) (refused 8)
  -- tare above gross, and an empty trip
  pub tare_above : read_next (reader_with (pack_ticket bad_ticket) 0) ≡ stays (reader_with (pack_ticket bad_ticket) 0) (refused 8)
  pub empty-trip : read_next (reader_with (pack_ticket empty_trip) 0) ≡ record { next = reader_with (pack_ticket empty_trip) 1; answer = done (ticket empty_trip) }
  pub empty_trip_totals : plain_totals (pack_ticket empty_trip) ≡ done (record { tickets = 1; net = 0 })
  -- forms 2 and 3
  pub form_2 : read_next (reader_with (pack_ticket whole_day_ticket) 0) ≡ record { next = reader_with (pack_ticket whole_day_ticket) 1; answer = done (ticket whole_day_ticket) }
  pub form_3 : read_next (reader_with (pack_ticket (in_form 3 good_ticket)) 0) ≡ stays (reader_with (pack_ticket (in_form 3 good_ticket)) 0) (refused 8)
  pub no_totals : (plain_totals (string 12) ≡ refused 2) × (plain_totals last_byte_c1 ≡ refused 8) × (plain_totals (pack_ticket bad_ticket) ≡ refused 8)

-- tickets and heads packed into lent bytes, and unpacked, by themselves
pub record PackingCases : Type 0 where
  pub bad-ticket : (pack_ticket_into bad_ticket []).answer ≡ refused 4
  pub empty-trip : ((pack_ticket_into empty_trip (string 13)).answer ≡ done 13) × (unpack_ticket (pack_ticket empty_trip) ≡ done empty_trip)
  -- case (l)'s bytes
  pub case_l : pack_ticket (ticket_with 3600 4200 250000 250000) ≡ 0x10 ∷ 0x14 ∷ 0x20 ∷ 0xD0 ∷ 0x38 ∷ 0x40 ∷ 0x41 ∷ 0xA0 ∷ 0xF4 ∷ 0x24 ∷ 0x0F ∷ 0x42 ∷ 0x40 ∷ []
  pub tare_above : unpack_ticket (pack_ticket bad_ticket) ≡ refused 8
  pub ticket_room : ((pack_ticket_into good_ticket (string 12)).answer ≡ refused 6) × ((pack_ticket_into good_ticket (string 13)).answer ≡ done 13)
  pub bad_head : (pack_head_into (head_with 0 2 1) []).answer ≡ refused 3
  pub head_room : ((pack_head_into good_head (string 8)).answer ≡ refused 6) × ((pack_head_into good_head (string 9)).answer ≡ done 9)
  pub ticket_size : (unpack_ticket (string 12) ≡ refused 2) × (unpack_ticket (string 14) ≡ refused 2)
  pub head_size : (unpack_head (string 8) ≡ refused 2) × (unpack_head (string 10) ≡ refused 2)
  pub head_range : unpack_head (pack_head (head_with 0 2 1)) ≡ refused 3
