-- What is shown of the definitions on tickets, heads, tapes, the reader and the listing: the statements, to be read without their proofs.
use Rattle.std.specs.Prelude.{◌≡◌, Bool, true, false, ◌&&◌, ◌||◌, List, [], ◌∷◌, ◌++◌, ◌↔◌, ◌⊎◌, ℕ, zero, suc, ◌+◌, ◌-◌, ◌*◌, ◌/◌, ◌^◌, ◌≤◌, ◌<◌, length, get_or, replicate, take}
use Rattle.calls.specs.Calls.{is_refused, AreBytes, Reply, refused, done, written_over}
use Rattle.acorn_model.specs.Machine.{key_length}
use Rattle.acorn_model.specs.Message.{sealed}
use Rattle.acorn_model.specs.RefusalCases.{string}
use Rattle.tape_model.specs.declared.Ticket.{Ticket}
use Rattle.tape_model.specs.declared.Head.{Head}
use Rattle.tape_model.specs.Format.{total_width, widths, join, cut, Fit, byte_widths, pack, bit_string, unpack}
use Rattle.tape_model.specs.Ticket.{ticket_length, ticket_values, ticket_rule, pack_ticket, unpack_ticket, head_format, head_values, head_rule, pack_head, unpack_head, write_rule, format_of, form_in, head_values_in}
use Rattle.tape_model.specs.Tape.{unpack_tickets, ticket_limit, nonce_of, pack_tickets, tape_of, is_tickets_length, total_net, Totals, plain_totals, open_tape_refusal, open_tape, plain_tickets, of_plain, of_two_plain}
use Rattle.tape_model.specs.Writer.{PlainWriter, WriterCall, start, add, finish, refusal, writer_call}
use Rattle.tape_model.specs.Reader.{Reading, ticket, at_end, Reader, reader_over, read_next}
use Rattle.tape_model.specs.Listing.{decimal, head_line, ticket_lines, line_of_totals, total_line, refused_line, listed, listing, printed, example_text, second_ticket, two_tickets_text, refused_text}
use Rattle.tape_model.specs.Cases.{ticket_with}
use Rattle.tape_model.specs.RefusalCases.{good_head, bad_ticket, last_byte_c1}

-- ## Formats, over every list of widths

pub record FormatLaws : Type 0 where
  -- values that fit one list of widths, cut anew by another of as many bits, come back: packing and unpacking are both such cuts
  pub recut : (ws us vs : List ℕ) → total_width us ≡ total_width ws → Fit ws vs → cut ws (join us (cut us (join ws vs))) ≡ vs
  -- the bits of the packed bytes, each byte from its most significant bit, are the bits of the values, each from its most significant bit
  pub bit-by-bit : (ws : List ℕ) (n : ℕ) (vs : List ℕ) → total_width (byte_widths n) ≡ total_width ws → Fit ws vs
      → bit_string (byte_widths n) (pack ws n vs) ≡ bit_string ws vs

-- ## Tickets and heads

-- unpacking undoes packing on what the rule allows, and packing undoes unpacking where it accepts
pub record Inverse {A : Type 0} (rule : A → Bool) (packed : A → List ℕ) (unpacked : List ℕ → Reply A) : Type 0 where
  pub unpack-pack : (a : A) → rule a ≡ true → unpacked (packed a) ≡ done a
  pub pack-unpack : (string : List ℕ) (a : A) → AreBytes string → unpacked string ≡ done a → (rule a ≡ true) × (packed a ≡ string)

-- every ticket of a list is valid
abbrev pub Valid : List Ticket → Type 0
Valid [] = Unit {0}
Valid (t ∷ ts) = (ticket_rule t ≡ true) × Valid ts

-- every ticket of a list may be written
abbrev pub Writable : List Ticket → Type 0
Writable [] = Unit {0}
Writable (t ∷ ts) = (write_rule t ≡ true) × Writable ts

pub record TicketLaws : Type 0 where
  pub tickets : Inverse ticket_rule pack_ticket unpack_ticket
  pub heads : Inverse head_rule pack_head unpack_head
  -- 104 bits in 13 bytes, and 72 bits in 9, from the most significant bit of each field and byte
  pub ticket_bits : (t : Ticket) → ticket_rule t ≡ true → bit_string (byte_widths 13) (pack_ticket t) ≡ bit_string (widths (format_of t.form)) (ticket_values t)
  pub ticket_width : (form : ℕ) → total_width (widths (format_of form)) ≡ 104
  pub head_bits : (h : Head) → Fit (widths head_format) (head_values h) → bit_string (byte_widths 9) (pack_head h) ≡ bit_string (widths head_format) (head_values h)
  pub head_width : total_width (widths head_format) ≡ 72
  -- a head in its ranges fits its fields' widths, and one that fits, in its ranges or not, comes back from its bytes as its values
  pub head_fit : (h : Head) → head_rule h ≡ true → Fit (widths head_format) (head_values h)
  pub head-values : (h : Head) → Fit (widths head_format) (head_values h) → head_values_in (pack_head h) ≡ head_values h
  -- a valid ticket's form is 1 or 2, and the form in its packed bytes is its own
  pub two_forms : (t : Ticket) → ticket_rule t ≡ true → (t.form ≡ 1) ⊎ (t.form ≡ 2)
  pub form_packed : (t : Ticket) → ticket_rule t ≡ true → form_in (pack_ticket t) ≡ t.form
  -- bytes with another form do not unpack
  pub other_form : (string : List ℕ) → AreBytes string → length string ≡ ticket_length → (form_in string ≡ 1 → ⊥) → (form_in string ≡ 2 → ⊥) → unpack_ticket string ≡ refused 8
  -- the first four bits choose the table: they are the form, by whichever form's fields the rest is read; in bytes, the upper half of the first
  pub form_first : (form : ℕ) (string : List ℕ) → get_or (unpack (widths (format_of form)) string) 0 0 ≡ form_in string
  pub form_in_bytes : (string : List ℕ) → AreBytes string → length string ≡ ticket_length → form_in string ≡ get_or string 0 0 / 16
  -- a tape's nonce: its packed head, filled up with zeros
  pub nonce : (h : Head) → nonce_of (pack_head h) ≡ pack_head h ++ (0 ∷ 0 ∷ 0 ∷ 0 ∷ 0 ∷ 0 ∷ 0 ∷ [])
  -- the total net of one ticket is its gross minus its tare, and that of two lists together is the sum
  pub net-one : (t : Ticket) → total_net (t ∷ []) ≡ t.gross - t.tare
  pub net-append : (ts us : List Ticket) → total_net (ts ++ us) ≡ total_net ts + total_net us
  -- no two valid tickets, and no two heads, are packed alike
  pub ticket_injective : (t u : Ticket) → ticket_rule t ≡ true → ticket_rule u ≡ true → pack_ticket t ≡ pack_ticket u → t ≡ u
  pub head_injective : (h i : Head) → head_rule h ≡ true → head_rule i ≡ true → pack_head h ≡ pack_head i → h ≡ i
  -- what may be written is valid, and every valid ticket may be written: one ticket, and a list
  pub writable_valid : (t : Ticket) → write_rule t ≡ true → ticket_rule t ≡ true
  pub all_writable_valid : (ts : List Ticket) → Writable ts → Valid ts
  pub valid_writable : (t : Ticket) → ticket_rule t ≡ true → write_rule t ≡ true
  pub all_valid_writable : (ts : List Ticket) → Valid ts → Writable ts

-- ## Tapes

-- the answers of so many calls of a reader, and the reader after them
abbrev pub readings : ℕ → Reader → List (Reply Reading)
readings zero r = []
readings (suc n) r = (read_next r).answer ∷ readings n (read_next r).next

abbrev pub reader_after : ℕ → Reader → Reader
reader_after zero r = r
reader_after (suc n) r = reader_after n (read_next r).next

abbrev pub as_readings : List Ticket → List (Reply Reading)
as_readings [] = []
as_readings (t ∷ ts) = done (ticket t) ∷ as_readings ts

-- for a key of 16 bytes, a head in its ranges and at most 5,000 valid tickets
pub record TapeLaws (key : List ℕ) (head : Head) (tickets : List Ticket) : Type 0 where
  pub size : length (tape_of key head tickets) ≡ 25 + 13 * length tickets
  -- the tape opens to the plain bytes, with the number of tickets and their total net
  pub opens : (out : List ℕ) → 13 * length tickets ≤ length out
      → open_tape key (tape_of key head tickets) out
      ≡ record { answer = done (record { tickets = length tickets; net = total_net tickets }); out = written_over (pack_tickets tickets) out }
  pub totals : plain_totals (pack_tickets tickets) ≡ done (record { tickets = length tickets; net = total_net tickets })
  -- a reader over the plain bytes hands out the tickets in turn, and then stays at the end
  pub reads : readings (length tickets) (reader_over (pack_tickets tickets)) ≡ as_readings tickets
  pub ends : (n : ℕ) → (read_next (reader_after (length tickets + n) (reader_over (pack_tickets tickets)))).answer ≡ done at_end
  -- key and tape are listed, with the same number and total
  pub lists : printed (key ++ tape_of key head tickets) ≡ head_line head ++ ticket_lines 1 tickets ++ line_of_totals (length tickets) (total_net tickets)

abbrev pub TapesComeBack : Type 0
TapesComeBack = (key : List ℕ) (head : Head) (tickets : List Ticket)
    → length key ≡ key_length → head_rule head ≡ true → Valid tickets → length tickets ≤ ticket_limit → TapeLaws key head tickets

-- ## Tapes that open

-- the tape is that of this head and these tickets, and opening it into `out` answered their totals and left `after`
pub record OpensAs (key tape out : List ℕ) (totals : Totals) (after : List ℕ) (head : Head) (tickets : List Ticket) : Type 0 where
  pub key-length : length key ≡ key_length
  pub head-right : head_rule head ≡ true
  pub valid : Valid tickets
  pub few : length tickets ≤ ticket_limit
  pub room : 13 * length tickets ≤ length out
  pub tape-is : tape ≡ tape_of key head tickets
  pub answered : totals ≡ record { tickets = length tickets; net = total_net tickets }
  pub written : after ≡ written_over (pack_tickets tickets) out

-- opening and writing undo each other
pub record TapesOpenExactly : Type 0 where
  -- bytes open exactly where they are the tape of a right head and at most 5,000 valid tickets
  pub exactly : (key tape out : List ℕ) (totals : Totals) (after : List ℕ) → AreBytes tape
      → (open_tape key tape out ≡ record { answer = done totals; out = after })
      ↔ ((head : Head) × (tickets : List Ticket) × OpensAs key tape out totals after head tickets)
  -- what opens is listed, and the line of totals has the numbers that the opening answered
  pub lists : (key tape out : List ℕ) (totals : Totals) (after : List ℕ) (head : Head) (tickets : List Ticket) → OpensAs key tape out totals after head tickets
      → printed (key ++ tape) ≡ head_line head ++ ticket_lines 1 tickets ++ line_of_totals totals.tickets totals.net

-- ## What opened bytes hold

pub record PlainLaws : Type 0 where
  -- at most 5,000 valid tickets and their plain bytes give each other back
  pub packed : (tickets : List Ticket) → Valid tickets → length tickets ≤ ticket_limit → plain_tickets (pack_tickets tickets) ≡ done tickets
  pub held : (string : List ℕ) (tickets : List Ticket) → AreBytes string → plain_tickets string ≡ done tickets
      → Valid tickets × (length tickets ≤ ticket_limit) × (pack_tickets tickets ≡ string)
  -- 2 exactly for a wrong length; else what each 13 of the bytes unpack to, with 8 exactly where one does not
  pub two : (string : List ℕ) → (plain_tickets string ≡ refused 2) ↔ (is_tickets_length (length string) ≡ false)
  pub unpacks : (string : List ℕ) → is_tickets_length (length string) ≡ true → plain_tickets string ≡ unpack_tickets (length string / ticket_length) string
  pub eight : (string : List ℕ) → (plain_tickets string ≡ refused 8)
      ↔ ((is_tickets_length (length string) ≡ true) × (is_refused (unpack_tickets (length string / ticket_length) string) ≡ true))
  -- and no other number
  pub no_other : (string : List ℕ) (n : ℕ) → plain_tickets string ≡ refused n → is_tickets_length (length string) ≡ true → n ≡ 8
  -- the bytes that an opening wrote hold tickets of the totals that it answered
  pub opened : (key tape out : List ℕ) (totals : Totals) (after : List ℕ) → open_tape key tape out ≡ record { answer = done totals; out = after }
      → plain_totals (take (ticket_length * totals.tickets) after) ≡ done totals

-- any function of the tickets that opened bytes hold: it is answered of them, and a refusal is passed on
pub record OfPlainLaws {A : Type 0} (f : List Ticket → A) : Type 0 where
  pub answered : (string : List ℕ) (tickets : List Ticket) → plain_tickets string ≡ done tickets → of_plain f string ≡ done (f tickets)
  pub number : (string : List ℕ) (n : ℕ) → (of_plain f string ≡ refused n) ↔ (plain_tickets string ≡ refused n)
  -- of the bytes that an opening wrote it is answered of the tape's tickets
  pub opened : (key tape out : List ℕ) (totals : Totals) (after : List ℕ) (head : Head) (tickets : List Ticket) → OpensAs key tape out totals after head tickets
      → of_plain f (take (ticket_length * totals.tickets) after) ≡ done (f tickets)

-- and any function of the tickets of two opened tapes
pub record OfTwoPlainLaws {A : Type 0} (f : List Ticket → List Ticket → A) : Type 0 where
  pub answered : (first second : List ℕ) (ts us : List Ticket) → plain_tickets first ≡ done ts → plain_tickets second ≡ done us
      → of_two_plain f first second ≡ done (f ts us)
  -- 2 exactly where one of the lengths is wrong; 8 exactly where both are right and a ticket of one of the tapes does not unpack
  pub two : (first second : List ℕ) → (of_two_plain f first second ≡ refused 2)
      ↔ ((is_tickets_length (length first) && is_tickets_length (length second)) ≡ false)
  pub eight : (first second : List ℕ) → (of_two_plain f first second ≡ refused 8)
      ↔ (((is_tickets_length (length first) && is_tickets_length (length second)) ≡ true)
      × ((is_refused (plain_tickets first) || is_refused (plain_tickets second)) ≡ true))
  -- and no other number
  pub no_other : (first second : List ℕ) (n : ℕ) → of_two_plain f first second ≡ refused n → (n ≡ 2) ⊎ (n ≡ 8)

-- ## A ticket that does not unpack

-- plain bytes sealed as a tape's, whatever they are
abbrev pub tape_with_text : List ℕ → Head → List ℕ → List ℕ
tape_with_text key head text = pack_head head ++ sealed key (nonce_of (pack_head head)) (pack_head head) text

pub record BadTickets : Type 0 where
  -- the tag matches, and a ticket does not unpack: 8, and nothing is written
  pub eight : (key : List ℕ) (head : Head) (text out : List ℕ) → length key ≡ key_length → head_rule head ≡ true → AreBytes text
      → length text ≤ length out → plain_tickets text ≡ refused 8
      → open_tape key (tape_with_text key head text) out ≡ record { answer = refused 8; out = out }
  -- document 01's example
  pub last_byte-C1 : (key out : List ℕ) → length key ≡ key_length → 13 ≤ length out
      → open_tape key (tape_with_text key good_head last_byte_c1) out ≡ record { answer = refused 8; out = out }
  -- tare 6, gross 5
  pub tare_above : (key out : List ℕ) → length key ≡ key_length → 13 ≤ length out
      → open_tape key (tape_with_text key good_head (pack_ticket bad_ticket)) out ≡ record { answer = refused 8; out = out }
  -- 13 bytes whose form is not 1 or 2, whatever else they hold
  pub other_form : (key : List ℕ) (head : Head) (string out : List ℕ) → length key ≡ key_length → head_rule head ≡ true → AreBytes string → length string ≡ ticket_length
      → ticket_length ≤ length out → (form_in string ≡ 1 → ⊥) → (form_in string ≡ 2 → ⊥)
      → open_tape key (tape_with_text key head string) out ≡ record { answer = refused 8; out = out }

-- ## The plain writer

-- where a number applies, the call answers it, and the writer and the call's output stay as they are
abbrev pub WriterSentBack : PlainWriter → WriterCall → List ℕ → Type 0
WriterSentBack w c out = (n : ℕ) → refusal w c ≡ suc n → writer_call w c ≡ record { next = w; answer = refused (suc n); out = out }

pub record WriterSentBackLaws (w : PlainWriter) : Type 0 where
  pub of_start : (key : List ℕ) (head : Head) (out : List ℕ) → WriterSentBack w (start key head out) out
  pub of_add : (t : Ticket) (out : List ℕ) → WriterSentBack w (add t out) out
  pub of_finish : (out : List ℕ) → WriterSentBack w (finish out) out

-- ## The listing

-- the number that decimal digits make, after the number a
abbrev pub value_after : ℕ → List ℕ → ℕ
value_after a [] = a
value_after a (d ∷ ds) = value_after (10 * a + (d - 0x30)) ds

pub record ListingLaws : Type 0 where
  -- what is printed of a number are decimal digits, of which the first is no zero but for the number 0, and they make the number
  pub digits : (n : ℕ) → n < 10 ^ 20 → (i : ℕ) → i < length (decimal n) → (0x30 ≤ get_or (decimal n) i 0) × (get_or (decimal n) i 0 ≤ 0x39)
  pub leading : (n : ℕ) → n < 10 ^ 20 → 0 < n → 0x30 < get_or (decimal n) 0 0
  pub value : (n : ℕ) → n < 10 ^ 20 → value_after 0 (decimal n) ≡ n
  pub zero_digit : decimal 0 ≡ 0x30 ∷ []
  -- positions go up by one: behind other tickets the lines go on from their number
  pub positions : (position : ℕ) (ts us : List Ticket) → ticket_lines position (ts ++ us) ≡ ticket_lines position ts ++ ticket_lines (position + length ts) us
  -- the line of totals has those of all tickets
  pub totals_none : total_line [] ≡ line_of_totals 0 0
  pub totals : (ts us : List Ticket) → total_line (ts ++ us) ≡ line_of_totals (length ts + length us) (total_net ts + total_net us)
  -- a refusal is printed alone; a key cut short is 2
  pub refusal : (key tape : List ℕ) (n : ℕ) → open_tape_refusal key tape (replicate (length tape) 0) ≡ suc n → listing key tape ≡ refused_line (suc n)
  pub short_key : (input : List ℕ) → length input < key_length → printed input ≡ refused_line 2
  -- document 01's example
  pub example : listed (done (record { device = 7; shift = 2; sheet = 1 })) (ticket_with 3600 4200 250000 110000 ∷ []) ≡ example_text
  -- and of two tickets
  pub two_tickets : listed (done (record { device = 7; shift = 2; sheet = 1 })) (ticket_with 3600 4200 250000 110000 ∷ second_ticket ∷ []) ≡ two_tickets_text
  -- a key and a tape of 37 bytes
  pub refused_example : printed (string 16 ++ string 37) ≡ refused_text
