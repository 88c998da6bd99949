-- Document 01, "Ticket, head, tape", on the listing: the text that the listing program prints for a key and a tape, as ASCII bytes.
use Rattle.std.specs.Prelude.{List, [], ◌∷◌, ◌++◌, ℕ, zero, suc, ◌+◌, ◌/◌, ◌%◌, ltb, length, take, drop, replicate}
use Rattle.calls.specs.Calls.{◌if◌else◌, Reply, refused, done}
use Rattle.acorn_model.specs.Machine.{key_length}
use Rattle.tape_model.specs.declared.Ticket.{Ticket}
use Rattle.tape_model.specs.declared.Head.{Head}
use Rattle.tape_model.specs.Ticket.{net, unpack_head}
use Rattle.tape_model.specs.Tape.{total_net, plain_tickets, tickets_in, head_bytes, plain_bytes, open_tape_refusal}

-- ## Words and numbers

-- 'TAPE', 'TOTAL', 'REFUSED'
abbrev pub word_tape : List ℕ
word_tape = 0x54 ∷ 0x41 ∷ 0x50 ∷ 0x45 ∷ []

abbrev pub word_total : List ℕ
word_total = 0x54 ∷ 0x4f ∷ 0x54 ∷ 0x41 ∷ 0x4c ∷ []

abbrev pub word_refused : List ℕ
word_refused = 0x52 ∷ 0x45 ∷ 0x46 ∷ 0x55 ∷ 0x53 ∷ 0x45 ∷ 0x44 ∷ []

abbrev pub space : List ℕ
space = 0x20 ∷ []

abbrev pub line_end : List ℕ
line_end = 0x0a ∷ []

-- a number below 10 ^ k in decimal, without leading zeros
unfoldable pub decimal_below : ℕ → ℕ → List ℕ
decimal_below zero n = []
decimal_below (suc k) n = ((0x30 + n) ∷ []) if ltb n 10 else (decimal_below k (n / 10) ++ ((0x30 + n % 10) ∷ []))

-- every number that is listed is below 10 ^ 20
abbrev pub decimal : ℕ → List ℕ
decimal n = decimal_below 20 n

-- numbers, a space before each
unfoldable pub numbers : List ℕ → List ℕ
numbers [] = []
numbers (n ∷ ns) = space ++ decimal n ++ numbers ns

-- ## Lines

unfoldable pub head_line : Head → List ℕ
head_line h = word_tape ++ numbers (h.device ∷ h.shift ∷ h.sheet ∷ []) ++ line_end

-- truck, shovel, tip point, grade, loaded, tipped, net
abbrev pub listed_numbers : Ticket → List ℕ
listed_numbers t = t.truck ∷ t.shovel ∷ t.tip ∷ t.grade ∷ t.loaded ∷ t.tipped ∷ net t ∷ []

-- the position, counted from 1, and the ticket's numbers
unfoldable pub ticket_line : ℕ → Ticket → List ℕ
ticket_line position t = decimal position ++ numbers (listed_numbers t) ++ line_end

unfoldable pub ticket_lines : ℕ → List Ticket → List ℕ
ticket_lines position [] = []
ticket_lines position (t ∷ ts) = ticket_line position t ++ ticket_lines (position + 1) ts

-- by the number of tickets and their total net
abbrev pub line_of_totals : ℕ → ℕ → List ℕ
line_of_totals tickets net = word_total ++ numbers (tickets ∷ net ∷ []) ++ line_end

unfoldable pub total_line : List Ticket → List ℕ
total_line ts = line_of_totals (length ts) (total_net ts)

unfoldable pub refused_line : ℕ → List ℕ
refused_line n = word_refused ++ numbers (n ∷ []) ++ line_end

-- ## The listing

unfoldable pub listed : Reply Head → List Ticket → List ℕ
listed (refused n) ts = refused_line n
listed (done h) ts = head_line h ++ ticket_lines 1 ts ++ total_line ts

-- by the number that refuses to open the tape: the tape's head and these tickets listed, or the refusal alone
abbrev pub listed_unless : ℕ → Reply (List Ticket) → List ℕ → List ℕ
listed_unless zero tickets tape = listed (unpack_head (head_bytes tape)) (tickets_in tickets)
listed_unless (suc n) tickets tape = refused_line (suc n)

unfoldable pub listing_unless : ℕ → List ℕ → List ℕ → List ℕ
listing_unless number key tape = listed_unless number (plain_tickets (plain_bytes key tape)) tape

-- the tape is opened into room enough for its plain bytes
unfoldable pub listing : List ℕ → List ℕ → List ℕ
listing key tape = listing_unless (open_tape_refusal key tape (replicate (length tape) 0)) key tape

-- what is printed for the bytes on standard input: the key's 16, or fewer where it is cut short, and then a tape
unfoldable pub printed : List ℕ → List ℕ
printed input = listing (take key_length input) (drop key_length input)

-- ## Document 01's example

-- 'TAPE 7 2 1', '1 5 2 3 4 3600 4200 140000' and 'TOTAL 1 140000', a line each
abbrev pub example_text : List ℕ
example_text =
    (0x54 ∷ 0x41 ∷ 0x50 ∷ 0x45 ∷ 0x20 ∷ 0x37 ∷ 0x20 ∷ 0x32 ∷ 0x20 ∷ 0x31 ∷ 0x0a ∷ [])
    ++ (0x31 ∷ 0x20 ∷ 0x35 ∷ 0x20 ∷ 0x32 ∷ 0x20 ∷ 0x33 ∷ 0x20 ∷ 0x34 ∷ 0x20 ∷ 0x33 ∷ 0x36 ∷ 0x30 ∷ 0x30 ∷ 0x20 ∷ 0x34 ∷ 0x32 ∷ 0x30 ∷ 0x30 ∷ 0x20 ∷ 0x31 ∷ 0x34 ∷ 0x30 ∷ 0x30 ∷ 0x30 ∷ 0x30 ∷ 0x0a ∷ [])
    ++ (0x54 ∷ 0x4f ∷ 0x54 ∷ 0x41 ∷ 0x4c ∷ 0x20 ∷ 0x31 ∷ 0x20 ∷ 0x31 ∷ 0x34 ∷ 0x30 ∷ 0x30 ∷ 0x30 ∷ 0x30 ∷ 0x0a ∷ [])

-- ## An example of two tickets

-- behind document 01's ticket
abbrev pub second_ticket : Ticket
second_ticket = record { form = 1; truck = 12; shovel = 1; tip = 63; grade = 0; loaded = 4000; tipped = 4100; gross = 90501; tare = 30404 }

-- 'TAPE 7 2 1', '1 5 2 3 4 3600 4200 140000', '2 12 1 63 0 4000 4100 60097' and 'TOTAL 2 200097', a line each
abbrev pub two_tickets_text : List ℕ
two_tickets_text =
    (0x54 ∷ 0x41 ∷ 0x50 ∷ 0x45 ∷ 0x20 ∷ 0x37 ∷ 0x20 ∷ 0x32 ∷ 0x20 ∷ 0x31 ∷ 0x0a ∷ [])
    ++ (0x31 ∷ 0x20 ∷ 0x35 ∷ 0x20 ∷ 0x32 ∷ 0x20 ∷ 0x33 ∷ 0x20 ∷ 0x34 ∷ 0x20 ∷ 0x33 ∷ 0x36 ∷ 0x30 ∷ 0x30 ∷ 0x20 ∷ 0x34 ∷ 0x32 ∷ 0x30 ∷ 0x30 ∷ 0x20 ∷ 0x31 ∷ 0x34 ∷ 0x30 ∷ 0x30 ∷ 0x30 ∷ 0x30 ∷ 0x0a ∷ [])
    ++ (0x32 ∷ 0x20 ∷ 0x31 ∷ 0x32 ∷ 0x20 ∷ 0x31 ∷ 0x20 ∷ 0x36 ∷ 0x33 ∷ 0x20 ∷ 0x30 ∷ 0x20 ∷ 0x34 ∷ 0x30 ∷ 0x30 ∷ 0x30 ∷ 0x20 ∷ 0x34 ∷ 0x31 ∷ 0x30 ∷ 0x30 ∷ 0x20 ∷ 0x36 ∷ 0x30 ∷ 0x30 ∷ 0x39 ∷ 0x37 ∷ 0x0a ∷ [])
    ++ (0x54 ∷ 0x4f ∷ 0x54 ∷ 0x41 ∷ 0x4c ∷ 0x20 ∷ 0x32 ∷ 0x20 ∷ 0x32 ∷ 0x30 ∷ 0x30 ∷ 0x30 ∷ 0x39 ∷ 0x37 ∷ 0x0a ∷ [])

-- ## A refusal

-- 'REFUSED 2', a line
abbrev pub refused_text : List ℕ
refused_text = 0x52 ∷ 0x45 ∷ 0x46 ∷ 0x55 ∷ 0x53 ∷ 0x45 ∷ 0x44 ∷ 0x20 ∷ 0x32 ∷ 0x0a ∷ []
