-- The demands on the interface for C, from what a caller sees of each call (`haul_tape/specs/Clauses`) and from nothing else.
use Rattle.std.specs.Prelude.{◌≡◌, true, false, List, [], ◌∷◌, ◌++◌, ◌↔◌, ℕ, zero, suc, ◌+◌, ◌-◌, ◌*◌, ◌≤◌, eqb, ltb, length, take}
use Rattle.acorn_model.specs.declared.Kind.{Kind}
use Rattle.acorn_model.specs.Bits.{Bits, bits_in, bytes}
use Rattle.calls.specs.Calls.{◌if◌else◌, Reply, refused, done, Work, AreBytes, accepted, written_over}
use Rattle.calls.specs.Lists.{Entry, calls_of, handed_on, CallsMade, AllAccepted}
use Rattle.acorn_model.specs.Stretches.{full_tag_length}
use Rattle.acorn_model.specs.Machine.{Call, fresh, call, output_of, least_tag_length, key_length, nonce_length, byte_limit}
use Rattle.acorn_model.specs.Message.{tag_matches_with, seal_refusal, open_refusal}
use Rattle.acorn_model.specs.Lists.{Ended}
use Rattle.acorn_model.specs.Laws.{ByPaper, WithinLimits}
use Rattle.tape_model.specs.declared.Ticket.{Ticket}
use Rattle.tape_model.specs.declared.Head.{Head}
use Rattle.tape_model.specs.declared.WriterPhase.TheVariants.{Closed}
use Rattle.tape_model.specs.Ticket.{no_ticket, ticket_length, ticket_rule, pack_ticket_refusal, unpack_ticket_refusal, pack_ticket, head_length, head_rule, pack_head_refusal, unpack_head_refusal, pack_head}
use Rattle.tape_model.specs.Tape.{ticket_limit, pack_tickets, tape_of, total_net, open_tape_refusal}
use Rattle.tape_model.specs.Writer.{WriterCall, fresh_writer, writer_call}
use Rattle.tape_model.specs.Writer as plain
use Rattle.tape_model.specs.WriterLists.{Started, writer_log}
use Rattle.tape_model.specs.Listing.{listing}
use Rattle.tape_model.specs.Laws.{Writable}
use Rattle.call_lists.specs.WriterLists.{TapeOutputs, RoomFor, tape_calls}
use Rattle.session.specs.Words.{machine_in, words_for}
use Rattle.tape_writer.specs.Words.{plain_writer_in, writer_words_for}
use Rattle.reader.specs.Clauses.{reader_at}
use Rattle.c_answers.specs.declared.HtAnswer.{HtAnswer}
use Rattle.c_answers.specs.declared.HtWritten.{HtWritten}
use Rattle.c_answers.specs.declared.HtOpened.{HtOpened}
use Rattle.c_answers.specs.declared.HtUnpackedTicket.{HtUnpackedTicket}
use Rattle.c_answers.specs.declared.HtUnpackedHead.{HtUnpackedHead}
use Rattle.c_answers.specs.declared.HtReading.{HtReading}
use Rattle.c_answers.specs.Answers.{written_numbers, answer_numbers, opened_numbers, ticket_numbers, head_numbers}
use Rattle.haul_tape.specs.Clauses.{SessionSeen, WriterSeen, SealSeen, OpenSeen, PackTicketSeen, UnpackTicketSeen, PackHeadSeen, UnpackHeadSeen, OpenTapeSeen, ReadTicketSeen, ListTapeSeen}
use Rattle.demands.specs.SessionFacts.{SessionFacts, CutsAgree}
use Rattle.demands.specs.Writers.{WriterFacts}
use Rattle.demands.specs.Refusals.{session_number, reader_number}

-- ## Demands 3 and 2: lists of calls on the words of a session or a writer

-- what an exported call gives back: the words after it, and its answer in numbers
pub record Exported : Type 0 where
  pub words : List ℕ
  pub answer : HtAnswer

-- the reply that these numbers tell
unfoldable pub reply_in : HtAnswer → Reply Work
reply_in a = done (record { bytes = a.bytes; steps = a.steps }) if eqb a.refused 0 else refused a.refused

-- a list of exported calls on the words of a fresh session of this kind, which led to the words e; and on those of a fresh writer
abbrev pub SessionWords : Kind → List (Entry Call Work) → List ℕ → Type 0
SessionWords kind es e =
    CallsMade {R = Exported} (λ r. r.words) (λ r. reply_in r.answer) (λ words c r out. SessionSeen words c r.words r.answer out) (words_for (fresh kind)) es e

abbrev pub WriterWords : List (Entry WriterCall Work) → List ℕ → Type 0
WriterWords es e =
    CallsMade {R = Exported} (λ r. r.words) (λ r. reply_in r.answer) (λ words c r out. WriterSeen words c r.words r.answer out) (writer_words_for fresh_writer) es e

pub record ListExports : Type 0 where
  -- a session's list has the answers, the outputs, the count, the paper's bytes and the verdict that are demanded of the methods' lists; and the words
  -- at its end are those of the machine
  pub sessions : (kind : Kind) (es : List (Entry Call Work)) (e : List ℕ) → SessionWords kind es e
      → SessionFacts kind es (machine_in e) × (e ≡ words_for (handed_on call (fresh kind) (calls_of es)))
  -- wherever the pieces are cut
  pub cuts : (kind : Kind) (es es' : List (Entry Call Work)) (e e' : List ℕ) → SessionWords kind es e → SessionWords kind es' e'
      → CutsAgree kind es (machine_in e) es' (machine_in e')
  -- a writer's list has the answers, the outputs, the count, the bytes and the tape that are demanded of the methods' lists
  pub writers : (es : List (Entry WriterCall Work)) (e : List ℕ) → WriterWords es e
      → WriterFacts es (plain_writer_in e) × (e ≡ writer_words_for (handed_on writer_call fresh_writer (calls_of es)))
  -- every list of calls can be made
  pub sessions_exist : (kind : Kind) (cs : List Call) → (es : List (Entry Call Work)) × (e : List ℕ) × SessionWords kind es e × (calls_of es ≡ cs)
  pub writers_exist : (cs : List WriterCall) → (es : List (Entry WriterCall Work)) × (e : List ℕ) × WriterWords es e × (calls_of es ≡ cs)

-- ## Demand 1: numbers

-- the number told is n, the first that applies, or 0 where none does; a refused call is answered that number and zeros beside it, and leaves
-- `after` in the output that was `out`
pub record NumberTold {A N : Type 0} (numbers : Reply A → N) (number : N → ℕ) (n : ℕ) (r : N) (out after : List ℕ) : Type 0 where
  pub told : number r ≡ n
  pub answer : (n ≡ accepted → ⊥) → r ≡ numbers (refused n)
  pub unchanged : (n ≡ accepted → ⊥) → after ≡ out

-- a call on any words of a session
module _ (words : List ℕ) (c : Call) (after : List ℕ) (r : HtAnswer) (out : List ℕ) where
  pub record SessionNumbers : Type 0 where
    pub number : r.refused ≡ session_number (machine_in words) c
    -- a refused call is answered its number, and zeros beside it
    pub answer : (r.refused ≡ accepted → ⊥) → r ≡ answer_numbers (refused r.refused)
    -- a refused call leaves words and lent bytes unchanged, but for 7
    pub unchanged : (r.refused ≡ accepted → ⊥) → (r.refused ≡ 7 → ⊥) → (after ≡ words) × (out ≡ output_of c)
    -- with 7 the session has ended, and lent bytes are unchanged
    pub seven : r.refused ≡ 7 → Ended (machine_in after) × (out ≡ output_of c)

-- a call on any words of a writer
module _ (words : List ℕ) (c : WriterCall) (after : List ℕ) (r : HtAnswer) (out : List ℕ) where
  pub record WriterNumbers : Type 0 where
    -- where a number applies, the smallest is answered
    pub number : (n : ℕ) → plain.refusal (plain_writer_in words) c ≡ suc n → r.refused ≡ suc n
    -- and only then, on words that calls led to from a fresh writer's
    pub exactly : (es : List (Entry WriterCall Work)) → WriterWords es words → r.refused ≡ plain.refusal (plain_writer_in words) c
    -- a refused call is answered its number, and zeros beside it; it leaves words and lent bytes unchanged
    pub answer : (r.refused ≡ accepted → ⊥) → r ≡ answer_numbers (refused r.refused)
    pub unchanged : (r.refused ≡ accepted → ⊥) → (after ≡ words) × (out ≡ plain.output_of c)

pub record NumberExports : Type 0 where
  pub sessions : (words : List ℕ) (c : Call) (after : List ℕ) (r : HtAnswer) (out : List ℕ)
      → SessionSeen words c after r out → SessionNumbers words c after r out
  pub writers : (words : List ℕ) (c : WriterCall) (after : List ℕ) (r : HtAnswer) (out : List ℕ)
      → WriterSeen words c after r out → WriterNumbers words c after r out
  -- whole messages
  pub sealing : (tag_length : ℕ) (key nonce «data» text out after : List ℕ) (r : HtWritten) → SealSeen tag_length key nonce «data» text out r after
      → NumberTold written_numbers (λ h. h.refused) (seal_refusal tag_length key nonce «data» text out) r out after
  pub opening : (tag_length : ℕ) (key nonce «data» sealed_bytes out after : List ℕ) (r : HtWritten) → OpenSeen tag_length key nonce «data» sealed_bytes out r after
      → NumberTold written_numbers (λ h. h.refused) (open_refusal tag_length key nonce «data» sealed_bytes out) r out after
  -- tapes
  pub opening_tapes : (key tape out after : List ℕ) (r : HtOpened) → OpenTapeSeen key tape out r after
      → NumberTold opened_numbers (λ h. h.refused) (open_tape_refusal key tape out) r out after
  pub listing_tapes : (key tape out after : List ℕ) (r : HtWritten) → ListTapeSeen key tape out r after
      → NumberTold written_numbers (λ h. h.refused) (6 if ltb (length out) (length (listing key tape)) else accepted) r out after
  -- tickets and heads by themselves; unpacking is lent no output
  pub packing : (t : Ticket) (out after : List ℕ) (r : HtWritten) → PackTicketSeen t out r after
      → NumberTold written_numbers (λ h. h.refused) (pack_ticket_refusal t out) r out after
  pub packing_heads : (h : Head) (out after : List ℕ) (r : HtWritten) → PackHeadSeen h out r after
      → NumberTold written_numbers (λ h. h.refused) (pack_head_refusal h out) r out after
  pub unpacking : (string : List ℕ) (r : HtUnpackedTicket) → UnpackTicketSeen string r
      → NumberTold ticket_numbers (λ h. h.refused) (unpack_ticket_refusal string) r [] []
  pub unpacking_heads : (string : List ℕ) (r : HtUnpackedHead) → UnpackHeadSeen string r
      → NumberTold head_numbers (λ h. h.refused) (unpack_head_refusal string) r [] []
  -- a refused reading leaves its position
  pub reading : (string : List ℕ) (position : ℕ) (r : HtReading) → ReadTicketSeen string position r
      → (r.refused ≡ reader_number (reader_at string position)) × ((r.refused ≡ accepted → ⊥) → r.position ≡ position)

-- ## Demand 2: whole messages, with a tag of any length from 8 to 16

module _ (tag_length : ℕ) (key nonce «data» : List ℕ) where
  pub record MessageExports : Type 0 where
    -- within the limits, with an output long enough, what is written is ciphertext and then tag, by the paper's relation and by nothing else
    pub sealing : (text out after : List ℕ) (r : HtWritten) → SealSeen tag_length key nonce «data» text out r after
        → WithinLimits tag_length key nonce «data» text → length text + tag_length ≤ length out
        → (c T : Bits) → ByPaper tag_length key nonce «data» (length text) (bits_in text) c T
        → (r ≡ record { refused = 0; bytes = length text + tag_length }) × (after ≡ written_over (bytes (length text) c ++ bytes tag_length T) out)
    -- a text is given exactly when the sealed bytes are the paper's ciphertext and tag of it
    pub opening : (sealed_bytes text out after : List ℕ) (r : HtWritten) → AreBytes sealed_bytes → AreBytes text
        → WithinLimits tag_length key nonce «data» text → length text ≤ length out → OpenSeen tag_length key nonce «data» sealed_bytes out r after
        → (c T : Bits) → ByPaper tag_length key nonce «data» (length text) (bits_in text) c T
        → ((r ≡ record { refused = 0; bytes = length text }) × (after ≡ written_over text out)) ↔ (sealed_bytes ≡ bytes (length text) c ++ bytes tag_length T)
    -- where the tag is not the new one and neither 9 nor a smaller number applies, the number is 7, and nothing is written
    pub seven : (sealed_bytes out after : List ℕ) (r : HtWritten) → OpenSeen tag_length key nonce «data» sealed_bytes out r after
        → least_tag_length ≤ tag_length → tag_length ≤ full_tag_length → length key ≡ key_length → length nonce ≡ nonce_length → length «data» ≤ byte_limit
        → tag_length ≤ length sealed_bytes → length sealed_bytes - tag_length ≤ byte_limit → length sealed_bytes - tag_length ≤ length out
        → tag_matches_with tag_length key nonce «data» sealed_bytes ≡ false → (r ≡ record { refused = 7; bytes = 0 }) × (after ≡ out)

-- ## Demand 2: tickets and heads

pub record PackingExports : Type 0 where
  -- a valid ticket, packed into an output long enough, comes back from what was written
  pub tickets : (t : Ticket) (out after : List ℕ) (w : HtWritten) (r : HtUnpackedTicket) → ticket_rule t ≡ true → ticket_length ≤ length out
      → PackTicketSeen t out w after → UnpackTicketSeen (take ticket_length after) r
      → (w ≡ record { refused = 0; bytes = ticket_length }) × (after ≡ written_over (pack_ticket t) out) × (r ≡ record { refused = 0; ticket = t })
  -- and so does a head in its ranges
  pub heads : (h : Head) (out after : List ℕ) (w : HtWritten) (r : HtUnpackedHead) → head_rule h ≡ true → head_length ≤ length out
      → PackHeadSeen h out w after → UnpackHeadSeen (take head_length after) r
      → (w ≡ record { refused = 0; bytes = head_length }) × (after ≡ written_over (pack_head h) out) × (r ≡ record { refused = 0; head = h })

-- ## Demand 2: tapes

-- `ReadCalls string position readings`: calls of `ht_read_ticket`, the first at this position and each later one at the position that the call before
-- it gave, came to these readings
pub data ReadCalls (string : List ℕ) : ℕ → List HtReading → Type 0 where
  no_reading : {position : ℕ} → ReadCalls string position []
  a_reading : {position : ℕ} {readings : List HtReading} (r : HtReading) → ReadTicketSeen string position r → ReadCalls string r.position readings
      → ReadCalls string position (r ∷ readings)

-- n readings from a position on: the tickets in turn, and then the end again and again
abbrev pub read_in_turn : List Ticket → ℕ → ℕ → List HtReading
read_in_turn tickets position zero = []
read_in_turn [] position (suc n) = record { refused = 0; at_end = 1; position = position; ticket = no_ticket } ∷ read_in_turn [] position n
read_in_turn (t ∷ ts) position (suc n) = record { refused = 0; at_end = 0; position = position + 1; ticket = t } ∷ read_in_turn ts (position + 1) n

-- the bytes `written` are the tape of this key, head and tickets, and these come back from it
pub record ExportsComeBack (key : List ℕ) (head : Head) (tickets : List Ticket) (written : List ℕ) : Type 0 where
  pub is-tape : written ≡ tape_of key head tickets
  -- opening it into an output long enough tells the number of tickets and their total net, and writes the plain bytes
  pub opened : (out after : List ℕ) (r : HtOpened) → ticket_length * length tickets ≤ length out → OpenTapeSeen key written out r after
      → (r ≡ record { refused = 0; tickets = length tickets; net = total_net tickets }) × (after ≡ written_over (pack_tickets tickets) out)
  -- and readings of what it wrote, from position 0, are these tickets in turn, and then the end
  pub read : (out after : List ℕ) (r : HtOpened) → ticket_length * length tickets ≤ length out → OpenTapeSeen key written out r after
      → (readings : List HtReading) → ReadCalls (take (ticket_length * length tickets) after) 0 readings → readings ≡ read_in_turn tickets 0 (length readings)

pub record TapeExports : Type 0 where
  -- from every list of calls that closed the writer, refused calls among them
  pub closed : (es : List (Entry WriterCall Work)) (e : List ℕ) → WriterWords es e → (plain_writer_in e).phase ≡ Closed
      → (s : Started) × ((writer_log es).starts ≡ (s ∷ [])) × ExportsComeBack s.key s.head (writer_log es).tickets (writer_log es).written
  -- and so every list of at most 5,000 tickets that may be written comes back
  pub tickets : (key : List ℕ) (head : Head) (tickets : List Ticket)
      → length key ≡ key_length → head_rule head ≡ true → Writable tickets → length tickets ≤ ticket_limit
      → (outs : TapeOutputs) → RoomFor (length tickets) outs
      → (es : List (Entry WriterCall Work)) (e : List ℕ) → WriterWords es e → calls_of es ≡ tape_calls key head tickets outs
      → AllAccepted es × ExportsComeBack key head tickets (writer_log es).written

-- ## All of it

pub record ExportDemand : Type 0 where
  pub lists : ListExports
  pub numbers : NumberExports
  pub messages : (tag_length : ℕ) (key nonce «data» : List ℕ) → MessageExports tag_length key nonce «data»
  pub packing : PackingExports
  pub tapes : TapeExports
