-- What a C caller sees of each call of include/haul_tape.h: the equations that the contracts are, against the same definitions as the library's own.
use Rattle.std.specs.Prelude.{◌≡◌, List, ℕ}
use Rattle.calls.specs.Calls.{◌if◌else◌, Reply, refused, done, Work, Outcome, Result, left_unchanged, put_into}
use Rattle.acorn_model.specs.Machine.{Call, call}
use Rattle.acorn_model.specs.Message.{seal_message, open_message}
use Rattle.tape_model.specs.declared.Ticket.{Ticket}
use Rattle.tape_model.specs.declared.Head.{Head}
use Rattle.tape_model.specs.Ticket.{pack_ticket_into, unpack_ticket, pack_head_into, unpack_head}
use Rattle.tape_model.specs.Tape.{open_tape}
use Rattle.tape_model.specs.Writer.{WriterCall, writer_call}
use Rattle.tape_model.specs.Reader.{ReadOutcome, read_next}
use Rattle.tape_model.specs.Listing.{listing}
use Rattle.c_answers.specs.declared.HtAnswer.{HtAnswer}
use Rattle.c_answers.specs.declared.HtWritten.{HtWritten}
use Rattle.c_answers.specs.declared.HtOpened.{HtOpened}
use Rattle.c_answers.specs.declared.HtUnpackedTicket.{HtUnpackedTicket}
use Rattle.c_answers.specs.declared.HtUnpackedHead.{HtUnpackedHead}
use Rattle.c_answers.specs.declared.HtReading.{HtReading}
use Rattle.c_answers.specs.declared.HtTruckCount.{HtTruckCount}
use Rattle.c_answers.specs.declared.HtTruckCounts.{HtTruckCounts}
use Rattle.c_answers.specs.declared.HtParted.{HtParted}
use Rattle.c_answers.specs.declared.HtReception.{HtReception}
use Rattle.c_answers.specs.declared.HtPaired.{HtPaired}
use Rattle.c_answers.specs.Answers.{written_numbers, answer_numbers, opened_numbers, ticket_numbers, head_numbers, reading_numbers, count_numbers, counts_numbers, parted_numbers, part_numbers, paired_numbers}
use Rattle.reader.specs.Clauses.{reader_at}
use Rattle.session.specs.Clauses.{wrapped_outcome}
use Rattle.session.specs.Words.{machine_in, words_for}
use Rattle.trucks.specs.Trucks.{NumberSet, plain_trucks, plain_trucks_of_two, plain_truck_set}
use Rattle.trucks.specs.Words.{set_words}
use Rattle.receptions.specs.Receptions.{parting, longer}
use Rattle.pairing.specs.Pairing.{Outputs, pair_tapes}
use Rattle.forms.specs.Move.{move_ticket}
use Rattle.tape_writer.specs.Clauses.{wrapped_writer_outcome}
use Rattle.tape_writer.specs.Words.{plain_writer_in, writer_words_for}

-- ## Calls on the words of a session or a writer

-- The words after a call that comes to o: those of what is handed on, or, where the call left all unchanged, the words before it.
unfoldable pub words_after : {M : Type 0} → (M → List ℕ) → List ℕ → Outcome M Work → List ℕ
words_after words_for words o = words if left_unchanged o.answer else words_for o.next

-- what the call comes to is seen: by the words after it, by its answer, and by its output after it ([] where it is lent none)
abbrev pub Seen : {M : Type 0} → (M → List ℕ) → List ℕ → Outcome M Work → List ℕ → HtAnswer → List ℕ → Type 0
Seen words_for words o after answer out = (after ≡ words_after words_for words o) × (answer ≡ answer_numbers o.answer) × (out ≡ o.out)

-- the call c on a session's words, and the words after it
abbrev pub SessionSeen : List ℕ → Call → List ℕ → HtAnswer → List ℕ → Type 0
SessionSeen words c after answer out = Seen words_for words (wrapped_outcome (call (machine_in words) c)) after answer out

-- the call c on a writer's words, and the words after it
abbrev pub WriterSeen : List ℕ → WriterCall → List ℕ → HtAnswer → List ℕ → Type 0
WriterSeen words c after answer out = Seen writer_words_for words (wrapped_writer_outcome (writer_call (plain_writer_in words) c)) after answer out

-- ## Calls on lent bytes alone

-- the result is seen: by its answer in numbers, and by the output after it
abbrev pub ResultSeen : {A N : Type 0} → (Reply A → N) → Result A → N → List ℕ → Type 0
ResultSeen numbers result answer out = (answer ≡ numbers result.answer) × (out ≡ result.out)

-- each call of these by its arguments, the last of them its output as it stood, and by its answer r and its output `after`

abbrev pub SealSeen : (tag_length : ℕ) (key nonce «data» text out : List ℕ) → HtWritten → List ℕ → Type 0
SealSeen tag_length key nonce «data» text out r after = ResultSeen written_numbers (seal_message tag_length key nonce «data» text out) r after

abbrev pub OpenSeen : (tag_length : ℕ) (key nonce «data» sealed_bytes out : List ℕ) → HtWritten → List ℕ → Type 0
OpenSeen tag_length key nonce «data» sealed_bytes out r after = ResultSeen written_numbers (open_message tag_length key nonce «data» sealed_bytes out) r after

abbrev pub PackTicketSeen : Ticket → List ℕ → HtWritten → List ℕ → Type 0
PackTicketSeen ticket out r after = ResultSeen written_numbers (pack_ticket_into ticket out) r after

abbrev pub PackHeadSeen : Head → List ℕ → HtWritten → List ℕ → Type 0
PackHeadSeen head out r after = ResultSeen written_numbers (pack_head_into head out) r after

abbrev pub OpenTapeSeen : (key tape out : List ℕ) → HtOpened → List ℕ → Type 0
OpenTapeSeen key tape out r after = ResultSeen opened_numbers (open_tape key tape out) r after

abbrev pub ListTapeSeen : (key tape out : List ℕ) → HtWritten → List ℕ → Type 0
ListTapeSeen key tape out r after = ResultSeen written_numbers (put_into (listing key tape) out) r after

-- and those that are lent no output

abbrev pub UnpackTicketSeen : List ℕ → HtUnpackedTicket → Type 0
UnpackTicketSeen packed r = r ≡ ticket_numbers (unpack_ticket packed)

abbrev pub MoveTicketSeen : (ticket : Ticket) (form : ℕ) → HtUnpackedTicket → Type 0
MoveTicketSeen ticket form r = r ≡ ticket_numbers (move_ticket ticket form)

abbrev pub UnpackHeadSeen : List ℕ → HtUnpackedHead → Type 0
UnpackHeadSeen packed r = r ≡ head_numbers (unpack_head packed)

-- what a reading comes to, in numbers
abbrev pub read_numbers : ReadOutcome → HtReading
read_numbers o = reading_numbers o.answer o.next.position

abbrev pub ReadTicketSeen : (plain : List ℕ) (position : ℕ) → HtReading → Type 0
ReadTicketSeen plain position r = r ≡ read_numbers (read_next (reader_at plain position))

abbrev pub TrucksSeen : List ℕ → HtTruckCount → Type 0
TrucksSeen plain r = r ≡ count_numbers (plain_trucks plain)

abbrev pub TrucksOfTwoSeen : (first second : List ℕ) → HtTruckCounts → Type 0
TrucksOfTwoSeen first second r = r ≡ counts_numbers (plain_trucks_of_two first second)

abbrev pub PartingSeen : (first second : List ℕ) → HtParted → Type 0
PartingSeen first second r = r ≡ parted_numbers (parting first second)

abbrev pub LongerSeen : (first second : List ℕ) → HtReception → Type 0
LongerSeen first second r = r ≡ part_numbers (longer first second)

-- ## The words of a set of trucks

-- the words after a call, by what is found in the bytes: those of the set, or, where the bytes are refused, the words before it
abbrev pub set_after : Reply NumberSet → List ℕ → List ℕ
set_after (refused n) words = words
set_after (done s) words = set_words s

abbrev pub TruckSetSeen : (plain words : List ℕ) → HtTruckCount → List ℕ → Type 0
TruckSetSeen plain words r after = (r ≡ count_numbers (plain_trucks plain)) × (after ≡ set_after (plain_truck_set plain) words)

-- ## Calls with three outputs

-- by the tapes' plain bytes and the outputs as they stood, and by its answer r and the outputs `after`
abbrev pub PairTapesSeen : (first second : List ℕ) → Outputs → HtPaired → Outputs → Type 0
PairTapesSeen first second out r after = (r ≡ paired_numbers (pair_tapes first second out).answer) × (after ≡ (pair_tapes first second out).out)
