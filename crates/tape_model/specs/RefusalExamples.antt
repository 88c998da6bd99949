-- Document 01, "What sends a call back": the example of each row of its table, on the calls themselves.
use Rattle.std.specs.Prelude.{◌≡◌, true, List, [], ◌∷◌, ℕ, ◌+◌, ◌-◌, ◌*◌, ◌≤◌, leb, length}
use Rattle.acorn_model.specs.declared.Kind.{Kind}
use Rattle.acorn_model.specs.declared.Kind.TheVariants.{Sealing, Checking}
use Rattle.calls.specs.Calls.{AreBytes, ◌if◌else◌, Reply, refused, done, accepted}
use Rattle.calls.specs.Lists.{handed_on}
use Rattle.acorn_model.specs.Stretches.{full_tag_length}
use Rattle.acorn_model.specs.Machine.{fresh, Call, begin, data_call, seal_text, seal_close, check_close, key_length, call}
use Rattle.acorn_model.specs.Message.{sealed_with, seal_message, open_message}
use Rattle.acorn_model.specs.RefusalCases.{string}
use Rattle.acorn_model.specs.Laws.{WithinLimits}
use Rattle.tape_model.specs.declared.Ticket.{Ticket}
use Rattle.tape_model.specs.declared.Head.{Head}
use Rattle.tape_model.specs.declared.WriterPhase.{WriterPhase}
use Rattle.tape_model.specs.declared.WriterPhase.TheVariants.{Fresh, Open}
use Rattle.tape_model.specs.Ticket.{ticket_length, head_rule}
use Rattle.tape_model.specs.Tape.{ticket_limit, tape_of, open_tape}
use Rattle.tape_model.specs.Writer.{WriterCall, start, add, writer_call}
use Rattle.tape_model.specs.Reader.{reader_over, read_next}
use Rattle.tape_model.specs.RefusalCases.{writer_with, head_with, bad_ticket, last_byte_c1}

-- ## What is called

pub data Attempt : Type 0 where
  -- the call after these, from a fresh machine of this kind
  machine : Kind → List Call → Call → Attempt
  -- a call of a plain writer in this phase, with so many tickets added
  writer : WriterPhase → ℕ → WriterCall → Attempt
  -- whole sealing, and opening a tape
  sealing : (key nonce «data» text out : List ℕ) → Attempt
  tape : (key tape out : List ℕ) → Attempt
  -- the first call of a reader over these bytes
  reader : List ℕ → Attempt

abbrev pub number_in : {A : Type 0} → Reply A → ℕ
number_in (refused n) = n
number_in (done a) = accepted

-- the number that it is sent back with
abbrev pub number_of : Attempt → ℕ
number_of (machine kind before c) = number_in (call (handed_on call (fresh kind) before) c).answer
number_of (writer phase tickets c) = number_in (writer_call (writer_with phase tickets) c).answer
number_of (sealing key nonce «data» text out) = number_in (seal_message full_tag_length key nonce «data» text out).answer
number_of (tape key bytes out) = number_in (open_tape key bytes out).answer
number_of (reader bytes) = number_in (read_next (reader_over bytes)).answer

infix 80 ◌gives◌
pub data Row : Type 0 where
  ◌gives◌ : Attempt → ℕ → Row

abbrev pub AllGive : List Row → Type 0
AllGive [] = Unit {0}
AllGive ((attempt gives n) ∷ rows) = (number_of attempt ≡ n) × AllGive rows

-- ## The table

abbrev pub begins : Call
begins = begin (string 16) (string 16) full_tag_length

abbrev pub rows : List Row
rows =
    -- data after text
    machine Sealing (begins ∷ seal_text [] [] ∷ []) (data_call []) gives 1
    -- a 37-byte tape
    ∷ tape (string 16) (string 37) (string 12) gives 2
    -- device 0
    ∷ writer Fresh 0 (start (string 16) (head_with 0 2 1) (string 9)) gives 3
    -- tare 6, gross 5, as P2 of document 02 amends it
    ∷ writer Open 0 (add bad_ticket (string 13)) gives 4
    -- 65,537 bytes of text, by session and whole
    ∷ machine Sealing (begins ∷ []) (seal_text (string 65537) []) gives 5
    ∷ sealing (string 16) (string 16) [] (string 65537) [] gives 5
    -- 15 bytes at close
    ∷ machine Sealing (begins ∷ []) (seal_close (string 15)) gives 6
    -- document 02, P4: a length outside 8 to 16, and a tag of sixteen bytes where eight are fixed
    ∷ machine Sealing [] (begin (string 16) (string 16) 7) gives 9
    ∷ machine Checking (begin (string 16) (string 16) 8 ∷ []) (check_close (string 16)) gives 2
    -- last plain byte C1, before a reader; on a tape it is `BadTickets` (Laws)
    ∷ reader last_byte_c1 gives 8
    ∷ []

-- ## 7, which is not computed

-- the last bit of a tag, bit 127 of the sixteen bytes, is the bit of weight 2^7 of its last byte
abbrev pub bit7_turned : ℕ → ℕ
bit7_turned x = x - 128 if leb 128 x else x + 128

-- the bytes whose last bit is turned
unfoldable pub last_bit_turned : List ℕ → List ℕ
last_bit_turned [] = []
last_bit_turned (x ∷ []) = bit7_turned x ∷ []
last_bit_turned (x ∷ y ∷ l) = x ∷ last_bit_turned (y ∷ l)

pub record RefusalExamples : Type 0 where
  pub table : AllGive rows
  -- last tag bit turned, of every sealed message and of every tape
  pub message_tag : (tag_length : ℕ) (key nonce «data» text out : List ℕ) → AreBytes text → WithinLimits tag_length key nonce «data» text → length text ≤ length out
      → (open_message tag_length key nonce «data» (last_bit_turned (sealed_with tag_length key nonce «data» text)) out).answer ≡ refused 7
  pub tape-tag : (key : List ℕ) (head : Head) (tickets : List Ticket) (out : List ℕ)
      → length key ≡ key_length → head_rule head ≡ true → length tickets ≤ ticket_limit → ticket_length * length tickets ≤ length out
      → (open_tape key (last_bit_turned (tape_of key head tickets)) out).answer ≡ refused 7
