-- Demand 1: which number a call ends with, and what a refused call leaves.
use Rattle.std.specs.Prelude.{◌≡◌, Bool, true, false, not, List, ◌↔◌, ℕ, suc, ◌*◌, ◌/◌, ◌≤◌, leb, length, take, drop, Result}
use Rattle.calls.specs.declared.Refusal.{Refusal}
use Rattle.calls.specs.Calls.{Work, ◌if◌else◌, Reply, refused, done, accepted, unless_refused, same_bytes, answer_reply, is_refused, as_reply}
use Rattle.acorn_model.specs.Stretches.{tag_bytes}
use Rattle.calls.specs.Lists.{Entry}
use Rattle.acorn_model.specs.Machine.{Machine, Call, begin, data_call, seal_text, check_text, seal_close, check_close, output_of, key_length, refusal, text_ended}
use Rattle.acorn_model.specs.Lists.{Ended}
use Rattle.acorn_model.specs.Message as message
use Rattle.tape_model.specs.declared.Ticket.{Ticket}
use Rattle.tape_model.specs.declared.Head.{Head}
use Rattle.tape_model.specs.declared.Totals.{Totals}
use Rattle.tape_model.specs.declared.WriterPhase.TheVariants.{Open}
use Rattle.tape_model.specs.Ticket.{ticket_length, write_rule, unpack_ticket, unpack_head, pack_ticket_refusal, unpack_ticket_refusal, pack_head_refusal, unpack_head_refusal}
use Rattle.tape_model.specs.Tape.{ticket_limit, nonce_of, is_tickets_length, is_tape_length, head_bytes, sealed_bytes, ticket_count, open_tape_refusal}
use Rattle.tape_model.specs.Writer.{WriterCall, add}
use Rattle.tape_model.specs.Writer as plain
use Rattle.tape_model.specs.WriterLists.{writer_log}
use Rattle.tape_model.specs.Reader as model
use Rattle.tape_model.specs.Reader.{next_reply}
use Rattle.message.specs.Clauses.{Seals, OpensTo}
use Rattle.ticket.specs.Clauses.{PacksTicket, PacksHead, UnpacksTicket, UnpacksHead}
use Rattle.session.specs.declared.Session.{Session}
use Rattle.session.specs.declared.Reply.{Reply as SessionReply}
use Rattle.session.specs.Clauses.{machine_of, Called}
use Rattle.tape_writer.specs.declared.Writer.{Writer}
use Rattle.tape_writer.specs.declared.WriterReply.{WriterReply}
use Rattle.tape_writer.specs.Clauses.{writer_of, WriterCalled}
use Rattle.tape_opening.specs.Clauses.{OpensTape}
use Rattle.reader.specs.declared.Reader.{Reader}
use Rattle.reader.specs.declared.ReaderReply.{ReaderReply}
use Rattle.reader.specs.Clauses.{reader_of, NextCalled}
use Rattle.demands.specs.Writers.{WriterList}

-- ## Numbers

-- The rule of the first number that applies, 9 right after 1 and else the smallest, where n is that number, or 0 if none applies: the answer is the number k exactly where n is k, and the
-- call is accepted exactly where none applies
pub record AnsweredBy {A : Type 0} (n : ℕ) (answer : Reply A) : Type 0 where
  pub refuses : (k : ℕ) → (answer ≡ refused (suc k)) ↔ (n ≡ suc k)
  pub accepts : ((a : A) × (answer ≡ done a)) ↔ (n ≡ accepted)

-- and a refused call leaves `after` in the output that was `out`
pub record RefusedBy {A : Type 0} (n : ℕ) (answer : Reply A) (out after : List ℕ) : Type 0 where
  pub number : AnsweredBy n answer
  pub unchanged : (k : ℕ) → answer ≡ refused k → after ≡ out

-- ## Sessions

-- 7: a close is given another tag than the machine comes to
abbrev pub tag_differs : Machine → Call → Bool
tag_differs m (begin key nonce n) = false
tag_differs m (data_call piece) = false
tag_differs m (seal_text piece out) = false
tag_differs m (check_text piece) = false
tag_differs m (seal_close out) = false
tag_differs m (check_close tag) = not (same_bytes tag (tag_bytes m.tag_length (text_ended m).state))

-- the first number that applies to a session's call, 7 among them
abbrev pub session_number : Machine → Call → ℕ
session_number m c = unless_refused (refusal m c) (7 if tag_differs m c else accepted) (refusal m c)

module _ (s : Session) (c : Call) (r : SessionReply) (out : List ℕ) (called : Called s c r out) where
  pub record SessionRefusals : Type 0 where
    pub number : AnsweredBy (session_number (machine_of s) c) (answer_reply r.answer)
    -- a refused call leaves session and lent bytes unchanged, but for 7
    pub unchanged : (n : ℕ) → answer_reply r.answer ≡ refused n → (n ≡ 7 → ⊥) → (machine_of r.session ≡ machine_of s) × (out ≡ output_of c)
    -- with 7 the session has ended, and lent bytes are unchanged
    pub seven : answer_reply r.answer ≡ refused 7 → Ended (machine_of r.session) × (out ≡ output_of c)

-- ## Writers

module _ (w : Writer) (c : WriterCall) (r : WriterReply) (out : List ℕ) (called : WriterCalled w c r out) where
  pub record WriterRefusals : Type 0 where
    -- on any value of the struct, where a number applies, the smallest is answered
    pub number : (n : ℕ) → plain.refusal (writer_of w) c ≡ suc n → answer_reply r.answer ≡ refused (suc n)
    -- and only then, on a writer that calls led to from a fresh one
    pub exactly : (es : List (Entry WriterCall Work)) → WriterList es w → AnsweredBy (plain.refusal (writer_of w) c) (answer_reply r.answer)
    -- a refused call leaves writer and lent bytes unchanged
    pub unchanged : (n : ℕ) → answer_reply r.answer ≡ refused n → (writer_of r.writer ≡ writer_of w) × (out ≡ plain.output_of c)

-- ## Tapes, tickets and heads

module _ (key tape out after : List ℕ) (r : Result Totals Refusal) (opened : OpensTape key tape out r after) where
  pub record OpeningRefusals : Type 0 where
    pub number : AnsweredBy (open_tape_refusal key tape out) (as_reply r)
    -- a refused opening leaves its output as it was
    pub unchanged : (n : ℕ) → as_reply r ≡ refused n → after ≡ out
    -- where the tag differs and no smaller number applies, the answer is 7
    pub seven : length key ≡ key_length → is_tape_length (length tape) ≡ true → is_refused (unpack_head (head_bytes tape)) ≡ false
        → ticket_length * ticket_count tape ≤ length out → message.tag_matches key (nonce_of (head_bytes tape)) (head_bytes tape) (sealed_bytes tape) ≡ false
        → as_reply r ≡ refused 7

-- ## Readers

-- the smallest number that applies to a reader's call: 2, or 8 where there is a ticket before it that does not unpack
abbrev pub reader_number : model.Reader → ℕ
reader_number r =
    2 if not (is_tickets_length (length r.string)) else
    accepted if leb (length r.string / ticket_length) r.position else
    8 if is_refused (unpack_ticket (take ticket_length (drop (ticket_length * r.position) r.string))) else
    accepted

module _ (r : Reader) (h : ReaderReply) (called : NextCalled r h) where
  pub record ReaderRefusals : Type 0 where
    pub number : AnsweredBy (reader_number (reader_of r)) (next_reply h.answer)
    pub unchanged : (n : ℕ) → next_reply h.answer ≡ refused n → reader_of h.reader ≡ reader_of r

-- ## All of it

pub record RefusalDemand : Type 0 where
  pub sessions : (s : Session) (c : Call) (r : SessionReply) (out : List ℕ) (called : Called s c r out) → SessionRefusals s c r out called
  pub writers : (w : Writer) (c : WriterCall) (r : WriterReply) (out : List ℕ) (called : WriterCalled w c r out) → WriterRefusals w c r out called
  -- the 5,001st ticket
  pub ticket_5001 : (es : List (Entry WriterCall Work)) (w : Writer) → WriterList es w → (writer_of w).phase ≡ Open → length (writer_log es).tickets ≡ ticket_limit
      → (t : Ticket) (out after : List ℕ) (r : WriterReply) → write_rule t ≡ true → WriterCalled w (add t out) r after
      → answer_reply r.answer ≡ refused 5
  -- whole messages
  pub sealing : (tag_length : ℕ) (key nonce «data» text out after : List ℕ) (r : Result ℕ Refusal) → Seals tag_length key nonce «data» text out r after
      → RefusedBy (message.seal_refusal tag_length key nonce «data» text out) (as_reply r) out after
  pub opening : (tag_length : ℕ) (key nonce «data» sealed_bytes out after : List ℕ) (r : Result ℕ Refusal) → OpensTo tag_length key nonce «data» sealed_bytes out r after
      → RefusedBy (message.open_refusal tag_length key nonce «data» sealed_bytes out) (as_reply r) out after
  -- tapes
  pub openings : (key tape out after : List ℕ) (r : Result Totals Refusal) (opened : OpensTape key tape out r after) → OpeningRefusals key tape out after r opened
  -- two openings for which 7 is the number, with equal outputs before, are answered alike and leave equal outputs, whatever else they were given
  -- (so neither 9 nor a smaller number stops them; the lengths of their tags may differ)
  pub message_sevens : (tag_length tag_length' : ℕ) (key key' nonce nonce' «data» data' sealed_bytes sealed_bytes' out after after' : List ℕ) (r r' : Result ℕ Refusal)
      → OpensTo tag_length key nonce «data» sealed_bytes out r after → OpensTo tag_length' key' nonce' data' sealed_bytes' out r' after'
      → message.open_refusal tag_length key nonce «data» sealed_bytes out ≡ 7 → message.open_refusal tag_length' key' nonce' data' sealed_bytes' out ≡ 7
      → (as_reply r ≡ as_reply r') × (after ≡ after')
  pub tape_sevens : (key key' tape tape' out after after' : List ℕ) (r r' : Result Totals Refusal) → OpensTape key tape out r after → OpensTape key' tape' out r' after'
      → open_tape_refusal key tape out ≡ 7 → open_tape_refusal key' tape' out ≡ 7 → (as_reply r ≡ as_reply r') × (after ≡ after')
  pub readers : (r : Reader) (h : ReaderReply) (called : NextCalled r h) → ReaderRefusals r h called
  -- tickets and heads by themselves
  pub packing : (t : Ticket) (out after : List ℕ) (r : Result ℕ Refusal) → PacksTicket t out r after
      → RefusedBy (pack_ticket_refusal t out) (as_reply r) out after
  pub packing_heads : (h : Head) (out after : List ℕ) (r : Result ℕ Refusal) → PacksHead h out r after
      → RefusedBy (pack_head_refusal h out) (as_reply r) out after
  pub unpacking : (string : List ℕ) (r : Result Ticket Refusal) → UnpacksTicket string r
      → AnsweredBy (unpack_ticket_refusal string) (as_reply r)
  pub unpacking_heads : (string : List ℕ) (r : Result Head Refusal) → UnpacksHead string r
      → AnsweredBy (unpack_head_refusal string) (as_reply r)
