-- That the demands speak of something: every call and every list of calls can be made, on sessions and on writers; and there are lists that end,
-- and calls that are refused.
use Rattle.std.specs.Prelude.{◌≡◌, List, [], ◌∷◌, ◌++◌, map, ℕ, ◌≤◌, ◌<◌, length, replicate, Result}
use Rattle.acorn_model.specs.declared.Kind.{Kind}
use Rattle.acorn_model.specs.declared.Kind.TheVariants.{Sealing, Checking}
use Rattle.calls.specs.declared.Refusal.{Refusal}
use Rattle.calls.specs.Calls.{AreBytes, Reply, refused, done, Work, as_reply}
use Rattle.acorn_model.specs.Stretches.{full_tag_length}
use Rattle.acorn_model.specs.Paper.{new_tag, new_tag_of_length}
use Rattle.calls.specs.Lists.{Entry, calls_of, AllAccepted}
use Rattle.acorn_model.specs.Machine.{least_tag_length, Machine, Call, begin, data_call, seal_text, check_text, seal_close, check_close, key_length}
use Rattle.acorn_model.specs.Laws.{WithinLimits}
use Rattle.acorn_model.specs.Lists.{log_of, Ended, Alike}
use Rattle.tape_model.specs.declared.Totals.{Totals}
use Rattle.tape_model.specs.declared.WriterPhase.TheVariants.{Closed}
use Rattle.tape_model.specs.Ticket.{ticket_length, head_length, pack_head}
use Rattle.tape_model.specs.Tape.{tape_tag_length, nonce_of, open_tape}
use Rattle.tape_model.specs.Writer.{PlainWriter, WriterCall, start, add, finish}
use Rattle.tape_model.specs.RefusalCases.{good_head, good_ticket, bad_ticket, empty_trip, whole_day_ticket}
use Rattle.session.specs.declared.Session.{Session}
use Rattle.session.specs.declared.Reply.{Reply as SessionReply}
use Rattle.session.specs.Clauses.{machine_of, Called}
use Rattle.tape_writer.specs.declared.Writer.{Writer}
use Rattle.tape_writer.specs.declared.WriterReply.{WriterReply}
use Rattle.tape_writer.specs.Clauses.{writer_of, WriterCalled}
use Rattle.demands.specs.Sessions.{SessionList}
use Rattle.demands.specs.Writers.{WriterList}
use Rattle.tape_opening.specs.Clauses.{OpensTape}
use Rattle.message.specs.Clauses.{Seals, OpensTo}

-- ## Every call, and every list of calls

-- no session and no writer is without a reply to a call
abbrev pub SessionReplies : Type 0
SessionReplies = (s : Session) (c : Call) → (r : SessionReply) × (out : List ℕ) × Called s c r out

abbrev pub WriterReplies : Type 0
WriterReplies = (w : Writer) (c : WriterCall) → (r : WriterReply) × (out : List ℕ) × WriterCalled w c r out

abbrev pub SessionsExist : Type 0
SessionsExist = (kind : Kind) (cs : List Call) → (es : List (Entry Call Work)) × (e : Session) × SessionList kind es e × (calls_of es ≡ cs)

abbrev pub WritersExist : Type 0
WritersExist = (cs : List WriterCall) → (es : List (Entry WriterCall Work)) × (e : Writer) × WriterList es e × (calls_of es ≡ cs)

-- ## Lists of sessions

-- these calls can be made, and P holds of what comes of them: the entries, and the machine that the last session stands for
abbrev pub SomeSession : Kind → List Call → (List (Entry Call Work) → Machine → Type 0) → Type 0
SomeSession kind cs P = (es : List (Entry Call Work)) × (e : Session) × SessionList kind es e × (calls_of es ≡ cs) × P es (machine_of e)

-- every call of a list is accepted, and the last ends their session
abbrev pub Finish : List (Entry Call Work) → Machine → Type 0
Finish es m = AllAccepted es × Ended m

-- the answers are these
abbrev pub Answers : {C M : Type 0} → List (Reply Work) → List (Entry C Work) → M → Type 0
Answers answers es m = map (λ e. e.answer) es ≡ answers

-- the session ends, and its list is alike to another of its kind
abbrev pub EndAlike : Kind → List (Entry Call Work) → List (Entry Call Work) → Machine → Type 0
EndAlike kind es es' m' = Ended m' × Alike kind (log_of es) (log_of es')

abbrev pub sealing_calls : (tag_length : ℕ) (key nonce «data» text out tag_out : List ℕ) → List Call
sealing_calls tag_length key nonce «data» text out tag_out = begin key nonce tag_length ∷ data_call «data» ∷ seal_text text out ∷ seal_close tag_out ∷ []

abbrev pub checking_calls : (tag_length : ℕ) (key nonce «data» cipher tag : List ℕ) → List Call
checking_calls tag_length key nonce «data» cipher tag = begin key nonce tag_length ∷ data_call «data» ∷ check_text cipher ∷ check_close tag ∷ []

-- calls that are refused, before and after a begin that fixes a tag of 8 bytes, and a close that writes as many
abbrev pub refused_calls : List Call
refused_calls =
    data_call []
    ∷ begin [] [] 7
    ∷ begin (replicate 16 0) (replicate 16 0) 17
    ∷ begin [] [] 12
    ∷ begin (replicate 16 0) (replicate 16 0) 8
    ∷ data_call (replicate 65537 0)
    ∷ seal_close (replicate 7 0)
    ∷ seal_close (replicate 8 0)
    ∷ []

-- where 8 bytes are fixed, a tag of 16 is refused
abbrev pub sixteen_given : List Call
sixteen_given = begin (replicate 16 0) (replicate 16 0) 8 ∷ check_close (replicate 16 0) ∷ []

abbrev pub cut_calls : (tag_length : ℕ) (key nonce «data» first second first_out second_out tag_out : List ℕ) → List Call
cut_calls tag_length key nonce «data» first second first_out second_out tag_out =
    begin key nonce tag_length ∷ data_call «data» ∷ seal_text first first_out ∷ seal_text second second_out ∷ seal_close tag_out ∷ []

abbrev pub cut_checking_calls : (tag_length : ℕ) (key nonce «data» first second tag : List ℕ) → List Call
cut_checking_calls tag_length key nonce «data» first second tag = begin key nonce tag_length ∷ data_call «data» ∷ check_text first ∷ check_text second ∷ check_close tag ∷ []

-- the data in two pieces, and between them an empty piece and a begin that is refused with 1
abbrev pub cut_data_calls : (tag_length : ℕ) (key nonce first second text out tag_out : List ℕ) → List Call
cut_data_calls tag_length key nonce first second text out tag_out =
    begin key nonce tag_length ∷ data_call first ∷ data_call [] ∷ begin key nonce tag_length ∷ data_call second ∷ seal_text text out ∷ seal_close tag_out ∷ []

pub record SessionExamples : Type 0 where
  -- begin, data, text and close of a sealing session, with room for what they write, are accepted and end it
  pub sealing : (tag_length : ℕ) (key nonce «data» text out tag_out : List ℕ) → WithinLimits tag_length key nonce «data» text → length text ≤ length out → tag_length ≤ length tag_out
      → SomeSession Sealing (sealing_calls tag_length key nonce «data» text out tag_out) Finish
  -- those of a checking session that is given the right tag too: it says good
  pub good : (tag_length : ℕ) (key nonce «data» cipher : List ℕ) → WithinLimits tag_length key nonce «data» cipher
      → SomeSession Checking (checking_calls tag_length key nonce «data» cipher (new_tag_of_length tag_length key nonce «data» cipher)) Finish
  -- and given any other of as many bytes it says 7 and has ended
  pub seven : (tag_length : ℕ) (key nonce «data» cipher tag : List ℕ) → WithinLimits tag_length key nonce «data» cipher → length tag ≡ tag_length
      → (tag ≡ new_tag_of_length tag_length key nonce «data» cipher → ⊥)
      → SomeSession Checking (checking_calls tag_length key nonce «data» cipher tag) (λ es m. ((log_of es).verdicts ≡ (refused 7 ∷ [])) × Ended m)
  -- a list that is sent back with 1, 9, 2, 5 and 6
  pub refusals : SomeSession Sealing refused_calls
      (Answers (refused 1 ∷ refused 9 ∷ refused 9 ∷ refused 2 ∷ done (record { bytes = 0; steps = 1792 }) ∷ refused 5 ∷ refused 6 ∷ done (record { bytes = 8; steps = 3072 }) ∷ []))
  pub sixteen : SomeSession Checking sixteen_given (Answers (done (record { bytes = 0; steps = 1792 }) ∷ refused 2 ∷ []))
  -- a text in one piece and in two: both lists end, and they are alike
  pub cuts : (tag_length : ℕ) (key nonce «data» first second out first_out second_out tag_out : List ℕ) → WithinLimits tag_length key nonce «data» (first ++ second)
      → length (first ++ second) ≤ length out → length first ≤ length first_out → length second ≤ length second_out → tag_length ≤ length tag_out
      → SomeSession Sealing (sealing_calls tag_length key nonce «data» (first ++ second) out tag_out)
      (λ es m. Ended m × SomeSession Sealing (cut_calls tag_length key nonce «data» first second first_out second_out tag_out) (EndAlike Sealing es))
  -- and so do a checking session's two lists, with whatever tag of that length
  pub checking_cuts : (tag_length : ℕ) (key nonce «data» first second tag : List ℕ) → WithinLimits tag_length key nonce «data» (first ++ second) → length tag ≡ tag_length
      → SomeSession Checking (checking_calls tag_length key nonce «data» (first ++ second) tag)
      (λ es m. Ended m × SomeSession Checking (cut_checking_calls tag_length key nonce «data» first second tag) (EndAlike Checking es))
  -- and data in one piece and in pieces, with an empty piece and a refused call between them
  pub data_cuts : (tag_length : ℕ) (key nonce first second text out tag_out : List ℕ) → WithinLimits tag_length key nonce (first ++ second) text
      → length text ≤ length out → tag_length ≤ length tag_out
      → SomeSession Sealing (sealing_calls tag_length key nonce (first ++ second) text out tag_out)
      (λ es m. Ended m × SomeSession Sealing (cut_data_calls tag_length key nonce first second text out tag_out) (EndAlike Sealing es))
  -- there are strings within the limits, and for every tag there is another
  pub sizes : (tag_length : ℕ) → least_tag_length ≤ tag_length → tag_length ≤ full_tag_length → WithinLimits tag_length (replicate 16 0) (replicate 16 0) [] (0 ∷ [])
  pub another : (tag_length : ℕ) → 0 < tag_length → (T : List ℕ) → (tag : List ℕ) × AreBytes tag × (length tag ≡ tag_length) × (tag ≡ T → ⊥)

-- ## Lists of writers

abbrev pub SomeWriter : List WriterCall → (List (Entry WriterCall Work) → PlainWriter → Type 0) → Type 0
SomeWriter cs P = (es : List (Entry WriterCall Work)) × (e : Writer) × WriterList es e × (calls_of es ≡ cs) × P es (writer_of e)

-- the head of case (i), the ticket of case (h), an empty trip, and a ticket of form 2
abbrev pub writer_calls : (key out ticket_out tag_out : List ℕ) → List WriterCall
writer_calls key out ticket_out tag_out = start key good_head out ∷ add good_ticket ticket_out ∷ add empty_trip ticket_out ∷ add whole_day_ticket ticket_out ∷ finish tag_out ∷ []

abbrev pub refused_writer_calls : List WriterCall
refused_writer_calls =
    finish []
    ∷ start [] good_head []
    ∷ start (replicate 16 0) (record { device = 0; shift = 2; sheet = 1 }) []
    ∷ start (replicate 16 0) good_head []
    ∷ start (replicate 16 0) good_head (replicate 9 0)
    ∷ add bad_ticket []
    ∷ []

pub record WriterExamples : Type 0 where
  -- start, add and finish, with room for what they write, are accepted and close the writer
  pub tape : (key out ticket_out tag_out : List ℕ) → length key ≡ key_length
      → head_length ≤ length out → ticket_length ≤ length ticket_out → tape_tag_length ≤ length tag_out
      → SomeWriter (writer_calls key out ticket_out tag_out) (λ es w. AllAccepted es × (w.phase ≡ Closed))
  -- a list that is sent back with 1, 2, 3, 6 and 4
  pub refusals : SomeWriter refused_writer_calls
      (Answers (refused 1 ∷ refused 2 ∷ refused 3 ∷ refused 6 ∷ done (record { bytes = 9; steps = 1864 }) ∷ refused 4 ∷ []))

-- ## Whole messages

pub record MessageExamples (tag_length : ℕ) (key nonce «data» : List ℕ) : Type 0 where
  pub seals : (text out : List ℕ) → (r : Result ℕ Refusal) × (after : List ℕ) × Seals tag_length key nonce «data» text out r after
  pub opens : (sealed_bytes out : List ℕ) → (r : Result ℕ Refusal) × (after : List ℕ) × OpensTo tag_length key nonce «data» sealed_bytes out r after
  -- within the limits, as many bytes as a tag has that are not the tag of an empty text are answered with 7
  pub seven : (tag out : List ℕ) → WithinLimits tag_length key nonce «data» [] → length tag ≡ tag_length → (tag ≡ new_tag_of_length tag_length key nonce «data» [] → ⊥)
      → (r : Result ℕ Refusal) × (after : List ℕ) × OpensTo tag_length key nonce «data» tag out r after × (as_reply r ≡ refused 7)

-- ## Tapes

-- no opening of a tape is without an answer
abbrev pub OpeningReplies : Type 0
OpeningReplies = (key tape out : List ℕ) → (r : Result Totals Refusal) × (after : List ℕ) × OpensTape key tape out r after

-- 16 bytes behind a head that are not the tag of a tape of no tickets are answered with 7
abbrev pub TapeSeven : Type 0
TapeSeven =
    (key tag out : List ℕ) → length key ≡ key_length → length tag ≡ tape_tag_length
    → (tag ≡ new_tag key (nonce_of (pack_head good_head)) (pack_head good_head) [] → ⊥) → (open_tape key (pack_head good_head ++ tag) out).answer ≡ refused 7

-- ## All of it

pub record Examples : Type 0 where
  pub session_replies : SessionReplies
  pub writer_replies : WriterReplies
  pub sessions : SessionsExist
  pub writers : WritersExist
  pub of_sessions : SessionExamples
  pub of_writers : WriterExamples
  pub of_messages : (tag_length : ℕ) (key nonce «data» : List ℕ) → MessageExamples tag_length key nonce «data»
  pub opening_replies : OpeningReplies
  pub of_tapes : TapeSeven
