-- Document 01, "The one-step machine and the session" and "What sends a call back", with document 02's P4: what the machine holds, its calls, the
-- numbers that send a call back, and what an accepted call does.
use Rattle.std.specs.Prelude.{Bool, true, false, not, ◌&&◌, ◌||◌, List, [], ℕ, ◌+◌, eqb, leb, ltb, length}
use Rattle.acorn_model.specs.declared.Kind.{Kind}
use Rattle.acorn_model.specs.declared.Kind.TheVariants.{Sealing, Checking}
use Rattle.acorn_model.specs.declared.Phase.{Phase}
use Rattle.acorn_model.specs.declared.Phase.TheVariants.{Fresh, Data, Text, Closed}
use Rattle.acorn_model.specs.Bits.{Bits}
use Rattle.calls.specs.Calls.{◌if◌else◌, Reply, refused, done, Work, accepted, unless_refused, written_over, same_bytes, Outcome, refused_with}
use Rattle.acorn_model.specs.Stretches.{Stretch, full_tag_length, through, zeros, start, data_piece, data_end, text_piece, text_end, final, text_out, tag_bytes}

-- ## What it holds

-- the bytes of data and of text taken, and the steps run since it was fresh
pub record Counts : Type 0 where
  pub data_bytes : ℕ
  pub text_bytes : ℕ
  pub steps : ℕ

abbrev pub zero_counts : Counts
zero_counts = record { data_bytes = 0; text_bytes = 0; steps = 0 }

-- one count is so much, and the others stay
abbrev pub with_data_bytes : ℕ → Counts → Counts
with_data_bytes n counts = record { data_bytes = n; text_bytes = counts.text_bytes; steps = counts.steps }

abbrev pub with_text_bytes : ℕ → Counts → Counts
with_text_bytes n counts = record { data_bytes = counts.data_bytes; text_bytes = n; steps = counts.steps }

abbrev pub with_steps : ℕ → Counts → Counts
with_steps n counts = record { data_bytes = counts.data_bytes; text_bytes = counts.text_bytes; steps = n }

-- its tag length is the bytes of the tag that its close writes or is given
pub record Machine : Type 0 where
  pub kind : Kind
  pub phase : Phase
  pub tag_length : ℕ
  pub state : Bits
  pub counts : Counts

-- another tag length, another state, or other counts, and the rest stays
abbrev pub with_tag_length : ℕ → Machine → Machine
with_tag_length n m = record { kind = m.kind; phase = m.phase; tag_length = n; state = m.state; counts = m.counts }

abbrev pub with_state : Bits → Machine → Machine
with_state S m = record { kind = m.kind; phase = m.phase; tag_length = m.tag_length; state = S; counts = m.counts }

abbrev pub with_counts : Counts → Machine → Machine
with_counts counts m = record { kind = m.kind; phase = m.phase; tag_length = m.tag_length; state = m.state; counts = counts }

-- a machine that no call has reached: its tag is full until a begin fixes another length
unfoldable pub fresh : Kind → Machine
fresh kind = record { kind = kind; phase = Fresh; tag_length = full_tag_length; state = zeros; counts = zero_counts }

-- ## Calls

-- A call with its arguments and, where it writes, its output as it stands. Text and close are there for each kind. Begin is given the tag's length.
pub data Call : Type 0 where
  begin : (key nonce : List ℕ) (tag_length : ℕ) → Call
  data_call : (piece : List ℕ) → Call
  seal_text : (piece out : List ℕ) → Call
  check_text : (piece : List ℕ) → Call
  seal_close : (out : List ℕ) → Call
  check_close : (tag : List ℕ) → Call

-- the output that a call is lent
unfoldable pub output_of : Call → List ℕ
output_of (begin key nonce n) = []
output_of (data_call piece) = []
output_of (seal_text piece out) = out
output_of (check_text piece) = []
output_of (seal_close out) = out
output_of (check_close tag) = []

-- ## What sends a call back

abbrev pub is_sealing : Kind → Bool
is_sealing Sealing = true
is_sealing Checking = false

abbrev pub is_checking : Kind → Bool
is_checking Sealing = false
is_checking Checking = true

abbrev pub is_fresh : Phase → Bool
is_fresh Fresh = true
is_fresh Data = false
is_fresh Text = false
is_fresh Closed = false

abbrev pub is_data : Phase → Bool
is_data Fresh = false
is_data Data = true
is_data Text = false
is_data Closed = false

abbrev pub is_text : Phase → Bool
is_text Fresh = false
is_text Data = false
is_text Text = true
is_text Closed = false

-- 1: whether phase and kind allow the call
unfoldable pub phase_allows : Kind → Phase → Call → Bool
phase_allows kind phase (begin key nonce n) = is_fresh phase
phase_allows kind phase (data_call piece) = is_data phase
phase_allows kind phase (seal_text piece out) = is_sealing kind && (is_data phase || is_text phase)
phase_allows kind phase (check_text piece) = is_checking kind && (is_data phase || is_text phase)
phase_allows kind phase (seal_close out) = is_sealing kind && (is_data phase || is_text phase)
phase_allows kind phase (check_close tag) = is_checking kind && (is_data phase || is_text phase)

-- 9: a tag has from 8 to 16 bytes
abbrev pub least_tag_length : ℕ
least_tag_length = 8

abbrev pub tag_length_right : ℕ → Bool
tag_length_right n = leb least_tag_length n && leb n full_tag_length

-- whether the length that the call fixes is one of these
unfoldable pub fixes_right : Call → Bool
fixes_right (begin key nonce n) = tag_length_right n
fixes_right (data_call piece) = true
fixes_right (seal_text piece out) = true
fixes_right (check_text piece) = true
fixes_right (seal_close out) = true
fixes_right (check_close tag) = true

-- the bytes of a key, and those of a nonce
abbrev pub key_length : ℕ
key_length = 16

abbrev pub nonce_length : ℕ
nonce_length = 16

abbrev pub key_and_nonce_right : List ℕ → List ℕ → Bool
key_and_nonce_right key nonce = eqb (length key) key_length && eqb (length nonce) nonce_length

-- 2: whether key, nonce and tag have their sizes; the tag's is the length that was fixed
unfoldable pub sizes_right : ℕ → Call → Bool
sizes_right tag_length (begin key nonce n) = key_and_nonce_right key nonce
sizes_right tag_length (data_call piece) = true
sizes_right tag_length (seal_text piece out) = true
sizes_right tag_length (check_text piece) = true
sizes_right tag_length (seal_close out) = true
sizes_right tag_length (check_close tag) = eqb (length tag) tag_length

-- 5: the most bytes of data, and the most of text, each by itself
abbrev pub byte_limit : ℕ
byte_limit = 65536

unfoldable pub over_limit : Counts → Call → Bool
over_limit counts (begin key nonce n) = false
over_limit counts (data_call piece) = ltb byte_limit (counts.data_bytes + length piece)
over_limit counts (seal_text piece out) = ltb byte_limit (counts.text_bytes + length piece)
over_limit counts (check_text piece) = ltb byte_limit (counts.text_bytes + length piece)
over_limit counts (seal_close out) = false
over_limit counts (check_close tag) = false

-- 6: whether the output is too short for what the call would write
unfoldable pub output_short : ℕ → Call → Bool
output_short tag_length (begin key nonce n) = false
output_short tag_length (data_call piece) = false
output_short tag_length (seal_text piece out) = ltb (length out) (length piece)
output_short tag_length (check_text piece) = false
output_short tag_length (seal_close out) = ltb (length out) tag_length
output_short tag_length (check_close tag) = false

-- the first number that applies, 9 right after 1 and else the smallest, of those that stop a call before it runs a step (7 is known at the end of a
-- checking close)
unfoldable pub refusal : Machine → Call → ℕ
refusal m call =
    1 if not (phase_allows m.kind m.phase call) else
    9 if not (fixes_right call) else
    2 if not (sizes_right m.tag_length call) else
    5 if over_limit m.counts call else
    6 if output_short m.tag_length call else
    accepted

-- ## What an accepted call does

-- the steps of a stretch are run, and counted
unfoldable pub run_through : Stretch → Machine → Machine
run_through stretch m = with_counts (with_steps (m.counts.steps + stretch.steps) m.counts) (with_state (through stretch m.state) m)

unfoldable pub enter : Phase → Machine → Machine
enter phase m = record { kind = m.kind; phase = phase; tag_length = m.tag_length; state = m.state; counts = m.counts }

unfoldable pub cleared : Machine → Machine
cleared m = with_state zeros m

unfoldable pub count_data : ℕ → Machine → Machine
count_data n m = with_counts (with_data_bytes (m.counts.data_bytes + n) m.counts) m

unfoldable pub count_text : ℕ → Machine → Machine
count_text n m = with_counts (with_text_bytes (m.counts.text_bytes + n) m.counts) m

-- begin: start runs, from all zeros, and the tag's length is fixed
unfoldable pub begun : List ℕ → List ℕ → ℕ → Machine → Machine
begun key nonce n m = with_tag_length n (enter Data (run_through (start key nonce) (cleared m)))

-- data: the piece's bits run
unfoldable pub data_taken : List ℕ → Machine → Machine
data_taken piece m = count_data (length piece) (run_through (data_piece piece) m)

-- text and close first run the data end, where the machine is still in data
unfoldable pub data_ended : Machine → Machine
data_ended m = run_through data_end m if is_data m.phase else m

-- text: the piece's bits run; a checking machine is given ciphertext
unfoldable pub text_taken : List ℕ → Machine → Machine
text_taken piece m = enter Text (count_text (length piece) (run_through (text_piece (is_checking m.kind) piece) (data_ended m)))

-- close: text end and final run. What the state is after a close is left to choice, and nothing reads it: it holds zeros.
unfoldable pub text_ended : Machine → Machine
text_ended m = run_through text_end (data_ended m)

unfoldable pub closed : Machine → Machine
closed m = enter Closed (cleared (run_through final (text_ended m)))

-- the answer to an accepted call that wrote so many bytes
unfoldable pub answered : ℕ → Machine → Reply Work
answered n m = done (record { bytes = n; steps = m.counts.steps })

-- an accepted call that led to the machine m and wrote these bytes
unfoldable pub wrote : List ℕ → Machine → List ℕ → Outcome Machine Work
wrote written m out = record { next = m; answer = answered (length written) m; out = written_over written out }

-- good, or 7
unfoldable pub verdict : Bool → Machine → Reply Work
verdict true m = answered 0 m
verdict false m = refused 7

unfoldable pub work : Machine → Call → Outcome Machine Work
work m (begin key nonce n) = wrote [] (begun key nonce n m) []
work m (data_call piece) = wrote [] (data_taken piece m) []
work m (seal_text piece out) = wrote (text_out false piece (data_ended m).state) (text_taken piece m) out
work m (check_text piece) = wrote [] (text_taken piece m) []
work m (seal_close out) = wrote (tag_bytes m.tag_length (text_ended m).state) (closed m) out
work m (check_close tag) = record { next = closed m; answer = verdict (same_bytes tag (tag_bytes m.tag_length (text_ended m).state)) (closed m); out = [] }

-- ## One call

unfoldable pub call : Machine → Call → Outcome Machine Work
call m c = unless_refused (refusal m c) (work m c) (refused_with (refusal m c) m (output_of c))
