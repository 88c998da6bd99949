-- How a session is held against document 01's machine: the one equation that every method's contract is.
use Rattle.std.specs.Prelude.{◌≡◌, Bool, ◌&&◌, ◌||◌, ℕ, ◌%◌, ◌^◌, List}
use Rattle.acorn_model.specs.declared.Kind.{Kind}
use Rattle.acorn_model.specs.declared.Kind.TheVariants.{Sealing, Checking}
use Rattle.acorn_model.specs.declared.Phase.{Phase}
use Rattle.calls.specs.declared.Answer.TheVariants.{Refused, Done}
use Rattle.calls.specs.declared.Refusal.{Refusal}
use Rattle.acorn_model.specs.Bits.{Bits}
use Rattle.calls.specs.Calls.{◌if◌else◌, Reply, refused, done, Work, left_unchanged, Outcome, answer_reply}
use Rattle.acorn_model.specs.Stretches.{full_tag_length, through, data_end}
use Rattle.acorn_model.specs.Machine.{Machine, with_steps, with_counts, Call, tag_length_right, is_sealing, is_checking, is_data, is_text, text_taken, call}
use Rattle.acorn_kernel.specs.declared.State.{State}
use Rattle.acorn_kernel.specs.Together.{state_of}
use Rattle.session.specs.declared.Session.{Session}
use Rattle.session.specs.declared.Reply.{Reply as SessionReply}

-- the tag's length that a number stands for: itself from 8 to 16, and any other number stands for sixteen
unfoldable pub length_of : ℕ → ℕ
length_of n = n if tag_length_right n else full_tag_length

-- the machine that a session stands for: every value of the struct stands for one
unfoldable pub machine_of : Session → Machine
machine_of s =
    record {
      kind = s.kind;
      phase = s.phase;
      tag_length = length_of s.tag_length;
      state = state_of s.state;
      counts = record { data_bytes = s.data_bytes; text_bytes = s.text_bytes; steps = s.steps };
    }

-- what a call's reply, and its output after it, come to
unfoldable pub session_outcome : SessionReply → List ℕ → Outcome Machine Work
session_outcome r out = record { next = machine_of r.session; answer = answer_reply r.answer; out = out }

-- ## Counting in 64 bits

-- A session's count of steps wraps around at 2 ^ 64. A session that was fresh comes nowhere near, but a value of the struct may hold any count.
-- A refused call, but for one with 7, changes nothing, and so not the count.
unfoldable pub wrapped : ℕ → ℕ
wrapped n = n % 2 ^ 64

unfoldable pub wrapped_machine : Machine → Machine
wrapped_machine m = with_counts (with_steps (wrapped m.counts.steps) m.counts) m

unfoldable pub wrapped_reply : Reply Work → Reply Work
wrapped_reply (refused n) = refused n
wrapped_reply (done w) = done (record { bytes = w.bytes; steps = wrapped w.steps })

unfoldable pub wrapped_outcome : Outcome Machine Work → Outcome Machine Work
wrapped_outcome o = record { next = o.next if left_unchanged o.answer else wrapped_machine o.next; answer = wrapped_reply o.answer; out = o.out }

-- ## The contract of a call

-- the call c of the session s gave the reply r and left `out` in its output ([] where it is lent none)
abbrev pub Called : Session → Call → SessionReply → List ℕ → Type 0
Called s c r out = session_outcome r out ≡ wrapped_outcome (call (machine_of s) c)

-- ## What the private functions cite

-- replies with a refusal, and with the bytes written and the session's steps
abbrev pub refused_reply : Refusal → Session → SessionReply
refused_reply refusal s = record { answer = Refused refusal; session = s }

abbrev pub done_reply : ℕ → Session → SessionReply
done_reply bytes s = record { answer = Done bytes s.steps; session = s }

-- whether the text calls and the close of a kind are allowed
abbrev pub takes_text : Kind → Session → Bool
takes_text Sealing s = is_sealing s.kind && (is_data s.phase || is_text s.phase)
takes_text Checking s = is_checking s.kind && (is_data s.phase || is_text s.phase)

-- the state after the data end, which text and close run first where the phase is data, and the steps of that
unfoldable pub ended_state : Phase → Bits → Bits
ended_state phase S = through data_end S if is_data phase else S

abbrev pub data_end_steps : Phase → ℕ
data_end_steps phase = data_end.steps if is_data phase else 0

-- the session z after a piece of text, where `state` is what the piece led to
abbrev pub TextTaken : Session → List ℕ → State → Session → Type 0
TextTaken s piece state z = state_of state ≡ (text_taken piece (machine_of s)).state → machine_of z ≡ wrapped_machine (text_taken piece (machine_of s))
