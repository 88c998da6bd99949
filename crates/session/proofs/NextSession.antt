-- The machine that the session after a call stands for, from what the code tells of the session's fields.
use Rattle.std.proofs.Common.{◌≡◌, ℕ, ◌+◌, ◌*◌, ◌%◌, ◌^◌, ◌≤◌, Bool, true, false, ◌&&◌, List, length, sym, refl, ap, ◌∙◌, ap₂, add-zero, arith}
use Rattle.acorn_model.specs.declared.Kind.{Kind}
use Rattle.acorn_model.specs.declared.Kind.TheVariants.{Sealing, Checking}
use Rattle.acorn_model.specs.declared.Phase.{Phase}
use Rattle.acorn_model.specs.declared.Phase.TheVariants.{Text, Closed}
use Rattle.acorn_model.specs.Bits.{Bits}
use Rattle.calls.specs.Calls.{◌if◌else◌, written_over}
use Rattle.acorn_model.specs.Stretches.{full_tag_length, through, zeros, data_end, text_piece, text_end, final, text_out}
use Rattle.acorn_model.specs.Machine.{Machine, with_steps, with_state, with_counts, tag_length_right, is_sealing, is_checking, is_data, run_through, enter, cleared, count_text, data_ended, text_taken, text_ended, closed}
use Rattle.acorn_kernel.specs.declared.State.{State}
use Rattle.acorn_kernel.specs.Together.{state_of}
use Rattle.session.specs.declared.Session.{Session}
use Rattle.session.specs.Clauses.{length_of, machine_of, wrapped, wrapped_machine, ended_state, data_end_steps}

-- a length that a tag may have stands for itself, and every other stands for one, too
pub length-of : (n : ℕ) → tag_length_right n ≡ true → length_of n ≡ n
unfolding length_of
length-of n h = rw h

pub length_of_none : (n : ℕ) → tag_length_right n ≡ false → length_of n ≡ full_tag_length
unfolding length_of
length_of_none n h = rw h

pub length_of_right : (n : ℕ) → tag_length_right (length_of n) ≡ true
unfolding length_of
length_of_right n = by (tag_length_right n) refl
  where
    by : (b : Bool) → tag_length_right n ≡ b → tag_length_right (n if b else full_tag_length) ≡ true
    by true e = e
    by false e = refl

-- field by field
pub stands_for : (z : Session) (m : Machine) → z.kind ≡ m.kind → z.phase ≡ m.phase → length_of z.tag_length ≡ m.tag_length → state_of z.state ≡ m.state
    → z.data_bytes ≡ m.counts.data_bytes → z.text_bytes ≡ m.counts.text_bytes → z.steps ≡ wrapped m.counts.steps
    → machine_of z ≡ wrapped_machine m
unfolding machine_of wrapped_machine
stands_for z m kind phase tag_length state data_bytes text_bytes steps = λ i. record {
  kind = kind i;
  phase = phase i;
  tag_length = tag_length i;
  state = state i;
  counts = record { data_bytes = data_bytes i; text_bytes = text_bytes i; steps = steps i };
}

-- ## The data end

pub ended_steps_small : (phase : Phase) → data_end_steps phase ≤ 256
ended_steps_small phase = by (is_data phase)
  where
    by : (t : Bool) → (data_end.steps if t else 0) ≤ 256
    by true = omega arith
    by false = omega arith

module _ (m : Machine) where
  abbrev ended_if : Bool → Machine
  ended_if t = with_counts (with_steps (m.counts.steps + (data_end.steps if t else 0)) m.counts) (with_state (through data_end m.state if t else m.state) m)

  data-ended : data_ended m ≡ ended_if (is_data m.phase)
  unfolding data_ended
  data-ended = by (is_data m.phase)
    where
      by : (t : Bool) → (run_through data_end m if t else m) ≡ ended_if t
      by true = unfold run_through in refl
      by false = rw add-zero

  ended-state : (data_ended m).state ≡ ended_state m.phase m.state
  unfolding ended_state
  ended-state = ap (λ (x : Machine). x.state) data-ended

-- ## Text and close

module _ (s : Session) (state : State) (k : ℕ) (e : k ≡ data_end_steps s.phase) where
  pub text_session : (piece : List ℕ) → state_of state ≡ (text_taken piece (machine_of s)).state
      → machine_of (record { state = state; data_bytes = s.data_bytes; text_bytes = s.text_bytes + length piece; steps = (s.steps + (k + 8 * length piece)) % 2 ^ 64; kind = s.kind; phase = Text; tag_length = s.tag_length })
      ≡ wrapped_machine (text_taken piece (machine_of s))
  unfolding text_taken count_text enter run_through machine_of wrapped
  text_session piece h =
      stands_for _ (after (ended_if (machine_of s) (is_data s.phase))) refl refl refl (h ∙ ap (λ (m : Machine). (after m).state) (data-ended (machine_of s))) refl refl (omega arith)
      ∙ ap (λ (m : Machine). wrapped_machine (after m)) (sym (data-ended (machine_of s)))
    where
      after : Machine → Machine
      after m = enter Text (count_text (length piece) (run_through (text_piece (is_checking s.kind) piece) m))

  pub closed_session : state_of state ≡ zeros
      → machine_of (record { state = state; data_bytes = s.data_bytes; text_bytes = s.text_bytes; steps = (s.steps + (k + 1024)) % 2 ^ 64; kind = s.kind; phase = Closed; tag_length = s.tag_length })
      ≡ wrapped_machine (closed (machine_of s))
  unfolding closed text_ended cleared enter run_through machine_of wrapped
  closed_session h =
      stands_for _ (after (ended_if (machine_of s) (is_data s.phase))) refl refl refl h refl refl (omega arith)
      ∙ ap (λ (m : Machine). wrapped_machine (after m)) (sym (data-ended (machine_of s)))
    where
      after : Machine → Machine
      after m = enter Closed (cleared (run_through final (run_through text_end m)))

-- after the data end, the session's and the machine's: the state that a piece of text leads to, the ciphertext written, and the state before final
module _ (s : Session) where
  abbrev ended : Bits
  ended = ended_state s.phase (state_of s.state)

  is_ended : ended ≡ (data_ended (machine_of s)).state
  unfolding machine_of
  is_ended = sym (ended-state (machine_of s))

  pub text-state : (piece : List ℕ) (opening : Bool) → is_checking s.kind ≡ opening → through (text_piece opening piece) ended ≡ (text_taken piece (machine_of s)).state
  unfolding text_taken count_text enter run_through machine_of
  text-state piece opening k = ap₂ (λ (o : Bool) (S : Bits). through (text_piece o piece) S) (sym k) is_ended

  pub sealed_output : (piece out : List ℕ) → written_over (text_out false piece ended) out ≡ written_over (text_out false piece (data_ended (machine_of s)).state) out
  sealed_output piece out = ap (λ (S : Bits). written_over (text_out false piece S) out) is_ended

  pub closing_state : through text_end ended ≡ (text_ended (machine_of s)).state
  unfolding text_ended run_through
  closing_state = ap (through text_end) is_ended

-- a call that only sealing sessions take
pub sealing_only : (kind : Kind) (t : Bool) → (is_sealing kind && t) ≡ true → is_checking kind ≡ false
sealing_only Sealing t e = refl
sealing_only Checking t e = sym e
