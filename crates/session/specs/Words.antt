-- A session in eleven words, for callers that cannot hold the struct. Any eleven words stand for a session.
use Rattle.std.specs.Prelude.{ℕ, ◌+◌, ◌*◌, ◌%◌, ◌^◌, ◌||◌, List, [], ◌∷◌, ◌++◌, ◌==◌, nat_eq, nat_lt, slice_index}
use Rattle.acorn_model.specs.declared.Kind.{Kind}
use Rattle.acorn_model.specs.declared.Kind.TheVariants.{Sealing, Checking}
use Rattle.acorn_model.specs.declared.Phase.{Phase}
use Rattle.acorn_model.specs.declared.Phase.TheVariants.{Fresh, Data, Text, Closed}
use Rattle.acorn_model.specs.Bits.{Bits, number}
use Rattle.calls.specs.Calls.{◌if◌else◌}
use Rattle.acorn_model.specs.Machine.{Machine}
use Rattle.acorn_kernel.specs.declared.State.{State}
use Rattle.session.specs.declared.Session.{Session}
use Rattle.session.specs.Clauses.{machine_of}

-- ## Kind and phase in one number: any but those listed is a closed checking session

abbrev pub kind_phase_number : Kind → Phase → ℕ
kind_phase_number Sealing Fresh = 0
kind_phase_number Sealing Data = 1
kind_phase_number Sealing Text = 2
kind_phase_number Sealing Closed = 3
kind_phase_number Checking Fresh = 4
kind_phase_number Checking Data = 5
kind_phase_number Checking Text = 6
kind_phase_number Checking Closed = 7

abbrev pub kind_in : ℕ → Kind
kind_in n = Sealing if nat_lt n 4 else Checking

abbrev pub phase_in : ℕ → Phase
phase_in n =
    Fresh if n == 0 || nat_eq n 4 else
    Data if n == 1 || nat_eq n 5 else
    Text if n == 2 || nat_eq n 6 else
    Closed

-- ## The eleven words

-- the state's six, the bytes of data and of text, the steps, the number of kind and phase
unfoldable pub first_ten : Session → List ℕ
first_ten s =
    s.state.w0
    ∷ s.state.w1
    ∷ s.state.w2
    ∷ s.state.w3
    ∷ s.state.w4
    ∷ s.state.w5
    ∷ s.data_bytes
    ∷ s.text_bytes
    ∷ s.steps
    ∷ kind_phase_number s.kind s.phase
    ∷ []

-- and the tag's length
unfoldable pub words_of : Session → List ℕ
words_of s = first_ten s ++ (s.tag_length ∷ [])

unfoldable pub session_in : List ℕ → Session
session_in words =
    record {
      state = record {
        w0 = slice_index words 0;
        w1 = slice_index words 1;
        w2 = slice_index words 2;
        w3 = slice_index words 3;
        w4 = slice_index words 4;
        w5 = slice_index words 5;
      };
      data_bytes = slice_index words 6;
      text_bytes = slice_index words 7;
      steps = slice_index words 8;
      kind = kind_in (slice_index words 9);
      phase = phase_in (slice_index words 9);
      tag_length = slice_index words 10 % 256;
    }

-- the machine that eleven words stand for
unfoldable pub machine_in : List ℕ → Machine
machine_in words = machine_of (session_in words)

-- ## The words of a machine

-- 293 bits in six words: each word's own bits are its highest, and below them are zeros
unfoldable pub state_for : Bits → State
state_for S =
    record {
      w0 = number 61 (λ j. S (0 + j)) * 2 ^ 3;
      w1 = number 46 (λ j. S (61 + j)) * 2 ^ 18;
      w2 = number 47 (λ j. S (107 + j)) * 2 ^ 17;
      w3 = number 39 (λ j. S (154 + j)) * 2 ^ 25;
      w4 = number 37 (λ j. S (193 + j)) * 2 ^ 27;
      w5 = number 63 (λ j. S (230 + j)) * 2 ^ 1;
    }

unfoldable pub session_for : Machine → Session
session_for m =
    record {
      state = state_for m.state;
      data_bytes = m.counts.data_bytes;
      text_bytes = m.counts.text_bytes;
      steps = m.counts.steps;
      kind = m.kind;
      phase = m.phase;
      tag_length = m.tag_length;
    }

-- the eleven words that are stored for a machine
unfoldable pub words_for : Machine → List ℕ
words_for m = words_of (session_for m)
