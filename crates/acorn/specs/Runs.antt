-- What the runs over strings come to, for every argument. Where an output is too short, or a key or nonce has not its size, or a tag of more bytes
-- than sixteen is asked for, no step is run and nothing is written.
use Rattle.std.specs.Prelude.{◌≡◌, Bool, ◌||◌, false, List, ◌++◌, ℕ, ◌+◌, ◌-◌, ◌*◌, ◌%◌, ◌≤◌, ◌<◌, ltb, length, drop}
use Rattle.acorn_model.specs.Bits.{Bits, ◌⊕◌, bit, bits_in, bytes}
use Rattle.acorn_model.specs.Step.{run}
use Rattle.calls.specs.Calls.{◌if◌else◌, written_over}
use Rattle.acorn_model.specs.Stretches.{Stretch, inputs, through, keystream, zeros, start, text_piece, text_out, tag_of, tag_bytes, full_tag_length}
use Rattle.acorn_model.specs.Machine.{key_and_nonce_right}
use Rattle.acorn_kernel.specs.Together.{inputs_from}
use Rattle.acorn.specs.Table.{ca_at, cb_at}

-- A piece of text is run from the state S into an output: S' is the state and out' the output after it.
pub record TextRun (opening : Bool) (S : Bits) (piece out : List ℕ) (S' : Bits) (out' : List ℕ) : Type 0 where
  pub state : S' ≡ (S if ltb (length out) (length piece) else through (text_piece opening piece) S)
  pub output : out' ≡ (out if ltb (length out) (length piece) else written_over (text_out opening piece S) out)

-- the bits that come out for a piece of text
abbrev pub out_bits : Bool → List ℕ → Bits → Bits
out_bits opening piece S j = bits_in piece j ⊕ keystream (text_piece opening piece) S j

-- out is out₀ with i bytes of the bits b at its start
abbrev pub Written : Bits → List ℕ → ℕ → List ℕ → Type 0
Written b out₀ i out = out ≡ bytes i b ++ drop i out₀

-- i bytes of a piece of text are run from the state S, and written over out₀: T and out are the state and the output then
pub record TextUpTo (opening : Bool) (S : Bits) (piece out₀ : List ℕ) (i : ℕ) (T : Bits) (out : List ℕ) : Type 0 where
  pub state : T ≡ run (inputs (text_piece opening piece)) (8 * i) S
  pub output : Written (out_bits opening piece S) out₀ i out

-- For steps `first` to `last` of the longest message, 32 at a time: the message bits that are given from a step on, and the control bits that the table
-- has for it, are what the steps of the row take, from its step `done` on.
abbrev pub Takes : (ℕ → ℕ → Type 0) → ℕ → ℕ → Stretch → ℕ → Type 0
Takes given first last row done =
    (n x : ℕ) → first ≤ n → n < last → (n - first) % 32 ≡ 0 → given n x → (i : ℕ) → i < 32
    → inputs_from false (ca_at n) (cb_at n) (bit x) i ≡ inputs row (done + (n - first) + i)

-- the state after start, of a key and a nonce of 16 bytes
unfoldable pub start_state : List ℕ → List ℕ → Bits
start_state key nonce = through (start key nonce) zeros if key_and_nonce_right key nonce else zeros

-- the output after the full tag of the state S before final is written, and after its last n bytes are
unfoldable pub tag_output : Bits → List ℕ → List ℕ
tag_output S out = out if ltb (length out) full_tag_length else written_over (tag_of S) out

unfoldable pub tag_bytes_output : ℕ → Bits → List ℕ → List ℕ
tag_bytes_output n S out = out if ltb full_tag_length n || ltb (length out) n else written_over (tag_bytes n S) out
