-- Document 01, "The stretches": the table, a definition a row, and what a run through a stretch gives.
use Rattle.std.specs.Prelude.{Bool, true, false, ◌&&◌, List, [], ◌∷◌, ◌++◌, ℕ, ◌+◌, ◌-◌, ◌*◌, ◌%◌, eqb, ltb, length, drop}
use Rattle.acorn_model.specs.Bits.{Bits, ◌⊕◌, bits_in, bytes}
use Rattle.calls.specs.Calls.{◌if◌else◌}
use Rattle.acorn_model.specs.Step.{StepInput, run, keystream_bit}

-- A row of the table. The message bit of step i is a function of that step's ks, which only the text of an opening reads.
pub record Stretch : Type 0 where
  pub steps : ℕ
  pub m : ℕ → Bool → Bool
  pub ca : ℕ → Bool
  pub cb : Bool

-- the bytes of a full tag; a shorter one is its last bytes
abbrev pub full_tag_length : ℕ
full_tag_length = 16

-- ## The rows

-- the message bits of start: key, nonce, and then the key's bits over and over, the first of these inverted
unfoldable pub start_bit : List ℕ → List ℕ → Bits
start_bit key nonce i =
    bits_in key i if ltb i 128 else
    bits_in nonce (i - 128) if ltb i 256 else
    eqb i 256 ⊕ bits_in key ((i - 256) % 128)

abbrev pub start : List ℕ → List ℕ → Stretch
start key nonce = record { steps = 1792; m = λ i ks. start_bit key nonce i; ca = λ i. true; cb = true }

-- data, a piece of it
abbrev pub data_piece : List ℕ → Stretch
data_piece piece = record { steps = 8 * length piece; m = λ i ks. bits_in piece i; ca = λ i. true; cb = true }

abbrev pub data_end : Stretch
data_end = record { steps = 256; m = λ i ks. eqb i 0; ca = λ i. ltb i 128; cb = true }

-- text, a piece of it: in sealing plain text is given; in opening ciphertext is given, and the text bit is its bit ⊕ ks
abbrev pub text_piece : Bool → List ℕ → Stretch
text_piece opening piece = record { steps = 8 * length piece; m = λ i ks. (opening && ks) ⊕ bits_in piece i; ca = λ i. true; cb = false }

abbrev pub text_end : Stretch
text_end = record { steps = 256; m = λ i ks. eqb i 0; ca = λ i. ltb i 128; cb = false }

abbrev pub final : Stretch
final = record { steps = 768; m = λ i ks. false; ca = λ i. true; cb = true }

-- ## A run through a stretch

abbrev pub inputs : Stretch → ℕ → StepInput
inputs stretch i = record { ca = stretch.ca i; cb = stretch.cb; m = stretch.m i }

-- the state after it
unfoldable pub through : Stretch → Bits → Bits
through stretch S = run (inputs stretch) stretch.steps S

-- its ks bits
unfoldable pub keystream : Stretch → Bits → Bits
keystream stretch S j = keystream_bit (run (inputs stretch) j S)

-- what comes out for a piece of text that goes in, bit by bit its own ⊕ ks: ciphertext in sealing, text in opening
unfoldable pub text_out : Bool → List ℕ → Bits → List ℕ
text_out opening piece S = bytes (length piece) (λ j. bits_in piece j ⊕ keystream (text_piece opening piece) S j)

-- the full tag, of the state before final: the last ks bits
unfoldable pub tag_of : Bits → List ℕ
tag_of S = bytes full_tag_length (λ j. keystream final S (final.steps - 8 * full_tag_length + j))

-- the last n bytes of a string
abbrev pub last_bytes : ℕ → List ℕ → List ℕ
last_bytes n string = drop (length string - n) string

-- a tag of n bytes (document 02, P4): the last bytes of the sixteen
abbrev pub tag_bytes : ℕ → Bits → List ℕ
tag_bytes n S = last_bytes n (tag_of S)

-- ## A message

-- all zeros
abbrev pub zeros : Bits
zeros p = false

-- the state after the data end
abbrev pub after_data : List ℕ → List ℕ → List ℕ → Bits
after_data key nonce «data» = through data_end (through (data_piece «data») (through (start key nonce) zeros))

-- the state before final
abbrev pub before_final : Bool → List ℕ → Bits → Bits
before_final opening text S = through text_end (through (text_piece opening text) S)

-- ## A message in pieces

-- the state after pieces of data, and after pieces of text
unfoldable pub data_pieces : List (List ℕ) → Bits → Bits
data_pieces [] S = S
data_pieces (piece ∷ pieces) S = data_pieces pieces (through (data_piece piece) S)

unfoldable pub text_pieces : Bool → List (List ℕ) → Bits → Bits
text_pieces opening [] S = S
text_pieces opening (piece ∷ pieces) S = text_pieces opening pieces (through (text_piece opening piece) S)

-- what comes out for pieces of text
unfoldable pub text_pieces_out : Bool → List (List ℕ) → Bits → List ℕ
text_pieces_out opening [] S = []
text_pieces_out opening (piece ∷ pieces) S = text_out opening piece S ++ text_pieces_out opening pieces (through (text_piece opening piece) S)

unfoldable pub joined : List (List ℕ) → List ℕ
joined [] = []
joined (piece ∷ pieces) = piece ++ joined pieces

-- the state after the data end, of data in pieces
abbrev pub after_data_pieces : List ℕ → List ℕ → List (List ℕ) → Bits
after_data_pieces key nonce pieces = through data_end (data_pieces pieces (through (start key nonce) zeros))
