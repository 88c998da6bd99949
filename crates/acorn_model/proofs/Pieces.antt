-- Data and text in pieces: a piece after a piece is the two joined, in the state after them and in what comes out.
use mathlib.Core.Path.{◌≡◌, refl, sym, ap, ap₂, ◌∙◌}
use mathlib.Core.Bool.{Bool, true, false, ◌&&◌}
use mathlib.Core.List.{List, [], ◌∷◌, ◌++◌}
use Prim.Native.Nat.{ℕ, ◌+◌, ◌*◌, ◌≤◌}
use native.Mathlib.Omega.{arith}
use lib.ListN.{length, length-append}
use Rattle.acorn_model.specs.Bits.{Bits, ◌⊕◌, bits_in, bytes}
use Rattle.acorn_model.specs.Step.{StepInput, run, keystream_bit}
use Rattle.acorn_model.specs.Stretches.{Stretch, start, data_piece, data_end, text_piece, text_end, inputs, through, keystream, text_out, tag_of, zeros, after_data, before_final, data_pieces, text_pieces, text_pieces_out, joined}
use Rattle.acorn_model.specs.declared.Kind.{Kind}
use Rattle.acorn_model.specs.declared.Phase.TheVariants.{Text}
use Rattle.calls.specs.Calls.{◌if◌else◌}
use Rattle.acorn_model.specs.Machine.{Machine, is_checking, is_data, run_through, enter, count_data, count_text, data_taken, data_ended, text_taken}
use Rattle.acorn_model.proofs.Bytes.{bytes_same, bytes_add, bits_left, bits_right}
use Rattle.acorn_model.proofs.Runs.{run-same, run_none, run_on}

-- ## Any stretch over a string

-- A piece of data is one with false and true; a piece of text is one with cb false.
abbrev pub piece_of : Bool → Bool → List ℕ → Stretch
piece_of opening cb l = record { steps = 8 * length l; m = λ i ks. (opening && ks) ⊕ bits_in l i; ca = λ i. true; cb = cb }

module _ (opening cb : Bool) where
  -- what a step over the bit b takes
  abbrev pub bit_input : Bool → StepInput
  bit_input b = record { ca = true; cb = cb; m = λ ks. (opening && ks) ⊕ b }

  pub piece_of_none : (S : Bits) → through (piece_of opening cb []) S ≡ S
  unfolding through
  piece_of_none S = run_none (inputs (piece_of opening cb [])) S

  module _ (l k : List ℕ) (S : Bits) where
    pub run-left : (j : ℕ) → j ≤ 8 * length l → run (inputs (piece_of opening cb (l ++ k))) j S ≡ run (inputs (piece_of opening cb l)) j S
    run-left j h = run-same _ _ j S (λ i m. ap bit_input (bits_left l k i (omega arith)))

    pub run_right : (j : ℕ) → run (inputs (piece_of opening cb (l ++ k))) (8 * length l + j) S ≡ run (inputs (piece_of opening cb k)) j (through (piece_of opening cb l) S)
    unfolding through
    run_right j =
        run_on _ _ (8 * length l) j S _ (run-left (8 * length l) (omega arith)) (λ i m. ap bit_input (bits_right l k i))

    pub piece_of-append : through (piece_of opening cb (l ++ k)) S ≡ through (piece_of opening cb k) (through (piece_of opening cb l) S)
    unfolding through
    piece_of-append =
        let e : 8 * length (l ++ k) ≡ 8 * length l + 8 * length k = omega (arith, length-append l k) in
        ap (λ (n : ℕ). run (inputs (piece_of opening cb (l ++ k))) n S) e ∙ run_right (8 * length k)

-- ## Data

pub data_piece_none : (S : Bits) → through (data_piece []) S ≡ S
data_piece_none = piece_of_none false true

pub data_piece-append : (l k : List ℕ) (S : Bits) → through (data_piece (l ++ k)) S ≡ through (data_piece k) (through (data_piece l) S)
data_piece-append = piece_of-append false true

pub data_pieces-joined : (ls : List (List ℕ)) (S : Bits) → data_pieces ls S ≡ through (data_piece (joined ls)) S
unfolding data_pieces joined
data_pieces-joined [] S = sym (data_piece_none S)
data_pieces-joined (l ∷ ls) S = data_pieces-joined ls (through (data_piece l) S) ∙ sym (data_piece-append l (joined ls) S)

-- ## Text

module _ (opening : Bool) where
  pub text_piece_none : (S : Bits) → through (text_piece opening []) S ≡ S
  text_piece_none = piece_of_none opening false

  pub text_piece-append : (l k : List ℕ) (S : Bits) → through (text_piece opening (l ++ k)) S ≡ through (text_piece opening k) (through (text_piece opening l) S)
  text_piece-append = piece_of-append opening false

  pub text_pieces-joined : (ls : List (List ℕ)) (S : Bits) → text_pieces opening ls S ≡ through (text_piece opening (joined ls)) S
  unfolding text_pieces joined
  text_pieces-joined [] S = sym (text_piece_none S)
  text_pieces-joined (l ∷ ls) S = text_pieces-joined ls (through (text_piece opening l) S) ∙ sym (text_piece-append l (joined ls) S)

  -- what comes out
  pub text_out_none : (S : Bits) → text_out opening [] S ≡ []
  unfolding text_out bytes
  text_out_none S = refl

  pub text_out-append : (l k : List ℕ) (S : Bits) → text_out opening (l ++ k) S ≡ text_out opening l S ++ text_out opening k (through (text_piece opening l) S)
  unfolding text_out keystream
  text_out-append l k S =
      ap (λ (n : ℕ). bytes n both) (length-append l k) ∙ bytes_add (length l) (length k) both
      ∙ ap₂ ◌++◌ (bytes_same (length l) _ _ (λ j h. ap₂ ◌⊕◌ (bits_left l k j h) (ap keystream_bit (run-left opening false l k S j (omega arith)))))
      (bytes_same (length k) _ _ (λ j h. ap₂ ◌⊕◌ (bits_right l k j) (ap keystream_bit (run_right opening false l k S j))))
    where
      both : Bits
      both j = bits_in (l ++ k) j ⊕ keystream_bit (run (inputs (text_piece opening (l ++ k))) j S)

  pub text_pieces_out-joined : (ls : List (List ℕ)) (S : Bits) → text_pieces_out opening ls S ≡ text_out opening (joined ls) S
  unfolding text_pieces_out joined
  text_pieces_out-joined [] S = sym (text_out_none S)
  text_pieces_out-joined (l ∷ ls) S = ap (λ (t : List ℕ). text_out opening l S ++ t) (text_pieces_out-joined ls (through (text_piece opening l) S)) ∙ sym (text_out-append l (joined ls) S)

-- ## A message

module _ (key nonce : List ℕ) (ds : List (List ℕ)) where
  pub after-data-pieces : through data_end (data_pieces ds (through (start key nonce) zeros)) ≡ after_data key nonce (joined ds)
  after-data-pieces = ap (through data_end) (data_pieces-joined ds (through (start key nonce) zeros))

  module _ (opening : Bool) (ts : List (List ℕ)) where
    pub message_out : text_pieces_out opening ts (through data_end (data_pieces ds (through (start key nonce) zeros))) ≡ text_out opening (joined ts) (after_data key nonce (joined ds))
    message_out = text_pieces_out-joined opening ts _ ∙ ap (text_out opening (joined ts)) after-data-pieces

    pub message_tag : tag_of (through text_end (text_pieces opening ts (through data_end (data_pieces ds (through (start key nonce) zeros))))) ≡ tag_of (before_final opening (joined ts) (after_data key nonce (joined ds)))
    message_tag = ap (λ (S : Bits). tag_of (through text_end S)) (text_pieces-joined opening ts _ ∙ ap (through (text_piece opening (joined ts))) after-data-pieces)

-- ## The machine

ended_kind : (m : Machine) → (data_ended m).kind ≡ m.kind
unfolding data_ended run_through
ended_kind m = by (is_data m.phase)
  where
    by : (b : Bool) → (run_through data_end m if b else m).kind ≡ m.kind
    by true = refl
    by false = refl

module _ (m : Machine) (a b : List ℕ) where
  -- counted one after the other, or at once
  counted : (n : ℕ) → (n + length a) + length b ≡ n + length (a ++ b)
  counted n = omega (arith, length-append a b)

  stepped : (n : ℕ) → (n + 8 * length a) + 8 * length b ≡ n + 8 * length (a ++ b)
  stepped n = omega (arith, length-append a b)

  pub data_in_pieces : data_taken b (data_taken a m) ≡ data_taken (a ++ b) m
  unfolding data_taken run_through count_data
  data_in_pieces =
      let S = sym (data_piece-append a b m.state) in
      λ i. record {
        kind = m.kind;
        phase = m.phase;
        tag_length = m.tag_length;
        state = S i;
        counts = record { data_bytes = counted m.counts.data_bytes i; text_bytes = m.counts.text_bytes; steps = stepped m.counts.steps i };
      }

  pub text_in_pieces : text_taken b (text_taken a m) ≡ text_taken (a ++ b) m
  unfolding text_taken data_ended run_through count_text enter
  text_in_pieces =
      let e = data_ended m in
      let S =
      ap (λ (k : Kind). through (text_piece (is_checking k) b) (through (text_piece (is_checking m.kind) a) e.state)) (ended_kind m)
      ∙ sym (text_piece-append (is_checking m.kind) a b e.state) in
      λ i. record {
        kind = e.kind;
        phase = Text;
        tag_length = e.tag_length;
        state = S i;
        counts = record { data_bytes = e.counts.data_bytes; text_bytes = counted e.counts.text_bytes i; steps = stepped e.counts.steps i };
      }
