-- A stretch, some steps and then some more, as `together` runs them; and what they write.
use mathlib.Core.Path.{◌≡◌, refl, sym, ap, ap₂, ◌∙◌}
use mathlib.Core.Bool.{Bool, true, false, ◌&&◌, cond}
use mathlib.Core.List.{List, ◌++◌}
use Prim.Native.Nat.{ℕ, ◌+◌, ◌-◌, ◌*◌, ◌%◌, ◌≤◌, ◌<◌}
use native.Mathlib.Omega.{arith}
use borrow.Author.Tests.{lt-ltb, le-ltb}
use lib.Dec.{ltb}
use lib.ListN.{length, take, drop}
use lib.Seq.{paste, take_at, drop-append-add, drop-drop}
use lib.Bits.{bit_xor}
use Rattle.acorn_model.specs.Bits.{Bits, ◌⊕◌, bit, bits_in, bytes}
use Rattle.acorn_model.specs.Step.{StepInput, run, keystream_bit}
use Rattle.acorn_model.specs.Stretches.{Stretch, inputs, through, keystream, data_piece, text_piece, text_out}
use Rattle.calls.specs.Calls.{written_over}
use Rattle.acorn_kernel.specs.Together.{inputs_from, Together}
use Rattle.acorn.specs.Runs.{TextRun, TextUpTo, Takes, Written, out_bits}
use Rattle.acorn.specs.Table.{first_step, ca_at, cb_at}
use Rattle.acorn.specs.declared.stretch.StretchName.TheVariants.{Data, Text}
use Rattle.acorn_model.proofs.Runs.{run_none, run_add, run-same}
use Rattle.acorn_model.proofs.Bytes.{bytes-length, bytes_same, bytes_add}
use Rattle.acorn_kernel.proofs.WordBits.{bit-xor}
use Rattle.acorn.proofs.ControlTable.{data_controls, text_controls}

-- ## Any steps

-- n steps that take γ lead from S to T, and k more that take the word x to T', with the ks in z
module _ (γ : ℕ → StepInput) (S T T' : Bits) (n k x z : ℕ) (hk : k ≤ 32) (opening ca cb : Bool) (reached : T ≡ run γ n S)
    (same : (i : ℕ) → i < k → inputs_from opening ca cb (bit x) i ≡ γ (n + i)) (steps : Together T x opening ca cb k T' z) where
  joined : (q : ℕ) → q ≤ k → run (inputs_from opening ca cb (bit x)) q T ≡ run γ (n + q) S
  joined q l =
      run-same (inputs_from opening ca cb (bit x)) (λ i. γ (n + i)) q T (λ i m. same i (omega arith)) ∙ ap (run (λ i. γ (n + i)) q) reached ∙ sym (run_add γ n q S)

  pub state_more : T' ≡ run γ (n + k) S
  state_more = steps.state ∙ joined k (omega arith)

  pub ks_more : (j : ℕ) → j < k → bit z j ≡ keystream_bit (run γ (n + j) S)
  ks_more j h = steps.ks j (omega arith) ∙ ap keystream_bit (joined j (omega arith))

pub state_none : (γ : ℕ → StepInput) (S : Bits) → S ≡ run γ 0 S
state_none γ S = sym (run_none γ S)

pub state_at : (γ : ℕ → StepInput) (S T : Bits) {n n' : ℕ} → n ≡ n' → T ≡ run γ n S → T ≡ run γ n' S
state_at γ S T e h = h ∙ ap (λ (q : ℕ). run γ q S) e

-- the state after all of the stretch
pub state_all : (row : Stretch) (S T : Bits) (n : ℕ) → n ≡ row.steps → T ≡ run (inputs row) n S → T ≡ through row S
unfolding through
state_all row S T n e h = h ∙ ap (λ (q : ℕ). run (inputs row) q S) e

-- 32 steps more of a stretch whose message bits are given
pub steps_more : (given : ℕ → ℕ → Type 0) (row : Stretch) (S T T' : Bits) (first last done n x z : ℕ) {ca cb : Bool} → Takes given first last row done → first ≤ n → n < last
    → (n - first) % 32 ≡ 0 → given n x → ca ≡ ca_at n → cb ≡ cb_at n → T ≡ run (inputs row) (done + (n - first)) S → Together T x false ca cb 32 T' z
    → T' ≡ run (inputs row) (done + (n + 32 - first)) S
steps_more given row S T T' first last done n x z {ca} {cb} takes l h m p ea eb reached steps =
    state_at (inputs row) S T' (omega arith)
    (state_more (inputs row) S T T' (done + (n - first)) 32 x z (omega arith) false ca cb reached
    (λ i g. ap₂ (λ (a b : Bool). inputs_from false a b (bit x) i) ea eb ∙ takes n x l h m p i g) steps)

-- ## What is written

pub written_none : (b : Bits) (out : List ℕ) → Written b out 0 out
unfolding bytes
written_none b out = refl

module _ (b : Bits) (out₀ out out' : List ℕ) (i k v : ℕ) (hk : k ≤ 4) (written : Written b out₀ i out) (same : (q : ℕ) → q < 8 * k → bit v q ≡ b (8 * i + q))
    (stored : out' ≡ paste out i (bytes 4 (bit v)) k) where
  front : take i out ≡ bytes i b
  front = ap (take i) written ∙ take_at (bytes i b) (drop i out₀) i (bytes-length i b)

  middle : take k (bytes 4 (bit v)) ≡ bytes k (λ q. b (8 * i + q))
  middle =
      let e : 4 ≡ k + (4 - k) = omega arith in
      ap (λ (n : ℕ). take k (bytes n (bit v))) e ∙ ap (take k) (bytes_add k (4 - k) (bit v))
      ∙ take_at (bytes k (bit v)) (bytes (4 - k) (λ q. bit v (8 * k + q))) k (bytes-length k (bit v)) ∙ bytes_same k (bit v) (λ q. b (8 * i + q)) same

  back : drop (i + k) out ≡ drop (i + k) out₀
  back =
      ap (drop (i + k)) written ∙ ap (λ (n : ℕ). drop (n + k) (bytes i b ++ drop i out₀)) (sym (bytes-length i b))
      ∙ drop-append-add (bytes i b) (drop i out₀) k ∙ drop-drop k i out₀

  pub written_more : Written b out₀ (i + k) out'
  written_more = stored ∙ ap₂ ◌++◌ (ap₂ ◌++◌ front middle ∙ sym (bytes_add i k b)) back

pub written_at : (b : Bits) (out₀ out : List ℕ) {i i' : ℕ} → i ≡ i' → Written b out₀ i out → Written b out₀ i' out
written_at b out₀ out e h = h ∙ ap (λ (n : ℕ). bytes n b ++ drop n out₀) e

pub written_all : (b : Bits) (n : ℕ) (out₀ out : List ℕ) → Written b out₀ n out → out ≡ written_over (bytes n b) out₀
unfolding written_over
written_all b n out₀ out h = h ∙ ap (λ (k : ℕ). bytes n b ++ drop k out₀) (sym (bytes-length n b))

-- ## Pieces of data and of text

-- what a step of a piece takes
abbrev piece_input : Bool → Bool → Bool → Bool → StepInput
piece_input opening ca cb b = record { ca = ca; cb = cb; m = λ ks. (opening && ks) ⊕ b }

-- k bytes more of a piece, from byte i on, in n steps
module _ (opening ca cb : Bool) (piece : List ℕ) (S T T' : Bits) (i k n x z : ℕ) (hk : k ≤ 4) (e : n ≡ 8 * k)
    (loaded : (q : ℕ) → q < 8 * k → bit x q ≡ bits_in piece (8 * i + q)) (reached : T ≡ run (inputs_from opening ca cb (bits_in piece)) (8 * i) S)
    (steps : Together T x opening ca cb n T' z) where
  same-input : (q : ℕ) → q < n → inputs_from opening ca cb (bit x) q ≡ inputs_from opening ca cb (bits_in piece) (8 * i + q)
  same-input q l = ap (piece_input opening ca cb) (loaded q (omega arith))

  pub piece_more : {i' : ℕ} → i' ≡ i + k → T' ≡ run (inputs_from opening ca cb (bits_in piece)) (8 * i') S
  piece_more e' =
      state_more (inputs_from opening ca cb (bits_in piece)) S T T' (8 * i) n x z (omega arith) opening ca cb reached same-input steps
      ∙ ap (λ (q : ℕ). run (inputs_from opening ca cb (bits_in piece)) q S) (omega arith)

  pub piece_ks : (q : ℕ) → q < n → bit z q ≡ keystream_bit (run (inputs_from opening ca cb (bits_in piece)) (8 * i + q) S)
  piece_ks = ks_more (inputs_from opening ca cb (bits_in piece)) S T T' (8 * i) n x z (omega arith) opening ca cb reached same-input steps

-- all of a piece, with the control bits that its stretch has at its first step
module _ (piece : List ℕ) (S T : Bits) {ca cb : Bool} where
  pub data_all : ca ≡ ca_at (first_step Data) → cb ≡ cb_at (first_step Data) → T ≡ run (inputs_from false ca cb (bits_in piece)) (8 * length piece) S → T ≡ through (data_piece piece) S
  unfolding through
  data_all ea eb h =
      let controls = data_controls piece 0 in
      h ∙ ap₂ (λ (a b : Bool). run (inputs_from false a b (bits_in piece)) (8 * length piece) S) (ea ∙ controls.0) (eb ∙ controls.1)

  pub checked_all : ca ≡ ca_at (first_step Text) → cb ≡ cb_at (first_step Text) → T ≡ run (inputs_from true ca cb (bits_in piece)) (8 * length piece) S → T ≡ through (text_piece true piece) S
  unfolding through
  checked_all ea eb h =
      let controls = text_controls true piece 0 in
      h ∙ ap₂ (λ (a b : Bool). run (inputs_from true a b (bits_in piece)) (8 * length piece) S) (ea ∙ controls.0) (eb ∙ controls.1)

module _ (opening : Bool) (S : Bits) (piece out₀ : List ℕ) where
  pub text_none : TextUpTo opening S piece out₀ 0 S out₀
  text_none = record { state = state_none (inputs (text_piece opening piece)) S; output = written_none (out_bits opening piece S) out₀ }

  pub text_at : {i i' : ℕ} {T T' : Bits} {out out' : List ℕ} → i ≡ i' → T' ≡ T → out' ≡ out → TextUpTo opening S piece out₀ i T out → TextUpTo opening S piece out₀ i' T' out'
  text_at e f h u = rw (← e, f, h) u

  pub text_further : (i k n x z : ℕ) (T T' : Bits) (out out' : List ℕ) (ca cb : Bool) → k ≤ 4 → n ≡ 8 * k → ca ≡ ca_at (first_step Text) → cb ≡ cb_at (first_step Text) → TextUpTo opening S piece out₀ i T out
      → ((q : ℕ) → q < 8 * k → bit x q ≡ bits_in piece (8 * i + q)) → Together T x opening ca cb n T' z → out' ≡ paste out i (bytes 4 (bit (bit_xor x z))) k → TextUpTo opening S piece out₀ (i + k) T' out'
  unfolding keystream
  text_further i k n x z T T' out out' ca cb hk e ea eb u loaded steps stored =
      let controls = text_controls opening piece 0 in
      let as_text : Together T x opening true false n T' z = rw (← (ea ∙ controls.0), ← (eb ∙ controls.1)) steps in
      record {
        state = piece_more opening true false piece S T T' i k n x z hk e loaded u.state as_text refl;
        output = written_more (out_bits opening piece S) out₀ out out' i k (bit_xor x z) hk u.output
            (λ q l. bit-xor x z q ∙ ap₂ ◌⊕◌ (loaded q l) (piece_ks opening true false piece S T T' i k n x z hk e loaded u.state as_text q (omega arith))) stored;
      }

  -- all of it, or nothing where there is no room
  pub text_all : (i : ℕ) (T : Bits) (out : List ℕ) → i ≡ length piece → length piece ≤ length out₀ → TextUpTo opening S piece out₀ i T out → TextRun opening S piece out₀ T out
  unfolding text_out
  text_all i T out e h u =
      let room : ltb (length out₀) (length piece) ≡ false = le-ltb (length out₀) (length piece) h in
      let d : 8 * i ≡ 8 * length piece = omega arith in
      record {
        state = state_all (text_piece opening piece) S T (8 * i) d u.state ∙ ap (λ (t : Bool). cond t S (through (text_piece opening piece) S)) (sym room);
        output = written_all (out_bits opening piece S) (length piece) out₀ out (u.output ∙ ap (λ (n : ℕ). bytes n (out_bits opening piece S) ++ drop n out₀) e)
            ∙ ap (λ (t : Bool). cond t out₀ (written_over (text_out opening piece S) out₀)) (sym room);
      }

  pub text_refused : length out₀ < length piece → TextRun opening S piece out₀ S out₀
  text_refused h =
      record {
        state = ap (λ (t : Bool). cond t S (through (text_piece opening piece) S)) (sym (lt-ltb (length out₀) (length piece) h));
        output = ap (λ (t : Bool). cond t out₀ (written_over (text_out opening piece S) out₀)) (sym (lt-ltb (length out₀) (length piece) h));
      }
