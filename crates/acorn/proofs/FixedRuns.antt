-- The stretches of a fixed number of steps, 32 steps and then 32 more, with the control bits of the table.
use mathlib.Core.Path.{◌≡◌, refl, sym, ap, ap₂, ◌∙◌}
use mathlib.Core.Bool.{Bool, true, false, ◌&&◌, ◌||◌, cond}
use mathlib.Core.List.{List, ◌++◌, append-nil}
use mathlib.Core.Logic.{⊎_elim}
use Prim.Native.Nat.{ℕ, zero, suc, ◌+◌, ◌-◌, ◌*◌, ◌/◌, ◌%◌, ◌≤◌, ◌<◌}
use native.Mathlib.Omega.{arith}
use lib.Dec.{eqb, ltb, lit<}
use lib.ListN.{length, take, drop, length-drop, drop_of_length-le}
use lib.Seq.{take_at, take_all}
use borrow.Author.Tests.{lt-ltb, le-ltb, eq-eqb, ne_eqb}
use Rattle.acorn_model.specs.Bits.{Bits, ◌⊕◌, bit, bits_in}
use Rattle.acorn_model.specs.Step.{StepInput, run, keystream_bit}
use Rattle.acorn_model.specs.Stretches.{Stretch, inputs, through, keystream, zeros, start, start_bit, final, tag_of, tag_bytes, full_tag_length}
use Rattle.calls.specs.Calls.{written_over}
use Rattle.acorn_kernel.specs.Together.{inputs_from, Together}
use Rattle.acorn.specs.Runs.{Written, start_state, tag_output, tag_bytes_output}
use Rattle.acorn.specs.Table.{ca_at, cb_at, row_of}
use Rattle.acorn.specs.declared.stretch.StretchName.TheVariants.{Start, Final}
use Rattle.calls.proofs.Choices.{lt_or_ge}
use Rattle.acorn_model.proofs.Runs.{run_add}
use Rattle.acorn_model.proofs.Bytes.{bytes-length, bytes_same}
use Rattle.acorn_model.proofs.Outputs.{tag_of-length, tag_bytes-drop, tag_bytes-length}
use Rattle.acorn_kernel.proofs.WordBits.{bit-above, bit-zero}
use Rattle.acorn.proofs.StretchRuns.{state_more, ks_more, written_all}
use Rattle.acorn.proofs.ControlTable.{in_start, in_final, ca_in, cb_in}

-- what a step takes
abbrev input : Bool → Bool → Bool → StepInput
input ca cb b = record { ca = ca; cb = cb; m = λ (ks : Bool). b }

-- ## Start

-- the message bits of start, by the part that step n + i lies in
module _ (key nonce : List ℕ) (n i : ℕ) (d : n % 32 ≡ 0) (l : i < 32) where
  pub start_key : n < 128 → start_bit key nonce (n + i) ≡ bits_in key (8 * (n / 8) + i)
  unfolding start_bit
  start_key h = rw (lt-ltb (n + i) 128 (omega arith)) (ap (bits_in key) (omega arith))

  pub start_nonce : 128 ≤ n → n < 256 → start_bit key nonce (n + i) ≡ bits_in nonce (8 * ((n - 128) / 8) + i)
  unfolding start_bit
  start_nonce h h' = rw (le-ltb (n + i) 128 (omega arith), lt-ltb (n + i) 256 (omega arith)) (ap (bits_in nonce) (omega arith))

  pub start-again : 256 ≤ n → start_bit key nonce (n + i) ≡ bits_in key (8 * (n % 128 / 8) + i) ⊕ eqb (n - 256 + i) 0
  unfolding start_bit
  start-again h =
      rw (le-ltb (n + i) 128 (omega arith), le-ltb (n + i) 256 (omega arith))
      (ap₂ ◌⊕◌ same (ap (bits_in key) (omega arith)) ∙ xor_comm (eqb (n - 256 + i) 0) (bits_in key (8 * (n % 128 / 8) + i)))
    where
      same : eqb (n + i) 256 ≡ eqb (n - 256 + i) 0
      same = ⊎_elim (λ (p : n + i < 257). eq-eqb (n + i) 256 (omega arith) ∙ sym (eq-eqb (n - 256 + i) 0 (omega arith)))
          (λ (p : 257 ≤ n + i). ne_eqb (n + i) 256 (omega arith) ∙ sym (ne_eqb (n - 256 + i) 0 (omega arith))) (lt_or_ge (n + i) 257)

      xor_comm : (p q : Bool) → p ⊕ q ≡ q ⊕ p
      xor_comm true true = refl
      xor_comm true false = refl
      xor_comm false true = refl
      xor_comm false false = refl

-- what steps n to n + 31 of it take
pub start_takes : (key nonce : List ℕ) (first n x : ℕ) → first ≤ n → n < 1792 → ((i : ℕ) → i < 32 → bit x i ≡ start_bit key nonce (n + i)) → (i : ℕ) → i < 32
    → inputs_from false (ca_at n) (cb_at n) (bit x) i ≡ inputs (start key nonce) (first + (n - first) + i)
unfolding row_of
start_takes key nonce first n x g h bits i l =
    let there : n + i ≡ first + (n - first) + i = omega arith in
    ap₂ (λ (a b : Bool). input a b (bit x i)) (ca_in n Start (in_start n h)) (cb_in n Start (in_start n h)) ∙ ap (input true true) (bits i l)
    ∙ ap (inputs (start key nonce)) there

-- a key or a nonce of another size runs no step
module _ (key nonce : List ℕ) where
  abbrev after : Bool → Bool → Bits
  after k n = cond (k && n) (through (start key nonce) zeros) zeros

  pub start_all : length key ≡ 16 → length nonce ≡ 16 → through (start key nonce) zeros ≡ start_state key nonce
  unfolding start_state
  start_all k n = sym (ap₂ after (eq-eqb (length key) 16 k) (eq-eqb (length nonce) 16 n))

  pub start_key_size : (length key ≡ 16 → ⊥) → zeros ≡ start_state key nonce
  unfolding start_state
  start_key_size k = sym (ap (λ (b : Bool). after b (eqb (length nonce) 16)) (ne_eqb (length key) 16 k))

  pub start_nonce_size : length key ≡ 16 → (length nonce ≡ 16 → ⊥) → zeros ≡ start_state key nonce
  unfolding start_state
  start_nonce_size k n = sym (ap₂ after (eq-eqb (length key) 16 k) (ne_eqb (length nonce) 16 n))

-- ## The ends

one_bit : (i : ℕ) → bit 1 i ≡ eqb i 0
unfolding bit
one_bit zero = refl
one_bit (suc i) = bit-above 1 1 (suc i) (lit< tt) (omega arith) ∙ sym (ne_eqb (suc i) 0 (omega arith))

pub one_now : (n i : ℕ) → n ≡ 0 → bit 1 i ≡ eqb (n + i) 0
one_now n i e = let d : i ≡ n + i = omega arith in one_bit i ∙ ap (λ (q : ℕ). eqb q 0) d

pub one_past : (n i : ℕ) → (n ≡ 0 → ⊥) → bit 0 i ≡ eqb (n + i) 0
one_past n i f = bit-zero i ∙ sym (ne_eqb (n + i) 0 (omega arith))

-- data end and text end, which differ in cb alone
abbrev end_row : Bool → Stretch
end_row cb = record { steps = 256; m = λ i ks. eqb i 0; ca = λ i. ltb i 128; cb = cb }

-- what 32 steps of it take, from step n on
pub end_takes : (end : Bool) (step n x : ℕ) → n < 256 → n % 32 ≡ 0 → ca_at step ≡ ltb n 128 → cb_at step ≡ end → ((i : ℕ) → bit x i ≡ eqb (n + i) 0) → (i : ℕ) → i < 32
    → inputs_from false (ca_at step) (cb_at step) (bit x) i ≡ inputs (end_row end) (0 + n + i)
end_takes end step n x h d ea eb bits i l =
    let there : n + i ≡ 0 + n + i = omega arith in
    ap₂ (λ (a b : Bool). input a b (bit x i)) (ea ∙ steady) eb ∙ ap (input (ltb (n + i) 128) end) (bits i) ∙ ap (inputs (end_row end)) there
  where
    steady : ltb n 128 ≡ ltb (n + i) 128
    steady = ⊎_elim (λ (p : n < 128). lt-ltb n 128 p ∙ sym (lt-ltb (n + i) 128 (omega arith)))
        (λ (p : 128 ≤ n). le-ltb n 128 p ∙ sym (le-ltb (n + i) 128 (omega arith))) (lt_or_ge n 128)

-- ## Final

pub final_takes : (step n x : ℕ) → 1050880 ≤ step → x ≡ 0 → (i : ℕ) → inputs_from false (ca_at step) (cb_at step) (bit x) i ≡ inputs final n
unfolding row_of
final_takes step n x h e i =
    ap₂ (λ (a b : Bool). input a b (bit x i)) (ca_in step Final (in_final step h)) (cb_in step Final (in_final step h))
    ∙ ap (input true true) (ap (λ (y : ℕ). bit y i) e ∙ bit-zero i)

module _ (S T T' : Bits) (step n z : ℕ) (ca cb : Bool) (h : 1050880 ≤ step) (ea : ca ≡ ca_at step) (eb : cb ≡ cb_at step) (reached : T ≡ run (inputs final) n S)
    (steps : Together T 0 false ca cb 32 T' z) where
  same : (i : ℕ) → i < 32 → inputs_from false ca cb (bit 0) i ≡ inputs final (n + i)
  same i l = ap₂ (λ (a b : Bool). inputs_from false a b (bit 0) i) ea eb ∙ final_takes step (n + i) 0 h refl i

  pub final_more : T' ≡ run (inputs final) (n + 32) S
  final_more = state_more (inputs final) S T T' n 32 0 z (omega arith) false ca cb reached same steps

  pub final_ks : (q : ℕ) → q < 32 → bit z q ≡ keystream final S (n + q)
  unfolding keystream
  final_ks = ks_more (inputs final) S T T' n 32 0 z (omega arith) false ca cb reached same steps

-- the last 16 bytes of the ks of final
pub tag_all : (S T : Bits) (out₀ out : List ℕ) → T ≡ run (inputs final) 640 S → full_tag_length ≤ length out₀ → Written (keystream final T) out₀ 16 out → out ≡ tag_output S out₀
unfolding tag_output tag_of keystream
tag_all S T out₀ out e h w =
    written_all (keystream final T) 16 out₀ out w
    ∙ ap (λ (t : List ℕ). written_over t out₀)
    (bytes_same 16 (keystream final T) (λ j. keystream final S (640 + j)) (λ j l. ap keystream_bit (ap (run (inputs final) j) e ∙ sym (run_add (inputs final) 640 j S))))
    ∙ ap (λ (t : Bool). cond t out₀ (written_over (tag_of S) out₀)) (sym (le-ltb (length out₀) full_tag_length h))

pub tag_refused : (S : Bits) (out : List ℕ) → length out < full_tag_length → out ≡ tag_output S out
unfolding tag_output
tag_refused S out h = ap (λ (t : Bool). cond t out (written_over (tag_of S) out)) (sym (lt-ltb (length out) full_tag_length h))

-- an output of the tag's own length
pub tag_exact : (S : Bits) (out : List ℕ) → length out ≡ full_tag_length → tag_output S out ≡ tag_of S
unfolding tag_output written_over tag_of
tag_exact S out e =
    let h : length out ≤ length (tag_of S) = omega (arith, bytes-length full_tag_length (λ j. keystream final S (640 + j))) in
    ap (λ (t : Bool). cond t out (written_over (tag_of S) out)) (le-ltb (length out) full_tag_length (omega arith))
    ∙ ap (λ (r : List ℕ). tag_of S ++ r) (drop_of_length-le out h) ∙ append-nil (tag_of S)

-- ## A tag of n bytes

module _ (S : Bits) (n : ℕ) (out : List ℕ) where
  pub tag-bytes_over : full_tag_length < n → out ≡ tag_bytes_output n S out
  unfolding tag_bytes_output
  tag-bytes_over h = ap (λ (t : Bool). cond (t || ltb (length out) n) out (written_over (tag_bytes n S) out)) (sym (lt-ltb full_tag_length n h))

  pub tag-bytes_short : n ≤ full_tag_length → length out < n → out ≡ tag_bytes_output n S out
  unfolding tag_bytes_output
  tag-bytes_short h l =
      ap₂ (λ (t u : Bool). cond (t || u) out (written_over (tag_bytes n S) out)) (sym (le-ltb full_tag_length n h)) (sym (lt-ltb (length out) n l))

  pub tag-written : n ≤ full_tag_length → n ≤ length out → tag_bytes_output n S out ≡ written_over (tag_bytes n S) out
  unfolding tag_bytes_output
  tag-written h l = ap₂ (λ (t u : Bool). cond (t || u) out (written_over (tag_bytes n S) out)) (le-ltb full_tag_length n h) (le-ltb (length out) n l)

  -- the part of the full tag from the place of the first of its last n bytes on
  pub tag-part : (first : ℕ) (full : List ℕ) → full ≡ tag_of S → first ≡ full_tag_length - n → take (full_tag_length - first) (drop first full) ≡ tag_bytes n S
  tag-part first full Full-is first-is =
      ap₂ (λ (k : ℕ) (t : List ℕ). take (full_tag_length - k) (drop k t)) first-is Full-is
      ∙ take_all (full_tag_length - (full_tag_length - n)) (drop (full_tag_length - n) (tag_of S)) (omega (arith, length-drop (full_tag_length - n) (tag_of S), tag_of-length S))
      ∙ sym (tag_bytes-drop n S)

  -- and its copy
  pub tag-bytes-copied : n ≤ full_tag_length → n ≤ length out → (part copied : List ℕ) → part ≡ tag_bytes n S → copied ≡ part
      → copied ++ drop n out ≡ tag_bytes_output n S out
  unfolding written_over
  tag-bytes-copied h l part copied part_is copied_is =
      ap₂ (λ (t : List ℕ) (k : ℕ). t ++ drop k out) (copied_is ∙ part_is) (sym (tag_bytes-length n h S)) ∙ sym (tag-written h l)

  -- at the start of an output that has room for them, and for a number that is cut to what the full tag has
  pub tag_front : n ≤ full_tag_length → n ≤ length out → (after : List ℕ) → after ≡ tag_bytes_output n S out → take n after ≡ tag_bytes n S
  unfolding written_over
  tag_front h l after e = ap (take n) (e ∙ tag-written h l) ∙ take_at (tag_bytes n S) _ n (tag_bytes-length n h S)

  pub tag-cut : (k : ℕ) → k ≡ full_tag_length - (full_tag_length - n) → tag_bytes k S ≡ tag_bytes n S
  tag-cut k e =
      let same : full_tag_length - k ≡ full_tag_length - n = omega arith in
      tag_bytes-drop k S ∙ ap (λ (j : ℕ). drop j (tag_of S)) same ∙ sym (tag_bytes-drop n S)
