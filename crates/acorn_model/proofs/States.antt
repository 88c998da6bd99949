-- One step by its bits, and states with the same bits 0 to 292: steps, runs and what comes out are the same on them.
use mathlib.Core.Path.{◌≡◌, refl, sym, ap, ◌∙◌, fun_ext}
use mathlib.Core.Bool.{Bool, true, false}
use mathlib.Core.Logic.{⊎_elim}
use Prim.Native.Nat.{ℕ, zero, suc, ◌≤◌, ◌<◌}
use native.Mathlib.Omega.{arith}
use lib.Dec.{leb}
use borrow.Author.Tests.{le-leb, leb-true}
use Rattle.std.proofs.lemmas.Bool.{cases_lt}
use Rattle.acorn_model.specs.Bits.{Bits, ◌⊕◌}
use Rattle.calls.specs.Calls.{◌if◌else◌}
use Rattle.acorn_model.specs.Step.{◌⊕=◌and◌, lfsr_update, ksg128, fbk128, keystream_bit, feedback_bit, step, StepInput, step_on, run}
use Rattle.acorn_model.specs.Stretches.{Stretch, inputs, through, keystream, text_piece, text_out, final, tag_of}
use Rattle.acorn_model.specs.Laws.{SameState, StateBits}
use Rattle.calls.proofs.Choices.{if_unequal}

-- ## One step

module _ (ca cb m : Bool) (S : Bits) where
  pub step_shifts : (q : ℕ) → q < 292 → step ca cb m S q ≡ lfsr_update S (suc q)
  unfolding step
  step_shifts q l = if_unequal q _ (omega arith) refl

  pub step_new : step ca cb m S 292 ≡ feedback_bit ca cb S ⊕ m
  unfolding step
  step_new = refl

  -- so these two make the step
  pub step-by_bits : (R : Bits) → ((q : ℕ) → q < 292 → R q ≡ lfsr_update S (suc q)) → R 292 ≡ feedback_bit ca cb S ⊕ m → (q : ℕ) → q ≤ 292 → R q ≡ step ca cb m S q
  step-by_bits R shifts new q l =
      ⊎_elim (λ (k : q < 292). shifts q k ∙ sym (step_shifts q k))
      (λ (k : 292 ≤ q). let e : q ≡ 292 = omega arith in rw e (new ∙ sym step_new)) (cases_lt q 292)

-- ## The same 293 bits

-- the 293 bits of S, and nothing above them
abbrev low : Bits → Bits
low S q = S q if leb q 292 else false

low_update : (S : Bits) (q : ℕ) → q ≤ 292 → lfsr_update (low S) q ≡ lfsr_update S q
unfolding lfsr_update ◌⊕=◌and◌
low_update S q l = rw (le-leb q 292 l)

module _ (S R : Bits) (h : SameState S R) where
  low_same : low S ≡ low R
  low_same = fun_ext (λ q. chosen q (leb q 292) refl)
    where
      chosen : (q : ℕ) (t : Bool) → leb q 292 ≡ t → (S q if t else false) ≡ (R q if t else false)
      chosen q true e = h q (leb-true q 292 e)
      chosen q false e = refl

  pub same-lfsr_update : SameState (lfsr_update S) (lfsr_update R)
  same-lfsr_update q l = sym (low_update S q l) ∙ ap (λ (T : Bits). lfsr_update T q) low_same ∙ low_update R q l

  -- what is read at fixed places is read of the 293 bits
  pub same-ksg128 : ksg128 S ≡ ksg128 R
  unfolding ksg128
  same-ksg128 = ap ksg128 low_same

  pub same-fbk128 : (ca cb ks : Bool) → fbk128 ca cb ks S ≡ fbk128 ca cb ks R
  unfolding fbk128
  same-fbk128 ca cb ks = ap (fbk128 ca cb ks) low_same

module _ (S R : Bits) (h : SameState S R) where
  pub same-keystream_bit : keystream_bit S ≡ keystream_bit R
  unfolding keystream_bit
  same-keystream_bit = same-ksg128 (lfsr_update S) (lfsr_update R) (same-lfsr_update S R h)

  pub same-feedback_bit : (ca cb : Bool) → feedback_bit ca cb S ≡ feedback_bit ca cb R
  unfolding feedback_bit
  same-feedback_bit ca cb =
      ap (λ (ks : Bool). fbk128 ca cb ks (lfsr_update S)) same-keystream_bit ∙ same-fbk128 (lfsr_update S) (lfsr_update R) (same-lfsr_update S R h) ca cb (keystream_bit R)

  pub same_step : (ca cb m : Bool) → SameState (step ca cb m S) (step ca cb m R)
  same_step ca cb m =
      step-by_bits ca cb m R (step ca cb m S) (λ q l. step_shifts ca cb m S q l ∙ same-lfsr_update S R h (suc q) (omega arith))
      (step_new ca cb m S ∙ ap (λ (f : Bool). f ⊕ m) (same-feedback_bit ca cb))

  pub same-step_on : (input : StepInput) → SameState (step_on input S) (step_on input R)
  same-step_on input q l = ap (λ (ks : Bool). step input.ca input.cb (input.m ks) S q) same-keystream_bit ∙ same_step input.ca input.cb (input.m (keystream_bit R)) q l

-- ## Runs on them

pub same-run : (g : ℕ → StepInput) (n : ℕ) (S R : Bits) → SameState S R → SameState (run g n S) (run g n R)
unfolding run
same-run g zero S R h = h
same-run g (suc n) S R h = same-step_on (run g n S) (run g n R) (same-run g n S R h) (g n)

module _ (S R : Bits) (h : SameState S R) where
  same-keystream : (stretch : Stretch) (j : ℕ) → keystream stretch S j ≡ keystream stretch R j
  unfolding keystream
  same-keystream stretch j = same-keystream_bit (run (inputs stretch) j S) (run (inputs stretch) j R) (same-run (inputs stretch) j S R h)

  pub state_bits : StateBits S R
  unfolding through text_out tag_of
  state_bits =
      record {
        next = λ stretch. same-run (inputs stretch) stretch.steps S R h;
        text = λ opening piece. simp (same-keystream (text_piece opening piece));
        tag = simp (same-keystream final);
      }
