-- The words of a session are those of the machine that it stands for, and the machine comes back from them.
use Rattle.std.proofs.Common.{◌≡◌, ℕ, ◌+◌, ◌-◌, ◌*◌, ◌/◌, ◌%◌, ◌^◌, ◌<◌, true, false, [], ◌∷◌, refl, ap, ◌∙◌, arith}
use lib.Pow.{shl-shr, recompose}
use Rattle.acorn_model.specs.declared.Kind.{Kind}
use Rattle.acorn_model.specs.declared.Kind.TheVariants.{Sealing, Checking}
use Rattle.acorn_model.specs.declared.Phase.{Phase}
use Rattle.acorn_model.specs.declared.Phase.TheVariants.{Fresh, Data, Text, Closed}
use Rattle.acorn_model.specs.Bits.{Bits, bit, number}
use Rattle.acorn_model.specs.Machine.{Machine, tag_length_right}
use Rattle.acorn_model.proofs.Refusals.{length-told}
use Rattle.acorn_model.proofs.Numbers.{number_of, number_same, number_bit}
use Rattle.acorn_kernel.specs.Together.{state_of}
use Rattle.acorn_kernel.proofs.StateWords.{at0, at1, at2, at3, at4, at5, at_above, state_is}
use Rattle.session.specs.declared.Session.{Session}
use Rattle.session.specs.Clauses.{length_of, machine_of}
use Rattle.session.proofs.NextSession.{length-of, length_of_right}
use Rattle.session.specs.Words.{kind_phase_number, kind_in, phase_in, first_ten, words_of, session_in, machine_in, state_for, session_for, words_for}

-- ## The words that a session holds

kind_back : (k : Kind) (p : Phase) → kind_in (kind_phase_number k p) ≡ k
kind_back Sealing Fresh = refl
kind_back Sealing Data = refl
kind_back Sealing Text = refl
kind_back Sealing Closed = refl
kind_back Checking Fresh = refl
kind_back Checking Data = refl
kind_back Checking Text = refl
kind_back Checking Closed = refl

phase_back : (k : Kind) (p : Phase) → phase_in (kind_phase_number k p) ≡ p
phase_back Sealing Fresh = refl
phase_back Sealing Data = refl
phase_back Sealing Text = refl
phase_back Sealing Closed = refl
phase_back Checking Fresh = refl
phase_back Checking Data = refl
phase_back Checking Text = refl
phase_back Checking Closed = refl

machine_back : (s : Session) → tag_length_right s.tag_length ≡ true → machine_in (words_of s) ≡ machine_of s
unfolding machine_in machine_of session_in words_of first_ten
machine_back s right =
    let k = kind_back s.kind s.phase in
    let p = phase_back s.kind s.phase in
    let n : s.tag_length % 256 ≡ s.tag_length = omega (arith, length-told s.tag_length right) in
    cc

-- ## The session for a machine

-- nothing above the 293 bits, and a length that a tag may have
pub record Clear (m : Machine) : Type 0 where
  pub bits : (q : ℕ) → m.state (293 + q) ≡ false
  pub tag_length : tag_length_right m.tag_length ≡ true

pub session_clear : (s : Session) → Clear (machine_of s)
unfolding machine_of
session_clear s = record { bits = λ q. at_above s.state q; tag_length = length_of_right s.tag_length }

-- bits that stand k places up in a word
held-bit : (n k : ℕ) (b : Bits) (j : ℕ) → j < n → bit (number n b * 2 ^ k / 2 ^ k) j ≡ b j
held-bit n k b j l = ap (λ (x : ℕ). bit x j) (shl-shr (number n b) k) ∙ number_bit n b j l

state_held : (S : Bits) → ((q : ℕ) → S (293 + q) ≡ false) → state_of (state_for S) ≡ S
unfolding state_for
state_held S h =
    state_is (state_for S) S
    (λ j l. held-bit 61 3 (λ i. S (0 + i)) j l)
    (λ j l. held-bit 46 18 (λ i. S (61 + i)) j l)
    (λ j l. held-bit 47 17 (λ i. S (107 + i)) j l)
    (λ j l. held-bit 39 25 (λ i. S (154 + i)) j l)
    (λ j l. held-bit 37 27 (λ i. S (193 + i)) j l)
    (λ j l. held-bit 63 1 (λ i. S (230 + i)) j l) h

pub session_stands : (m : Machine) → Clear m → machine_of (session_for m) ≡ m
unfolding machine_of session_for
session_stands m h =
    λ i. record { kind = m.kind; phase = m.phase; tag_length = length-of m.tag_length h.tag_length i; state = state_held m.state h.bits i; counts = m.counts }

-- the machine comes back from the words that are stored for it
pub words_stand : (m : Machine) → Clear m → machine_in (words_for m) ≡ m
unfolding words_for
words_stand m h = machine_back (session_for m) (unfold session_for in h.tag_length) ∙ session_stands m h

-- ## What is stored of a session

-- a word without what stands below its m-th bit is the number of its n bits from there, where it has no more
own_bits : (m n w : ℕ) (b : Bits) → w < 2 ^ (n + m) → ((j : ℕ) → j < n → b j ≡ bit (w / 2 ^ m) j) → w - w % 2 ^ m ≡ number n b * 2 ^ m
own_bits m n w b small held =
    let parts : number n b * 2 ^ m + w % 2 ^ m ≡ w = ap (λ (x : ℕ). x * 2 ^ m + w % 2 ^ m) (number_same n b (bit (w / 2 ^ m)) held ∙ number_of n (w / 2 ^ m)) ∙ recompose n m small in
    omega (arith, parts)

pub words_are : (s : Session) (n k : ℕ) → n ≡ kind_phase_number s.kind s.phase → k ≡ length_of s.tag_length → s.state.w0 < 2 ^ 64 → s.state.w1 < 2 ^ 64 → s.state.w2 < 2 ^ 64 → s.state.w3 < 2 ^ 64
    → s.state.w4 < 2 ^ 64 → s.state.w5 < 2 ^ 64
    → (s.state.w0 - s.state.w0 % 2 ^ 3)
    ∷ (s.state.w1 - s.state.w1 % 2 ^ 18)
    ∷ (s.state.w2 - s.state.w2 % 2 ^ 17)
    ∷ (s.state.w3 - s.state.w3 % 2 ^ 25)
    ∷ (s.state.w4 - s.state.w4 % 2 ^ 27)
    ∷ (s.state.w5 - s.state.w5 % 2 ^ 1)
    ∷ s.data_bytes ∷ s.text_bytes ∷ s.steps ∷ n ∷ k ∷ [] ≡ words_for (machine_of s)
unfolding words_for session_for state_for words_of first_ten machine_of
words_are s n k e l h0 h1 h2 h3 h4 h5 =
    let S = state_of s.state in
    rw (
      own_bits 3 61 s.state.w0 (λ j. S (0 + j)) h0 (at0 s.state),
      own_bits 18 46 s.state.w1 (λ j. S (61 + j)) h1 (at1 s.state),
      own_bits 17 47 s.state.w2 (λ j. S (107 + j)) h2 (at2 s.state),
      own_bits 25 39 s.state.w3 (λ j. S (154 + j)) h3 (at3 s.state),
      own_bits 27 37 s.state.w4 (λ j. S (193 + j)) h4 (at4 s.state),
      own_bits 1 63 s.state.w5 (λ j. S (230 + j)) h5 (at5 s.state),
      e,
      l,
    )
