-- The paper's m, ca and cb as functions, m_at, ca_at and cb_at, are as its Schedule says.
use mathlib.Core.Path.{◌≡◌, refl, ap, ◌∙◌}
use mathlib.Core.Bool.{Bool, true, false}
use Prim.Native.Nat.{ℕ, ◌+◌, ◌-◌, ◌≤◌, ◌<◌}
use native.Mathlib.Omega.{arith}
use lib.Dec.{eqb, ltb}
use Rattle.acorn_model.specs.Bits.{Bits}
use Rattle.calls.specs.Calls.{◌if◌else◌}
use Rattle.acorn_model.specs.Paper.{Schedule, m_start, m_later, ca_later, cb_later, m_at, ca_at, cb_at}
use Rattle.calls.proofs.Choices.{if_below, if_past, if_equal, if_unequal}

-- from the paper's step 0 on
from_0 : (a b : Bits) (i : ℕ) {c : Bool} → b i ≡ c → (a (1792 + i) if ltb (1792 + i) 1792 else b (1792 + i - 1792)) ≡ c
from_0 a b i e = if_past (1792 + i) _ (omega arith) (ap b (omega arith) ∙ e)

module _ (K IV ad p : Bits) (adlen pclen : ℕ) where
  abbrev m : Bits
  m = m_at K IV ad adlen p pclen

  early : (i : ℕ) {c : Bool} → i < 1792 → m_start K IV i ≡ c → m i ≡ c
  unfolding m_at
  early i h e = if_below i _ h e

  later : (i : ℕ) {c : Bool} → m_later ad adlen p pclen i ≡ c → m (1792 + i) ≡ c
  unfolding m_at
  later i e = from_0 (m_start K IV) (m_later ad adlen p pclen) i e

  later_ca : (i : ℕ) {c : Bool} → ca_later adlen pclen i ≡ c → ca_at adlen pclen (1792 + i) ≡ c
  unfolding ca_at
  later_ca i e = from_0 (λ i. true) (ca_later adlen pclen) i e

  later_cb : (i : ℕ) {c : Bool} → cb_later adlen pclen i ≡ c → cb_at adlen pclen (1792 + i) ≡ c
  unfolding cb_at
  later_cb i e = from_0 (λ i. true) (cb_later adlen pclen) i e

  past_data : (i : ℕ) {c : Bool} → adlen + 256 ≤ i
      → (p (i - (adlen + 256)) if ltb i (adlen + 256 + pclen) else true if eqb i (adlen + 256 + pclen) else false) ≡ c → m_later ad adlen p pclen i ≡ c
  unfolding m_later
  past_data i h e = if_past i _ (omega arith) (if_unequal i _ (omega arith) (if_past i _ h e))

  past_text : (i : ℕ) → adlen + 256 + pclen < i → m_later ad adlen p pclen i ≡ false
  past_text i h = past_data i (omega arith) (if_past i _ (omega arith) (if_unequal i _ (omega arith) refl))

  pub scheduled : Schedule K IV ad p adlen pclen m (ca_at adlen pclen) (cb_at adlen pclen)
  unfolding m_start m_later ca_later cb_later ca_at cb_at
  scheduled =
      record {
        m_key = λ i r. early i (omega arith) (if_below i _ (omega arith) refl);
        m_iv = λ i r. early (128 + i) (omega arith) (if_past (128 + i) _ (omega arith) (if_below (128 + i) _ (omega arith) (ap IV (omega arith))));
        m_key_inverted = early 256 (omega arith) refl;
        m_key_again = λ i r. early (256 + i) (omega arith) (if_past (256 + i) _ (omega arith) (if_past (256 + i) _ (omega arith) (if_unequal (256 + i) _ (omega arith) (ap K (omega arith)))));
        ca_start = λ i r. if_below i _ (omega arith) refl;
        cb_start = λ i r. if_below i _ (omega arith) refl;
        m_data = λ i h. later i (if_below i _ h refl);
        m_data-one = later adlen (if_past adlen _ (omega arith) (if_equal adlen _ refl refl));
        m_data-zeros = λ i r. later (adlen + i) (if_past (adlen + i) _ (omega arith) (if_unequal (adlen + i) _ (omega arith) (if_below (adlen + i) _ (omega arith) refl)));
        ca_data = λ i r. later_ca i (if_below i _ (omega arith) refl);
        ca_data-end = λ i r. later_ca i (if_past i _ (omega arith) (if_below i _ (omega arith) refl));
        cb_data = λ i r. later_cb i (if_below i _ (omega arith) refl);
        m_text = λ i h. later (adlen + 256 + i) (past_data (adlen + 256 + i) (omega arith) (if_below (adlen + 256 + i) _ (omega arith) (ap p (omega arith))));
        m_text-one = later (adlen + 256 + pclen) (past_data (adlen + 256 + pclen) (omega arith) (if_past (adlen + 256 + pclen) _ (omega arith) (if_equal (adlen + 256 + pclen) _ refl refl)));
        m_text-zeros = λ i r. later (adlen + 256 + pclen + i) (past_text (adlen + 256 + pclen + i) (omega arith));
        ca_text = λ i r. later_ca i (if_past i _ (omega arith) (if_past i _ (omega arith) (if_below i _ (omega arith) refl)));
        ca_text-end = λ i r. later_ca i (if_past i _ (omega arith) (if_past i _ (omega arith) (if_past i _ (omega arith) (if_below i _ (omega arith) refl))));
        cb_text = λ i r. later_cb i (if_past i _ (omega arith) (if_below i _ (omega arith) refl));
        m_final = λ i r. later (adlen + pclen + 512 + i) (past_text (adlen + pclen + 512 + i) (omega arith));
        ca_final = λ i r. later_ca i (if_past i _ (omega arith) (if_past i _ (omega arith) (if_past i _ (omega arith) (if_past i _ (omega arith) refl))));
        cb_final = λ i r. later_cb i (if_past i _ (omega arith) (if_past i _ (omega arith) refl));
      }
