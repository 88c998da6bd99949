-- The stretch and the control bits of a step, by the range of its number.
use mathlib.Core.Path.{◌≡◌, refl, sym, ap, ◌∙◌}
use mathlib.Core.Bool.{Bool}
use mathlib.Core.List.{List}
use Prim.Native.Nat.{ℕ, ◌+◌, ◌-◌, ◌*◌, ◌≤◌, ◌<◌}
use native.Mathlib.Omega.{arith}
use borrow.Author.Tests.{lt-ltb, le-ltb}
use Rattle.acorn_model.specs.Stretches.{start, data_piece, data_end, text_piece, text_end, final}
use Rattle.acorn_model.specs.Machine.{byte_limit}
use Rattle.acorn.specs.Table.{stretch_at, first_step, row_of, ca_at, cb_at, ControlsAt}
use Rattle.acorn.specs.declared.stretch.StretchName.{StretchName}
use Rattle.acorn.specs.declared.stretch.StretchName.TheVariants.{Start, Data, DataEnd, Text, TextEnd, Final}

-- ## The ranges

module _ (n : ℕ) where
  pub in_start : n < 1792 → stretch_at n ≡ Start
  unfolding stretch_at
  in_start h = rw (lt-ltb n 1792 h)

  pub in_data : 1792 ≤ n → n < 526080 → stretch_at n ≡ Data
  unfolding stretch_at
  in_data l h = rw (le-ltb n 1792 l, lt-ltb n 526080 h)

  pub in_data-end : 526080 ≤ n → n < 526336 → stretch_at n ≡ DataEnd
  unfolding stretch_at
  in_data-end l h = rw (le-ltb n 1792 (omega arith), le-ltb n 526080 l, lt-ltb n 526336 h)

  pub in-text : 526336 ≤ n → n < 1050624 → stretch_at n ≡ Text
  unfolding stretch_at
  in-text l h = rw (le-ltb n 1792 (omega arith), le-ltb n 526080 (omega arith), le-ltb n 526336 l, lt-ltb n 1050624 h)

  pub in_text-end : 1050624 ≤ n → n < 1050880 → stretch_at n ≡ TextEnd
  unfolding stretch_at
  in_text-end l h = rw (le-ltb n 1792 (omega arith), le-ltb n 526080 (omega arith), le-ltb n 526336 (omega arith), le-ltb n 1050624 l, lt-ltb n 1050880 h)

  pub in_final : 1050880 ≤ n → stretch_at n ≡ Final
  unfolding stretch_at
  in_final l = rw (le-ltb n 1792 (omega arith), le-ltb n 526080 (omega arith), le-ltb n 526336 (omega arith), le-ltb n 1050624 (omega arith), le-ltb n 1050880 l)

  -- the control bits of a step whose stretch is known
  module _ (stretch : StretchName) (e : stretch_at n ≡ stretch) where
    pub ca_in : ca_at n ≡ (row_of stretch).ca (n - first_step stretch)
    unfolding ca_at
    ca_in = ap (λ (s : StretchName). (row_of s).ca (n - first_step s)) e

    pub cb_in : cb_at n ≡ (row_of stretch).cb
    unfolding cb_at
    cb_in = ap (λ (s : StretchName). (row_of s).cb) e

    pub controls_in : (s : StretchName) (ca cb : Bool) → s ≡ stretch → ca ≡ (row_of stretch).ca (n - first_step stretch) → cb ≡ (row_of stretch).cb → ControlsAt n s ca cb
    controls_in s ca cb hs ha hb = record { stretch_is = hs ∙ sym e; ca_is = ha ∙ sym ca_in; cb_is = hb ∙ sym cb_in }

-- ## The rows in turn

-- the steps of each in the longest message
unfoldable pub steps_of : StretchName → ℕ
steps_of Start = 1792
steps_of Data = 524288
steps_of DataEnd = 256
steps_of Text = 524288
steps_of TextEnd = 256
steps_of Final = 768

-- they are those of the table, with as many bytes as the limit allows
pub steps_of_rows : (key nonce : List ℕ) → (steps_of Start ≡ (start key nonce).steps) × (steps_of Data ≡ 8 * byte_limit) × (steps_of DataEnd ≡ data_end.steps) × (steps_of Text ≡ 8 * byte_limit)
    × (steps_of TextEnd ≡ text_end.steps) × (steps_of Final ≡ final.steps)
unfolding steps_of
steps_of_rows key nonce = (refl, refl, refl, refl, refl, refl)

-- each stretch begins where the one before it has run its steps
pub first_steps : (first_step Start ≡ 0) × (first_step Data ≡ first_step Start + steps_of Start) × (first_step DataEnd ≡ first_step Data + steps_of Data) × (first_step Text ≡ first_step DataEnd + steps_of DataEnd)
    × (first_step TextEnd ≡ first_step Text + steps_of Text) × (first_step Final ≡ first_step TextEnd + steps_of TextEnd)
unfolding first_step steps_of
first_steps = (refl, refl, refl, refl, refl, refl)

-- step i of a stretch has the control bits of step i of its row
module _ (i : ℕ) where
  in_stretch : (stretch : StretchName) → i < steps_of stretch → stretch_at (first_step stretch + i) ≡ stretch
  unfolding steps_of first_step
  in_stretch Start h = in_start (0 + i) (omega arith)
  in_stretch Data h = in_data (1792 + i) (omega arith) (omega arith)
  in_stretch DataEnd h = in_data-end (526080 + i) (omega arith) (omega arith)
  in_stretch Text h = in-text (526336 + i) (omega arith) (omega arith)
  in_stretch TextEnd h = in_text-end (1050624 + i) (omega arith) (omega arith)
  in_stretch Final h = in_final (1050880 + i) (omega arith)

  pub ca_of_row : (stretch : StretchName) → i < steps_of stretch → ca_at (first_step stretch + i) ≡ (row_of stretch).ca i
  ca_of_row stretch h = ca_in (first_step stretch + i) stretch (in_stretch stretch h) ∙ ap (row_of stretch).ca (omega arith)

  pub cb_of_row : (stretch : StretchName) → i < steps_of stretch → cb_at (first_step stretch + i) ≡ (row_of stretch).cb
  cb_of_row stretch h = cb_in (first_step stretch + i) stretch (in_stretch stretch h)

-- data has at every step the control bits of its first, whatever the piece; and so has text
pub data_controls : (piece : List ℕ) (i : ℕ) → (ca_at (first_step Data) ≡ (data_piece piece).ca i) × (cb_at (first_step Data) ≡ (data_piece piece).cb)
unfolding first_step steps_of row_of
data_controls piece i = (ca_of_row 0 Data (omega arith), cb_of_row 0 Data (omega arith))

pub text_controls : (opening : Bool) (piece : List ℕ) (i : ℕ) → (ca_at (first_step Text) ≡ (text_piece opening piece).ca i) × (cb_at (first_step Text) ≡ (text_piece opening piece).cb)
unfolding first_step steps_of row_of
text_controls opening piece i = (ca_of_row 0 Text (omega arith), cb_of_row 0 Text (omega arith))
