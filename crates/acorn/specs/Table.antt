-- The control bits by step number: the steps of the longest message, whose data and text have 65,536 bytes, numbered from the first of start.
use Rattle.std.specs.Prelude.{◌≡◌, Bool, false, [], ℕ, ◌-◌, ltb}
use Rattle.calls.specs.Calls.{◌if◌else◌}
use Rattle.acorn_model.specs.Stretches.{start, data_piece, data_end, text_piece, text_end, final}
use Rattle.acorn_model.specs.Stretches as rows
use Rattle.acorn.specs.declared.stretch.StretchName.{StretchName}
use Rattle.acorn.specs.declared.stretch.StretchName.TheVariants.{Start, Data, DataEnd, Text, TextEnd, Final}

-- the stretch of step n; final has no end here
unfoldable pub stretch_at : ℕ → StretchName
stretch_at n =
    Start if ltb n 1792 else
    Data if ltb n 526080 else
    DataEnd if ltb n 526336 else
    Text if ltb n 1050624 else
    TextEnd if ltb n 1050880 else
    Final

-- its first step, and its row in the table; the control bits of start do not go by key and nonce, nor those of data and text by the piece
unfoldable pub first_step : StretchName → ℕ
first_step Start = 0
first_step Data = 1792
first_step DataEnd = 526080
first_step Text = 526336
first_step TextEnd = 1050624
first_step Final = 1050880

unfoldable pub row_of : StretchName → rows.Stretch
row_of Start = start [] []
row_of Data = data_piece []
row_of DataEnd = data_end
row_of Text = text_piece false []
row_of TextEnd = text_end
row_of Final = final

unfoldable pub ca_at : ℕ → Bool
ca_at n = (row_of (stretch_at n)).ca (n - first_step (stretch_at n))

unfoldable pub cb_at : ℕ → Bool
cb_at n = (row_of (stretch_at n)).cb

-- the stretch and the control bits that step n has
pub record ControlsAt (n : ℕ) (stretch : StretchName) (ca cb : Bool) : Type 0 where
  pub stretch_is : stretch ≡ stretch_at n
  pub ca_is : ca ≡ ca_at n
  pub cb_is : cb ≡ cb_at n
