use mathlib.Core.Path.{◌≡◌}
use Prim.Native.Nat.{◌^◌, ◌<◌}
use lib.ListN.{take}
use Rattle.tape_model.specs.Laws.{value_after}
use Rattle.print_pay_sheet.proofs.rate_of.Given as goal

abbrev pub invariant-loop-digit : goal.invariant-loop-digit
invariant-loop-digit l = (l.rate ≡ value_after 0 (take l.digit-index l.digits)) × (l.rate < 10 ^ l.digit-index)
