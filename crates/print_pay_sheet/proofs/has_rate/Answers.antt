-- `has_rate`: one to 19 digits, and the end of a line behind them.
use mathlib.Core.Path.{ap}
use mathlib.Core.Bool.{◌&&◌}
use lib.Dec.{leb}
use Rattle.print_pay_sheet.specs.Printed.{most_digits, has_rate}
use Rattle.print_pay_sheet.proofs.has_rate.Goals as goal

pub returns : goal.returns
unfolding has_rate
returns c = rw (← c.requires) (ap (◌&&◌ (leb 1 c.args.digits && leb c.args.digits most_digits)) c.line_ends.ensures)
