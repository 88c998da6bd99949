-- `tipped_in_range` is the range of tipped, by the form.
use Prim.Native.Nat.{ℕ}
use mathlib.Core.Path.{ap}
use lib.Dec.{leb}
use Rattle.ticket.specs.Rule.{tipped_in_range}
use Rattle.ticket.proofs.tipped_in_range.Goals as goal

pub returns : goal.returns
unfolding tipped_in_range
returns c = ap (λ (last : ℕ). leb c.args.t.tipped last) c.last_second.ensures
