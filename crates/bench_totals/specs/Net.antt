-- What the benchmark is told of totals.
use Rattle.std.specs.Prelude.{ℕ}
use Rattle.calls.specs.Calls.{Reply, refused, done}
use Rattle.tape_model.specs.declared.Totals.{Totals}

-- the total net, or 0 where refused
unfoldable pub net_or_zero : Reply Totals → ℕ
net_or_zero (refused n) = 0
net_or_zero (done totals) = totals.net
