-- The ticket rule in the parts in which the code tests it.
use Rattle.std.specs.Prelude.{ℕ, Bool, ◌&&◌, eqb, leb}
use Rattle.calls.specs.Calls.{◌if◌else◌}
use Rattle.tape_model.specs.declared.Ticket.{Ticket}

abbrev pub between : ℕ → ℕ → ℕ → Bool
between low v high = leb low v && leb v high

-- the last second that tipped may have: 86,399 in form 2; else form 1's, 43,199
unfoldable pub last_second : Ticket → ℕ
last_second t = 86399 if eqb t.form 2 else 43199

unfoldable pub tipped_in_range : Ticket → Bool
tipped_in_range t = leb t.tipped (last_second t)

-- truck, shovel, tip point and grade
unfoldable pub place_rule : Ticket → Bool
place_rule t = between 1 t.truck 1023 && between 1 t.shovel 63 && between 1 t.tip 63 && leb t.grade 9

-- gross, and the two orders
unfoldable pub load_rule : Ticket → Bool
load_rule t = leb t.gross 1048575 && leb t.loaded t.tipped && leb t.tare t.gross
