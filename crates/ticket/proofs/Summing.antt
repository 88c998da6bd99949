-- The totals of plain bytes, ticket by ticket: those before a place, and those that are left behind it.
use Prim.Native.Nat.{ℕ, ◌+◌}
use mathlib.Core.Path.{◌≡◌, ap, ap₂, fun_ext}
use mathlib.Core.List.{List, [], ◌∷◌}
use native.Mathlib.Omega.{arith}
use lib.ListN.{length}
use Rattle.calls.specs.Calls.{Reply, map_reply}
use Rattle.tape_model.specs.declared.Ticket.{Ticket}
use Rattle.tape_model.specs.Ticket.{net}
use Rattle.tape_model.specs.declared.Totals.{Totals}
use Rattle.tape_model.specs.Tape.{total_net, totals_of}

abbrev totals : ℕ → ℕ → Totals
totals k sum = record { tickets = k; net = sum }

-- with k tickets of this sum before
abbrev pub totals_after : ℕ → ℕ → List Ticket → Totals
totals_after k sum ts = totals (k + length ts) (sum + total_net ts)

same : {a b c d : ℕ} → a ≡ c → b ≡ d → totals a b ≡ totals c d
same e f = ap₂ totals e f

pub none_before : (r : Reply (List Ticket)) → map_reply (totals_after 0 0) r ≡ map_reply totals_of r
none_before r = ap (λ (f : List Ticket → Totals). map_reply f r) (fun_ext (λ ts. same (omega arith) (omega arith)))

pub one_more : (k j sum x : ℕ) (t : Ticket) → j ≡ k + 1 → x ≡ net t → (ts : List Ticket) → totals_after k sum (t ∷ ts) ≡ totals_after j (sum + x) ts
unfolding total_net
one_more k j sum x t e f ts = same (omega arith) (omega arith)

pub none_behind : (k n sum : ℕ) → k ≡ n → totals n sum ≡ totals_after k sum []
unfolding total_net
none_behind k n sum e = same (omega arith) (omega arith)
