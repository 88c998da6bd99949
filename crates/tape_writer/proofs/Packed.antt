-- Packed tickets and heads, as the writer has them from `ticket`.
use mathlib.Core.Path.{◌≡◌, sym, ap₂}
use mathlib.Core.Bool.{true}
use mathlib.Core.List.{List, ◌++◌}
use Prim.Native.Nat.{ℕ}
use lib.ListN.{length, drop}
use Rattle.calls.specs.Calls.{written_over}
use Rattle.tape_model.specs.declared.Ticket.{Ticket}
use Rattle.tape_model.specs.Ticket.{ticket_rule, pack_ticket}
use Rattle.ticket.specs.Packing.{packed_or_zeros}

-- ## Tickets

pub ticket_packed : (t : Ticket) (string : List ℕ) → string ≡ packed_or_zeros t → ticket_rule t ≡ true → string ≡ pack_ticket t
unfolding packed_or_zeros
ticket_packed t string e met = rw met at e

-- ## Heads

-- a string copied over an output is written over it
pub copied : (packed copy out : List ℕ) (n : ℕ) → length packed ≡ n → copy ≡ packed → copy ++ drop n out ≡ written_over packed out
unfolding written_over
copied packed copy out n long same = ap₂ (λ (l : List ℕ) (k : ℕ). l ++ drop k out) same (sym long)
