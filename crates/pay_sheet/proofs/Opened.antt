-- The tickets of an opened tape: their contractors and their weight.
use mathlib.Core.Path.{◌≡◌, ap, subst}
use mathlib.Core.List.{List, [], ◌∷◌}
use Prim.Native.Nat.{ℕ, zero, suc, ◌*◌, ◌/◌, ◌≤◌}
use native.Mathlib.Omega.{arith}
use lib.ListN.{length, take, drop}
use Rattle.calls.specs.Calls.{done}
use Rattle.tape_model.specs.declared.Ticket.{Ticket}
use Rattle.tape_model.specs.Ticket.{unpack_ticket}
use Rattle.tape_model.specs.Tape.{ticket_limit, unpack_tickets, plain_tickets, tickets_in, total_net}
use Rattle.tape_model.specs.Laws.{Valid}
use Rattle.tape_model.proofs.Tickets.{valid_truck, unpacked_valid}
use Rattle.tape_model.proofs.Unpacking.{taken-apart, held-unpack, held_few}
use Rattle.pay_sheet.specs.Laws.{HaveContractors}
use Rattle.pay_sheet.proofs.Hauled.{valid-net}

unpacked_all_valid : (n : ℕ) (s : List ℕ) (ts : List Ticket) → unpack_tickets n s ≡ done ts → Valid ts
unfolding unpack_tickets
unpacked_all_valid zero s ts e = subst Valid (ap tickets_in e) (tt {0})
unpacked_all_valid (suc n) s ts e =
    taken-apart Valid (unpack_ticket (take 13 s)) (unpack_tickets n (drop 13 s)) ts e
    (λ t us f g. (unpacked_valid (take 13 s) t f, unpacked_all_valid n (drop 13 s) us g))

pub held-valid : (plain : List ℕ) (ts : List Ticket) → plain_tickets plain ≡ done ts → Valid ts
held-valid plain ts e = unpacked_all_valid (length plain / 13) plain ts (held-unpack plain ts e)

pub valid-contractors : (ts : List Ticket) → Valid ts → HaveContractors ts
valid-contractors [] v = tt {0}
valid-contractors (t ∷ ts) v = (omega (arith, (valid_truck t v.0).1), valid-contractors ts v.1)

valid_weight : (ts : List Ticket) → Valid ts → total_net ts ≤ 1048575 * length ts
unfolding total_net
valid_weight [] v = omega arith
valid_weight (t ∷ ts) v = omega (arith, valid-net t v.0, valid_weight ts v.1)

pub held_weight : (plain : List ℕ) (ts : List Ticket) → plain_tickets plain ≡ done ts → total_net ts ≤ ticket_limit * 1048575
held_weight plain ts e = omega (arith, valid_weight ts (held-valid plain ts e), (held_few plain ts e).1)
