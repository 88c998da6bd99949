-- The cases of specs/Cases.antt, computed; the tape of the most net by the laws.
use mathlib.Core.Path.{◌≡◌, refl, ap, ap₂, ◌∙◌, fun_ext}
use mathlib.Core.Bool.{true}
use mathlib.Core.List.{[], ◌∷◌, ◌++◌}
use Prim.Native.Nat.{ℕ, zero, suc, ◌*◌}
use native.Mathlib.Omega.{arith}
use lib.Dec.{eqb}
use lib.ListN.{replicate, length-replicate}
use Rattle.calls.specs.Calls.{◌if◌else◌, done, map_reply, unless_refused}
use Rattle.tape_model.specs.declared.Ticket.{Ticket}
use Rattle.tape_model.specs.Ticket.{ticket_rule, values_rule, ordered, net, pack_ticket, unpack_ticket}
use Rattle.tape_model.specs.Tape.{ticket_limit, pack_tickets, is_tickets_length, unpack_tickets, plain_tickets, of_plain, total_net}
use Rattle.tape_model.specs.Laws.{Valid}
use Rattle.trucks.specs.Words.{count}
use Rattle.pay_sheet.specs.PaySheet.{contractor_of, net_of, sum_to, each, comes_before, rank, pay, exact_share, whole_cents, remainder, cents_left, share, sheet_of, pay_sheet}
use Rattle.pay_sheet.specs.Cases.{heavy, heaviest, PaySheetCases}
use Rattle.pay_sheet.proofs.Proved.{sheet_by, sheet-by, pay_sheet_laws}

-- ## The same ticket n times

module _ (t : Ticket) where
  all_valid : ticket_rule t ≡ true → (n : ℕ) → Valid (replicate n t)
  all_valid v zero = tt
  all_valid v (suc n) = (v, all_valid v n)

  total_of : (n : ℕ) → total_net (replicate n t) ≡ n * net t
  unfolding total_net
  total_of zero = omega arith
  total_of (suc n) = omega (arith, total_of n)

  net-of : (n c : ℕ) → net_of (replicate n t) c ≡ n * (net t if eqb (contractor_of t.truck) c else 0)
  unfolding net_of
  net-of zero c = omega arith
  net-of (suc n) c = omega (arith, net-of n c)

heaviest_paid : pay_sheet (pack_tickets heaviest) 1000000 ≡ done (record { pay = 5242875000000; shares = replicate 15 0 ++ 5242875000000 ∷ [] })
unfolding sheet_by net each rank comes_before count sum_to ticket_rule values_rule ordered
heaviest_paid =
    pay_sheet_laws.packed heaviest 1000000 (all_valid heavy refl ticket_limit) (omega (arith, length-replicate {A = Ticket} ticket_limit heavy)) (omega arith)
    ∙ ap done (sheet-by 1000000 heaviest ∙ ap₂ (sheet_by 1000000) (total_of heavy ticket_limit) (fun_ext (net-of heavy ticket_limit)))

pub pay_sheet_cases : PaySheetCases
unfolding pay_sheet of_plain map_reply plain_tickets is_tickets_length unpack_tickets unpack_ticket unless_refused pack_tickets pack_ticket values_rule ordered net total_net sheet_of pay share cents_left whole_cents remainder exact_share net_of each rank comes_before count sum_to
pay_sheet_cases =
    record {
      whole = refl;
      rests = refl;
      left = refl;
      paid = refl;
      larger_first = refl;
      own_shares = refl;
      most_left = (refl, refl);
      no_tickets = refl;
      rate_0 = refl;
      highest = refl;
      above = refl;
      thirteen_first = (refl, refl);
      refusals = (refl, refl, refl, refl);
      most = heaviest_paid;
    }
