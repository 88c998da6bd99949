-- `put_shares`: c lines are written before each turn of the loop.
use lib.ListN.{take}
use Rattle.listing.specs.Clauses.{Wrote}
use Rattle.print_pay_sheet.specs.Printed.{contractor_lines}
use Rattle.print_pay_sheet.proofs.put_shares.Given as goal

abbrev pub invariant-loop-c : goal.invariant-loop-c
invariant-loop-c l = Wrote (contractor_lines 0 (take l.c l.shares)) l.initial.text l.at l.text
