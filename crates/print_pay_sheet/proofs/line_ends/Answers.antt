-- `line_ends`: behind the input nothing stands.
use mathlib.Core.Path.{sym, ap}
use Prim.Native.Nat.{ℕ}
use native.Mathlib.Omega.{arith}
use lib.Dec.{eqb}
use lib.ListN.{get_or, get_or-eq_default}
use borrow.Author.Tests.{ne_eqb}
use Rattle.print_pay_sheet.proofs.line_ends.Goals as goal

pub returns-in-Some : goal.returns-in-Some
returns-in-Some c = ap (λ (n : ℕ). eqb n 0x0a) (c.in-Some.ensures.lookup.3.1 0)

pub returns-in-None : goal.returns-in-None
returns-in-None c =
    let none = get_or-eq_default c.args.input.now 0 {n = c.args.at} c.in-None.ensures.lookup.3 in
    sym (ne_eqb (get_or c.args.input.now c.args.at 0) 0x0a (λ e. omega arith))
