-- `rank_of`: those that the filter keeps are counted.
use Rattle.std.proofs.Common.{rules, tests, ◌||◌, ◌&&◌, ltb, eqb, ap, ◌∙◌, arith, length}
use Prim.Native.Nat.{ℕ, ◌+◌}
use Rattle.std.proofs.lemmas.Iterator.{YieldsList-from_slice}
use Rattle.std.proofs.lemmas.Iterator.Consumers.{YieldsList-at, YieldsList-from_enumerate, YieldsList-from_filter, count_from_yields_List}
use Rattle.trucks.specs.Words.{count}
use Rattle.pay_sheet.specs.PaySheet.{comes_before, rank}
use Rattle.pay_sheet.specs.Clauses.{at}
use Rattle.pay_sheet.proofs.Counted.{counted}
use Rattle.pay_sheet.proofs.rank_of.Goals as goal

pub returns : goal.returns
unfolding comes_before rank
returns c =
    let rests = c.args.rests.now in
    let kept = count_from_yields_List _ _ c.count.ensures.ran (YieldsList-from_filter _ (λ (p : ℕ × ℕ). ltb (at c.args.rests.now c.args.c) p.1 || (eqb p.1 (at c.args.rests.now c.args.c) && ltb p.0 c.args.c))
    (YieldsList-at c.filter.ensures.source (YieldsList-from_enumerate (YieldsList-at c.enumerate.ensures.source (YieldsList-from_slice rests cc)) c.enumerate.ensures.count))
    c.filter.ensures.closure (λ x r q k. search (rules, tests))) in
    kept
    ∙ counted _ 0 rests (λ d. comes_before (at rests) d c.args.c) (λ d h. ap (λ (j : ℕ). ltb (at rests c.args.c) (at rests d) || (eqb (at rests d) (at rests c.args.c) && ltb j c.args.c)) {x = d} {y = 0 + d} (omega arith))
    ∙ ap (λ (n : ℕ). count n (λ d. comes_before (at rests) d c.args.c)) {x = length rests} {y = 16} (omega arith)
