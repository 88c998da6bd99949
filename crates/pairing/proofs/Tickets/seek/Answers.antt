-- `seek` follows the links of a truck past the tickets that are tipped too early.
use mathlib.Core.Path.{refl}
use native.Mathlib.Omega.{arith}
use Rattle.pairing.proofs.Links.{seek_next, seek_found}
use Rattle.pairing.proofs.Tickets.seek.Goals as goal

pub returns-then-at_most_120_after : goal.returns-then-at_most_120_after
returns-then-at_most_120_after c =
    seek_found _ _ _ c.loop-j.invariant (omega arith) _ _ c.tipping_at.ensures.1 c.at_most_120_after.ensures c.if-at_most_120_after.true

pub loop-j-preserved : goal.loop-j-preserved
loop-j-preserved c =
    (seek_next _ _ _ c.loop-j.invariant (omega arith) c.args.next.now c.requires.0 _ _ c.tipping_at.ensures.1 c.at_most_120_after.ensures c.if-at_most_120_after.false _ refl).0
