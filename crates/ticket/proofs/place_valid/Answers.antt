-- `place_valid` is its chain of tests.
use mathlib.Core.Path.{◌≡◌, ap₂, ◌∙◌}
use mathlib.Core.Bool.{Bool, ◌&&◌}
use lib.Dec.{leb}
use Rattle.ticket.specs.Rule.{place_rule, between}
use Rattle.ticket.proofs.Rules.{contains-is}
use Rattle.ticket.proofs.place_valid.Goals as goal

pub returns : goal.returns
unfolding place_rule
returns c =
    let t = c.args.t in
    let truck : c.contains.result ≡ between 1 t.truck 1023 = c.contains.ensures.value ∙ rw (c.new.ensures.start, c.new.ensures.end, c.new.ensures.exhausted) (contains-is 1 t.truck 1023) in
    let shovel : c.contains-2.result ≡ between 1 t.shovel 63 = c.contains-2.ensures.value ∙ rw (c.new-2.ensures.start, c.new-2.ensures.end, c.new-2.ensures.exhausted) (contains-is 1 t.shovel 63) in
    let tip : c.contains-3.result ≡ between 1 t.tip 63 = c.contains-3.ensures.value ∙ rw (c.new-3.ensures.start, c.new-3.ensures.end, c.new-3.ensures.exhausted) (contains-is 1 t.tip 63) in
    ap₂ (λ (a b : Bool). a && b && leb t.grade 9) (ap₂ ◌&&◌ truck shovel) tip
