-- `head_valid` is the head rule: its chain of tests, regrouped.
use mathlib.Core.Bool.{◌&&◌, and_assoc, and-true}
use Rattle.tape_model.specs.Ticket.{head_rule}
use mathlib.Core.Path.{◌≡◌, ap₂, ◌∙◌}
use Rattle.ticket.specs.Rule.{between}
use Rattle.ticket.proofs.Rules.{contains-is}
use Rattle.ticket.proofs.head_valid.Goals as goal

pub returns : goal.returns
unfolding head_rule
returns c =
    let h = c.args.h in
    let device : c.contains.result ≡ between 1 h.device 4294967295 = c.contains.ensures.value ∙ rw (c.new.ensures.start, c.new.ensures.end, c.new.ensures.exhausted) (contains-is 1 h.device 4294967295) in
    let shift : c.contains-2.result ≡ between 1 h.shift 1000000 = c.contains-2.ensures.value ∙ rw (c.new-2.ensures.start, c.new-2.ensures.end, c.new-2.ensures.exhausted) (contains-is 1 h.shift 1000000) in
    let sheet : c.contains-3.result ≡ between 1 h.sheet 1000000 = c.contains-3.ensures.value ∙ rw (c.new-3.ensures.start, c.new-3.ensures.end, c.new-3.ensures.exhausted) (contains-is 1 h.sheet 1000000) in
    ap₂ ◌&&◌ (ap₂ ◌&&◌ device shift) sheet ∙ simp (and_assoc, and-true)
