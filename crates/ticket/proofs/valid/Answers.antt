-- `valid` is the ticket rule, by its parts.
use mathlib.Core.Path.{ap₂, ◌∙◌}
use mathlib.Core.Bool.{Bool, ◌&&◌}
use Rattle.ticket.specs.Rule.{between}
use Rattle.ticket.proofs.Rules.{in_parts}
use Rattle.ticket.proofs.valid.Goals as goal

pub returns : goal.returns
returns c =
    let t = c.args.t in
    ap₂ (λ (a b : Bool). (between 1 t.form 2 && a) && b) c.tipped_in_range.ensures (ap₂ ◌&&◌ c.place_valid.ensures c.load_valid.ensures)
    ∙ in_parts t
