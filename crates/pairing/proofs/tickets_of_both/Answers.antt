-- `tickets_of_both` gives the tickets of both tapes, or the number that comes first.
use mathlib.Core.Path.{ap, ap₂, sym, ◌∙◌}
use Rattle.calls.specs.Calls.{refused, map_replies}
use Rattle.calls.specs.Refusals.{refusal_number}
use Rattle.pairing.specs.Pairing.{paired, plain_paired}
use Rattle.pairing.proofs.Smaller.{smaller}
use Rattle.pairing.proofs.tickets_of_both.Goals as goal

pub returns-in-Ok-Err : goal.returns-in-Ok-Err
unfolding plain_paired map_replies
returns-in-Ok-Err c = ap₂ (map_replies paired) c.in-Ok-Err.ensures c.in-Ok-Err.ensures'

pub returns-in-Err-Err : goal.returns-in-Err-Err
unfolding plain_paired map_replies
returns-in-Err-Err c =
    let two = c.in-Err-Err in
    ap₂ (map_replies paired) two.ensures two.ensures' ∙ ap refused (smaller two.a two.b ∙ ap refusal_number (sym c.min.ensures))

pub returns-in-Err-Ok : goal.returns-in-Err-Ok
unfolding plain_paired map_replies
returns-in-Err-Ok c = ap₂ (map_replies paired) c.in-Err-Ok.ensures c.in-Err-Ok.ensures'
