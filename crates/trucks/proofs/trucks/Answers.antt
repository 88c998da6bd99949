-- `trucks` counts the tape's set.
use mathlib.Core.Path.{◌≡◌, ap, ◌∙◌}
use borrow.Author.Rules.{rules}
use Rattle.std.specs.Prelude.{Err}
use Rattle.calls.specs.Calls.{as_reply}
use Rattle.trucks.specs.Words.{words_reply}
use Rattle.trucks.proofs.Gathering.{count_refused, count_done}
use Rattle.trucks.proofs.trucks.Goals as goal

pub returns-in_err-set_on : goal.returns-in_err-set_on
unfolding as_reply words_reply
returns-in_err-set_on c =
    let passed_on : c.from_residual.result ≡ Err c.in_err-set_on.field-0.0 = search rules in
    ap as_reply passed_on ∙ count_refused _ _ c.in_err-set_on.ensures

pub returns : goal.returns
unfolding as_reply words_reply
returns c = let g = c.in_ok-set_on.ensures in count_done _ _ g _ c.count.ensures.value_2
