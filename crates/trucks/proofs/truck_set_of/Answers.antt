-- `truck_set_of` counts the tape's set, and hands it back.
use mathlib.Core.Path.{◌∙◌}
use Rattle.calls.specs.Calls.{as_reply}
use Rattle.trucks.specs.Words.{words_reply}
use Rattle.trucks.proofs.Gathering.{count_refused, set_refused, count_done, set_done}
use Rattle.trucks.proofs.truck_set_of.Goals as goal

pub returns-in-Ok : goal.returns-in-Ok
unfolding as_reply words_reply
returns-in-Ok c =
    let set = c.in-Ok.ensures in
    record { answer_value = count_done _ _ set _ c.count.ensures.value_2; words_value = set_done _ _ set }

pub returns-in-Err : goal.returns-in-Err
unfolding as_reply words_reply
returns-in-Err c =
    let number = c.in-Err.ensures in
    record { answer_value = count_refused _ _ number; words_value = c.empty.ensures ∙ set_refused _ _ number }
