-- `is_tickets_length` is the rule for the length of opened bytes.
use mathlib.Core.Path.{refl}
use Rattle.tape_model.specs.Tape.{is_tickets_length}
use Rattle.ticket.proofs.is_tickets_length.Goals as goal

pub returns : goal.returns
unfolding is_tickets_length
returns c = refl
