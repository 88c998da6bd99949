-- `Session::fixed_length` meets its contract.
use Rattle.std.proofs.Common.{sym, ◌∙◌}
use Rattle.session.specs.Clauses.{machine_of}
use Rattle.session.proofs.NextSession.{length-of, length_of_none}
use Rattle.session.proofs.Session.fixed_length.Goals as goal

pub returns-then-tag_length_right : goal.returns-then-tag_length_right
unfolding machine_of
returns-then-tag_length_right c = sym (length-of _ (sym c.tag_length_right.ensures ∙ c.if-tag_length_right.true))

pub returns-else-tag_length_right : goal.returns-else-tag_length_right
unfolding machine_of
returns-else-tag_length_right c = sym (length_of_none _ (sym c.tag_length_right.ensures ∙ c.if-tag_length_right.false))
