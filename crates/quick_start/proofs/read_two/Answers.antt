-- A reader is made, called, and what it hands back is called again: all that is known of the calls is that they meet their contracts.
use Rattle.std.proofs.Common.{◌≡◌, ap, ◌∙◌}
use Rattle.tape_model.specs.Reader.{ReadOutcome, read_next, reader_over}
use Rattle.reader.specs.Clauses.{reader_outcome}
use Rattle.quick_start.proofs.read_two.Goals as goal

pub returns : goal.returns
unfolding reader_outcome
returns c =
    let first : reader_outcome c.next-a.result ≡ read_next (reader_over c.args.plain.now) = c.next-a.ensures.outcome ∙ ap read_next c.new.ensures.fresh in
    (ap (λ (o : ReadOutcome). o.answer) first, ap (λ (o : ReadOutcome). o.answer) (c.next-b.ensures.outcome ∙ ap (λ (o : ReadOutcome). read_next o.next) first))
