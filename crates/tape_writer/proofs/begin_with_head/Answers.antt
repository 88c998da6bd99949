-- `begin_with_head` begins, and then takes the head as data.
use mathlib.Core.Path.{◌≡◌, ◌∙◌}
use lib.ListN.{length}
use borrow.Author.Rules.{rules}
use Rattle.tape_model.specs.Ticket.{head_length}
use Rattle.ticket.proofs.Nonce.{nonce_is}
use Rattle.tape_writer.proofs.WriterCalls.{not-begun, then_taken}
use Rattle.tape_writer.proofs.begin_with_head.Goals as goal

pub returns-in-Refused : goal.returns-in-Refused
returns-in-Refused c =
    let a = c.args in
    let long : length a.head.now ≡ head_length = search rules in
    not-begun a.session a.key.now a.head.now c.begin-begun.result (rw (c.nonce_of.ensures ∙ nonce_is a.head.now long) at c.begin-begun.ensures) _ c.in-Refused.is

pub returns-in-Done : goal.returns-in-Done
returns-in-Done c =
    let a = c.args in
    let long : length a.head.now ≡ head_length = search rules in
    then_taken a.session a.key.now a.head.now c.begin-begun.result (rw (c.nonce_of.ensures ∙ nonce_is a.head.now long) at c.begin-begun.ensures) _ _ c.in-Done.is _ c.«data».ensures
