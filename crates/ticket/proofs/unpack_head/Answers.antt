-- `unpack_head` answers as the bytes unpack, refusals included.
use mathlib.Core.Bool.{true, false}
use native.Mathlib.Omega.{arith}
use borrow.Author.Tests.{ne_eqb}
use borrow.Author.Rules.{rules}
use Rattle.calls.specs.Calls.{as_reply, unless_refused}
use Rattle.tape_model.specs.Ticket.{unpack_head}
use Rattle.ticket.proofs.WordBytes.{first-word, last-word}
use Rattle.ticket.proofs.Reading.{head_answered}
use Rattle.ticket.proofs.unpack_head.Goals as goal

pub returns-then-packed-ne-HEAD_LENGTH : goal.returns-then-packed-ne-HEAD_LENGTH
unfolding unpack_head unless_refused as_reply
returns-then-packed-ne-HEAD_LENGTH c = rw (ne_eqb _ _ c.if-packed-ne-HEAD_LENGTH.true)

pub returns-then-head_valid : goal.returns-then-head_valid
unfolding as_reply
returns-then-head_valid c =
    let s = c.args.packed.now in
    let size = c.if-packed-ne-HEAD_LENGTH.false in
    head_answered s _ _ size (λ p. omega (arith, c.type_inv.packed p))
    (first-word s _ _ _ c.first_chunk.ensures.cases (c.unwrap.ensures) c.from_be_bytes-h.ensures)
    (last-word 1 s _ _ _ size c.last_chunk.ensures.cases (c.unwrap-2.ensures) c.from_be_bytes-l.ensures)
    _ true (search rules) c.head_valid.ensures c.if-head_valid.true

pub returns-else-head_valid : goal.returns-else-head_valid
unfolding as_reply
returns-else-head_valid c =
    let s = c.args.packed.now in
    let size = c.if-packed-ne-HEAD_LENGTH.false in
    head_answered s _ _ size (λ p. omega (arith, c.type_inv.packed p))
    (first-word s _ _ _ c.first_chunk.ensures.cases (c.unwrap.ensures) c.from_be_bytes-h.ensures)
    (last-word 1 s _ _ _ size c.last_chunk.ensures.cases (c.unwrap-2.ensures) c.from_be_bytes-l.ensures)
    _ false (search rules) c.head_valid.ensures c.if-head_valid.false
