-- `unpack_ticket` answers as the bytes unpack, refusals included.
use mathlib.Core.Path.{refl, sym, ap₂, ◌∙◌}
use mathlib.Core.Bool.{true, false, ◌&&◌}
use native.Mathlib.Omega.{arith}
use borrow.Author.Tests.{ne_eqb}
use Rattle.calls.specs.Calls.{as_reply, unless_refused}
use Rattle.tape_model.specs.Ticket.{unpack_ticket}
use Rattle.ticket.proofs.WordBytes.{first-word, last-word}
use Rattle.ticket.proofs.Rules.{too-late, by-rest}
use Rattle.ticket.proofs.Reading.{seen, form_1_answered, form_2_answered, spare_answered, other_answered}
use Rattle.ticket.proofs.unpack_ticket.Goals as goal
use Rattle.ticket.proofs.unpack_ticket.Goals.{then-packed-eq1+else-l-ne0+else-not-tipped_in_range, else-packed-eq1+else-h-ne2+else-not-tipped_in_range-2}

pub returns-then-packed-ne-TICKET_LENGTH : goal.returns-then-packed-ne-TICKET_LENGTH
unfolding unpack_ticket unless_refused as_reply
returns-then-packed-ne-TICKET_LENGTH c = rw (ne_eqb _ _ c.if-packed-ne-TICKET_LENGTH.true)

pub returns-then-l-ne0 : goal.returns-then-l-ne0
unfolding as_reply
returns-then-l-ne0 c = spare_answered _ _ _ (seen c.args.packed.now _ _ c.if-packed-ne-TICKET_LENGTH.false (λ p. omega (arith, c.type_inv.packed p)) (first-word _ _ _ _ c.first_chunk.ensures.cases c.unwrap.ensures c.from_be_bytes-h.ensures) (last-word 5 _ _ _ _ c.if-packed-ne-TICKET_LENGTH.false c.last_chunk.ensures.cases c.unwrap-2.ensures c.from_be_bytes-l.ensures) c.from_be_bytes-h.type_inv) c.if-packed-eq1.true c.if-l-ne0.true

pub returns-then-not-tipped_in_range : goal.returns-then-not-tipped_in_range
unfolding as_reply
returns-then-not-tipped_in_range c =
    form_1_answered _ _ _ (seen c.args.packed.now _ _ c.if-packed-ne-TICKET_LENGTH.false (λ p. omega (arith, c.type_inv.packed p)) (first-word _ _ _ _ c.first_chunk.ensures.cases c.unwrap.ensures c.from_be_bytes-h.ensures) (last-word 5 _ _ _ _ c.if-packed-ne-TICKET_LENGTH.false c.last_chunk.ensures.cases c.unwrap-2.ensures c.from_be_bytes-l.ensures) c.from_be_bytes-h.type_inv) _ false c.if-packed-eq1.true c.if-l-ne0.false c.ticket_in-t.ensures.1
    (too-late _ (sym c.tipped_in_range.ensures ∙ c.if-not-tipped_in_range.true))

pub returns-then-h-ne2 : goal.returns-then-h-ne2
unfolding as_reply
returns-then-h-ne2 c = other_answered _ _ _ (seen c.args.packed.now _ _ c.if-packed-ne-TICKET_LENGTH.false (λ p. omega (arith, c.type_inv.packed p)) (first-word _ _ _ _ c.first_chunk.ensures.cases c.unwrap.ensures c.from_be_bytes-h.ensures) (last-word 5 _ _ _ _ c.if-packed-ne-TICKET_LENGTH.false c.last_chunk.ensures.cases c.unwrap-2.ensures c.from_be_bytes-l.ensures) c.from_be_bytes-h.type_inv) c.if-packed-eq1.false c.if-h-ne2.true

pub returns-then-not-tipped_in_range-2 : goal.returns-then-not-tipped_in_range-2
unfolding as_reply
returns-then-not-tipped_in_range-2 c =
    form_2_answered _ _ _ (seen c.args.packed.now _ _ c.if-packed-ne-TICKET_LENGTH.false (λ p. omega (arith, c.type_inv.packed p)) (first-word _ _ _ _ c.first_chunk.ensures.cases c.unwrap.ensures c.from_be_bytes-h.ensures) (last-word 5 _ _ _ _ c.if-packed-ne-TICKET_LENGTH.false c.last_chunk.ensures.cases c.unwrap-2.ensures c.from_be_bytes-l.ensures) c.from_be_bytes-h.type_inv) _ false c.if-h-ne2.false c.ticket_in-t-else-packed-eq1.ensures.1
    (too-late _ (sym c.tipped_in_range-else-packed-eq1.ensures ∙ c.if-not-tipped_in_range-2.true))

pub returns-then-place_valid-load_valid : goal.returns-then-place_valid-load_valid
unfolding as_reply
returns-then-place_valid-load_valid c =
    let t = c.if-packed-eq1.t in
    let w = seen c.args.packed.now _ _ c.if-packed-ne-TICKET_LENGTH.false (λ p. omega (arith, c.type_inv.packed p)) (first-word _ _ _ _ c.first_chunk.ensures.cases c.unwrap.ensures c.from_be_bytes-h.ensures) (last-word 5 _ _ _ _ c.if-packed-ne-TICKET_LENGTH.false c.last_chunk.ensures.cases c.unwrap-2.ensures c.from_be_bytes-l.ensures) c.from_be_bytes-h.type_inv in
    let rest = sym c.if-place_valid-load_valid.true ∙ ap₂ ◌&&◌ c.place_valid.ensures c.load_valid.ensures in
    elim c.if-packed-eq1.branch [
      | then-packed-eq1+else-l-ne0+else-not-tipped_in_range x ↦
          form_1_answered _ _ _ w t true x.if-packed-eq1.true x.if-l-ne0.false (λ k a b. x.t-is ∙ x.ticket_in-t.ensures.1 k a b)
          (by-rest t _ 1 true x.t-is x.ticket_in-t.ensures.0 refl (sym x.tipped_in_range.ensures ∙ x.if-not-tipped_in_range.false) rest)
      | else-packed-eq1+else-h-ne2+else-not-tipped_in_range-2 x ↦
          form_2_answered _ _ _ w t true x.if-h-ne2.false (λ k a b. x.t-is ∙ x.ticket_in-t-else-packed-eq1.ensures.1 k a b)
          (by-rest t _ 2 true x.t-is x.ticket_in-t-else-packed-eq1.ensures.0 refl (sym x.tipped_in_range-else-packed-eq1.ensures ∙ x.if-not-tipped_in_range-2.false) rest)
    ]

pub returns-else-place_valid-load_valid : goal.returns-else-place_valid-load_valid
unfolding as_reply
returns-else-place_valid-load_valid c =
    let t = c.if-packed-eq1.t in
    let w = seen c.args.packed.now _ _ c.if-packed-ne-TICKET_LENGTH.false (λ p. omega (arith, c.type_inv.packed p)) (first-word _ _ _ _ c.first_chunk.ensures.cases c.unwrap.ensures c.from_be_bytes-h.ensures) (last-word 5 _ _ _ _ c.if-packed-ne-TICKET_LENGTH.false c.last_chunk.ensures.cases c.unwrap-2.ensures c.from_be_bytes-l.ensures) c.from_be_bytes-h.type_inv in
    let rest = sym c.if-place_valid-load_valid.false ∙ ap₂ ◌&&◌ c.place_valid.ensures c.load_valid.ensures in
    elim c.if-packed-eq1.branch [
      | then-packed-eq1+else-l-ne0+else-not-tipped_in_range x ↦
          form_1_answered _ _ _ w t false x.if-packed-eq1.true x.if-l-ne0.false (λ k a b. x.t-is ∙ x.ticket_in-t.ensures.1 k a b)
          (by-rest t _ 1 false x.t-is x.ticket_in-t.ensures.0 refl (sym x.tipped_in_range.ensures ∙ x.if-not-tipped_in_range.false) rest)
      | else-packed-eq1+else-h-ne2+else-not-tipped_in_range-2 x ↦
          form_2_answered _ _ _ w t false x.if-h-ne2.false (λ k a b. x.t-is ∙ x.ticket_in-t-else-packed-eq1.ensures.1 k a b)
          (by-rest t _ 2 false x.t-is x.ticket_in-t-else-packed-eq1.ensures.0 refl (sym x.tipped_in_range-else-packed-eq1.ensures ∙ x.if-not-tipped_in_range-2.false) rest)
    ]
