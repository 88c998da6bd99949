-- What a C caller knows from the answer of moving a ticket to a form: statements, to be read without their proofs.
use Rattle.std.specs.Prelude.{◌≡◌, true, false, List, ◌↔◌, ◌⊎◌, ℕ, ◌≤◌, ◌<◌, length}
use Rattle.calls.specs.Calls.{AreBytes, written_over}
use Rattle.tape_model.specs.declared.Ticket.{Ticket}
use Rattle.tape_model.specs.Ticket.{ticket_length, no_ticket, in_form, ticket_rule, pack_ticket}
use Rattle.c_answers.specs.declared.HtUnpackedTicket.{HtUnpackedTicket}
use Rattle.c_answers.specs.declared.HtWritten.{HtWritten}
use Rattle.haul_tape.specs.Clauses.{UnpackTicketSeen, MoveTicketSeen, PackTicketSeen}

-- r: what was answered of moving t to this form
pub record MoveAnswered (t : Ticket) (form : ℕ) (r : HtUnpackedTicket) : Type 0 where
  -- the ticket in form 2 exactly where it is valid, in form 1 exactly where it is valid and tipped at most 43,199
  pub to_form_2 : form ≡ 2 → (r ≡ record { refused = 0; ticket = in_form 2 t }) ↔ (ticket_rule t ≡ true)
  pub to_form_1 : form ≡ 1 → (r ≡ record { refused = 0; ticket = in_form 1 t }) ↔ ((ticket_rule t ≡ true) × (t.tipped ≤ 43199))
  -- 4 and 11, with zeros in place of the ticket, exactly where document 02 has them; and there is no other answer
  pub four : (r ≡ record { refused = 4; ticket = no_ticket }) ↔ (((form ≡ 1 → ⊥) × (form ≡ 2 → ⊥)) ⊎ (ticket_rule t ≡ false))
  pub eleven : (r ≡ record { refused = 11; ticket = no_ticket }) ↔ ((ticket_rule t ≡ true) × (t.form ≡ 2) × (form ≡ 1) × (43199 < t.tipped))
  pub one_of : (r ≡ record { refused = 0; ticket = in_form form t }) ⊎ ((r ≡ record { refused = 4; ticket = no_ticket }) ⊎ (r ≡ record { refused = 11; ticket = no_ticket }))
  -- the ticket that was moved packs: the call that packs writes its 13 bytes
  pub packs : r.refused ≡ 0 → (out : List ℕ) → ticket_length ≤ length out → (w : HtWritten) (after : List ℕ) → PackTicketSeen r.ticket out w after
      → (w ≡ record { refused = 0; bytes = ticket_length }) × (after ≡ written_over (pack_ticket (in_form form t)) out)
  -- and moves back: b is what is answered of moving it to the form that it came from
  pub back : r.refused ≡ 0 → (b : HtUnpackedTicket) → MoveTicketSeen r.ticket t.form b → b ≡ record { refused = 0; ticket = t }

pub record MoveExports : Type 0 where
  pub move : (t : Ticket) (form : ℕ) (r : HtUnpackedTicket) → MoveTicketSeen t form r → MoveAnswered t form r
  -- bytes are unpacked (u), the ticket is moved (r), moved back (b) and packed: where unpacking and the first move are accepted, the output begins with the same bytes
  pub same_bytes : (packed : List ℕ) (u r b : HtUnpackedTicket) (form : ℕ) → AreBytes packed → UnpackTicketSeen packed u → u.refused ≡ 0
      → MoveTicketSeen u.ticket form r → r.refused ≡ 0 → MoveTicketSeen r.ticket u.ticket.form b
      → (out : List ℕ) → ticket_length ≤ length out → (w : HtWritten) (after : List ℕ) → PackTicketSeen b.ticket out w after
      → (w ≡ record { refused = 0; bytes = ticket_length }) × (after ≡ written_over packed out)
