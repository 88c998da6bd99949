-- Document 02, P6: a ticket moved to form 1 or form 2.
use Rattle.std.specs.Prelude.{Bool, not, ◌&&◌, ◌||◌, ℕ, eqb, ltb}
use Rattle.calls.specs.Calls.{◌if◌else◌, Reply, accepted, reply_of}
use Rattle.tape_model.specs.declared.Ticket.{Ticket}
use Rattle.tape_model.specs.Ticket.{in_form, ticket_rule}

-- the forms are 1 and 2
abbrev pub is_form : ℕ → Bool
is_form form = eqb form 1 || eqb form 2

-- a ticket of form 2 is tipped after the last second that form 1, which is asked for, has
abbrev pub too_late : Ticket → ℕ → Bool
too_late t form = (eqb t.form 2 && eqb form 1) && ltb 43199 t.tipped

-- 4 for a form other than 1 and 2, and for a ticket that breaks the rule; then 11
abbrev pub move_refusal : Ticket → ℕ → ℕ
move_refusal t form =
    4 if not (is_form form && ticket_rule t) else
    11 if too_late t form else
    accepted

-- the ticket in the form asked for: every other field is kept
unfoldable pub move_ticket : Ticket → ℕ → Reply Ticket
move_ticket t form = reply_of (move_refusal t form) (in_form form t)
