-- Empty trips: valid, of net 0, counted and listed.
use mathlib.Core.Path.{◌≡◌, refl, ap, ap₂, ◌∙◌}
use mathlib.Core.Bool.{true, ◌&&◌}
use mathlib.Core.List.{List, [], ◌∷◌, ◌++◌}
use Prim.Native.Nat.{ℕ, suc, ◌≤◌}
use native.Mathlib.Omega.{arith}
use lib.ListN.{length, length-append}
use borrow.Author.Tests.{le-leb}
use Rattle.calls.specs.Calls.{done, written_over}
use Rattle.acorn_model.specs.Machine.{key_length}
use Rattle.tape_model.specs.declared.Ticket.{Ticket}
use Rattle.tape_model.specs.Format.{in_ranges}
use Rattle.tape_model.specs.Ticket.{form1, form2, ticket_length, ticket_values, ordered, values_rule, ticket_rule, net, head_rule}
use Rattle.tape_model.specs.Tape.{pack_tickets, tape_of, total_net, totals_of, open_tape}
use Rattle.tape_model.specs.Listing.{decimal_below, decimal, numbers, head_line, line_end, ticket_line, ticket_lines, total_line, listed}
use Rattle.tape_model.specs.RefusalCases.{good_head, empty_trip}
use Rattle.tape_model.specs.EmptyTrips.{weighing, EmptyTripLaws}
use Rattle.tape_model.proofs.Ranges.{InRanges, ranges_in}
use Rattle.tape_model.proofs.Tickets.{of_two, ticket-rule, ticket_laws}
use Rattle.tape_model.proofs.Tapes.{tapes_come_back}

no_net : (t : Ticket) → t.gross ≡ t.tare → net t ≡ 0
unfolding net
no_net t e = omega (arith, e)

only_empty : (t : Ticket) → ticket_rule t ≡ true → net t ≡ 0 → t.gross ≡ t.tare
unfolding net
only_empty t h e = let r = ticket-rule t h in omega (arith, e, r.2)

counted : (ts us : List Ticket) (t : Ticket) → t.gross ≡ t.tare → totals_of (ts ++ t ∷ us) ≡ record { tickets = suc (length (ts ++ us)); net = total_net (ts ++ us) }
unfolding total_net
counted ts us t e = λ i. record { tickets = tickets i; net = total i }
  where
    tickets : length (ts ++ t ∷ us) ≡ suc (length (ts ++ us))
    tickets = omega (arith, length-append ts (t ∷ us), length-append ts us)

    total : total_net (ts ++ t ∷ us) ≡ total_net (ts ++ us)
    total = ticket_laws.net-append ts (t ∷ us) ∙ omega (arith, no_net t e, ticket_laws.net-append ts us)

line : (position : ℕ) (t : Ticket) → t.gross ≡ t.tare
    → ticket_line position t ≡ decimal position ++ numbers (t.truck ∷ t.shovel ∷ t.tip ∷ t.grade ∷ t.loaded ∷ t.tipped ∷ 0 ∷ []) ++ line_end
unfolding ticket_line
line position t e = ap (λ (n : ℕ). decimal position ++ numbers (t.truck ∷ t.shovel ∷ t.tip ∷ t.grade ∷ t.loaded ∷ t.tipped ∷ n ∷ []) ++ line_end) (no_net t e)

valid : (t : Ticket) → ticket_rule t ≡ true → ticket_rule (weighing t.gross t.gross t) ≡ true
unfolding ticket_rule values_rule ordered
valid t h =
    let r = ticket-rule t h in
    ap₂ ◌&&◌
    (of_two (λ fs. InRanges fs (ticket_values t) → in_ranges fs (ticket_values (weighing t.gross t.gross t)) ≡ true)
    (λ q. ranges_in form1 (ticket_values (weighing t.gross t.gross t)) (omega (arith, q)))
    (λ q. ranges_in form2 (ticket_values (weighing t.gross t.gross t)) (omega (arith, q))) t.form r.0)
    (ap₂ ◌&&◌ (le-leb t.loaded t.tipped r.1) (le-leb t.gross t.gross (omega arith)))

opens : (key out : List ℕ) → length key ≡ key_length → ticket_length ≤ length out
    → open_tape key (tape_of key good_head (empty_trip ∷ [])) out ≡ record { answer = done (record { tickets = 1; net = 0 }); out = written_over (pack_tickets (empty_trip ∷ [])) out }
unfolding head_rule ticket_rule values_rule ordered total_net net
opens key out k room = (tapes_come_back key good_head (empty_trip ∷ []) k refl (refl, tt) (omega arith)).opens out room

pub empty_trip_laws : EmptyTripLaws
unfolding listed head_line ticket_lines ticket_line total_line numbers decimal_below net total_net
empty_trip_laws = record { valid = valid; net_0 = λ t h. (only_empty t h, no_net t); counted = counted; line = line; opens = opens; example = refl }
