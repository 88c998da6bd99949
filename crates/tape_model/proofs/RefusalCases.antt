-- The cases of specs/RefusalCases hold: each is computed.
use mathlib.Core.Path.{◌≡◌, refl}
use mathlib.Core.Bool.{Bool, true, ◌&&◌, beq}
use mathlib.Core.List.{List, [], ◌∷◌}
use lib.Dec.{eqb}
use borrow.Author.Tests.{eqb-true}
use Rattle.std.proofs.lemmas.Bool.{and_parts}
use Rattle.calls.specs.Calls.{map_reply, unless_refused, result_of}
use Rattle.acorn_model.proofs.StepCases.{same}
use Rattle.tape_model.specs.Ticket.{ordered, values_rule, ticket_rule, net, pack_ticket, unpack_ticket, pack_ticket_into, head_rule, pack_head, unpack_head, pack_head_into}
use Rattle.tape_model.specs.Tape.{is_tickets_length, total_net, unpack_tickets, plain_tickets, of_plain, plain_totals, is_tape_length, open_tape_refusal}
use Rattle.tape_model.specs.Writer.{phase_allows, key_right, head_right, ticket_right, tape_full, output_short, refusal}
use Rattle.tape_model.specs.Reader.{handed_out, read_next}
use Rattle.tape_model.specs.RefusalCases.{writer_with, RefusalCase, writes, opens, sizes, Gets, AllGet, tape_refusal_cases, ReaderCases, PackingCases}

abbrev gets : RefusalCase → Bool
gets (writes phase tickets call number) = eqb (refusal (writer_with phase tickets) call) number
gets (opens key tape out number) = eqb (open_tape_refusal key tape out) number
gets (sizes bytes tape tickets) = beq (is_tape_length bytes) tape && beq (is_tickets_length bytes) tickets

abbrev all_get : List RefusalCase → Bool
all_get [] = true
all_get (c ∷ cs) = gets c && all_get cs

shown : (c : RefusalCase) → gets c ≡ true → Gets c
shown (writes phase tickets call number) h = eqb-true _ _ h
shown (opens key tape out number) h = eqb-true _ _ h
shown (sizes bytes tape tickets) h = let p = and_parts (beq (is_tape_length bytes) tape) _ h in (same _ _ p.0, same _ _ p.1)

shown_all : (cs : List RefusalCase) → all_get cs ≡ true → AllGet cs
shown_all [] h = tt
shown_all (c ∷ cs) h = let p = and_parts (gets c) (all_get cs) h in (shown c p.0, shown_all cs p.1)

pub refusal-cases : AllGet tape_refusal_cases
unfolding refusal phase_allows key_right head_right ticket_right tape_full output_short head_rule ticket_rule values_rule ordered open_tape_refusal is_tape_length is_tickets_length unpack_head unless_refused pack_head
refusal-cases = shown_all tape_refusal_cases refl

pub reader_cases : ReaderCases
unfolding read_next handed_out plain_totals total_net net of_plain map_reply plain_tickets unpack_tickets is_tickets_length unpack_ticket unless_refused pack_ticket values_rule ordered
reader_cases = record { too_short = refl; not-whole = refl; bad = refl; bad_first = refl; bad_second = refl; tare_above = refl; empty-trip = refl; empty_trip_totals = refl; form_2 = refl; form_3 = refl; no_totals = (refl, refl, refl) }

pub packing_cases : PackingCases
unfolding pack_ticket_into pack_head_into result_of unless_refused ticket_rule values_rule ordered head_rule pack_head pack_ticket unpack_ticket unpack_head
packing_cases =
    record { bad-ticket = refl; empty-trip = (refl, refl); case_l = refl; tare_above = refl; ticket_room = (refl, refl); bad_head = refl; head_room = (refl, refl); ticket_size = (refl, refl); head_size = (refl, refl); head_range = refl }
