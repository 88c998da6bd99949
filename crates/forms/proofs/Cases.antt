-- The cases of specs/Cases.antt, computed.
use mathlib.Core.Path.{◌≡◌, refl}
use mathlib.Core.List.{List}
use Prim.Native.Nat.{ℕ, ◌≤◌}
use native.Mathlib.Omega.{arith}
use lib.ListN.{length}
use Rattle.calls.specs.Calls.{done, unless_refused, map_reply, written_over}
use Rattle.acorn_model.specs.Machine.{key_length}
use Rattle.tape_model.specs.Ticket.{ordered, values_rule, ticket_rule, net, pack_ticket, unpack_ticket, head_rule}
use Rattle.tape_model.specs.Tape.{is_tickets_length, unpack_tickets, plain_tickets, of_plain, total_net, pack_tickets, tape_of, open_tape}
use Rattle.tape_model.specs.Reader.{reader_over, handed_out, read_next}
use Rattle.tape_model.specs.Listing.{decimal_below, numbers, head_line, ticket_line, ticket_lines, total_line, listed}
use Rattle.tape_model.specs.RefusalCases.{good_head}
use Rattle.tape_model.proofs.Tapes.{tapes_come_back}
use Rattle.trucks.specs.Trucks.{on, different, truck_numbers, truck_count, plain_trucks}
use Rattle.forms.specs.Move.{move_ticket}
use Rattle.forms.specs.Cases.{mixed, FormCases}

opens : (key out : List ℕ) → length key ≡ key_length → 39 ≤ length out
    → open_tape key (tape_of key good_head mixed) out ≡ record { answer = done (record { tickets = 3; net = 340097 }); out = written_over (pack_tickets mixed) out }
unfolding head_rule ticket_rule values_rule ordered total_net net
opens key out k room = (tapes_come_back key good_head mixed k refl (refl, (refl, (refl, tt))) (omega arith)).opens out room

pub form_cases : FormCases
unfolding move_ticket unless_refused pack_ticket unpack_ticket ticket_rule values_rule ordered net plain_tickets unpack_tickets is_tickets_length pack_tickets plain_trucks truck_count truck_numbers different on of_plain map_reply reader_over read_next handed_out listed head_line ticket_lines ticket_line total_line numbers decimal_below total_net
form_cases =
    record {
      packs = refl;
      packs_65535 = refl;
      packs_65536 = refl;
      packs_86399 = refl;
      packs_loaded = refl;
      packs_highest = refl;
      unpacks = refl;
      unpacks_65535 = refl;
      unpacks_65536 = refl;
      unpacks_86399 = refl;
      unpacks_86400 = refl;
      form_1_43199 = refl;
      form_1_43200 = refl;
      last_bit = refl;
      form_0 = refl;
      form_3 = refl;
      form_15 = refl;
      to_2 = refl;
      to_1 = refl;
      stays_1 = refl;
      stays_2 = refl;
      at_43199 = refl;
      at_43200 = refl;
      at_86399 = refl;
      other_form = (refl, refl, refl);
      bad-ticket = (refl, refl, refl);
      bad_form = (refl, refl);
      late_form_1 = refl;
      holds = refl;
      reads = refl;
      trucks = refl;
      lists = refl;
      opens = opens;
    }
