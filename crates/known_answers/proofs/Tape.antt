-- The definitions give the tape that docs/FORMAT.md works through; so it opens, and is listed.
use mathlib.Core.Path.{◌≡◌, refl, sym, ap, ap₂, ◌∙◌}
use mathlib.Core.List.{List, [], ◌∷◌, ◌++◌}
use Prim.Native.Nat.{ℕ, ◌≤◌}
use native.Mathlib.Omega.{arith}
use lib.ListN.{length}
use Rattle.calls.specs.Calls.{done, written_over}
use Rattle.acorn_model.specs.Bits.{bit, bits_in, number, bytes}
use Rattle.acorn_model.specs.Step.{◌⊕=◌and◌, lfsr_update, maj, ch, ksg128, fbk128, keystream_bit, feedback_bit}
use Rattle.acorn_model.specs.Stretches.{start_bit}
use Rattle.acorn_model.specs.Paper.{ciphertext, tag}
use Rattle.acorn_model.specs.Message.{sealed_with}
use Rattle.tape_model.specs.Ticket.{ordered, values_rule, ticket_rule, net, pack_ticket, head_rule, pack_head}
use Rattle.tape_model.specs.Tape.{nonce_of, pack_tickets, tape_of, total_net, open_tape}
use Rattle.tape_model.specs.Listing.{total_line, listed, printed, example_text}
use Rattle.tape_model.specs.RefusalCases.{good_head, good_ticket}
use Rattle.tape_model.specs.Laws.{TapeLaws}
use Rattle.tape_model.proofs.Tapes.{tapes_come_back, ticket_alone}
use Rattle.tape_model.proofs.Listing.{listing-laws}
use Rattle.known_answers.specs.Answers.{counted_key}
use Rattle.known_answers.specs.Tape.{worked_cipher, worked_tag, worked_tape, WorkedTape}
use Rattle.known_answers.proofs.StepNumbers.{join_at, step_n, run_n, keystream_n}
use Rattle.known_answers.proofs.Messages.{through_n, after_data_n, text_keystream_n, final_keystream_n, ciphertext_computes, tag_computes}

-- the packed head and ticket, by document 01's cases (i) and (h)
abbrev packed_head : List ℕ
packed_head = 0x00 ∷ 0x00 ∷ 0x00 ∷ 0x07 ∷ 0x00 ∷ 0x00 ∷ 0x20 ∷ 0x00 ∷ 0x01 ∷ []

abbrev packed_ticket : List ℕ
packed_ticket = 0x10 ∷ 0x14 ∷ 0x20 ∷ 0xD0 ∷ 0x38 ∷ 0x40 ∷ 0x41 ∷ 0xA0 ∷ 0xF4 ∷ 0x24 ∷ 0x06 ∷ 0xB6 ∷ 0xC0 ∷ []

cipher_given : ciphertext counted_key (nonce_of packed_head) packed_head packed_ticket ≡ worked_cipher
unfolding after_data_n text_keystream_n through_n run_n keystream_n step_n join_at lfsr_update ◌⊕=◌and◌ maj ch ksg128 fbk128 keystream_bit feedback_bit start_bit bit bits_in number bytes
cipher_given = ciphertext_computes counted_key (nonce_of packed_head) packed_head packed_ticket

tag-given : tag counted_key (nonce_of packed_head) packed_head packed_ticket ≡ worked_tag
unfolding after_data_n final_keystream_n through_n run_n keystream_n step_n join_at lfsr_update ◌⊕=◌and◌ maj ch ksg128 fbk128 keystream_bit feedback_bit start_bit bit bits_in number bytes
tag-given = tag_computes counted_key (nonce_of packed_head) packed_head packed_ticket

tape-given : tape_of counted_key good_head (good_ticket ∷ []) ≡ worked_tape
unfolding tape_of sealed_with pack_head pack_ticket pack_tickets
tape-given = ap₂ (λ (c t : List ℕ). packed_head ++ c ++ t) cipher_given tag-given

laws : TapeLaws counted_key good_head (good_ticket ∷ [])
unfolding head_rule ticket_rule values_rule ordered
laws = tapes_come_back counted_key good_head (good_ticket ∷ []) refl refl (refl, tt) (omega arith)

opens : (out : List ℕ) → 13 ≤ length out
    → open_tape counted_key worked_tape out ≡ record { answer = done (record { tickets = 1; net = 140000 }); out = written_over (pack_ticket good_ticket) out }
unfolding total_net net
opens out room =
    ap (λ (tape : List ℕ). open_tape counted_key tape out) (sym tape-given) ∙ laws.opens out room
    ∙ (λ i. record { answer = done (record { tickets = 1; net = 140000 }); out = written_over (ticket_alone good_ticket i) out })

lists : printed (counted_key ++ worked_tape) ≡ example_text
unfolding listed total_line
lists = ap (λ (tape : List ℕ). printed (counted_key ++ tape)) (sym tape-given) ∙ laws.lists ∙ listing-laws.example

pub worked-tape : WorkedTape
worked-tape = record { bytes = tape-given; opens = opens; lists = lists }
