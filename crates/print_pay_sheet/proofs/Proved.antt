-- The laws of what is printed.
use mathlib.Core.Path.{◌≡◌, refl, sym, ap, ap₂, ◌∙◌}
use mathlib.Core.Bool.{true}
use mathlib.Core.List.{List, ◌++◌, append_assoc}
use Prim.Native.Nat.{ℕ, ◌*◌, ◌^◌, ◌≤◌, ◌<◌}
use native.Mathlib.Omega.{arith}
use lib.ListN.{length, take, drop, replicate, length-replicate, length-take, length-drop}
use lib.Seq.{take_at, drop_at}
use Rattle.calls.specs.Calls.{refused, done, written_over}
use Rattle.acorn_model.specs.Machine.{key_length}
use Rattle.tape_model.specs.declared.Ticket.{Ticket}
use Rattle.tape_model.specs.declared.Totals.{Totals}
use Rattle.tape_model.specs.declared.Head.{Head}
use Rattle.tape_model.specs.Ticket.{head_rule, ticket_length}
use Rattle.tape_model.specs.Tape.{ticket_limit, pack_tickets, tape_of, plain_tickets, open_tape}
use Rattle.tape_model.specs.Listing.{line_end, decimal}
use Rattle.tape_model.specs.Laws.{Valid}
use Rattle.tape_model.proofs.Tapes.{tickets-length, tapes_come_back}
use Rattle.tape_model.proofs.Opening.{was_accepted}
use Rattle.tape_model.proofs.Plain.{tickets_on, opened-held}
use Rattle.calls.proofs.Results.{refused_told}
use Rattle.listing.proofs.Opened.{other_number}
use Rattle.pay_sheet.specs.PaySheet.{sheet_of, highest_rate, pay_sheet}
use Rattle.pay_sheet.proofs.Proved.{pay_sheet_laws}
use Rattle.print_pay_sheet.specs.Printed.{most_digits, tape_sheet, sheet_text, printed_sheet, printed}
use Rattle.print_pay_sheet.specs.Laws.{PrintedLaws}
use Rattle.print_pay_sheet.proofs.Rates.{rate_read}
use Rattle.print_pay_sheet.proofs.Sheets.{thirteen_first, too_long_sheet, short_sheet, refused_sheet, opened_sheet}
use Rattle.print_pay_sheet.proofs.Inputs.{no_rate, with-rate, printed-length, read_enough}

-- for a number that is read as the rate
read_printed : (rate : ℕ) (rest : List ℕ) → rate < 10 ^ most_digits
    → printed (decimal rate ++ line_end ++ rest) ≡ sheet_text (tape_sheet (take key_length rest) (drop key_length rest) rate)
unfolding printed_sheet
read_printed rate rest small =
    let r = rate_read rate rest small in
    with-rate (decimal rate ++ line_end ++ rest) r.0 ∙ ap₂ (λ (l : List ℕ) (n : ℕ). printed_sheet (take key_length l) (drop key_length l) n) r.2 r.1

sheet_printed : (rate : ℕ) (key tape : List ℕ) → rate < 10 ^ most_digits → length key ≡ key_length
    → printed (decimal rate ++ line_end ++ key ++ tape) ≡ sheet_text (tape_sheet key tape rate)
sheet_printed rate key tape small k =
    ap printed (append_assoc (decimal rate ++ line_end) key tape)
    ∙ read_printed rate (key ++ tape) small
    ∙ ap₂ (λ (a b : List ℕ). sheet_text (tape_sheet a b rate)) (take_at key tape key_length k) (drop_at key tape key_length k)

-- by what an opening answered
module _ (rate : ℕ) (key tape out : List ℕ) (after : List ℕ) (right : rate ≤ highest_rate) where
  not_opened : (n : ℕ) → (n ≡ 6 → ⊥) → open_tape key tape out ≡ record { answer = refused n; out = after } → tape_sheet key tape rate ≡ refused n
  unfolding open_tape
  not_opened n z e =
      let number = (refused_told _ _ _ out n after e).0 in
      refused_sheet key tape rate out after right (number ∙ sym (other_number key tape out n number z)) n e

  opened : (totals : Totals) → open_tape key tape out ≡ record { answer = done totals; out = after }
      → (tickets : List Ticket) × (plain_tickets (take (ticket_length * totals.tickets) after) ≡ done tickets) × (tape_sheet key tape rate ≡ done (sheet_of rate tickets))
  opened totals e =
      let none = was_accepted key tape out totals after e in
      let held = opened-held key tape out totals after e in (
        tickets_on key tape,
        held,
        opened_sheet key tape rate out after right (none ∙ sym (other_number key tape out 0 none (λ z. omega arith))) totals e
            ∙ (pay_sheet_laws.opened (take (ticket_length * totals.tickets) after) rate).answered (tickets_on key tape) right held,
      )

module _ (rate : ℕ) (key : List ℕ) (head : Head) (tickets : List Ticket) (right : rate ≤ highest_rate) (k : length key ≡ key_length) (h : head_rule head ≡ true)
    (v : Valid tickets) (few : length tickets ≤ ticket_limit) where
  abbrev tape : List ℕ
  tape = tape_of key head tickets

  abbrev room : List ℕ
  room = replicate (length tape) 0

  sheet : tape_sheet key tape rate ≡ done (sheet_of rate tickets)
  unfolding written_over
  sheet =
      let laws = tapes_come_back key head tickets k h v few in
      opened_sheet key tape rate room _ right refl _ (laws.opens room (omega (arith, laws.size, length-replicate {A = ℕ} (length tape) 0)))
      ∙ ap (λ (plain : List ℕ). pay_sheet plain rate) (take_at (pack_tickets tickets) _ (ticket_length * length tickets) (tickets-length tickets))
      ∙ pay_sheet_laws.packed tickets rate v few right

  tapes : printed (decimal rate ++ line_end ++ key ++ tape) ≡ sheet_text (done (sheet_of rate tickets))
  tapes = sheet_printed rate key tape (omega arith) k ∙ ap sheet_text sheet

pub printed-laws : PrintedLaws
unfolding sheet_text
printed-laws =
    record {
      rate_read = rate_read;
      sheet = sheet_printed;
      tapes = tapes;
      thirteen = λ rate rest high small. read_printed rate rest small ∙ ap sheet_text (thirteen_first (take key_length rest) (drop key_length rest) rate high);
      not_opened = λ rate key tape out n after right z e. not_opened rate key tape out after right n z e;
      opened = λ rate key tape out totals after right e. opened rate key tape out after right totals e;
      short_key = λ rate rest right h. read_printed rate rest (omega arith)
          ∙ ap sheet_text (short_sheet (take key_length rest) (drop key_length rest) rate right (omega (arith, length-take key_length rest)));
      too_long = λ rate rest right h. read_printed rate rest (omega arith)
          ∙ ap sheet_text (too_long_sheet (take key_length rest) (drop key_length rest) rate right (omega (arith, length-drop key_length rest)));
      no_rate = no_rate;
      longest = printed-length;
      read_enough = read_enough;
    }
