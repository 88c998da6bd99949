-- What follows of what the program prints: the statements, to be read without their proofs.
use Rattle.std.specs.Prelude.{◌≡◌, true, false, List, ◌++◌, ℕ, ◌+◌, ◌*◌, ◌^◌, ◌≤◌, ◌<◌, length, take}
use Rattle.calls.specs.Calls.{refused, done}
use Rattle.acorn_model.specs.Machine.{key_length}
use Rattle.tape_model.specs.declared.Ticket.{Ticket}
use Rattle.tape_model.specs.declared.Totals.{Totals}
use Rattle.tape_model.specs.declared.Head.{Head}
use Rattle.tape_model.specs.Ticket.{ticket_length, head_rule}
use Rattle.tape_model.specs.Tape.{ticket_limit, empty_tape_length, tape_of, plain_tickets, open_tape}
use Rattle.tape_model.specs.Listing.{line_end, decimal, refused_line}
use Rattle.tape_model.specs.Laws.{Valid}
use Rattle.pay_sheet.specs.PaySheet.{sheet_of, highest_rate}
use Rattle.print_pay_sheet.specs.Printed.{most_digits, has_rate, rate_in, behind_rate, tape_sheet, no_rate_line, sheet_text, printed}

-- room for every text: the pay's line of at most 25 bytes, and sixteen of at most 24
abbrev pub text_room : ℕ
text_room = 409

-- a rate, the end of its line, a key and the longest tape
abbrev pub longest_input : ℕ
longest_input = most_digits + 1 + key_length + empty_tape_length + ticket_length * ticket_limit

pub record PrintedLaws : Type 0 where
  -- a number below 10 ^ 19, in decimal and with the end of a line, is read as the rate that it is
  pub rate_read : (rate : ℕ) (rest : List ℕ) → rate < 10 ^ most_digits
      → (has_rate (decimal rate ++ line_end ++ rest) ≡ true) × (rate_in (decimal rate ++ line_end ++ rest) ≡ rate) × (behind_rate (decimal rate ++ line_end ++ rest) ≡ rest)
  -- behind it, a key of 16 bytes and a tape: the tape's sheet is printed
  pub sheet : (rate : ℕ) (key tape : List ℕ) → rate < 10 ^ most_digits → length key ≡ key_length
      → printed (decimal rate ++ line_end ++ key ++ tape) ≡ sheet_text (tape_sheet key tape rate)
  -- of a tape of at most 5,000 valid tickets it is that of these tickets
  pub tapes : (rate : ℕ) (key : List ℕ) (head : Head) (tickets : List Ticket) → rate ≤ highest_rate → length key ≡ key_length → head_rule head ≡ true → Valid tickets
      → length tickets ≤ ticket_limit → printed (decimal rate ++ line_end ++ key ++ tape_of key head tickets) ≡ sheet_text (done (sheet_of rate tickets))
  -- 13 before all that key and tape could be refused with
  pub thirteen : (rate : ℕ) (rest : List ℕ) → highest_rate < rate → rate < 10 ^ most_digits → printed (decimal rate ++ line_end ++ rest) ≡ refused_line 13
  -- then the number with which the tape does not open; 6 is for outputs of a caller's, and the program has room for every tape
  pub not_opened : (rate : ℕ) (key tape out : List ℕ) (n : ℕ) (after : List ℕ) → rate ≤ highest_rate → (n ≡ 6 → ⊥)
      → open_tape key tape out ≡ record { answer = refused n; out = after } → tape_sheet key tape rate ≡ refused n
  -- what opens is paid for: the sheet is that of the tickets in the bytes which opening wrote
  pub opened : (rate : ℕ) (key tape out : List ℕ) (totals : Totals) (after : List ℕ) → rate ≤ highest_rate
      → open_tape key tape out ≡ record { answer = done totals; out = after }
      → (tickets : List Ticket) × (plain_tickets (take (ticket_length * totals.tickets) after) ≡ done tickets) × (tape_sheet key tape rate ≡ done (sheet_of rate tickets))
  -- a key cut short, and a tape that is too long, are 2
  pub short_key : (rate : ℕ) (rest : List ℕ) → rate ≤ highest_rate → length rest < key_length → printed (decimal rate ++ line_end ++ rest) ≡ refused_line 2
  pub too_long : (rate : ℕ) (rest : List ℕ) → rate ≤ highest_rate → key_length + empty_tape_length + ticket_length * ticket_limit < length rest
      → printed (decimal rate ++ line_end ++ rest) ≡ refused_line 2
  -- without a rate nothing else is looked at
  pub no_rate : (input : List ℕ) → has_rate input ≡ false → printed input ≡ no_rate_line
  -- every text has room; and a program that has read one byte more than the longest input need not read on
  pub longest : (input : List ℕ) → length (printed input) ≤ text_room
  pub read_enough : (input : List ℕ) (n : ℕ) → longest_input < n → n ≤ length input → printed (take n input) ≡ printed input
