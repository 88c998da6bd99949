-- What the code's arrays and answers stand for.
use Rattle.std.specs.Prelude.{◌≡◌, List, ℕ, ◌*◌, ◌≤◌, get_or, replicate, Result, Ok, Err}
use Rattle.calls.specs.declared.Refusal.{Refusal}
use Rattle.calls.specs.Refusals.{refusal_number}
use Rattle.calls.specs.Calls.{Reply, refused, done}
use Rattle.tape_model.specs.declared.Ticket.{Ticket}
use Rattle.tape_model.specs.Tape.{ticket_limit, total_net}
use Rattle.pay_sheet.specs.declared.PaySheet.{PaySheet}
use Rattle.pay_sheet.specs.PaySheet.{contractors, net_of, sum_to, each, share, Sheet, highest_rate}

-- ## Document 02's number and sheet for each case of the answer in code

unfoldable pub sheet_reply : PaySheet → Reply Sheet
sheet_reply r = by r.answer
  where
    by : Result ℕ Refusal → Reply Sheet
    by (Err refusal) = refused (refusal_number refusal)
    by (Ok pay) = done (record { pay = pay; shares = r.shares })

-- a refused sheet, and the shares on every sheet: zeros where it is refused
abbrev pub without_pay : Refusal → PaySheet
without_pay refusal = record { answer = Err refusal; shares = replicate contractors 0 }

abbrev pub shares_or_zeros : Reply Sheet → List ℕ
shares_or_zeros (refused n) = replicate contractors 0
shares_or_zeros (done sheet) = sheet.shares

-- ## What the private functions cite

-- the number that a list has for contractor c
abbrev pub at : List ℕ → ℕ → ℕ
at l c = get_or l c 0

-- the net kilograms of each contractor
abbrev pub nets_of : List Ticket → List ℕ
nets_of tickets = each contractors (net_of tickets)

-- as many tickets as a tape holds, each with the largest net
abbrev pub heaviest_tape : ℕ
heaviest_tape = ticket_limit * 1048575

-- nets of one tape, and a rate that is not refused
pub record InRange (nets : List ℕ) (rate : ℕ) : Type 0 where
  pub weight : sum_to contractors (at nets) ≤ heaviest_tape
  pub rate_low : rate ≤ highest_rate

-- the shares of tickets that have these nets
abbrev pub SharesBy : List ℕ → ℕ → List ℕ → Type 0
SharesBy nets rate shares =
    (tickets : List Ticket) → nets ≡ nets_of tickets → sum_to contractors (at nets) ≡ total_net tickets → shares ≡ each contractors (share tickets rate)
