-- A listing from its parts: the head's line, the tickets' lines and the line of totals, each behind the one before.
use mathlib.Core.Path.{◌≡◌, sym, ap, ap₂, ◌∙◌}
use mathlib.Core.List.{List, [], ◌∷◌, ◌++◌}
use Prim.Native.Nat.{ℕ, ◌+◌, ◌/◌, ◌≤◌}
use native.Mathlib.Omega.{arith}
use lib.ListN.{length, length-append}
use Rattle.tape_model.specs.declared.Ticket.{Ticket}
use Rattle.tape_model.specs.declared.Head.{Head}
use Rattle.tape_model.specs.Tape.{plain_tickets, tickets_in}
use Rattle.tape_model.specs.Listing.{word_tape, word_total, numbers, line_end, head_line, line_of_totals, total_line, listed}
use Rattle.listing.specs.Clauses.{HoldTickets, lines_of, text_of}
use Rattle.tape_model.proofs.Unpacking.{told, held-count}

-- hs and ts: the numbers of the first line and of the last
module _ (head : Head) (plain : List ℕ) (net : ℕ) (p : HoldTickets plain net) (hs ts : List ℕ) (hs-are : hs ≡ head.device ∷ head.shift ∷ head.sheet ∷ [])
    (ts-are : ts ≡ length plain / 13 ∷ net ∷ []) where
  abbrev tickets : List Ticket
  tickets = tickets_in (plain_tickets plain)

  abbrev pub heading : List ℕ
  heading = word_tape ++ numbers hs ++ line_end

  abbrev pub totals : List ℕ
  totals = word_total ++ numbers ts ++ line_end

  count : length plain / 13 ≡ length tickets
  count = sym (held-count plain tickets (told (plain_tickets plain) p.good))

  pub whole : heading ++ lines_of plain ++ totals ≡ text_of head plain
  unfolding listed lines_of total_line head_line
  whole =
      ap₂ (λ (hs ts : List ℕ). (word_tape ++ numbers hs ++ line_end) ++ lines_of plain ++ (word_total ++ numbers ts ++ line_end)) hs-are ts-are
      ∙ ap₂ (λ (k n : ℕ). head_line head ++ lines_of plain ++ line_of_totals k n) count p.net-is

  pub whole_length : length (text_of head plain) ≡ length heading + length (lines_of plain) + length totals
  whole_length =
      ap length (sym whole) ∙ length-append (heading ++ lines_of plain) totals
      ∙ ap (λ (k : ℕ). k + length totals) (length-append heading (lines_of plain))

  module _ (out : List ℕ) (room : length (text_of head plain) ≤ length out) where
    pub whole_room : length (heading ++ lines_of plain ++ totals) ≤ length out
    whole_room = omega (arith, ap length whole)

    pub lines-room : length (heading ++ lines_of plain) ≤ length out
    lines-room = omega (arith, whole_length, length-append heading (lines_of plain))

    pub head_room : length heading ≤ length out
    head_room = omega (arith, whole_length)
