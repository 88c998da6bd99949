-- How the listing's functions are held against the text that document 01 has printed.
use Rattle.std.specs.Prelude.{◌≡◌, false, List, ℕ, ◌*◌, length}
use Rattle.std.specs.Prelude as std
use Rattle.calls.specs.declared.Refusal.{Refusal}
use Rattle.calls.specs.Calls.{done, as_reply, written_over, put_into, is_refused}
use Rattle.tape_model.specs.declared.Head.{Head}
use Rattle.tape_model.specs.Ticket.{ticket_length}
use Rattle.tape_model.specs.Tape.{ticket_limit, plain_tickets, tickets_in, total_net}
use Rattle.tape_model.specs.Listing.{ticket_lines, listed}

-- the text was written over the start of `before`, its length answered, and `after` is what stands there now
pub record Wrote (text before : List ℕ) (answer : ℕ) (after : List ℕ) : Type 0 where
  pub count : answer ≡ length text
  pub written : after ≡ written_over text before

-- what the public calls come to: the text is written over the start of the output and its length answered, or it does not fit, and 6 is
abbrev pub Listed : List ℕ → List ℕ → std.Result ℕ Refusal → List ℕ → Type 0
Listed text out answer after = put_into text out ≡ record { answer = as_reply answer; out = after }

-- room for every listing: a head's line of at most 32 bytes, 5,000 of at most 38 and the totals' line of at most 22
abbrev pub text_room : ℕ
text_room = 190054

-- the plain bytes of the most tickets
abbrev pub longest_plain : ℕ
longest_plain = ticket_length * ticket_limit

-- ## What the private functions cite

-- the lines of the tickets that opened bytes hold
unfoldable pub lines_of : List ℕ → List ℕ
lines_of plain = ticket_lines 1 (tickets_in (plain_tickets plain))

-- the text of a tape with this head, whose tickets these bytes hold
abbrev pub text_of : Head → List ℕ → List ℕ
text_of head plain = listed (done head) (tickets_in (plain_tickets plain))

-- bytes that hold tickets of this total net
pub record HoldTickets (plain : List ℕ) (total : ℕ) : Type 0 where
  pub good : is_refused (plain_tickets plain) ≡ false
  pub net-is : total ≡ total_net (tickets_in (plain_tickets plain))
