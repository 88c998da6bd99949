-- What follows of the listings that `list_tape` and `list_input` write, by their contracts: the statements, to be read without their proofs.
use Rattle.std.specs.Prelude.{◌≡◌, true, List, ◌++◌, ℕ, ◌+◌, ◌*◌, ◌≤◌, ◌<◌, length, take}
use Rattle.std.specs.Prelude as std
use Rattle.calls.specs.declared.Refusal.{Refusal}
use Rattle.calls.specs.Calls.{done, as_reply, written_over}
use Rattle.acorn_model.specs.Machine.{key_length}
use Rattle.tape_model.specs.declared.Ticket.{Ticket}
use Rattle.tape_model.specs.declared.Head.{Head}
use Rattle.tape_model.specs.Ticket.{ticket_length, head_rule}
use Rattle.tape_model.specs.Tape.{ticket_limit, empty_tape_length, tape_of, total_net}
use Rattle.tape_model.specs.Listing.{head_line, ticket_lines, line_of_totals, refused_line, listing, printed}
use Rattle.tape_model.specs.Laws.{Valid}
use Rattle.listing.specs.Clauses.{Listed, text_room}

-- a key and the longest tape
abbrev pub longest_input : ℕ
longest_input = key_length + empty_tape_length + ticket_length * ticket_limit

pub record ListingFacts : Type 0 where
  -- a buffer of 190,054 bytes has room for every listing
  pub longest : (key tape : List ℕ) → length (listing key tape) ≤ text_room
  -- so a call that is lent as many, and meets its contract, writes the listing and answers its length
  pub input-listed : (input out : List ℕ) (answer : std.Result ℕ Refusal) (after : List ℕ) → text_room ≤ length out → Listed (printed input) out answer after
      → (as_reply answer ≡ done (length (printed input))) × (after ≡ written_over (printed input) out)
  -- the input of a key of 16 bytes and a tape of at most 5,000 valid tickets gives the lines of its head, its tickets and its totals
  pub tapes : (key : List ℕ) (head : Head) (tickets : List Ticket) → length key ≡ key_length → head_rule head ≡ true → Valid tickets → length tickets ≤ ticket_limit
      → (out : List ℕ) (answer : std.Result ℕ Refusal) (after : List ℕ) → text_room ≤ length out → Listed (printed (key ++ tape_of key head tickets)) out answer after
      → after ≡ written_over (head_line head ++ ticket_lines 1 tickets ++ line_of_totals (length tickets) (total_net tickets)) out
  -- an input of more than 65,041 bytes is refused with 2: so a program that has read one byte more need not read on
  pub too_long : (input : List ℕ) → longest_input < length input → printed input ≡ refused_line 2
  pub read_enough : (input : List ℕ) (n : ℕ) → longest_input < n → n ≤ length input → printed (take n input) ≡ printed input
