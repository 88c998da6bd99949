-- Document 02, P5, joined to opening: where one mast heard a whole tape and the other its beginning, what is handed back opens as the tape does.
use Rattle.std.specs.Prelude.{◌≡◌, true, List, ◌⊎◌, ℕ, ◌*◌, ◌≤◌, length}
use Rattle.std.specs.Borrow.{Bor}
use Rattle.calls.specs.Calls.{refused, done, written_over}
use Rattle.acorn_model.specs.Machine.{key_length}
use Rattle.tape_model.specs.declared.Ticket.{Ticket}
use Rattle.tape_model.specs.declared.Head.{Head}
use Rattle.tape_model.specs.Ticket.{ticket_length, head_rule}
use Rattle.tape_model.specs.Tape.{ticket_limit, pack_tickets, tape_of, total_net, open_tape}
use Rattle.tape_model.specs.Listing.{listing}
use Rattle.tape_model.specs.Laws.{Valid}
use Rattle.receptions.specs.Receptions.{longer, longer_bytes}
use Rattle.receptions.specs.Clauses.{IsPart}
use Rattle.receptions.specs.Laws.{FirstDifferenceAt, Begins}

-- one mast, whichever, heard all of the bytes, and the other their beginning
abbrev pub HeardWhole : (whole first second : List ℕ) → Type 0
HeardWhole whole first second = ((first ≡ whole) × Begins second whole) ⊎ ((second ≡ whole) × Begins first whole)

module _ (tape first second : List ℕ) (heard : HeardWhole tape first second) where
  pub record OpeningLaws : Type 0 where
    -- the tape's bytes are handed back, so that opening and listing, with whatever key and output, come to what they come to of the tape
    pub bytes : longer_bytes first second ≡ tape
    pub opens : (key out : List ℕ) → open_tape key (longer_bytes first second) out ≡ open_tape key tape out
    pub lists : (key : List ℕ) → listing key (longer_bytes first second) ≡ listing key tape

-- of the slice r that the code handed back of two lent receptions
module _ (first second r : Bor (List ℕ)) (part : IsPart (longer first.now second.now) first second r) where
  pub record SliceOpens : Type 0 where
    -- where one mast heard the whole tape of a head and tickets, and the other its beginning, it opens to these
    pub whole : (key : List ℕ) (head : Head) (tickets : List Ticket) → length key ≡ key_length → head_rule head ≡ true → Valid tickets → length tickets ≤ ticket_limit
        → HeardWhole (tape_of key head tickets) first.now second.now → (out : List ℕ) → ticket_length * length tickets ≤ length out
        → open_tape key r.now out
        ≡ record { answer = done (record { tickets = length tickets; net = total_net tickets }); out = written_over (pack_tickets tickets) out }
    -- where the receptions part, it is refused with 2, and nothing is written
    pub parted : (k : ℕ) → FirstDifferenceAt first.now second.now k → (key out : List ℕ) → open_tape key r.now out ≡ record { answer = refused 2; out = out }

pub record JoinedToOpening : Type 0 where
  pub whole-tape : (tape first second : List ℕ) (heard : HeardWhole tape first second) → OpeningLaws tape first second heard
  pub handed_back : (first second r : Bor (List ℕ)) (part : IsPart (longer first.now second.now) first second r) → SliceOpens first second r part
