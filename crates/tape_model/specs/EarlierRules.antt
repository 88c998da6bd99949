-- Document 02, P2, its last sentence, held for P6, too: unpacking, opening, reading and listing under any ticket rule; the rules before P2 and before P6; and that
-- what opened under them opens now.
use Rattle.std.specs.Prelude.{◌≡◌, Bool, true, ◌&&◌, List, [], ◌∷◌, ◌++◌, ◌↔◌, ℕ, ◌*◌, ◌/◌, ◌≤◌, ◌<◌, leb, ltb, length, take, drop, replicate}
use Rattle.calls.specs.Calls.{Reply, refused, done, Result}
use Rattle.acorn_model.specs.Machine.{key_length}
use Rattle.tape_model.specs.declared.Ticket.{Ticket}
use Rattle.tape_model.specs.declared.Head.{Head}
use Rattle.tape_model.specs.Format.{in_ranges}
use Rattle.tape_model.specs.Ticket.{form1, in_form, ticket_length, ticket_values, ticket_of, ticket_rule, Rule, rule_in_force, unpack_ticket_under, unpack_ticket, head_rule}
use Rattle.tape_model.specs.Tape.{ticket_limit, tape_of, unpack_tickets_by, plain_tickets_by, plain_tickets, Totals, ticket_count, plain_bytes, open_tape_refusal_by, open_tape_unless, open_tape}
use Rattle.tape_model.specs.Reader.{ticket, Reader, ReadOutcome, read_next_by, read_next}
use Rattle.tape_model.specs.Listing.{refused_line, listed_unless, printed}
use Rattle.tape_model.specs.Laws.{Valid}
use Rattle.tape_model.specs.EmptyTrips.{weighing}

-- ## Under any rule

module _ (rule : Rule) where
  abbrev pub unpack_tickets_under : ℕ → List ℕ → Reply (List Ticket)
  unpack_tickets_under n string = unpack_tickets_by (unpack_ticket_under rule) n string

  unfoldable pub plain_tickets_under : List ℕ → Reply (List Ticket)
  plain_tickets_under string = plain_tickets_by (unpack_tickets_under (length string / ticket_length) string) string

  module _ (key tape : List ℕ) where
    -- what the tape's plain bytes unpack to
    abbrev pub tickets_under : Reply (List Ticket)
    tickets_under = unpack_tickets_under (ticket_count tape) (plain_bytes key tape)

    unfoldable pub open_tape_refusal_under : List ℕ → ℕ
    open_tape_refusal_under out = open_tape_refusal_by key tape tickets_under out

    unfoldable pub open_tape_under : List ℕ → Result Totals
    open_tape_under out = open_tape_unless key tape (open_tape_refusal_under out) tickets_under out

    abbrev pub listing_under : List ℕ
    listing_under = listed_unless (open_tape_refusal_under (replicate (length tape) 0)) (plain_tickets_under (plain_bytes key tape)) tape

  unfoldable pub read_next_under : Reader → ReadOutcome
  read_next_under r = read_next_by (unpack_ticket_under rule) r

  unfoldable pub printed_under : List ℕ → List ℕ
  printed_under input = listing_under (take key_length input) (drop key_length input)

-- the rule in force gives what every contract speaks of
pub record UnderInForce : Type 0 where
  pub unpacking : (string : List ℕ) → unpack_ticket_under rule_in_force string ≡ unpack_ticket string
  pub holding : (string : List ℕ) → plain_tickets_under rule_in_force string ≡ plain_tickets string
  pub opening : (key tape out : List ℕ) → open_tape_under rule_in_force key tape out ≡ open_tape key tape out
  pub reading : (r : Reader) → read_next_under rule_in_force r ≡ read_next r
  pub listing : (input : List ℕ) → printed_under rule_in_force input ≡ printed input

-- ## What an earlier rule gave

-- whatever bytes unpacked to under the earlier rule, they unpack to now
abbrev pub StillUnpacks : Rule → Type 0
StillUnpacks earlier = (string : List ℕ) (t : Ticket) → unpack_ticket_under earlier string ≡ done t → unpack_ticket string ≡ done t

-- not refused with 8
abbrev pub NotEight : {A : Type 0} → Reply A → Type 0
NotEight answer = answer ≡ refused 8 → ⊥

-- a call that was not refused with 8 gives now what it gave
pub record SameUnlessEight (earlier : Rule) : Type 0 where
  pub unpacking : (string : List ℕ) → NotEight (unpack_ticket_under earlier string) → unpack_ticket string ≡ unpack_ticket_under earlier string
  pub holding : (string : List ℕ) → NotEight (plain_tickets_under earlier string) → plain_tickets string ≡ plain_tickets_under earlier string
  pub opening : (key tape out : List ℕ) → NotEight (open_tape_under earlier key tape out).answer → open_tape key tape out ≡ open_tape_under earlier key tape out
  pub reading : (r : Reader) → NotEight (read_next_under earlier r).answer → read_next r ≡ read_next_under earlier r
  pub listing : (input : List ℕ) → (printed_under earlier input ≡ refused_line 8 → ⊥) → printed input ≡ printed_under earlier input
  -- so a tape that was refused with 2, 3, 6 or 7 still is, and nothing is written
  pub still_refused : (key tape out : List ℕ) (n : ℕ) → n < 8 → (open_tape_under earlier key tape out).answer ≡ refused n
      → open_tape key tape out ≡ record { answer = refused n; out = out }
  -- and one that was refused with 8 is refused with no other number
  pub eight : (key tape out : List ℕ) (n : ℕ) → (open_tape_under earlier key tape out).answer ≡ refused 8 → (open_tape key tape out).answer ≡ refused n → n ≡ 8

-- the bytes that an opening with these totals wrote at the start of its output
abbrev pub written_bytes : Totals → List ℕ → List ℕ
written_bytes totals after = take (ticket_length * totals.tickets) after

-- what holds now of a tape that was opened under the earlier rule, with these totals and this output after it
pub record OpensAsBefore (earlier : Rule) (key tape out : List ℕ) (totals : Totals) (after : List ℕ) : Type 0 where
  -- it opens, with the same answer and the same bytes
  pub opens : open_tape key tape out ≡ record { answer = done totals; out = after }
  -- the bytes hold the same tickets
  pub tickets : List Ticket
  pub held_before : plain_tickets_under earlier (written_bytes totals after) ≡ done tickets
  pub held : plain_tickets (written_bytes totals after) ≡ done tickets
  -- a reader over them, at any position, gives what it gave
  pub reads : (position : ℕ) → let r : Reader = record { string = written_bytes totals after; position = position } in read_next r ≡ read_next_under earlier r
  -- key and tape are listed as they were
  pub lists : printed (key ++ tape) ≡ printed_under earlier (key ++ tape)

-- so for every key, tape and output that opened under the earlier rule
abbrev pub StillOpen : Rule → Type 0
StillOpen earlier =
    (key tape out : List ℕ) (totals : Totals) (after : List ℕ) → open_tape_under earlier key tape out ≡ record { answer = done totals; out = after }
    → OpensAsBefore earlier key tape out totals after

-- ## A rule that allowed fewer tickets

-- every ticket of a list is such a one
abbrev pub All : (Ticket → Type 0) → List Ticket → Type 0
All Allowed [] = Unit {0}
All Allowed (t ∷ ts) = Allowed t × All Allowed ts

-- bytes unpacked under the earlier rule exactly where they unpack now, to a ticket that it allowed
abbrev pub UnpackedIf : Rule → (Ticket → Type 0) → Type 0
UnpackedIf earlier Allowed = (string : List ℕ) (t : Ticket) → (unpack_ticket_under earlier string ≡ done t) ↔ ((unpack_ticket string ≡ done t) × Allowed t)

pub record AllowedBefore (earlier : Rule) (Allowed : Ticket → Type 0) : Type 0 where
  -- bytes unpacked, held tickets, gave one to a reader or opened before exactly where they do now and every ticket was allowed
  pub unpacked : UnpackedIf earlier Allowed
  pub held : (string : List ℕ) (ts : List Ticket) → (plain_tickets_under earlier string ≡ done ts) ↔ ((plain_tickets string ≡ done ts) × All Allowed ts)
  pub read : (r : Reader) (t : Ticket) → ((read_next_under earlier r).answer ≡ done (ticket t)) ↔ (((read_next r).answer ≡ done (ticket t)) × Allowed t)
  pub opened : (key tape out : List ℕ) (totals : Totals) (after : List ℕ) (ts : List Ticket) → plain_tickets (written_bytes totals after) ≡ done ts
      → (open_tape_under earlier key tape out ≡ record { answer = done totals; out = after })
      ↔ ((open_tape key tape out ≡ record { answer = done totals; out = after }) × All Allowed ts)
  -- the tape of valid tickets with one among them that was not allowed was refused with 8, and listed so
  pub refused_before : (key : List ℕ) (head : Head) (tickets : List Ticket) → length key ≡ key_length → head_rule head ≡ true → Valid tickets → length tickets ≤ ticket_limit
      → (All Allowed tickets → ⊥)
      → ((out : List ℕ) → ticket_length * length tickets ≤ length out → open_tape_under earlier key (tape_of key head tickets) out ≡ record { answer = refused 8; out = out })
      × (printed_under earlier (key ++ tape_of key head tickets) ≡ refused_line 8)

-- ## The base's rule

-- document 01's: the fields of form 1, loaded at most tipped, and tare below gross
abbrev pub base_ordered : Ticket → Bool
base_ordered t = leb t.loaded t.tipped && ltb t.tare t.gross

abbrev pub base_rule : Rule
base_rule = record { fields = λ form. form1; allows = λ vs. in_ranges form1 vs && base_ordered (ticket_of vs) }

-- ## The rule before P6

-- P2's: the fields of form 1, loaded at most tipped, and tare at most gross
abbrev pub one_form_ordered : Ticket → Bool
one_form_ordered t = leb t.loaded t.tipped && leb t.tare t.gross

abbrev pub one_form_rule : Rule
one_form_rule = record { fields = λ form. form1; allows = λ vs. in_ranges form1 vs && one_form_ordered (ticket_of vs) }

-- the ticket with these times
abbrev pub timed : ℕ → ℕ → Ticket → Ticket
timed loaded tipped t =
    record {
      form = t.form;
      truck = t.truck;
      shovel = t.shovel;
      tip = t.tip;
      grade = t.grade;
      loaded = loaded;
      tipped = tipped;
      gross = t.gross;
      tare = t.tare;
    }

-- P2
pub record BaseRuleLaws : Type 0 where
  -- P2's rule allows a ticket exactly if the base's allowed it with gross 1 and tare 0 in place of its own, its gross is in its range, and its tare is at most
  -- its gross: the rest of the rule remained, for empty trips, too.
  pub rest_remains : (t : Ticket) → one_form_rule.allows (ticket_values t) ≡ (base_rule.allows (ticket_values (weighing 1 0 t)) && (leb t.gross 1048575 && leb t.tare t.gross))
  -- the base allowed form 1 with tare below gross
  pub allowed : AllowedBefore base_rule (λ t. (t.form ≡ 1) × (t.tare < t.gross))

-- P6
pub record OneFormRuleLaws : Type 0 where
  -- A ticket of form 1 is valid exactly if it was. One of form 2 is valid exactly if, in form 1 and with both times 0 in place of its own, it was, its own
  -- are in order, and tipped is at most 86,399: the rest of the rule is form 1's.
  pub form_1 : (t : Ticket) → t.form ≡ 1 → ticket_rule t ≡ one_form_rule.allows (ticket_values t)
  pub form_2 : (t : Ticket) → t.form ≡ 2
      → ticket_rule t ≡ (one_form_rule.allows (ticket_values (in_form 1 (timed 0 0 t))) && (leb t.loaded t.tipped && leb t.tipped 86399))
  -- P2's rule allowed form 1
  pub allowed : AllowedBefore one_form_rule (λ t. t.form ≡ 1)

-- ## All of it

pub record EarlierRuleLaws : Type 1 where
  pub in_force : UnderInForce
  -- for every earlier rule whose tickets still unpack
  pub same : (earlier : Rule) → StillUnpacks earlier → SameUnlessEight earlier
  pub still_open : (earlier : Rule) → StillUnpacks earlier → StillOpen earlier
  -- and that allowed some of today's tickets
  pub allowed : (earlier : Rule) (Allowed : Ticket → Type 0) → UnpackedIf earlier Allowed → AllowedBefore earlier Allowed
  -- the base's is one
  pub base : BaseRuleLaws
  pub base_still_unpacks : StillUnpacks base_rule
  pub base_same : SameUnlessEight base_rule
  pub base_still_open : StillOpen base_rule
  -- and P2's
  pub one_form : OneFormRuleLaws
  pub one_form_still_unpacks : StillUnpacks one_form_rule
  pub one_form_same : SameUnlessEight one_form_rule
  pub one_form_still_open : StillOpen one_form_rule
