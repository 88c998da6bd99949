-- Document 01, "Ticket, head, tape", on tickets and heads: their formats and rules, how they are packed, and what bytes unpack to. Document 02, P6, adds
-- the second form.
use Rattle.std.specs.Prelude.{Bool, not, ◌&&◌, List, [], ◌∷◌, ℕ, ◌-◌, leb, ltb, eqb, length, get_or}
use Rattle.calls.specs.Calls.{reply_of, ◌if◌else◌, Reply, accepted, Result, result_of}
use Rattle.tape_model.specs.declared.Ticket.{Ticket}
use Rattle.tape_model.specs.declared.Head.{Head}
use Rattle.tape_model.specs.Format.{Field, ◌bits◌to◌, widths, in_ranges, pack, unpack}

-- ## Tickets

-- form 1: form, truck, shovel, tip point, grade, loaded, tipped, gross, tare, spare
abbrev pub form1 : List Field
form1 =
    4 bits 1 to 1
    ∷ 10 bits 1 to 1023
    ∷ 6 bits 1 to 63
    ∷ 6 bits 1 to 63
    ∷ 4 bits 0 to 9
    ∷ 16 bits 0 to 43199
    ∷ 16 bits 0 to 43199
    ∷ 20 bits 0 to 1048575
    ∷ 20 bits 0 to 1048575
    ∷ 2 bits 0 to 0
    ∷ []

-- form 2: loaded and tipped have one bit more each, for the seconds of a whole day, and there are no spare bits
abbrev pub form2 : List Field
form2 =
    4 bits 2 to 2
    ∷ 10 bits 1 to 1023
    ∷ 6 bits 1 to 63
    ∷ 6 bits 1 to 63
    ∷ 4 bits 0 to 9
    ∷ 17 bits 0 to 86399
    ∷ 17 bits 0 to 86399
    ∷ 20 bits 0 to 1048575
    ∷ 20 bits 0 to 1048575
    ∷ 0 bits 0 to 0
    ∷ []

-- the fields of a ticket of this form; a form other than 1 and 2 gets form 1's, whose first row refuses it
abbrev pub format_of : ℕ → List Field
format_of form = form2 if eqb form 2 else form1

-- the bytes of a packed ticket
abbrev pub ticket_length : ℕ
ticket_length = 13

-- a ticket's values in the order of its fields, the spare bits zeros; and the ticket of such values
abbrev pub ticket_values : Ticket → List ℕ
ticket_values t = t.form ∷ t.truck ∷ t.shovel ∷ t.tip ∷ t.grade ∷ t.loaded ∷ t.tipped ∷ t.gross ∷ t.tare ∷ 0 ∷ []

abbrev pub ticket_of : List ℕ → Ticket
ticket_of vs =
    record {
      form = get_or vs 0 0;
      truck = get_or vs 1 0;
      shovel = get_or vs 2 0;
      tip = get_or vs 3 0;
      grade = get_or vs 4 0;
      loaded = get_or vs 5 0;
      tipped = get_or vs 6 0;
      gross = get_or vs 7 0;
      tare = get_or vs 8 0;
    }

-- the zeros in place of a ticket, where there is none
abbrev pub no_ticket : Ticket
no_ticket = record { form = 0; truck = 0; shovel = 0; tip = 0; grade = 0; loaded = 0; tipped = 0; gross = 0; tare = 0 }

-- the ticket with another form, every other field kept
abbrev pub in_form : ℕ → Ticket → Ticket
in_form form t =
    record {
      form = form;
      truck = t.truck;
      shovel = t.shovel;
      tip = t.tip;
      grade = t.grade;
      loaded = t.loaded;
      tipped = t.tipped;
      gross = t.gross;
      tare = t.tare;
    }

-- loaded at most tipped, and tare at most gross (document 01 as P2 of document 02 amends it)
unfoldable pub ordered : Ticket → Bool
ordered t = leb t.loaded t.tipped && leb t.tare t.gross

-- the ticket rule, of values (the form first, the spare bits among them) and of a ticket
unfoldable pub values_rule : List ℕ → Bool
values_rule vs = in_ranges (format_of (get_or vs 0 0)) vs && ordered (ticket_of vs)

unfoldable pub ticket_rule : Ticket → Bool
ticket_rule t = values_rule (ticket_values t)

-- A ticket rule as a value: the fields of each form, and which values it allows. Unpacking is by a rule, so that what it gave under an earlier one can be said.
pub record Rule : Type 0 where
  pub fields : ℕ → List Field
  pub allows : List ℕ → Bool

-- the rule in force
abbrev pub rule_in_force : Rule
rule_in_force = record { fields = format_of; allows = values_rule }

-- the rule for a ticket that is to be written: every valid one may be
abbrev pub write_rule : Ticket → Bool
write_rule t = ticket_rule t

unfoldable pub net : Ticket → ℕ
net t = t.gross - t.tare

unfoldable pub pack_ticket : Ticket → List ℕ
pack_ticket t = pack (widths (format_of t.form)) ticket_length (ticket_values t)

-- the form in packed bytes: the first four of the 104 bits
abbrev pub form_in : List ℕ → ℕ
form_in string = get_or (unpack (4 ∷ 100 ∷ []) string) 0 0

module _ (rule : Rule) where
  -- the values in packed bytes
  abbrev pub ticket_values_under : List ℕ → List ℕ
  ticket_values_under string = unpack (widths (rule.fields (form_in string))) string

  -- the ticket in packed bytes: 2 for another size, 8 where the values break the rule
  abbrev pub unpack_ticket_refusal_under : List ℕ → ℕ
  unpack_ticket_refusal_under string =
      2 if not (eqb (length string) ticket_length) else
      8 if not (rule.allows (ticket_values_under string)) else
      accepted

  abbrev pub unpack_ticket_under : List ℕ → Reply Ticket
  unpack_ticket_under string = reply_of (unpack_ticket_refusal_under string) (ticket_of (ticket_values_under string))

abbrev pub ticket_values_in : List ℕ → List ℕ
ticket_values_in = ticket_values_under rule_in_force

abbrev pub unpack_ticket_refusal : List ℕ → ℕ
unpack_ticket_refusal = unpack_ticket_refusal_under rule_in_force

unfoldable pub unpack_ticket : List ℕ → Reply Ticket
unpack_ticket string = unpack_ticket_under rule_in_force string

-- a ticket packed into lent bytes: 4, then 6
abbrev pub pack_ticket_refusal : Ticket → List ℕ → ℕ
pack_ticket_refusal t out =
    4 if not (ticket_rule t) else
    6 if ltb (length out) ticket_length else
    accepted

unfoldable pub pack_ticket_into : Ticket → List ℕ → Result ℕ
pack_ticket_into t out = result_of (pack_ticket_refusal t out) ticket_length (pack_ticket t) out

-- ## Heads

-- device, shift, sheet
abbrev pub head_format : List Field
head_format =
    32 bits 1 to 4294967295
    ∷ 20 bits 1 to 1000000
    ∷ 20 bits 1 to 1000000
    ∷ []

-- the bytes of a packed head
abbrev pub head_length : ℕ
head_length = 9

abbrev pub head_values : Head → List ℕ
head_values h = h.device ∷ h.shift ∷ h.sheet ∷ []

abbrev pub head_of : List ℕ → Head
head_of vs = record { device = get_or vs 0 0; shift = get_or vs 1 0; sheet = get_or vs 2 0 }

unfoldable pub head_rule : Head → Bool
head_rule h = in_ranges head_format (head_values h)

unfoldable pub pack_head : Head → List ℕ
pack_head h = pack (widths head_format) head_length (head_values h)

abbrev pub head_values_in : List ℕ → List ℕ
head_values_in string = unpack (widths head_format) string

-- the head in packed bytes: 2 for another size, 3 for a field outside its range
abbrev pub unpack_head_refusal : List ℕ → ℕ
unpack_head_refusal string =
    2 if not (eqb (length string) head_length) else
    3 if not (in_ranges head_format (head_values_in string)) else
    accepted

unfoldable pub unpack_head : List ℕ → Reply Head
unpack_head string = reply_of (unpack_head_refusal string) (head_of (head_values_in string))

-- a head packed into lent bytes: 3, then 6
abbrev pub pack_head_refusal : Head → List ℕ → ℕ
pack_head_refusal h out =
    3 if not (head_rule h) else
    6 if ltb (length out) head_length else
    accepted

unfoldable pub pack_head_into : Head → List ℕ → Result ℕ
pack_head_into h out = result_of (pack_head_refusal h out) head_length (pack_head h) out
