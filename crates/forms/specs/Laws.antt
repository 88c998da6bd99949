-- What is shown of the move between forms, and of tapes that hold both: the statements, to be read without their proofs.
use Rattle.std.specs.Prelude.{◌≡◌, true, false, List, ◌++◌, map, ◌↔◌, ◌⊎◌, ℕ, ◌≤◌, ◌<◌, length}
use Rattle.calls.specs.Calls.{AreBytes, Reply, refused, done, map_reply}
use Rattle.acorn_model.specs.Machine.{key_length}
use Rattle.tape_model.specs.declared.Ticket.{Ticket}
use Rattle.tape_model.specs.declared.Head.{Head}
use Rattle.tape_model.specs.Ticket.{in_form, ticket_rule, pack_ticket, unpack_ticket, head_rule}
use Rattle.tape_model.specs.Tape.{ticket_limit, tape_of, totals_of}
use Rattle.tape_model.specs.Listing.{ticket_lines, listed, printed}
use Rattle.tape_model.specs.Laws.{Valid}
use Rattle.trucks.specs.Trucks.{truck_numbers}
use Rattle.forms.specs.Move.{move_ticket}

-- ## The move

-- the fields of u are those of t, the form apart
pub record SameButForm (t u : Ticket) : Type 0 where
  pub truck : u.truck ≡ t.truck
  pub shovel : u.shovel ≡ t.shovel
  pub tip : u.tip ≡ t.tip
  pub grade : u.grade ≡ t.grade
  pub loaded : u.loaded ≡ t.loaded
  pub tipped : u.tipped ≡ t.tipped
  pub gross : u.gross ≡ t.gross
  pub tare : u.tare ≡ t.tare

-- a move in packed bytes: the ticket in them is moved, and packed again
abbrev pub move_unpacked : ℕ → Reply Ticket → Reply Ticket
move_unpacked form (refused n) = refused n
move_unpacked form (done t) = move_ticket t form

unfoldable pub move_bytes : List ℕ → ℕ → Reply (List ℕ)
move_bytes string form = map_reply pack_ticket (move_unpacked form (unpack_ticket string))

-- moved to one form and then to the other, the bytes are as before
pub record ThereAndBack (string : List ℕ) (there back : ℕ) : Type 0 where
  pub moved : List ℕ
  pub goes : move_bytes string there ≡ done moved
  pub returns : move_bytes moved back ≡ done string

pub record MoveLaws : Type 0 where
  -- what a move gives is in the form asked for, has every other field, and is valid
  pub form : (t u : Ticket) (form : ℕ) → move_ticket t form ≡ done u → u.form ≡ form
  pub kept : (t u : Ticket) (form : ℕ) → move_ticket t form ≡ done u → SameButForm t u
  pub valid : (t u : Ticket) (form : ℕ) → move_ticket t form ≡ done u → ticket_rule u ≡ true
  -- asked for in the form that it has, a valid ticket is given unchanged
  pub as_it_is : (t : Ticket) → ticket_rule t ≡ true → move_ticket t t.form ≡ done t
  -- a ticket moves to form 2 exactly where it is valid, and to form 1 exactly where it is valid and tipped at most 43,199
  pub to_form_2 : (t : Ticket) → (move_ticket t 2 ≡ done (in_form 2 t)) ↔ (ticket_rule t ≡ true)
  pub to_form_1 : (t : Ticket) → (move_ticket t 1 ≡ done (in_form 1 t)) ↔ ((ticket_rule t ≡ true) × (t.tipped ≤ 43199))
  -- 4 exactly for another form, or for a ticket that breaks the rule; 11 exactly for a valid ticket of form 2, tipped above 43,199, in form 1; no other number
  pub four : (t : Ticket) (form : ℕ) → (move_ticket t form ≡ refused 4) ↔ (((form ≡ 1 → ⊥) × (form ≡ 2 → ⊥)) ⊎ (ticket_rule t ≡ false))
  pub eleven : (t : Ticket) (form : ℕ) → (move_ticket t form ≡ refused 11) ↔ ((ticket_rule t ≡ true) × (t.form ≡ 2) × (form ≡ 1) × (43199 < t.tipped))
  pub no_other : (t : Ticket) (form n : ℕ) → move_ticket t form ≡ refused n → (n ≡ 4) ⊎ (n ≡ 11)
  -- whatever was moved moves back
  pub back : (t u : Ticket) (form : ℕ) → move_ticket t form ≡ done u → move_ticket u t.form ≡ done t
  -- the bytes after a move and the move back are those before it: from form 1, and from form 2 where the first move is accepted
  pub from_form_1 : (string : List ℕ) (t : Ticket) → AreBytes string → unpack_ticket string ≡ done t → t.form ≡ 1 → ThereAndBack string 2 1
  pub from_form_2 : (string : List ℕ) (t u : Ticket) → AreBytes string → unpack_ticket string ≡ done t → t.form ≡ 2 → move_ticket t 1 ≡ done u → ThereAndBack string 1 2

-- ## Tapes that hold both forms

-- tickets that are alike but for their forms
abbrev pub AlikeButForms : List Ticket → List Ticket → Type 0
AlikeButForms ts us = map (in_form 1) ts ≡ map (in_form 1) us

pub record MixedTapeLaws : Type 0 where
  -- put into form 2, valid tickets stay valid, and differ in the form alone
  pub all_to_form_2 : (ts : List Ticket) → Valid ts → Valid (map (in_form 2) ts) × AlikeButForms ts (map (in_form 2) ts)
  -- lines, whole listings and what is printed for a tape are the same
  pub lines : (position : ℕ) (ts us : List Ticket) → AlikeButForms ts us → ticket_lines position ts ≡ ticket_lines position us
  pub listing : (head : Reply Head) (ts us : List Ticket) → AlikeButForms ts us → listed head ts ≡ listed head us
  pub prints : (key : List ℕ) (head : Head) (ts us : List Ticket) → length key ≡ key_length → head_rule head ≡ true → Valid ts → Valid us → length ts ≤ ticket_limit
      → AlikeButForms ts us → printed (key ++ tape_of key head ts) ≡ printed (key ++ tape_of key head us)
  -- number of tickets and total net, and the truck numbers of P1, do not depend on the form
  pub totals : (ts us : List Ticket) → AlikeButForms ts us → totals_of ts ≡ totals_of us
  pub trucks : (ts us : List Ticket) → AlikeButForms ts us → truck_numbers ts ≡ truck_numbers us
