-- A loop over plain bytes, ticket by ticket: what comes of the tickets in the bytes that are left.
use Prim.Native.Nat.{ℕ, suc, ◌/◌, ◌<◌}
use mathlib.Core.Path.{◌≡◌, refl, sym, ap, ap₂, ◌∙◌}
use mathlib.Core.List.{List, [], ◌∷◌, ◌++◌}
use native.Mathlib.Omega.{arith}
use lib.ListN.{length, take, drop}
use lib.Seq.{take-append_seam, drop-append_seam}
use Rattle.std.proofs.lemmas.List.{length-append}
use Rattle.calls.specs.Calls.{Reply, refused, done, map_reply}
use Rattle.tape_model.specs.declared.Ticket.{Ticket}
use Rattle.tape_model.specs.Ticket.{unpack_ticket}
use Rattle.tape_model.specs.Tape.{ticket_then, unpack_tickets}
use Rattle.tape_model.proofs.Unpacking.{refused_by_8}

-- the tickets in the bytes that are left
abbrev pub left : List ℕ → Reply (List Ticket)
left rest = unpack_tickets (length rest / 13) rest

-- f: what the loop is for, a function of the tickets
module _ {A : Type 0} (f : List Ticket → A) where
  pub none_left : (rest : List ℕ) → length rest < 13 → done (f []) ≡ map_reply f (left rest)
  unfolding unpack_tickets map_reply
  none_left rest short = ap (λ (m : ℕ). map_reply f (unpack_tickets m rest)) {x = 0} {y = length rest / 13} (omega arith)

  module _ (rest packed next : List ℕ) (cut : rest ≡ packed ++ next) (size : length packed ≡ 13) where
    unpacked : (r : Reply Ticket) → r ≡ unpack_ticket packed → map_reply f (ticket_then r (left next)) ≡ map_reply f (left rest)
    unfolding unpack_tickets
    unpacked r u =
        ap₂ (λ (x : Reply Ticket) (l : List ℕ). map_reply f (ticket_then x (unpack_tickets (length next / 13) l)))
        (u ∙ ap unpack_ticket (sym (ap₂ take (sym size) cut ∙ take-append_seam packed next)))
        (sym (ap₂ drop (sym size) cut ∙ drop-append_seam packed next))
        ∙ ap (λ (m : ℕ). map_reply f (unpack_tickets m rest)) {x = suc (length next / 13)} {y = length rest / 13} (omega (arith, ap length cut, length-append packed next))

    -- g: of the tickets behind this one
    pub one_done : (g : List Ticket → A) (t : Ticket) → ((ts : List Ticket) → f (t ∷ ts) ≡ g ts) → done t ≡ unpack_ticket packed → map_reply g (left next) ≡ map_reply f (left rest)
    unfolding map_reply
    one_done g t step u = sym (behind (left next)) ∙ unpacked (done t) u
      where
        behind : (r : Reply (List Ticket)) → map_reply f (ticket_then (done t) r) ≡ map_reply g r
        behind (refused m) = refl
        behind (done ts) = ap done (step ts)

    pub one_refused : (m : ℕ) → refused m ≡ unpack_ticket packed → refused 8 ≡ map_reply f (left rest)
    unfolding map_reply
    one_refused m u = ap refused (sym (refused_by_8 _ m size u)) ∙ unpacked (refused m) u
