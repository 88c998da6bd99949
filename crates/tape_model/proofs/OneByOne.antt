-- A loop over plain bytes, ticket by ticket: what comes of the tickets before a place and of those that are left behind it.
use Prim.Native.Nat.{ℕ, suc, ◌+◌, ◌-◌, ◌*◌, ◌/◌, ◌%◌, ◌<◌, ◌≤◌}
use mathlib.Core.Path.{◌≡◌, refl, sym, ap, ap₂, ◌∙◌}
use mathlib.Core.Bool.{Bool, true, false, not}
use mathlib.Core.List.{List, [], ◌∷◌}
use native.Mathlib.Omega.{arith}
use lib.ListN.{length, take, drop, length-drop}
use lib.Seq.{drop-drop, length-take-le}
use lib.Dec.{eqb, leb}
use borrow.Author.Tests.{leb-true, not-false}
use Rattle.std.proofs.lemmas.Bool.{and_parts}
use Rattle.calls.specs.Calls.{Reply, refused, done, map_reply}
use Rattle.tape_model.specs.declared.Ticket.{Ticket}
use Rattle.tape_model.specs.Ticket.{unpack_ticket}
use Rattle.tape_model.specs.Tape.{is_tickets_length, ticket_then, unpack_tickets, plain_tickets, of_plain}
use Rattle.tape_model.proofs.Unpacking.{refused_by_8}

-- ## At ticket k of n

-- the tickets from here on
abbrev pub left : List ℕ → ℕ → ℕ → Reply (List Ticket)
left s n k = unpack_tickets (n - k) (drop (13 * k) s)

module _ {A : Type 0} where
  -- f: what the loop is for, a function of the tickets
  pub all_left : (s : List ℕ) (n : ℕ) (f : List Ticket → A) → map_reply f (left s n 0) ≡ map_reply f (unpack_tickets n s)
  all_left s n f = ap (λ (m : ℕ). map_reply f (unpack_tickets m s)) {x = n - 0} {y = n} (omega arith)

  module _ (s : List ℕ) (n k : ℕ) where
    pub none_left : (f : List Ticket → A) → k ≡ n → done (f []) ≡ map_reply f (left s n k)
    unfolding unpack_tickets map_reply
    none_left f e = ap (λ (m : ℕ). map_reply f (unpack_tickets m (drop (13 * k) s))) {x = 0} {y = n - k} (omega arith)

    module _ (w : ℕ) (here : k < n) (e : w ≡ 13) where
      unpacked : (f : List Ticket → A) (r : Reply Ticket) → r ≡ unpack_ticket (take w (drop (13 * k) s))
          → map_reply f (ticket_then r (left s n (k + 1))) ≡ map_reply f (left s n k)
      unfolding unpack_tickets
      unpacked f r u =
          ap (λ (x : Reply Ticket). map_reply f (ticket_then x (left s n (k + 1)))) u
          ∙ ap₂ (λ (i : ℕ) (l : List ℕ). map_reply f (ticket_then (unpack_ticket (take i (drop (13 * k) s))) (unpack_tickets (n - (k + 1)) l))) e
          (ap (λ (i : ℕ). drop i s) {x = 13 * (k + 1)} {y = 13 * k + 13} (omega arith) ∙ sym (drop-drop 13 (13 * k) s))
          ∙ ap (λ (i : ℕ). map_reply f (unpack_tickets i (drop (13 * k) s))) {x = suc (n - (k + 1))} {y = n - k} (omega arith)

      -- f and g: of the tickets from this one on, and of those behind it
      pub one-done : (f g : List Ticket → A) (t : Ticket) → ((ts : List Ticket) → f (t ∷ ts) ≡ g ts)
          → done t ≡ unpack_ticket (take w (drop (13 * k) s)) → map_reply g (left s n (k + 1)) ≡ map_reply f (left s n k)
      unfolding map_reply
      one-done f g t step u = sym (behind (left s n (k + 1))) ∙ unpacked f (done t) u
        where
          behind : (r : Reply (List Ticket)) → map_reply f (ticket_then (done t) r) ≡ map_reply g r
          behind (refused m) = refl
          behind (done ts) = ap done (step ts)

      pub one_refused : (f : List Ticket → A) (m : ℕ) → 13 * n ≤ length s → refused m ≡ unpack_ticket (take w (drop (13 * k) s)) → refused 8 ≡ map_reply f (left s n k)
      unfolding map_reply
      one_refused f m long u =
          let l = length-take-le w (drop (13 * k) s) (simp length-drop (omega arith)) ∙ e in
          ap refused (sym (refused_by_8 _ m l u)) ∙ unpacked f (refused m) u

-- ## The answer

-- r: whether the bytes are of a right size
module _ (s : List ℕ) (r : Bool) (sized : r ≡ is_tickets_length (length s)) where
  pub wrong_length : {A : Type 0} (f : List Ticket → A) → not r ≡ true → refused 2 ≡ of_plain f s
  unfolding of_plain plain_tickets map_reply
  wrong_length f wrong = rw (sym sized, wrong)

  module _ (right : not r ≡ false) where
    pub few_tickets : length s / 13 ≤ 5000
    unfolding is_tickets_length
    few_tickets = leb-true (length s / 13) 5000 (and_parts (eqb (length s % 13) 0) (leb (length s / 13) 5000) (sym sized ∙ not-false r right)).1

    pub right_length : {A : Type 0} (f : List Ticket → A) (a : Reply A) → a ≡ map_reply f (unpack_tickets (length s / 13) s) → a ≡ of_plain f s
    unfolding of_plain plain_tickets
    right_length f a e = rw (sym sized, right) e
