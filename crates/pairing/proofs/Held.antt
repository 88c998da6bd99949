-- The tickets that plain bytes hold, by their place.
use mathlib.Core.Path.{◌≡◌, refl, sym, ap, ◌∙◌}
use mathlib.Core.Bool.{Bool, true, false, false≢true}
use mathlib.Core.List.{List}
use Prim.Native.Nat.{ℕ, ◌*◌, ◌/◌, ◌≤◌, ◌<◌}
use native.Mathlib.Omega.{arith}
use lib.ListN.{length, get_or, take, drop}
use Rattle.std.specs.Prelude.{Result, Ok, Err, IsOk}
use Rattle.calls.specs.declared.Refusal.{Refusal}
use Rattle.calls.specs.Calls.{◌if◌else◌, Reply, refused, done, is_refused, as_reply}
use Rattle.tape_model.specs.declared.Ticket.{Ticket}
use Rattle.tape_model.specs.Ticket.{no_ticket, unpack_ticket}
use Rattle.tape_model.specs.Tape.{plain_tickets, tickets_in}
use Rattle.tape_model.proofs.Unpacking.{unpacked_at, held-unpack, held-count, held_few, told}
use Rattle.tape_model.proofs.Tickets.{truck_range}
use Rattle.pairing.specs.Pairing.{times_fall, unless_falling, tickets_to_pair}
use Rattle.pairing.specs.Clauses.{tickets_of, truck_of, tipped_of}

-- no number refuses the tape
abbrev pub Accepted : List ℕ → Type 0
Accepted plain = is_refused (tickets_to_pair plain) ≡ false

-- so it holds tickets, and no times fall
in_order : (plain : List ℕ) → Accepted plain → (is_refused (plain_tickets plain) ≡ false) × (times_fall (tickets_of plain) ≡ false)
unfolding tickets_to_pair
in_order plain = by (plain_tickets plain)
  where
    falls : (ts : List Ticket) (b : Bool) → times_fall ts ≡ b → is_refused (refused 12 if b else done ts) ≡ false → times_fall ts ≡ false
    falls ts true e z = absurd (false≢true (sym z))
    falls ts false e z = e

    by : (r : Reply (List Ticket)) → is_refused (unless_falling r) ≡ false → (is_refused r ≡ false) × (times_fall (tickets_in r) ≡ false)
    by (refused m) e = absurd (false≢true (sym e))
    by (done ts) e = (refl, falls ts (times_fall ts) refl e)

module _ (plain : List ℕ) (h : Accepted plain) where
  pub held-is : plain_tickets plain ≡ done (tickets_of plain)
  held-is = told (plain_tickets plain) (in_order plain h).0

  pub order : times_fall (tickets_of plain) ≡ false
  order = (in_order plain h).1

  pub size : (length plain ≡ 13 * length (tickets_of plain)) × (length (tickets_of plain) ≤ 5000)
  size = held_few plain (tickets_of plain) held-is

  pub count : length (tickets_of plain) ≡ length plain / 13
  count = held-count plain (tickets_of plain) held-is

  -- w: the length of the part that is unpacked
  module _ (i w : ℕ) (inside : i < length (tickets_of plain)) (thirteen : w ≡ 13) where
    pub unpacks : unpack_ticket (take w (drop (13 * i) plain)) ≡ done (get_or (tickets_of plain) i no_ticket)
    unpacks =
        ap (λ (n : ℕ). unpack_ticket (take n (drop (13 * i) plain))) thirteen
        ∙ unpacked_at (length plain / 13) i plain (tickets_of plain) no_ticket (omega (arith, count)) (held-unpack plain (tickets_of plain) held-is)

    pub never_refused : (r : Result Ticket Refusal) → as_reply r ≡ unpack_ticket (take w (drop (13 * i) plain)) → IsOk r
    unfolding as_reply
    never_refused (Ok t) e = refl
    never_refused (Err x) e = let z : ◌≡◌ {A = ℕ} 0 1 = cc (unpacks) in absurd (omega arith)

    pub ticket_is : (t : Ticket) → done t ≡ unpack_ticket (take w (drop (13 * i) plain))
        → (t.truck ≡ truck_of (tickets_of plain) i) × (t.tipped ≡ tipped_of (tickets_of plain) i) × (t.truck < 1024)
    ticket_is t e =
        let same : t ≡ get_or (tickets_of plain) i no_ticket = cc (unpacks) in
        (ap (λ (x : Ticket). x.truck) same, ap (λ (x : Ticket). x.tipped) same, omega (arith, (truck_range _ t (sym e)).1))

  pub truck_small : (i : ℕ) → i < length (tickets_of plain) → truck_of (tickets_of plain) i < 1024
  truck_small i inside = omega (arith, (truck_range _ (get_or (tickets_of plain) i no_ticket) (unpacks i 13 inside refl)).1)
