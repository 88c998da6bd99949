-- No listing is longer than 190,054 bytes: a head's line has at most 32, a ticket's line 38, and the line of totals 22.
use mathlib.Core.Path.{◌≡◌, refl, ap, subst}
use mathlib.Core.List.{List, [], ◌∷◌, ◌++◌}
use Prim.Native.Nat.{ℕ, zero, suc, ◌+◌, ◌*◌, ◌/◌, ◌^◌, ◌≤◌, ◌<◌}
use native.Mathlib.Omega.{arith}
use lib.ListN.{length, take, drop, replicate, length-append}
use Rattle.calls.specs.Calls.{Reply, refused, done, is_refused}
use Rattle.tape_model.specs.declared.Ticket.{Ticket}
use Rattle.tape_model.specs.declared.Head.{Head}
use Rattle.tape_model.specs.Ticket.{ticket_length, net, unpack_ticket, head_of, head_values_in, unpack_head}
use Rattle.tape_model.specs.Tape.{ticket_limit, unpack_tickets, plain_tickets, tickets_in, total_net, head_bytes, plain_bytes, open_tape_refusal}
use Rattle.tape_model.specs.Listing.{head_line, ticket_line, ticket_lines, total_line, refused_line, listed, listing_unless, listing}
use Rattle.tape_model.proofs.Tickets.{as_form_2, unpacked_valid, head_told}
use Rattle.tape_model.proofs.Plain.{plain-held}
use Rattle.tape_model.proofs.Listing.{decimal-length}
use Rattle.listing.specs.Clauses.{text_room}
use Rattle.listing.proofs.LineLengths.{digits_room, refused_length, head-length, totals-length, ticket-length}
use Rattle.tape_model.proofs.Unpacking.{taken-apart, told, held-unpack, held_few}

-- ## Lines

-- what is listed of a valid ticket is below these powers of ten
record Short (t : Ticket) : Type 0 where
  truck_short : t.truck < 10 ^ 4
  shovel_short : t.shovel < 10 ^ 2
  tip_short : t.tip < 10 ^ 2
  grade_short : t.grade < 10 ^ 1
  loaded_short : t.loaded < 10 ^ 5
  tipped_short : t.tipped < 10 ^ 5
  net_short : net t < 10 ^ 7
  net-below : net t ≤ 1048575

ticket_line-length : (p : ℕ) (t : Ticket) → p < 10 ^ 4 → Short t → length (ticket_line p t) ≤ 38
ticket_line-length p t small s =
    omega (
      arith,
      ticket-length p t,
      decimal-length 3 p small,
      decimal-length 3 t.truck s.truck_short,
      decimal-length 1 t.shovel s.shovel_short,
      decimal-length 1 t.tip s.tip_short,
      decimal-length 0 t.grade s.grade_short,
      decimal-length 4 t.loaded s.loaded_short,
      decimal-length 4 t.tipped s.tipped_short,
      decimal-length 6 (net t) s.net_short,
    )

abbrev AllShort : List Ticket → Type 0
AllShort [] = Unit {0}
AllShort (t ∷ ts) = Short t × AllShort ts

ticket_lines-length : (p : ℕ) (ts : List Ticket) → p + length ts ≤ 10 ^ 4 → AllShort ts → length (ticket_lines p ts) ≤ 38 * length ts
unfolding ticket_lines
ticket_lines-length p [] few s = omega arith
ticket_lines-length p (t ∷ ts) few s =
    omega (arith, length-append (ticket_line p t) (ticket_lines (p + 1) ts), ticket_line-length p t (omega arith) s.0, ticket_lines-length (p + 1) ts (omega arith) s.1)

total-net-bound : (ts : List Ticket) → AllShort ts → total_net ts ≤ 1048575 * length ts
unfolding total_net
total-net-bound [] s = omega arith
total-net-bound (t ∷ ts) s = omega (arith, s.0.net-below, total-net-bound ts s.1)

total-line-length : (ts : List Ticket) → length ts ≤ 5000 → AllShort ts → length (total_line ts) ≤ 22
unfolding total_line
total-line-length ts few s =
    omega (arith, totals-length (length ts) (total_net ts), decimal-length 3 (length ts) (omega arith), decimal-length 9 (total_net ts) (omega (arith, total-net-bound ts s)))

refused_line-length : (n : ℕ) → length (refused_line n) ≤ 29
refused_line-length n = omega (arith, refused_length n, digits_room 20 n)

head_line-length : (h : Head) → h.device < 10 ^ 10 → h.shift < 10 ^ 7 → h.sheet < 10 ^ 7 → length (head_line h) ≤ 32
head_line-length h d s t = omega (arith, head-length h, decimal-length 9 h.device d, decimal-length 6 h.shift s, decimal-length 6 h.sheet t)

-- ## What unpacks is short

ticket_short : (string : List ℕ) (t : Ticket) → unpack_ticket string ≡ done t → Short t
unfolding net
ticket_short string t e =
    let r = as_form_2 t (unpacked_valid string t e) in
    record {
      truck_short = omega (arith, r.1.0.1);
      shovel_short = omega (arith, r.1.1.0.1);
      tip_short = omega (arith, r.1.1.1.0.1);
      grade_short = omega (arith, r.1.1.1.1.0.1);
      loaded_short = omega (arith, r.1.1.1.1.1.0.1);
      tipped_short = omega (arith, r.1.1.1.1.1.1.0.1);
      net_short = omega (arith, r.1.1.1.1.1.1.1.0.1);
      net-below = omega (arith, r.1.1.1.1.1.1.1.0.1);
    }

all_short : (n : ℕ) (string : List ℕ) (ts : List Ticket) → unpack_tickets n string ≡ done ts → AllShort ts
unfolding unpack_tickets
all_short zero string ts e = subst AllShort (ap tickets_in e) tt
all_short (suc n) string ts e =
    taken-apart AllShort (unpack_ticket (take ticket_length string)) (unpack_tickets n (drop ticket_length string)) ts e
    (λ t us f g. (ticket_short (take ticket_length string) t f, all_short n (drop ticket_length string) us g))

head_short : (string : List ℕ) (h : Head) → unpack_head string ≡ done h → length (head_line h) ≤ 32
head_short string h e =
    let p = head_told string h e in
    let r = p.1 in
    subst (λ (g : Head). length (head_line g) ≤ 32) p.2 (head_line-length (head_of (head_values_in string)) (omega (arith, r.0.1)) (omega (arith, r.1.0.1)) (omega (arith, r.1.1.0.1)))

-- ## The listing

listed-length : (head : Reply Head) (ts : List Ticket) → ((h : Head) → head ≡ done h → length (head_line h) ≤ 32) → length ts ≤ ticket_limit → AllShort ts → length (listed head ts) ≤ text_room
unfolding listed
listed-length (refused n) ts h few s = omega (arith, refused_line-length n)
listed-length (done h) ts short few s =
    omega (arith, length-append (head_line h ++ ticket_lines 1 ts) (total_line ts), length-append (head_line h) (ticket_lines 1 ts), short h refl, ticket_lines-length 1 ts (omega arith) s, total-line-length ts few s)

pub longest : (key tape : List ℕ) → length (listing key tape) ≤ text_room
unfolding listing listing_unless
longest key tape = by (open_tape_refusal key tape (replicate (length tape) 0)) refl
  where
    by : (n : ℕ) → open_tape_refusal key tape (replicate (length tape) 0) ≡ n → length (listing_unless n key tape) ≤ text_room
    by zero e =
        let plain = plain_bytes key tape in
        let held = told (plain_tickets plain) (ap is_refused (plain-held key tape _ e)) in
        listed-length (unpack_head (head_bytes tape)) _ (head_short (head_bytes tape)) (held_few plain _ held).1 (all_short (length plain / ticket_length) plain _ (held-unpack plain _ held))
    by (suc n) e = omega (arith, refused_line-length (suc n))
