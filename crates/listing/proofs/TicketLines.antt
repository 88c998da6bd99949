-- The lines of tickets, one by one.
use mathlib.Core.Path.{◌≡◌, sym, ap, ap₂, ◌∙◌}
use mathlib.Core.Bool.{false}
use mathlib.Core.List.{List, [], ◌∷◌, ◌++◌, append_assoc, append-nil}
use Prim.Native.Nat.{ℕ, suc, ◌+◌, ◌-◌, ◌*◌, ◌/◌, ◌≤◌, ◌<◌}
use native.Mathlib.Omega.{arith}
use lib.ListN.{length, get_or, take, drop, length-append, length-drop, take-append-drop}
use lib.Seq.{take_all, take-suc, take_at, drop_at, drop-drop, length-take-le}
use borrow.Rule.Slice.PartMut.{put_mid}
use Rattle.tape_model.specs.declared.Ticket.{Ticket}
use Rattle.calls.specs.Calls.{refused, done, is_refused}
use Rattle.tape_model.specs.Tape.{ticket_limit, plain_tickets, tickets_in}
use Rattle.tape_model.specs.Ticket.{ticket_of, unpack_ticket}
use Rattle.tape_model.specs.Listing.{line_end, decimal, numbers, listed_numbers, ticket_line, ticket_lines}
use Rattle.tape_model.proofs.Unpacking.{unpacked_at, told, held-unpack, held-count, held_few}
use Rattle.listing.specs.Clauses.{Wrote, lines_of}
use Rattle.listing.proofs.LineLengths.{line_size}
use Rattle.listing.proofs.Texts.{wrote_as, behind-start, behind-room, behind-wrote, behind-within}

lines-joined : (p : ℕ) (ts us : List Ticket) → ticket_lines p (ts ++ us) ≡ ticket_lines p ts ++ ticket_lines (p + length ts) us
unfolding ticket_lines
lines-joined p [] us = ap (λ (q : ℕ). ticket_lines q us) {x = p} {y = p + 0} (omega arith)
lines-joined p (t ∷ ts) us =
    ap (λ (l : List ℕ). ticket_line p t ++ l) (lines-joined (p + 1) ts us ∙ ap (λ (q : ℕ). ticket_lines (p + 1) ts ++ ticket_lines q us) {x = p + 1 + length ts} {y = p + suc (length ts)} (omega arith))
    ∙ sym (append_assoc (ticket_line p t) (ticket_lines (p + 1) ts) (ticket_lines (p + suc (length ts)) us))

-- behind i tickets there are fewer bytes left than of another
pub all_behind : (plain : List ℕ) (i : ℕ) (left : List ℕ) → left ≡ drop (13 * i) plain → length left < 13 → length plain / 13 ≤ i
all_behind plain i left behind few = omega (arith, ap length behind, length-drop (13 * i) plain)

module _ (plain : List ℕ) (good : is_refused (plain_tickets plain) ≡ false) where
  abbrev tickets : List Ticket
  tickets = tickets_in (plain_tickets plain)

  holds : plain_tickets plain ≡ done tickets
  holds = told (plain_tickets plain) good

  count : length tickets ≡ length plain / 13
  count = held-count plain tickets holds

  pub few : length plain / 13 ≤ ticket_limit
  few = omega (arith, count, (held_few plain tickets holds).1)

  lines-within : (i : ℕ) → length (ticket_lines 1 (take i tickets)) ≤ length (lines_of plain)
  unfolding lines_of
  lines-within i =
      let e = ap (λ (ts : List Ticket). length (ticket_lines 1 ts)) (sym (take-append-drop i tickets)) ∙ ap length (lines-joined 1 (take i tickets) (drop i tickets))
      ∙ length-append (ticket_lines 1 (take i tickets)) (ticket_lines (1 + length (take i tickets)) (drop i tickets)) in
      omega (arith, e)

  pub all_lines : (i : ℕ) → length plain / 13 ≤ i → ticket_lines 1 (take i tickets) ≡ lines_of plain
  unfolding lines_of
  all_lines i h = ap (ticket_lines 1) (take_all i tickets (omega (arith, count)))

  -- rest: the bytes behind i tickets, of which packed are the next one's and next are left behind it
  module _ (i : ℕ) (rest packed next : List ℕ) (behind : rest ≡ drop (13 * i) plain) (cut : rest ≡ packed ++ next) (size : length packed ≡ 13) where
    pub here : i < length plain / 13
    here = omega (arith, ap length behind, ap length cut, length-append packed next, length-drop (13 * i) plain)

    pub next-is : next ≡ drop (13 * (i + 1)) plain
    next-is =
        sym (drop_at packed next 13 size) ∙ ap (drop 13) (sym cut ∙ behind) ∙ drop-drop 13 (13 * i) plain
        ∙ ap (λ (k : ℕ). drop k plain) {x = 13 * i + 13} {y = 13 * (i + 1)} (omega arith)

    -- what the ticket's bytes unpack to
    handed : (t₀ : Ticket) → unpack_ticket packed ≡ done (get_or tickets i t₀)
    handed t₀ =
        ap unpack_ticket (sym (take_at packed next 13 size) ∙ ap (take 13) (sym cut ∙ behind))
        ∙ unpacked_at (length plain / 13) i plain tickets t₀ here (held-unpack plain tickets holds)

    pub not_refused : (n : ℕ) → refused n ≡ unpack_ticket packed → ⊥
    not_refused n e = let f = e ∙ handed (ticket_of []) in let z : ◌≡◌ {A = ℕ} 0 1 = cc in omega arith

    module _ (t : Ticket) (read : done t ≡ unpack_ticket packed) where
      is_ticket : t ≡ get_or tickets i t
      is_ticket = let e : done t ≡ done (get_or tickets i t) = read ∙ handed t in cc

      one_more : ticket_lines 1 (take i tickets) ++ ticket_line (i + 1) t ≡ ticket_lines 1 (take (i + 1) tickets)
      unfolding ticket_lines
      one_more =
          ap (λ (l : List ℕ). ticket_lines 1 (take i tickets) ++ l) (sym (append-nil (ticket_line (i + 1) t)) ∙ ap (λ (p : ℕ). ticket_lines p (t ∷ [])) {x = i + 1} {y = 1 + length (take i tickets)} (omega (arith, here, length-take-le i tickets (omega (arith, count, here)))))
          ∙ sym (lines-joined 1 (take i tickets) (t ∷ []))
          ∙ ap (λ (u : Ticket). ticket_lines 1 (take i tickets ++ (u ∷ []))) is_ticket
          ∙ ap (ticket_lines 1) (sym (take-suc tickets i t (omega (arith, count, here))))
          ∙ ap (λ (k : ℕ). ticket_lines 1 (take k tickets)) {x = suc i} {y = i + 1} (omega arith)

      -- the numbers of its line, the position before the others
      module _ (position : ℕ) (ns : List ℕ) (its : position ≡ i + 1) (ns-are : ns ≡ listed_numbers t) where
        abbrev line : List ℕ
        line = decimal position ++ numbers ns ++ line_end

        line_more : ticket_lines 1 (take i tickets) ++ line ≡ ticket_lines 1 (take (i + 1) tickets)
        unfolding ticket_line
        line_more = ap₂ (λ (p : ℕ) (l : List ℕ). ticket_lines 1 (take i tickets) ++ (decimal p ++ numbers l ++ line_end)) its ns-are ∙ one_more

        -- n: how many digits the position has. The lines before it leave `left` of the room
        module _ (n : ℕ) (digits : n ≡ length (decimal position)) (room left : ℕ) (counted : length (ticket_lines 1 (take i tickets)) + left ≡ room) where
          more_length : length (ticket_lines 1 (take (i + 1) tickets)) ≡ length (ticket_lines 1 (take i tickets)) + (n + length (numbers ns ++ line_end))
          more_length =
              ap length (sym line_more) ∙ length-append (ticket_lines 1 (take i tickets)) line
              ∙ ap (λ (k : ℕ). length (ticket_lines 1 (take i tickets)) + k) (line_size (decimal position) ns ∙ ap (λ (k : ℕ). k + length (numbers ns ++ line_end)) (sym digits))

          pub too_long : (n + length (numbers ns ++ line_end) ≤ left → ⊥) → length (lines_of plain) ≤ room → ⊥
          too_long short all = short (omega (arith, more_length, lines-within (i + 1)))

          pub counted_more : (less : ℕ) → (n + length (numbers ns ++ line_end) ≤ left) × (less ≡ left - (n + length (numbers ns ++ line_end)))
              → length (ticket_lines 1 (take (i + 1) tickets)) + less ≡ room
          counted_more less fits = omega (arith, more_length, fits)

        module _ (out : List ℕ) (room : length (lines_of plain) ≤ length out) (mid : List ℕ) (at : ℕ) (so_far : Wrote (ticket_lines 1 (take i tickets)) out at mid) where
          more_room : length (ticket_lines 1 (take i tickets) ++ line) ≤ length out
          more_room = omega (arith, ap length line_more, lines-within (i + 1))

          pub ticket_start : at ≤ length mid
          ticket_start = behind-start (ticket_lines 1 (take i tickets)) line out mid at more_room so_far

          pub ticket_room : length line ≤ length (take (length mid - at) (drop at mid))
          ticket_room = behind-room (ticket_lines 1 (take i tickets)) line out mid at more_room so_far

          module _ (r : ℕ) (part : List ℕ) (w : Wrote line (take (length mid - at) (drop at mid)) r part) where
            pub ticket_wrote : Wrote (ticket_lines 1 (take (i + 1) tickets)) out (at + r) (put_mid at (length mid - at) mid part)
            ticket_wrote = wrote_as line_more (behind-wrote (ticket_lines 1 (take i tickets)) line out mid at more_room so_far r part w)

            pub ticket_within : at + r ≤ length out
            ticket_within = behind-within (ticket_lines 1 (take i tickets)) line out mid at more_room so_far r part w
