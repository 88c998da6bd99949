-- What opened under an earlier ticket rule opens now, to the same tickets: for every rule whose tickets still unpack, and for the base's.
use mathlib.Core.Path.{◌≡◌, refl, sym, ap, ap₂, subst, ◌∙◌}
use mathlib.Core.Bool.{Bool, true, false, not, ◌&&◌}
use mathlib.Core.List.{List, [], ◌++◌}
use mathlib.Core.Logic.{◌↔◌}
use Prim.Native.Nat.{ℕ, zero, suc, ◌*◌, ◌/◌, ◌≤◌, ◌<◌}
use native.Mathlib.Omega.{arith}
use lib.Dec.{eqb, leb, ltb}
use lib.ListN.{length, take, drop, replicate, length-drop, length-replicate}
use lib.Seq.{length-take-le, take_at, drop_at}
use borrow.Author.Tests.{leb-true, lt-ltb, ltb-true, leb-false, eqb-true, le-leb, eq-eqb}
use Rattle.std.proofs.lemmas.Bool.{and_parts}
use Rattle.calls.specs.Calls.{◌if◌else◌, Reply, refused, done, accepted, unless_refused, is_refused, Result, result_of}
use Rattle.calls.proofs.Results.{done-told, refused_told, unwritten}
use Rattle.acorn_model.specs.Machine.{key_length}
use Rattle.acorn_model.specs.Message.{tag_matches}
use Rattle.tape_model.specs.declared.Ticket.{Ticket}
use Rattle.tape_model.specs.declared.Head.{Head}
use Rattle.tape_model.specs.Format.{widths, in_ranges, unpack}
use Rattle.tape_model.specs.Ticket.{form1, form2, format_of, in_form, form_in, ticket_length, ticket_values, ticket_values_in, ticket_of, ordered, values_rule, ticket_rule, Rule, rule_in_force, unpack_ticket_under, unpack_ticket, head_rule, unpack_head}
use Rattle.tape_model.specs.Tape.{ticket_limit, tape_of, is_tickets_length, ticket_then, unpack_tickets, plain_tickets, tickets_in, Totals, ticket_count, plain_bytes, nonce_of, is_tape_length, head_bytes, sealed_bytes, open_tape_refusal_by, open_tape_refusal, open_tape_unless, open_tape}
use Rattle.tape_model.specs.Reader.{ticket, at_end, Reader, ReadOutcome, stays, handed_out, read_next_by, read_next}
use Rattle.tape_model.specs.Laws.{Valid}
use Rattle.tape_model.specs.Listing.{refused_line, listed_unless, listing_unless, listing, printed}
use Rattle.tape_model.specs.EmptyTrips.{weighing}
use Rattle.tape_model.specs.EarlierRules.{unpack_tickets_under, plain_tickets_under, tickets_under, open_tape_refusal_under, open_tape_under, listing_under, read_next_under, printed_under, UnderInForce, StillUnpacks, NotEight, SameUnlessEight, written_bytes, OpensAsBefore, All, UnpackedIf, AllowedBefore, base_ordered, base_rule, one_form_ordered, one_form_rule, timed, EarlierRuleLaws}
use Rattle.tape_model.proofs.Inverses.{unpack-passed}
use Rattle.tape_model.proofs.Tickets.{ticket_told, form_first}
use Rattle.tape_model.proofs.Ranges.{in-ranges, ranges_in}
use Rattle.tape_model.proofs.Unpacking.{taken-apart, at_under, by_8_under, tickets-by_8, held_size, held-unpack, told}
use Rattle.tape_model.proofs.Tapes.{unpacks, no_refusal, tapes_come_back}
use Rattle.tape_model.proofs.Opening.{key_size, tickets_good, plain_sized, plain-count, was_accepted, front}
use Rattle.tape_model.proofs.Plain.{tickets_on, opened-held}

-- ## The rule in force

under_in_force : UnderInForce
unfolding unpack_ticket unpack_tickets plain_tickets open_tape open_tape_refusal read_next printed listing listing_unless plain_tickets_under open_tape_under open_tape_refusal_under read_next_under printed_under
under_in_force = record { unpacking = λ s. refl; holding = λ s. refl; opening = λ key tape out. refl; reading = λ r. refl; listing = λ input. refl }

-- ## Numbers of an opening

-- the number that refuses is 2, 3, 6 or 7, whatever the tickets are, or it is up to these
by_tests : (P : (Reply (List Ticket) → ℕ) → Type 0) → ((n : ℕ) → 0 < n → n < 8 → P (λ r. n)) → P (λ r. 8 if is_refused r else accepted)
    → (key tape out : List ℕ) → P (λ r. open_tape_refusal_by key tape r out)
by_tests P other last key tape out =
    by (not (eqb (length key) key_length && is_tape_length (length tape))) (is_refused (unpack_head (head_bytes tape))) (ltb (length out) (ticket_length * ticket_count tape))
    (not (tag_matches key (nonce_of (head_bytes tape)) (head_bytes tape) (sealed_bytes tape)))
  where
    by : (a b c d : Bool) → P (λ r. 2 if a else 3 if b else 6 if c else 7 if d else 8 if is_refused r else accepted)
    by true b c d = other 2 (omega arith) (omega arith)
    by false true c d = other 3 (omega arith) (omega arith)
    by false false true d = other 6 (omega arith) (omega arith)
    by false false false true = other 7 (omega arith) (omega arith)
    by false false false false = last

-- tickets that are kept keep the number, unless it is 8
kept-refusal : (before now : Reply (List Ticket)) → ((ts : List Ticket) → before ≡ done ts → now ≡ done ts) → (key tape out : List ℕ) → (open_tape_refusal_by key tape before out ≡ 8 → ⊥)
    → (open_tape_refusal_by key tape now out ≡ open_tape_refusal_by key tape before out) × (open_tape_refusal_by key tape before out ≡ 0 → now ≡ before)
kept-refusal (refused m) now k =
    by_tests (λ f. (f (refused m) ≡ 8 → ⊥) → (f now ≡ f (refused m)) × (f (refused m) ≡ 0 → now ≡ refused m)) (λ n some small other. (refl, λ z. absurd (omega arith)))
    (λ other. absurd (other refl))
kept-refusal (done ts) now k =
    by_tests (λ f. (f (done ts) ≡ 8 → ⊥) → (f now ≡ f (done ts)) × (f (done ts) ≡ 0 → now ≡ done ts)) (λ n some small other. (refl, λ z. absurd (omega arith)))
    (λ other. (ap (λ (r : Reply (List Ticket)). 8 if is_refused r else accepted) (k ts refl), λ z. k ts refl))

kept_opening : (before now : Reply (List Ticket)) → ((ts : List Ticket) → before ≡ done ts → now ≡ done ts) → (key tape out : List ℕ) → (open_tape_refusal_by key tape before out ≡ 8 → ⊥)
    → open_tape_unless key tape (open_tape_refusal_by key tape now out) now out ≡ open_tape_unless key tape (open_tape_refusal_by key tape before out) before out
unfolding result_of unless_refused
kept_opening before now k key tape out other =
    let p = kept-refusal before now k key tape out other in
    ap (λ (m : ℕ). open_tape_unless key tape m now out) p.0 ∙ by (open_tape_refusal_by key tape before out) p.1
  where
    by : (n : ℕ) → (n ≡ 0 → now ≡ before) → open_tape_unless key tape n now out ≡ open_tape_unless key tape n before out
    by zero f = ap (λ (r : Reply (List Ticket)). open_tape_unless key tape 0 r out) (f refl)
    by (suc n) f = refl

-- where it was 8, no other number refuses
still_8 : (before now : Reply (List Ticket)) (key tape out : List ℕ) → open_tape_refusal_by key tape before out ≡ 8 → (open_tape_refusal_by key tape now out ≡ 0 → ⊥)
    → open_tape_refusal_by key tape now out ≡ 8
still_8 before (refused m) = by_tests (λ f. f before ≡ 8 → (f (refused m) ≡ 0 → ⊥) → f (refused m) ≡ 8) (λ n some small e z. absurd (omega arith)) (λ e z. refl)
still_8 before (done ts) = by_tests (λ f. f before ≡ 8 → (f (done ts) ≡ 0 → ⊥) → f (done ts) ≡ 8) (λ n some small e z. absurd (omega arith)) (λ e z. absurd (z refl))

-- tickets that unpack are not refused with 8; and those that do not, where nothing else refuses, are
never_8 : (ts : List Ticket) (key tape out : List ℕ) → open_tape_refusal_by key tape (done ts) out ≡ 8 → ⊥
never_8 ts = by_tests (λ f. f (done ts) ≡ 8 → ⊥) (λ n some small e. omega arith) (λ e. omega arith)

only_8 : (before now : Reply (List Ticket)) → is_refused before ≡ true → (key tape out : List ℕ) → open_tape_refusal_by key tape now out ≡ 0 → open_tape_refusal_by key tape before out ≡ 8
only_8 before now r = by_tests (λ f. f now ≡ 0 → f before ≡ 8) (λ n some small z. absurd (omega arith)) (λ z. rw r)

-- ## An earlier rule

-- a reply that is kept where it is no refusal, and that no other number than 8 refused
same-reply : {A : Type 0} (before now : Reply A) → ((a : A) → before ≡ done a → now ≡ done a) → ((n : ℕ) → before ≡ refused n → n ≡ 8) → NotEight before → now ≡ before
same-reply (refused n) now kept by8 other = absurd (other (ap refused (by8 n refl)))
same-reply (done a) now kept by8 other = kept a refl

-- the bytes of a reader's next ticket
abbrev ahead : Reader → List ℕ
ahead r = take ticket_length (drop (ticket_length * r.position) r.string)

-- the next call of a reader answers 2 or the end, whatever unpacks, or it is up to the 13 bytes ahead
by_reader : (P : ((List ℕ → Reply Ticket) → ReadOutcome) → Type 0) (r : Reader) → P (λ one. stays r (refused 2)) → P (λ one. stays r (done at_end))
    → (is_tickets_length (length r.string) ≡ true → r.position < length r.string / ticket_length → length (ahead r) ≡ ticket_length → P (λ one. handed_out (one (ahead r)) r))
    → P (λ one. read_next_by one r)
by_reader P r wrong ended bytes = by (is_tickets_length (length r.string)) (leb (length r.string / ticket_length) r.position) refl refl
  where
    by : (right end : Bool) → is_tickets_length (length r.string) ≡ right → leb (length r.string / ticket_length) r.position ≡ end
        → P (λ one. stays r (refused 2) if not right else stays r (done at_end) if end else handed_out (one (ahead r)) r)
    by false end h e = wrong
    by true true h e = ended
    by true false h e =
        let below : r.position < length r.string / ticket_length = leb-false (length r.string / ticket_length) r.position e in
        bytes h below (length-take-le ticket_length (drop (ticket_length * r.position) r.string) (simp length-drop (omega arith)))

-- the plain bytes of a tape that opens hold what they unpack to
plain_under : (rule : Rule) (key tape out : List ℕ) → open_tape_refusal key tape out ≡ 0 → plain_tickets_under rule (plain_bytes key tape) ≡ tickets_under rule key tape
unfolding plain_tickets_under
plain_under rule key tape out h = rw (plain_sized key tape out h) (ap (λ (n : ℕ). unpack_tickets_under rule n (plain_bytes key tape)) (plain-count key tape out h))

refused_same : {A : Type 0} {n m : ℕ} → ◌≡◌ {A = Reply A} (refused n) (refused m) → n ≡ m
refused_same e = cc

module _ (earlier : Rule) (kept : StillUnpacks earlier) where
  -- ### Tickets

  unpacking : (s : List ℕ) → NotEight (unpack_ticket_under earlier s) → unpack_ticket s ≡ unpack_ticket_under earlier s
  unfolding unpack_ticket unless_refused
  unpacking s other = by (eqb (length s) ticket_length) refl
    where
      by : (b : Bool) → eqb (length s) ticket_length ≡ b → unpack_ticket s ≡ unpack_ticket_under earlier s
      by true h = same-reply (unpack_ticket_under earlier s) (unpack_ticket s) (kept s) (λ n e. by_8_under earlier s n (eqb-true _ _ h) (sym e)) other
      by false h = rw h

  also : (n : ℕ) (s : List ℕ) (ts : List Ticket) → unpack_tickets_under earlier n s ≡ done ts → unpack_tickets n s ≡ done ts
  unfolding unpack_tickets
  also zero s ts e = e
  also (suc n) s ts e =
      taken-apart (λ l. unpack_tickets (suc n) s ≡ done l) (unpack_ticket_under earlier (take ticket_length s)) (unpack_tickets_under earlier n (drop ticket_length s)) ts e
      (λ t us f g. ap₂ ticket_then (kept (take ticket_length s) t f) (also n (drop ticket_length s) us g))

  holding : (s : List ℕ) → NotEight (plain_tickets_under earlier s) → plain_tickets s ≡ plain_tickets_under earlier s
  unfolding plain_tickets plain_tickets_under
  holding s other = by (is_tickets_length (length s)) refl
    where
      by : (b : Bool) → is_tickets_length (length s) ≡ b → plain_tickets s ≡ plain_tickets_under earlier s
      by true h =
          rw h (same-reply (unpack_tickets_under earlier (length s / ticket_length) s) (unpack_tickets (length s / ticket_length) s) (also (length s / ticket_length) s)
          (λ n e. tickets-by_8 earlier (length s / ticket_length) s n (omega arith) e) (rw h at other))
      by false h = rw h

  reading : (r : Reader) → NotEight (read_next_under earlier r).answer → read_next r ≡ read_next_under earlier r
  unfolding read_next read_next_under handed_out
  reading r =
      by_reader (λ f. NotEight (f (unpack_ticket_under earlier)).answer → f unpack_ticket ≡ f (unpack_ticket_under earlier)) r (λ other. refl) (λ other. refl)
      (λ right below size. handed (unpack_ticket_under earlier (ahead r)) refl size)
    where
      handed : (before : Reply Ticket) → unpack_ticket_under earlier (ahead r) ≡ before → length (ahead r) ≡ ticket_length → NotEight (handed_out before r).answer
          → handed_out (unpack_ticket (ahead r)) r ≡ handed_out before r
      handed (refused n) e l f = absurd (f (ap refused (by_8_under earlier (ahead r) n l (sym e))))
      handed (done t) e l f = ap (λ (x : Reply Ticket). handed_out x r) (kept (ahead r) t e)

  -- ### Tapes

  module _ (key tape out : List ℕ) where
    abbrev before : Reply (List Ticket)
    before = tickets_under earlier key tape

    abbrev now : Reply (List Ticket)
    now = unpack_tickets (ticket_count tape) (plain_bytes key tape)

    number : (open_tape_refusal_under earlier key tape out ≡ 8 → ⊥)
        → (open_tape_refusal key tape out ≡ open_tape_refusal_under earlier key tape out) × (open_tape_refusal_under earlier key tape out ≡ 0 → now ≡ before)
    unfolding open_tape_refusal open_tape_refusal_under
    number = kept-refusal before now (also (ticket_count tape) (plain_bytes key tape)) key tape out

    opening : NotEight (open_tape_under earlier key tape out).answer → open_tape key tape out ≡ open_tape_under earlier key tape out
    unfolding open_tape open_tape_under open_tape_refusal open_tape_refusal_under result_of unless_refused
    opening other =
        kept_opening before now (also (ticket_count tape) (plain_bytes key tape)) key tape out (λ e. other (ap (λ (m : ℕ). (open_tape_unless key tape m before out).answer) e))

    still_refused : (n : ℕ) → n < 8 → (open_tape_under earlier key tape out).answer ≡ refused n → open_tape key tape out ≡ record { answer = refused n; out = out }
    unfolding open_tape_under
    still_refused n small e =
        opening (λ f. let same : n ≡ 8 = refused_same (sym e ∙ f) in omega (arith, small, same))
        ∙ (λ i. record { answer = e i; out = unwritten _ _ _ out n e i })

    eight : (n : ℕ) → (open_tape_under earlier key tape out).answer ≡ refused 8 → (open_tape key tape out).answer ≡ refused n → n ≡ 8
    unfolding open_tape open_tape_under open_tape_refusal open_tape_refusal_under
    eight n e f =
        let p = refused_told _ _ _ out 8 _ (λ i. record { answer = e i; out = (open_tape_under earlier key tape out).out }) in
        let q = refused_told _ _ _ out n _ (λ i. record { answer = f i; out = (open_tape key tape out).out }) in
        sym q.0 ∙ still_8 before now key tape out p.0 q.1

    not_8 : (ts : List Ticket) → before ≡ done ts → open_tape_refusal_under earlier key tape out ≡ 8 → ⊥
    unfolding open_tape_refusal_under
    not_8 ts e h = never_8 ts key tape out (sym (ap (λ (r : Reply (List Ticket)). open_tape_refusal_by key tape r out) e) ∙ h)

  -- ### The listing

  module _ (key tape : List ℕ) where
    abbrev room : List ℕ
    room = replicate (length tape) 0

    listed_same : (open_tape_refusal_under earlier key tape room ≡ 8 → ⊥) → listing key tape ≡ listing_under earlier key tape
    unfolding listing listing_unless plain_tickets plain_tickets_under unpack_tickets unpack_ticket
    listed_same other =
        let p = number key tape room other in
        ap (λ (m : ℕ). listed_unless m (plain_tickets (plain_bytes key tape)) tape) p.0
        ∙ by (open_tape_refusal_under earlier key tape room) (λ z. ap (λ (r : Reply (List Ticket)). listed_unless 0 r tape)
        (plain_under rule_in_force key tape room (p.0 ∙ z) ∙ p.1 z ∙ sym (plain_under earlier key tape room (p.0 ∙ z))))
      where
        by : (n : ℕ) → (n ≡ 0 → listed_unless 0 (plain_tickets (plain_bytes key tape)) tape ≡ listed_unless 0 (plain_tickets_under earlier (plain_bytes key tape)) tape)
            → listed_unless n (plain_tickets (plain_bytes key tape)) tape ≡ listed_unless n (plain_tickets_under earlier (plain_bytes key tape)) tape
        by zero f = f refl
        by (suc n) f = refl

  printing : (input : List ℕ) → (printed_under earlier input ≡ refused_line 8 → ⊥) → printed input ≡ printed_under earlier input
  unfolding printed printed_under
  printing input other =
      let key = take key_length input in
      let tape = drop key_length input in
      listed_same key tape (λ e. other (ap (λ (m : ℕ). listed_unless m (plain_tickets_under earlier (plain_bytes key tape)) tape) e))

  same_unless_eight : SameUnlessEight earlier
  same_unless_eight = record { unpacking = unpacking; holding = holding; opening = opening; reading = reading; listing = printing; still_refused = still_refused; eight = eight }

  -- ### A tape that opened

  -- a reader over bytes that held tickets met none that did not unpack
  none_bad : (s : List ℕ) (ts : List Ticket) → plain_tickets_under earlier s ≡ done ts → (p : ℕ) → NotEight (read_next_under earlier (record { string = s; position = p })).answer
  unfolding plain_tickets_under read_next_under handed_out
  none_bad s ts e p =
      by_reader (λ f. NotEight (f (unpack_ticket_under earlier)).answer) (record { string = s; position = p }) (λ h. let z : ◌≡◌ {A = ℕ} 2 8 = cc in omega arith)
      (λ h. let z : ◌≡◌ {A = ℕ} 0 1 = cc in omega arith)
      (λ right below size. given (record { string = s; position = p }) _ _ (at_under earlier (length s / ticket_length) p s ts (ticket_of []) below (rw right at e)))
    where
      given : (r : Reader) (x : Reply Ticket) (t : Ticket) → x ≡ done t → NotEight (handed_out x r).answer
      given r x t f g = let h = sym (ap (λ (y : Reply Ticket). (handed_out y r).answer) f) ∙ g in let z : ◌≡◌ {A = ℕ} 0 1 = cc in omega arith

  module _ (key tape out : List ℕ) (totals : Totals) (after : List ℕ) (e : open_tape_under earlier key tape out ≡ record { answer = done totals; out = after }) where
    opens : open_tape key tape out ≡ record { answer = done totals; out = after }
    opens = opening key tape out (λ h. let x = sym (ap (λ (r : Result Totals). r.answer) e) ∙ h in let z : ◌≡◌ {A = ℕ} 0 1 = cc in omega arith) ∙ e

    accepted_now : open_tape_refusal key tape out ≡ 0
    accepted_now = was_accepted key tape out totals after opens

    accepted_before : open_tape_refusal_under earlier key tape out ≡ 0
    unfolding open_tape_under
    accepted_before = (done-told _ _ _ out totals after e).0

    same-tickets : before key tape out ≡ done (tickets_on key tape)
    same-tickets =
        sym ((number key tape out (λ z. omega (arith, accepted_before, z))).1 accepted_before) ∙ told (now key tape out) (tickets_good key tape out accepted_now)

    held_before : plain_tickets_under earlier (written_bytes totals after) ≡ done (tickets_on key tape)
    held_before = ap (plain_tickets_under earlier) (front key tape out totals after opens) ∙ plain_under earlier key tape out accepted_now ∙ same-tickets

    lists : printed (key ++ tape) ≡ printed_under earlier (key ++ tape)
    unfolding printed printed_under
    lists =
        let k = key_size key tape out accepted_now in
        let first = take_at key tape key_length k in
        let rest = drop_at key tape key_length k in
        ap₂ listing first rest ∙ listed_same key tape (not_8 key tape (room key tape) (tickets_on key tape) same-tickets) ∙ sym (ap₂ (listing_under earlier) first rest)

    opens_as_before : OpensAsBefore earlier key tape out totals after
    opens_as_before =
        record {
          tickets = tickets_on key tape;
          opens = opens;
          held_before = held_before;
          held = opened-held key tape out totals after opens;
          reads = λ p. reading (record { string = written_bytes totals after; position = p }) (none_bad (written_bytes totals after) (tickets_on key tape) held_before p);
          lists = lists;
        }

-- ## A rule that allowed fewer tickets

-- readers
given-told : (r : Reader) (x : Reply Ticket) (t : Ticket) → (handed_out x r).answer ≡ done (ticket t) → x ≡ done t
unfolding handed_out
given-told r (refused n) t e = absurd (let z : ◌≡◌ {A = ℕ} 0 1 = cc in omega arith)
given-told r (done u) t e = cc

-- of each pair of facts the first goes from the earlier rule to now, the second back
module _ (earlier : Rule) (Allowed : Ticket → Type 0) (exact : UnpackedIf earlier Allowed) where
  kept : StillUnpacks earlier
  kept s t e = ((exact s t).0 e).0

  -- ### Tickets

  all_allowed : (n : ℕ) (s : List ℕ) (ts : List Ticket) → unpack_tickets_under earlier n s ≡ done ts → All Allowed ts
  all_allowed zero s ts e = subst (All Allowed) (ap tickets_in e) tt
  all_allowed (suc n) s ts e =
      taken-apart (All Allowed) (unpack_ticket_under earlier (take ticket_length s)) (unpack_tickets_under earlier n (drop ticket_length s)) ts e
      (λ t us f g. (((exact (take ticket_length s) t).0 f).1, all_allowed n (drop ticket_length s) us g))

  unpacked_all : (n : ℕ) (s : List ℕ) (ts : List Ticket) → unpack_tickets n s ≡ done ts → All Allowed ts → unpack_tickets_under earlier n s ≡ done ts
  unfolding unpack_tickets
  unpacked_all zero s ts e w = e
  unpacked_all (suc n) s ts e w =
      taken-apart (λ l. All Allowed l → unpack_tickets_under earlier (suc n) s ≡ done l) (unpack_ticket (take ticket_length s)) (unpack_tickets n (drop ticket_length s)) ts e
      (λ t us f g w. ap₂ ticket_then ((exact (take ticket_length s) t).1 (f, w.0)) (unpacked_all n (drop ticket_length s) us g w.1)) w

  module _ (s : List ℕ) (ts : List Ticket) where
    held_now : plain_tickets_under earlier s ≡ done ts → (plain_tickets s ≡ done ts) × All Allowed ts
    unfolding plain_tickets_under
    held_now e =
        let h = holding earlier kept s (λ f. let x = sym e ∙ f in let z : ◌≡◌ {A = ℕ} 0 1 = cc in omega arith) ∙ e in
        (h, all_allowed (length s / ticket_length) s ts (rw (held_size s ts h) at e))

    held_then : plain_tickets s ≡ done ts → All Allowed ts → plain_tickets_under earlier s ≡ done ts
    unfolding plain_tickets_under
    held_then e w = rw (held_size s ts e) (unpacked_all (length s / ticket_length) s ts (held-unpack s ts e) w)

  module _ (r : Reader) (t : Ticket) where
    read_now : (read_next_under earlier r).answer ≡ done (ticket t) → ((read_next r).answer ≡ done (ticket t)) × Allowed t
    unfolding read_next read_next_under handed_out
    read_now =
        by_reader (λ f. (f (unpack_ticket_under earlier)).answer ≡ done (ticket t) → ((f unpack_ticket).answer ≡ done (ticket t)) × Allowed t) r
        (λ e. absurd (let z : ◌≡◌ {A = ℕ} 0 1 = cc in omega arith)) (λ e. absurd (let z : ◌≡◌ {A = ℕ} 0 1 = cc in omega arith))
        (λ right below size e.
        let p = (exact (ahead r) t).0 (given-told r (unpack_ticket_under earlier (ahead r)) t e) in
        (ap (λ (x : Reply Ticket). (handed_out x r).answer) p.0, p.1))

    read_then : (read_next r).answer ≡ done (ticket t) → Allowed t → (read_next_under earlier r).answer ≡ done (ticket t)
    unfolding read_next read_next_under handed_out
    read_then =
        by_reader (λ f. (f unpack_ticket).answer ≡ done (ticket t) → Allowed t → (f (unpack_ticket_under earlier)).answer ≡ done (ticket t)) r
        (λ e l. absurd (let z : ◌≡◌ {A = ℕ} 0 1 = cc in omega arith)) (λ e l. absurd (let z : ◌≡◌ {A = ℕ} 0 1 = cc in omega arith))
        (λ right below size e l. ap (λ (x : Reply Ticket). (handed_out x r).answer) ((exact (ahead r) t).1 (given-told r (unpack_ticket (ahead r)) t e, l)))

  -- ### Tapes

  module _ (key tape out : List ℕ) (totals : Totals) (after : List ℕ) (ts : List Ticket) (p : plain_tickets (written_bytes totals after) ≡ done ts) where
    same_list : (us : List Ticket) → plain_tickets (written_bytes totals after) ≡ done us → us ≡ ts
    same_list us e = ap tickets_in (sym e ∙ p)

    opened_now : open_tape_under earlier key tape out ≡ record { answer = done totals; out = after }
        → (open_tape key tape out ≡ record { answer = done totals; out = after }) × All Allowed ts
    opened_now e =
        let o = opens_as_before earlier kept key tape out totals after e in
        (o.opens, subst (All Allowed) (same_list o.tickets o.held) (held_now _ o.tickets o.held_before).1)

    opened_then : open_tape key tape out ≡ record { answer = done totals; out = after } → All Allowed ts
        → open_tape_under earlier key tape out ≡ record { answer = done totals; out = after }
    unfolding open_tape open_tape_under open_tape_refusal open_tape_refusal_under
    opened_then e w =
        let accepted = was_accepted key tape out totals after e in
        let list = same_list (tickets_on key tape) (opened-held key tape out totals after e) in
        kept_opening (unpack_tickets (ticket_count tape) (plain_bytes key tape)) (tickets_under earlier key tape)
        (λ us f. unpacked_all (ticket_count tape) (plain_bytes key tape) us f (subst (All Allowed) (sym list ∙ ap tickets_in f) w)) key tape out (λ z. omega (arith, accepted, z))
        ∙ e

  -- with a ticket that was not allowed
  module _ (key : List ℕ) (head : Head) (ts : List Ticket) (k : length key ≡ key_length) (h : head_rule head ≡ true) (v : Valid ts) (n : length ts ≤ ticket_limit) (bad : All Allowed ts → ⊥) where
    abbrev tape : List ℕ
    tape = tape_of key head ts

    not_unpacked : is_refused (tickets_under earlier key tape) ≡ true
    not_unpacked = by (tickets_under earlier key tape) refl
      where
        by : (r : Reply (List Ticket)) → tickets_under earlier key tape ≡ r → is_refused r ≡ true
        by (refused m) e = refl
        by (done us) e =
            let same = ap tickets_in (sym (also earlier kept (ticket_count tape) (plain_bytes key tape) us e) ∙ unpacks key head ts k h v n) in
            absurd (bad (subst (All Allowed) same (all_allowed (ticket_count tape) (plain_bytes key tape) us e)))

    number_8 : (out : List ℕ) → ticket_length * length ts ≤ length out → open_tape_refusal_under earlier key tape out ≡ 8
    unfolding open_tape_refusal open_tape_refusal_under
    number_8 out room =
        only_8 (tickets_under earlier key tape) (unpack_tickets (ticket_count tape) (plain_bytes key tape)) not_unpacked key tape out (no_refusal key head ts k h v n out room)

    refused_then : (out : List ℕ) → ticket_length * length ts ≤ length out → open_tape_under earlier key tape out ≡ record { answer = refused 8; out = out }
    unfolding open_tape_under result_of unless_refused
    refused_then out room = ap (λ (m : ℕ). open_tape_unless key tape m (tickets_under earlier key tape) out) (number_8 out room)

    listed_then : printed_under earlier (key ++ tape) ≡ refused_line 8
    unfolding printed_under
    listed_then =
        ap₂ (listing_under earlier) (take_at key tape key_length k) (drop_at key tape key_length k)
        ∙ ap (λ (m : ℕ). listed_unless m (plain_tickets_under earlier (plain_bytes key tape)) tape)
        (number_8 (replicate (length tape) 0) (omega (arith, length-replicate {A = ℕ} (length tape) 0, (tapes_come_back key head ts k h v n).size)))

  allowed_before : AllowedBefore earlier Allowed
  allowed_before =
      record {
        unpacked = exact;
        held = λ s ts. (held_now s ts, λ h. held_then s ts h.0 h.1);
        read = λ r t. (read_now r t, λ h. read_then r t h.0 h.1);
        opened = λ key tape out totals after ts p. (opened_now key tape out totals after ts p, λ h. opened_then key tape out totals after ts p h.0 h.1);
        refused_before = λ key head ts k h v n bad. (refused_then key head ts k h v n bad, listed_then key head ts k h v n bad);
      }

-- ## The rules before P6

same_truth : (a b : Bool) → (a ≡ true → b ≡ true) → (b ≡ true → a ≡ true) → a ≡ b
same_truth true b f g = sym (f refl)
same_truth false true f g = g refl
same_truth false false f g = refl

-- Each of the two is the fields of form 1 with a test of its own on the ticket, which passes where today's order holds and something more does.
module _ (test : Ticket → Bool) (More : Ticket → Type 0) (passes : (t : Ticket) → (test t ≡ true) ↔ ((ordered t ≡ true) × More t)) where
  abbrev form_one_rule : Rule
  form_one_rule = record { fields = λ form. form1; allows = λ vs. in_ranges form1 vs && test (ticket_of vs) }

  module _ (s : List ℕ) (t : Ticket) where
    abbrev values : List ℕ
    values = unpack (widths form1) s

    form_1_values : form_in s ≡ 1 → ticket_values_in s ≡ values
    form_1_values e = ap (λ (form : ℕ). unpack (widths (format_of form)) s) e

    form_1_now : unpack_ticket_under form_one_rule s ≡ done t → (unpack_ticket s ≡ done t) × ((t.form ≡ 1) × More t)
    unfolding unpack_ticket unless_refused values_rule
    form_1_now e =
        let p = unpack-passed 7 (eqb (length s) ticket_length) (form_one_rule.allows values) (ticket_of values) t e in
        let q = and_parts (in_ranges form1 values) (test (ticket_of values)) p.1 in
        let o = (passes (ticket_of values)).0 q.1 in
        let r = in-ranges form1 values q.0 in
        let one : form_in s ≡ 1 = omega (arith, r.0) in
        let v = form_1_values one in
        let right : values_rule (ticket_values_in s) ≡ true = ap values_rule v ∙ ap (λ (form : ℕ). in_ranges (format_of form) values && ordered (ticket_of values)) one ∙ ap₂ ◌&&◌ q.0 o.0 in
        (rw (p.0, right) (ap done (ap ticket_of v ∙ p.2)), (ap (λ (u : Ticket). u.form) (sym p.2) ∙ one, subst More p.2 o.1))

    form_1_then : unpack_ticket s ≡ done t → (t.form ≡ 1) × More t → unpack_ticket_under form_one_rule s ≡ done t
    unfolding unless_refused values_rule
    form_1_then e w =
        let p = ticket_told s t e in
        let one : form_in s ≡ 1 = sym (form_first (form_in s) s) ∙ ap (λ (u : Ticket). u.form) p.2 ∙ w.0 in
        let v = form_1_values one in
        let q = and_parts (in_ranges form1 values) (ordered (ticket_of values)) (sym (ap (λ (form : ℕ). in_ranges (format_of form) values && ordered (ticket_of values)) one) ∙ sym (ap values_rule v) ∙ p.1) in
        let same : ticket_of values ≡ t = sym (ap ticket_of v) ∙ p.2 in
        let right : form_one_rule.allows values ≡ true = ap₂ ◌&&◌ q.0 ((passes (ticket_of values)).1 (q.1, subst More (sym same) w.1)) in
        rw (eq-eqb (length s) ticket_length p.0, right) (ap done same)

base_passes : (t : Ticket) → (base_ordered t ≡ true) ↔ ((ordered t ≡ true) × (t.tare < t.gross))
unfolding ordered
base_passes t = (
  λ h.
      let p = and_parts (leb t.loaded t.tipped) (ltb t.tare t.gross) h in
      let l = ltb-true t.tare t.gross p.1 in
      (ap₂ ◌&&◌ p.0 (le-leb t.tare t.gross (omega (arith, l))), l),
  λ h. let p = and_parts (leb t.loaded t.tipped) (leb t.tare t.gross) h.0 in ap₂ ◌&&◌ p.0 (lt-ltb t.tare t.gross h.1),
)

base_exact : UnpackedIf base_rule (λ t. (t.form ≡ 1) × (t.tare < t.gross))
base_exact s t = (form_1_now base_ordered (λ u. u.tare < u.gross) base_passes s t, λ h. form_1_then base_ordered (λ u. u.tare < u.gross) base_passes s t h.0 h.1)

one_form_passes : (t : Ticket) → (one_form_ordered t ≡ true) ↔ ((ordered t ≡ true) × Unit {0})
unfolding ordered
one_form_passes t = (λ h. (h, tt), λ h. h.0)

one_form_exact : UnpackedIf one_form_rule (λ t. t.form ≡ 1)
one_form_exact s t = (
  λ e. let p = form_1_now one_form_ordered (λ u. Unit {0}) one_form_passes s t e in (p.0, p.1.0),
  λ h. form_1_then one_form_ordered (λ u. Unit {0}) one_form_passes s t h.0 (h.1, tt),
)

-- the rest of the rule
rest_remains : (t : Ticket) → one_form_rule.allows (ticket_values t) ≡ (base_rule.allows (ticket_values (weighing 1 0 t)) && (leb t.gross 1048575 && leb t.tare t.gross))
rest_remains t = same_truth _ _ forth back
  where
    forth : one_form_rule.allows (ticket_values t) ≡ true → (base_rule.allows (ticket_values (weighing 1 0 t)) && (leb t.gross 1048575 && leb t.tare t.gross)) ≡ true
    forth h =
        let p = and_parts (in_ranges form1 (ticket_values t)) (one_form_ordered t) h in
        let r = in-ranges form1 (ticket_values t) p.0 in
        let o = and_parts (leb t.loaded t.tipped) (leb t.tare t.gross) p.1 in
        ap₂ ◌&&◌ (ap₂ ◌&&◌ (ranges_in form1 (ticket_values (weighing 1 0 t)) (omega (arith, r))) (ap₂ ◌&&◌ o.0 refl))
        (ap₂ ◌&&◌ (le-leb t.gross 1048575 (omega (arith, r))) o.1)

    back : (base_rule.allows (ticket_values (weighing 1 0 t)) && (leb t.gross 1048575 && leb t.tare t.gross)) ≡ true → one_form_rule.allows (ticket_values t) ≡ true
    back h =
        let p = and_parts (base_rule.allows (ticket_values (weighing 1 0 t))) (leb t.gross 1048575 && leb t.tare t.gross) h in
        let q = and_parts (in_ranges form1 (ticket_values (weighing 1 0 t))) (base_ordered (weighing 1 0 t)) p.0 in
        let o = and_parts (leb t.loaded t.tipped) (ltb 0 1) q.1 in
        let w = and_parts (leb t.gross 1048575) (leb t.tare t.gross) p.1 in
        let a = leb-true t.gross 1048575 w.0 in
        let b = leb-true t.tare t.gross w.1 in
        let r = in-ranges form1 (ticket_values (weighing 1 0 t)) q.0 in
        ap₂ ◌&&◌ (ranges_in form1 (ticket_values t) (omega (arith, r, a, b))) (ap₂ ◌&&◌ o.0 w.1)

form_1 : (t : Ticket) → t.form ≡ 1 → ticket_rule t ≡ one_form_rule.allows (ticket_values t)
unfolding ticket_rule values_rule ordered
form_1 t e = ap (λ (form : ℕ). in_ranges (format_of form) (ticket_values t) && ordered t) e

form_2 : (t : Ticket) → t.form ≡ 2
    → ticket_rule t ≡ (one_form_rule.allows (ticket_values (in_form 1 (timed 0 0 t))) && (leb t.loaded t.tipped && leb t.tipped 86399))
unfolding ticket_rule values_rule ordered
form_2 t e = ap (λ (form : ℕ). in_ranges (format_of form) (ticket_values t) && ordered t) e ∙ same_truth _ _ forth back
  where
    other : Ticket
    other = in_form 1 (timed 0 0 t)

    forth : (in_ranges form2 (ticket_values t) && ordered t) ≡ true → (one_form_rule.allows (ticket_values other) && (leb t.loaded t.tipped && leb t.tipped 86399)) ≡ true
    forth h =
        let p = and_parts (in_ranges form2 (ticket_values t)) (ordered t) h in
        let r = in-ranges form2 (ticket_values t) p.0 in
        let o = and_parts (leb t.loaded t.tipped) (leb t.tare t.gross) p.1 in
        ap₂ ◌&&◌ (ap₂ ◌&&◌ (ranges_in form1 (ticket_values other) (omega (arith, r))) o.1) (ap₂ ◌&&◌ o.0 (le-leb t.tipped 86399 (omega (arith, r))))

    back : (one_form_rule.allows (ticket_values other) && (leb t.loaded t.tipped && leb t.tipped 86399)) ≡ true → (in_ranges form2 (ticket_values t) && ordered t) ≡ true
    back h =
        let p = and_parts (one_form_rule.allows (ticket_values other)) (leb t.loaded t.tipped && leb t.tipped 86399) h in
        let q = and_parts (in_ranges form1 (ticket_values other)) (one_form_ordered other) p.0 in
        let w = and_parts (leb t.loaded t.tipped) (leb t.tipped 86399) p.1 in
        let a = leb-true t.loaded t.tipped w.0 in
        let b = leb-true t.tipped 86399 w.1 in
        let r = in-ranges form1 (ticket_values other) q.0 in
        ap₂ ◌&&◌ (ranges_in form2 (ticket_values t) (omega (arith, r, a, b, e))) (ap₂ ◌&&◌ w.0 q.1)

-- ## All of it

pub earlier_rule_laws : EarlierRuleLaws
earlier_rule_laws =
    let base_kept = kept base_rule _ base_exact in
    let one_form_kept = kept one_form_rule _ one_form_exact in
    record {
      in_force = under_in_force;
      same = same_unless_eight;
      still_open = opens_as_before;
      allowed = allowed_before;
      base = record { rest_remains = rest_remains; allowed = allowed_before base_rule _ base_exact };
      base_still_unpacks = base_kept;
      base_same = same_unless_eight base_rule base_kept;
      base_still_open = opens_as_before base_rule base_kept;
      one_form = record { form_1 = form_1; form_2 = form_2; allowed = allowed_before one_form_rule _ one_form_exact };
      one_form_still_unpacks = one_form_kept;
      one_form_same = same_unless_eight one_form_rule one_form_kept;
      one_form_still_open = opens_as_before one_form_rule one_form_kept;
    }
