-- What comes of reading: from the contracts to document 01's reader, and from there ticket by ticket.
use mathlib.Core.Path.{◌≡◌, refl, sym, ap, ap₂, ◌∙◌, subst}
use mathlib.Core.Bool.{Bool, true, false, not}
use mathlib.Core.List.{List, [], ◌∷◌, ◌++◌}
use Prim.Native.Nat.{ℕ, zero, suc, ◌+◌, ◌*◌, ◌/◌, ◌≤◌, ◌<◌}
use native.Mathlib.Omega.{arith}
use lib.Dec.{eqb, leb}
use lib.ListN.{length, take, drop}
use lib.Seq.{take-nil, take_at, drop-drop}
use denote.Ref.{Bor}
use Rattle.std.proofs.Common.{Result, Ok, Err, Option, Some, None}
use Rattle.calls.specs.declared.Refusal.{Refusal}
use Rattle.calls.specs.declared.Refusal.TheVariants.{WrongLength, TicketUnreadable}
use Rattle.calls.specs.Calls.{◌if◌else◌, Reply, refused, done, accepted, reply_of, as_reply, written_over, unless_refused, is_refused}
use Rattle.acorn_model.specs.Machine.{key_length}
use Rattle.acorn_model.specs.RefusalCases.{string}
use Rattle.tape_model.specs.declared.Ticket.{Ticket}
use Rattle.tape_model.specs.declared.Head.{Head}
use Rattle.tape_model.specs.declared.Totals.{Totals}
use Rattle.tape_model.specs.Ticket.{ticket_length, ticket_of, ticket_values_in, ordered, values_rule, pack_ticket, unpack_ticket, head_rule}
use Rattle.tape_model.specs.Tape.{ticket_limit, pack_tickets, tape_of, is_tickets_length, ticket_then, unpack_tickets, plain_tickets, total_net, open_tape}
use Rattle.tape_model.specs.Reader as model
use Rattle.tape_model.specs.Reader.{Reading, ticket, at_end, ReadOutcome, stays, handed_out, reader_over, read_next, next_reply}
use Rattle.tape_model.specs.RefusalCases.{good_ticket, last_byte_c1}
use Rattle.tape_model.specs.Laws.{Valid, readings, reader_after}
use Rattle.tape_model.proofs.Tapes.{tickets-length, tickets-held, tapes_come_back}
use Rattle.tape_model.proofs.Unpacking.{sized_hold, held_size, held-unpack, held-count, refused_size, only_2}
use Rattle.tape_model.proofs.Opening.{net-is}
use Rattle.tape_model.proofs.Plain.{tickets_on, opened-held, opened_many}
use Rattle.reader.specs.declared.Reader.{Reader}
use Rattle.reader.specs.declared.ReaderReply.{ReaderReply}
use Rattle.reader.specs.Clauses.{reader_at, reader_of, reader_outcome, NextCalled}
use Rattle.reader.specs.Reading.{NextCalls, none, call, ReaderList, in_turn, HandsOut, ReadingLaws}
use Rattle.reader.proofs.Cases.{wrong_size, no_more, unpacked, not_unpacked}

-- ## As document 01's reader

as_defined_from : (r e : Reader) (answers : List (Reply Reading)) → NextCalls r answers e
    → (answers ≡ readings (length answers) (reader_of r)) × (reader_of e ≡ reader_after (length answers) (reader_of r))
unfolding reader_outcome
as_defined_from r e _ none = (refl, refl)
as_defined_from r e _ (call {answers = answers} h called calls) =
    let o : reader_outcome h ≡ read_next (reader_of r) = called.outcome in
    let rest = as_defined_from h.reader e answers calls in
    (λ i. (o i).answer ∷ (rest.0 ∙ (λ j. readings (length answers) (o j).next)) i, rest.1 ∙ (λ j. reader_after (length answers) (o j).next))

same_from : (r e : Reader) (answers : List (Reply Reading)) → NextCalls r answers e → e.bytes ≡ r.bytes
same_from r e _ none = refl
same_from r e _ (call {answers = answers} h called calls) = same_from h.reader e answers calls ∙ called.same

module _ (bytes : Bor (List ℕ)) (answers : List (Reply Reading)) (e : Reader) (l : ReaderList bytes answers e) where
  as_defined : (answers ≡ readings (length answers) (reader_over bytes.now)) × (reader_of e ≡ reader_after (length answers) (reader_over bytes.now))
  as_defined =
      subst (λ (r : model.Reader). (answers ≡ readings (length answers) r) × (reader_of e ≡ reader_after (length answers) r)) l.made.fresh
      (as_defined_from l.first e answers l.calls)

  same : e.bytes ≡ bytes
  same = same_from l.first e answers l.calls ∙ l.made.same

-- ## Every call can be made

-- what bytes unpack to is the answer of some code
ticket_answer : (string : List ℕ) → (a : Result Ticket Refusal) × (as_reply a ≡ unpack_ticket string)
unfolding as_reply unpack_ticket unless_refused
ticket_answer string = by (eqb (length string) ticket_length) (values_rule (ticket_values_in string))
  where
    by : (a b : Bool) → (x : Result Ticket Refusal) × (as_reply x ≡ reply_of (2 if not a else 8 if not b else accepted) (ticket_of (ticket_values_in string)))
    by false b = (Err WrongLength, refl)
    by true false = (Err TicketUnreadable, refl)
    by true true = (Ok _, refl)

-- and so is what a reader answers
next_answer : (r : model.Reader) → (a : Result (Option Ticket) Refusal) × (next_reply a ≡ (read_next r).answer)
unfolding next_reply as_reply read_next handed_out
next_answer r =
    let t = ticket_answer (take 13 (drop (13 * r.position) r.string)) in
    subst (λ (u : Reply Ticket). (a : Result (Option Ticket) Refusal) × (next_reply a ≡ (by_next sized at u).answer)) t.1 (by sized at t.0)
  where
    sized : Bool
    sized = not (is_tickets_length (length r.string))

    at : Bool
    at = leb (length r.string / 13) r.position

    by_next : Bool → Bool → Reply Ticket → ReadOutcome
    by_next a b u = stays r (refused 2) if a else stays r (done at_end) if b else handed_out u r

    by : (a b : Bool) (x : Result Ticket Refusal) → (y : Result (Option Ticket) Refusal) × (next_reply y ≡ (by_next a b (as_reply x)).answer)
    by true b x = (Err WrongLength, refl)
    by false true x = (Ok None, refl)
    by false false (Err e) = (Err e, refl)
    by false false (Ok t) = (Ok (Some t), refl)

same-string : (r : model.Reader) → (read_next r).next.string ≡ r.string
unfolding read_next handed_out
same-string r =
    by (not (is_tickets_length (length r.string))) (leb (length r.string / 13) r.position) (unpack_ticket (take 13 (drop (13 * r.position) r.string)))
  where
    by : (a b : Bool) (t : Reply Ticket) → (stays r (refused 2) if a else stays r (done at_end) if b else handed_out t r).next.string ≡ r.string
    by true b t = refl
    by false true t = refl
    by false false (refused n) = refl
    by false false (done t) = refl

reply : (r : Reader) → (h : ReaderReply) × NextCalled r h
unfolding reader_of reader_outcome
reply r =
    let o : ReadOutcome = read_next (reader_of r) in
    let a = next_answer (reader_of r) in (
      record { reader = record { bytes = r.bytes; position = o.next.position }; answer = a.0 },
      record {
        same = refl;
        outcome = λ i. record { next = reader_at (sym (same-string (reader_of r)) i) o.next.position; answer = a.1 i };
      },
    )

callable : (bytes : Bor (List ℕ)) (n : ℕ) → (answers : List (Reply Reading)) × (e : Reader) × ReaderList bytes answers e × (length answers ≡ n)
unfolding reader_of reader_over
callable bytes n =
    let c = from (record { bytes = bytes; position = 0 }) n in
    (c.0, c.1, record { first = record { bytes = bytes; position = 0 }; made = record { same = refl; fresh = refl }; calls = c.2 }, c.3)
  where
    from : (r : Reader) (n : ℕ) → (answers : List (Reply Reading)) × (e : Reader) × NextCalls r answers e × (length answers ≡ n)
    from r zero = ([], r, none, refl)
    from r (suc n) =
        let k = reply r in
        let c = from k.0.reader n in
        (next_reply k.0.answer ∷ c.0, c.1, call k.0 k.1 c.2, ap suc c.3)

-- ## Ticket by ticket

module _ (s : List ℕ) (last : Reply Reading) where
  -- what lies before the reader: tickets that it hands out, and then what it answers without moving
  abbrev pub Ahead : ℕ → List Ticket → Type 0
  Ahead p [] = read_next (reader_at s p) ≡ stays (reader_at s p) last
  Ahead p (t ∷ ts) = (read_next (reader_at s p) ≡ record { next = reader_at s (p + 1); answer = done (ticket t) }) × Ahead (p + 1) ts

  in-turn : (n p : ℕ) (ts : List Ticket) → Ahead p ts
      → (readings n (reader_at s p) ≡ in_turn ts last n) × (reader_after n (reader_at s p) ≡ reader_at s (p + length (take n ts)))
  in-turn zero p ts a = (refl, ap (reader_at s) {x = p} {y = p + 0} (omega arith))
  in-turn (suc n) p [] a =
      let rest = in-turn n p [] a in (
        λ i. (a i).answer ∷ ((λ j. readings n (a j).next) ∙ rest.0) i,
        (λ j. reader_after n (a j).next) ∙ rest.1 ∙ ap (λ (l : List Ticket). reader_at s (p + length l)) (take-nil n),
      )
  in-turn (suc n) p (t ∷ ts) a =
      let rest = in-turn n (p + 1) ts a.1 in (
        λ i. (a.0 i).answer ∷ ((λ j. readings n (a.0 j).next) ∙ rest.0) i,
        (λ j. reader_after n (a.0 j).next) ∙ rest.1 ∙ ap (reader_at s) {x = p + 1 + length (take n ts)} {y = p + suc (length (take n ts))} (omega arith),
      )

-- ## What lies before a reader over these bytes

both : (a : Reply Ticket) (b : Reply (List Ticket)) (t : Ticket) (ts : List Ticket) → ticket_then a b ≡ done (t ∷ ts) → (a ≡ done t) × (b ≡ done ts)
both (refused n) b t ts e = let z : ◌≡◌ {A = ℕ} 0 1 = cc in absurd (omega arith)
both (done u) (refused n) t ts e = let z : ◌≡◌ {A = ℕ} 0 1 = cc in absurd (omega arith)
both (done u) (done us) t ts e = (cc, cc)

module _ (s : List ℕ) (last : Reply Reading) (sized : is_tickets_length (length s) ≡ true) where
  ahead : (p : ℕ) (ts : List Ticket) → p + length ts ≤ length s / 13 → unpack_tickets (length ts) (drop (13 * p) s) ≡ done ts
      → Ahead s last (p + length ts) [] → Ahead s last p ts
  unfolding unpack_tickets handed_out
  ahead p [] room u a = subst (λ (k : ℕ). Ahead s last k []) {x = p + 0} {y = p} (omega arith) a
  ahead p (t ∷ ts) room u a =
      let e = both (unpack_ticket (take 13 (drop (13 * p) s))) (unpack_tickets (length ts) (drop 13 (drop (13 * p) s))) t ts u in
      let on : drop (13 * (p + 1)) s ≡ drop 13 (drop (13 * p) s) = ap (λ (k : ℕ). drop k s) {x = 13 * (p + 1)} {y = 13 * p + 13} (omega arith) ∙ sym (drop-drop 13 (13 * p) s) in (
        sym (unpacked s p true (sym sized) refl 13 (omega arith) refl (done t) (sym e.0)),
        ahead (p + 1) ts (omega arith) (ap (unpack_tickets (length ts)) on ∙ e.1)
            (subst (λ (k : ℕ). Ahead s last k []) {x = p + suc (length ts)} {y = p + 1 + length ts} (omega arith) a),
      )

-- bytes that are these tickets and no more
pub tickets-ahead : (s : List ℕ) (ts : List Ticket) → plain_tickets s ≡ done ts → Ahead s (done at_end) 0 ts
tickets-ahead s ts h =
    let sized = held_size s ts h in
    let count = held-count s ts h in
    ahead s (done at_end) sized 0 ts (omega (arith, count)) (ap (λ (n : ℕ). unpack_tickets n s) count ∙ held-unpack s ts h)
    (sym (no_more s (0 + length ts) true (sym sized) refl (omega (arith, count))))

-- what opening a tape wrote is its tickets
pub opened-tickets : (key : List ℕ) (head : Head) (ts : List Ticket) → length key ≡ key_length → head_rule head ≡ true → Valid ts → length ts ≤ ticket_limit
    → (out : List ℕ) → ticket_length * length ts ≤ length out → plain_tickets (take (ticket_length * length ts) (open_tape key (tape_of key head ts) out).out) ≡ done ts
unfolding written_over
opened-tickets key head ts k h v n out room =
    let left = (λ i. take (ticket_length * length ts) ((tapes_come_back key head ts k h v n).opens out room i).out) ∙ take_at (pack_tickets ts) _ _ (tickets-length ts) in
    ap plain_tickets left ∙ tickets-held ts v n

-- tickets that unpack, and then one that does not
record FirstBad (n : ℕ) (s : List ℕ) : Type 0 where
  before : List Ticket
  fewer : length before < n
  unpack : unpack_tickets (length before) s ≡ done before
  bad : is_refused (unpack_ticket (take 13 (drop (13 * length before) s))) ≡ true

first_bad : (n : ℕ) (s : List ℕ) (k : ℕ) → unpack_tickets n s ≡ refused k → FirstBad n s
unfolding unpack_tickets
first_bad zero s k e = let z : ◌≡◌ {A = ℕ} 0 1 = cc in absurd (omega arith)
first_bad (suc n) s k e = by (unpack_ticket (take 13 s)) (unpack_tickets n (drop 13 s)) refl (first_bad n (drop 13 s)) e
  where
    by : (r : Reply Ticket) (others : Reply (List Ticket)) → unpack_ticket (take 13 s) ≡ r → ((m : ℕ) → others ≡ refused m → FirstBad n (drop 13 s)) → ticket_then r others ≡ refused k
        → FirstBad (suc n) s
    by (refused m) others u rest h = record { before = []; fewer = omega arith; unpack = refl; bad = ap is_refused u }
    by (done t) (refused m) u rest h =
        let f = rest m refl in
        let i = length f.before in
        record {
          before = t ∷ f.before;
          fewer = omega (arith, f.fewer);
          unpack = ap₂ ticket_then u f.unpack;
          bad = ap (λ (l : List ℕ). is_refused (unpack_ticket (take 13 l))) (ap (λ (j : ℕ). drop j s) {x = 13 * suc i} {y = 13 + 13 * i} (omega arith) ∙ sym (drop-drop (13 * i) 13 s)) ∙ f.bad;
        }
    by (done t) (done ts) u rest h = let z : ◌≡◌ {A = ℕ} 0 1 = cc in absurd (omega arith)

number : (x : Reply Ticket) → is_refused x ≡ true → (n : ℕ) × (refused n ≡ x)
number (refused n) e = (n, refl)
number (done t) e = let z : ◌≡◌ {A = ℕ} 0 1 = cc in absurd (omega arith)

module _ (bytes : Bor (List ℕ)) where
  abbrev s : List ℕ
  s = bytes.now

  hands_out : (ts : List Ticket) (last : Reply Reading) → Ahead s last 0 ts → HandsOut bytes ts last
  unfolding reader_over
  hands_out ts last a answers e l =
      let d = as_defined bytes answers e l in
      let h = in-turn s last (length answers) 0 ts a in
      (d.0 ∙ h.0, d.1 ∙ h.1 ∙ ap (reader_at s) {x = 0 + length (take (length answers) ts)} {y = length (take (length answers) ts)} (omega arith))

  -- bytes of a right size that begin with these tickets
  begins : (ts : List Ticket) (last : Reply Reading) → is_tickets_length (length s) ≡ true → length ts ≤ length s / 13 → unpack_tickets (length ts) s ≡ done ts
      → read_next (reader_at s (length ts)) ≡ stays (reader_at s (length ts)) last → HandsOut bytes ts last
  begins ts last sized room u a =
      hands_out ts last (ahead s last sized 0 ts (omega arith) u (subst (λ (k : ℕ). Ahead s last k []) {x = length ts} {y = 0 + length ts} (omega arith) a))

  whole : (ts : List Ticket) → plain_tickets s ≡ done ts → HandsOut bytes ts (done at_end)
  whole ts h = hands_out ts (done at_end) (tickets-ahead s ts h)

  opened : (key tape out after : List ℕ) (n net : ℕ) → open_tape key tape out ≡ record { answer = done (record { tickets = n; net = net }); out = after } → s ≡ take (13 * n) after
      → (ts : List Ticket) × (length ts ≡ n) × (total_net ts ≡ net) × HandsOut bytes ts (done at_end)
  opened key tape out after n net e here =
      let k : Totals = record { tickets = n; net = net } in (
        tickets_on key tape,
        opened_many key tape out k after e,
        sym (net-is key tape out k after e),
        whole (tickets_on key tape) (ap plain_tickets here ∙ opened-held key tape out k after e),
      )

  bad-ticket : (ts : List Ticket) → is_tickets_length (length s) ≡ true → length ts < length s / 13 → unpack_tickets (length ts) s ≡ done ts
      → is_refused (unpack_ticket (take 13 (drop (13 * length ts) s))) ≡ true → HandsOut bytes ts (refused 8)
  bad-ticket ts sized here u bad =
      let x = number (unpack_ticket (take 13 (drop (13 * length ts) s))) bad in
      begins ts (refused 8) sized (omega arith) u (sym (not_unpacked s (length ts) true (sym sized) refl 13 here refl x.0 x.1))

  last_byte-C1 : s ≡ pack_ticket good_ticket ++ last_byte_c1 → HandsOut bytes (good_ticket ∷ []) (refused 8)
  unfolding is_tickets_length unpack_tickets unpack_ticket unless_refused pack_ticket values_rule ordered
  last_byte-C1 e =
      let n : length s ≡ 26 = ap length e in
      bad-ticket (good_ticket ∷ []) (ap (λ (l : List ℕ). is_tickets_length (length l)) e) (omega arith) (ap (unpack_tickets 1) e)
      (ap (λ (l : List ℕ). is_refused (unpack_ticket (take 13 (drop 13 l)))) e)

  too_short : s ≡ string 12 → HandsOut bytes [] (refused 2)
  unfolding is_tickets_length
  too_short e = hands_out [] (refused 2) (sym (wrong_size s 0 false (sym (ap (λ (l : List ℕ). is_tickets_length (length l)) e)) refl))

  laws : ReadingLaws bytes
  laws =
      record {
        callable = callable bytes;
        same = same bytes;
        as_defined = as_defined bytes;
        whole = whole;
        tape = λ key head ts k h v n out after o room opened e.
            whole ts (ap plain_tickets (e ∙ (λ i. take (ticket_length * length ts) (sym opened i).out)) ∙ opened-tickets key head ts k h v n out room);
        opened = opened;
        wrong_size = λ wrong. hands_out [] (refused 2) (sym (wrong_size s 0 false (sym (only_2 s wrong)) refl));
        bad-ticket = bad-ticket;
        stops = λ h.
            let sized = refused_size s 8 h (λ e. omega arith) in
            let f = first_bad (length s / 13) s 8 (sym (sized_hold s sized) ∙ h) in
            (f.before, bad-ticket f.before sized f.fewer f.unpack f.bad);
        last_byte-C1 = last_byte-C1;
        too_short = too_short;
      }

pub reading_laws : (bytes : Bor (List ℕ)) → ReadingLaws bytes
reading_laws = laws
