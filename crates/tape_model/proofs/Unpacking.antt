-- The tickets in plain bytes, one by one.
use mathlib.Core.Path.{◌≡◌, refl, sym, ap, subst, ◌∙◌}
use mathlib.Core.Bool.{Bool, true, false, not}
use mathlib.Core.List.{List, ◌∷◌}
use Prim.Native.Nat.{ℕ, zero, suc, ◌+◌, ◌*◌, ◌/◌, ◌%◌, ◌≤◌, ◌<◌}
use native.Mathlib.Omega.{arith}
use lib.Dec.{eqb, leb}
use lib.ListN.{length, get_or, take, drop, length-drop}
use lib.Seq.{drop-drop, length-take-le}
use borrow.Author.Tests.{eq-eqb, eqb-true, leb-true}
use Rattle.std.proofs.lemmas.Bool.{and_parts}
use Rattle.calls.specs.Calls.{◌if◌else◌, Reply, refused, done, accepted, unless_refused, reply_of, is_refused}
use Rattle.tape_model.specs.declared.Ticket.{Ticket}
use Rattle.tape_model.specs.Ticket.{ticket_length, ticket_of, Rule, rule_in_force, ticket_values_under, unpack_ticket_under, unpack_ticket}
use Rattle.tape_model.specs.Tape.{ticket_limit, is_tickets_length, ticket_then, unpack_tickets_by, unpack_tickets, plain_tickets, tickets_in}

-- where tickets unpack, the first does and the others do
pub taken-apart : (P : List Ticket → Type 0) (r : Reply Ticket) (others : Reply (List Ticket)) (ts : List Ticket) → ticket_then r others ≡ done ts
    → ((t : Ticket) (us : List Ticket) → r ≡ done t → others ≡ done us → P (t ∷ us)) → P ts
taken-apart P (refused n) others ts e k = let z : ◌≡◌ {A = ℕ} 0 1 = cc in absurd (omega arith)
taken-apart P (done t) (refused n) ts e k = let z : ◌≡◌ {A = ℕ} 0 1 = cc in absurd (omega arith)
taken-apart P (done t) (done us) ts e k = subst P (ap tickets_in e) (k t us refl refl)

pub unpacked_count : (n : ℕ) (s : List ℕ) (ts : List Ticket) → unpack_tickets n s ≡ done ts → length ts ≡ n
unfolding unpack_tickets
unpacked_count zero s ts e = sym (ap (λ (r : Reply (List Ticket)). length (tickets_in r)) e)
unpacked_count (suc n) s ts e =
    taken-apart (λ l. length l ≡ suc n) (unpack_ticket (take 13 s)) (unpack_tickets n (drop 13 s)) ts e
    (λ t us f g. ap suc (unpacked_count n (drop 13 s) us g))

-- ## Under any rule

module _ (rule : Rule) where
  abbrev one : List ℕ → Reply Ticket
  one = unpack_ticket_under rule

  -- the ticket at i; the default does not count
  pub at_under : (n i : ℕ) (s : List ℕ) (ts : List Ticket) (t₀ : Ticket) → i < n → unpack_tickets_by one n s ≡ done ts → one (take 13 (drop (13 * i) s)) ≡ done (get_or ts i t₀)
  at_under zero i s ts t₀ h e = absurd (omega arith)
  at_under (suc n) zero s ts t₀ h e =
      taken-apart (λ l. one (take 13 s) ≡ done (get_or l 0 t₀)) (one (take 13 s)) (unpack_tickets_by one n (drop 13 s)) ts e (λ t us f g. f)
  at_under (suc n) (suc i) s ts t₀ h e =
      taken-apart (λ l. one (take 13 (drop (13 * suc i) s)) ≡ done (get_or l (suc i) t₀)) (one (take 13 s)) (unpack_tickets_by one n (drop 13 s)) ts e
      (λ t us f g. ap (λ (l : List ℕ). one (take 13 l)) (ap (λ (k : ℕ). drop k s) {x = 13 * suc i} {y = 13 + 13 * i} (omega arith) ∙ sym (drop-drop (13 * i) 13 s)) ∙ at_under n i (drop 13 s) us t₀ (omega arith) g)

  -- 13 bytes are refused for their values alone
  pub by_8_under : (s : List ℕ) (n : ℕ) → length s ≡ 13 → refused n ≡ one s → n ≡ 8
  unfolding unless_refused
  by_8_under s n e r = by (ticket_of (ticket_values_under rule s)) (rule.allows (ticket_values_under rule s)) (rw (eq-eqb (length s) 13 e) at r)
    where
      by : (t : Ticket) (b : Bool) → refused n ≡ reply_of (8 if not b else accepted) t → n ≡ 8
      by t true h = let z : ◌≡◌ {A = ℕ} 0 1 = cc in absurd (omega arith)
      by t false h = cc

  -- and so are the bytes of n tickets
  pub tickets-by_8 : (n : ℕ) (s : List ℕ) (k : ℕ) → 13 * n ≤ length s → unpack_tickets_by one n s ≡ refused k → k ≡ 8
  tickets-by_8 zero s k long e = let z : ◌≡◌ {A = ℕ} 0 1 = cc in absurd (omega arith)
  tickets-by_8 (suc n) s k long e = by (one (take 13 s)) (unpack_tickets_by one n (drop 13 s)) refl (λ m. tickets-by_8 n (drop 13 s) m (omega (arith, length-drop 13 s))) e
    where
      by : (r : Reply Ticket) (others : Reply (List Ticket)) → r ≡ one (take 13 s) → ((m : ℕ) → others ≡ refused m → m ≡ 8) → ticket_then r others ≡ refused k → k ≡ 8
      by (refused m) others u v h = let same : m ≡ k = cc in sym same ∙ by_8_under (take 13 s) m (length-take-le 13 s (omega arith)) u
      by (done t) (refused m) u v h = let same : m ≡ k = cc in sym same ∙ v m refl
      by (done t) (done ts) u v h = let z : ◌≡◌ {A = ℕ} 0 1 = cc in absurd (omega arith)

-- under the one in force
pub unpacked_at : (n i : ℕ) (s : List ℕ) (ts : List Ticket) (t₀ : Ticket) → i < n → unpack_tickets n s ≡ done ts → unpack_ticket (take 13 (drop (13 * i) s)) ≡ done (get_or ts i t₀)
unfolding unpack_tickets unpack_ticket
unpacked_at = at_under rule_in_force

pub refused_by_8 : (s : List ℕ) (n : ℕ) → length s ≡ 13 → refused n ≡ unpack_ticket s → n ≡ 8
unfolding unpack_ticket
refused_by_8 = by_8_under rule_in_force

-- ## What opened bytes hold

module _ (s : List ℕ) where
  abbrev inside : Reply (List Ticket)
  inside = unpack_tickets (length s / ticket_length) s

  -- bytes of a right size hold what unpacks
  pub sized_hold : is_tickets_length (length s) ≡ true → plain_tickets s ≡ inside
  unfolding plain_tickets
  sized_hold h = rw h

  pub wrong_hold : is_tickets_length (length s) ≡ false → plain_tickets s ≡ refused 2
  unfolding plain_tickets
  wrong_hold h = rw h

  -- which size they are of, by what they hold
  by_size : (P : Type 0) → (is_tickets_length (length s) ≡ true → P) → (is_tickets_length (length s) ≡ false → P) → P
  by_size P right wrong = by (is_tickets_length (length s)) refl
    where
      by : (b : Bool) → is_tickets_length (length s) ≡ b → P
      by true e = right e
      by false e = wrong e

  pub held_size : (ts : List Ticket) → plain_tickets s ≡ done ts → is_tickets_length (length s) ≡ true
  held_size ts e =
      by_size (is_tickets_length (length s) ≡ true) (λ h. h)
      (λ h. let f : refused 2 ≡ done ts = sym (wrong_hold h) ∙ e in let z : ◌≡◌ {A = ℕ} 0 1 = cc in absurd (omega arith))

  pub held-unpack : (ts : List Ticket) → plain_tickets s ≡ done ts → inside ≡ done ts
  held-unpack ts e = sym (sized_hold (held_size ts e)) ∙ e

  pub held-count : (ts : List Ticket) → plain_tickets s ≡ done ts → length ts ≡ length s / ticket_length
  held-count ts e = unpacked_count (length s / ticket_length) s ts (held-unpack ts e)

  pub held_few : (ts : List Ticket) → plain_tickets s ≡ done ts → (length s ≡ ticket_length * length ts) × (length ts ≤ ticket_limit)
  unfolding is_tickets_length
  held_few ts e =
      let p = and_parts (eqb (length s % ticket_length) 0) (leb (length s / ticket_length) ticket_limit) (held_size ts e) in
      let c = held-count ts e in
      (omega (arith, c, eqb-true (length s % ticket_length) 0 p.0), omega (arith, c, leb-true (length s / ticket_length) ticket_limit p.1))

  pub only_8 : (n : ℕ) → plain_tickets s ≡ refused n → is_tickets_length (length s) ≡ true → n ≡ 8
  unfolding unpack_tickets unpack_ticket
  only_8 n e h = tickets-by_8 rule_in_force (length s / ticket_length) s n (omega arith) (sym (sized_hold h) ∙ e)

  -- another number than 2 is for bytes of a right size
  pub refused_size : (n : ℕ) → plain_tickets s ≡ refused n → (n ≡ 2 → ⊥) → is_tickets_length (length s) ≡ true
  refused_size n e other = by_size (is_tickets_length (length s) ≡ true) (λ h. h) (λ h. let f : refused 2 ≡ refused n = sym (wrong_hold h) ∙ e in absurd (other cc))

  pub only_2 : plain_tickets s ≡ refused 2 → is_tickets_length (length s) ≡ false
  only_2 e = by_size (is_tickets_length (length s) ≡ false) (λ h. let z : ◌≡◌ {A = ℕ} 2 8 = only_8 2 e h in absurd (omega arith)) (λ h. h)

pub told : (r : Reply (List Ticket)) → is_refused r ≡ false → r ≡ done (tickets_in r)
told (refused n) h = let z : ◌≡◌ {A = ℕ} 0 1 = cc in absurd (omega arith)
told (done ts) h = refl
