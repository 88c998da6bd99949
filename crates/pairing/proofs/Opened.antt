-- Opened tapes: which number refuses them, and what is paired where none does.
use mathlib.Core.Path.{◌≡◌, refl, sym, ap, ap₂, subst, ◌∙◌}
use mathlib.Core.Bool.{Bool, true, false, ◌&&◌, ◌||◌, true≢false}
use mathlib.Core.List.{List}
use mathlib.Core.Logic.{◌↔◌, ◌⊎◌, inl, inr}
use Prim.Native.Nat.{ℕ, ◌≤◌}
use native.Mathlib.Omega.{arith}
use lib.Dec.{leb}
use lib.ListN.{length}
use borrow.Author.Tests.{leb-true, leb-false}
use Rattle.calls.specs.Calls.{◌if◌else◌, is_refused, Reply, refused, done, map_replies}
use Rattle.tape_model.specs.declared.Ticket.{Ticket}
use Rattle.tape_model.specs.Tape.{ticket_limit, pack_tickets, is_tickets_length, plain_tickets}
use Rattle.tape_model.specs.Laws.{Valid}
use Rattle.tape_model.proofs.Unpacking.{wrong_hold, only_8}
use Rattle.tape_model.proofs.Plain.{plain-laws}
use Rattle.pairing.specs.Pairing.{Pair, KeepsRules, Paired, paired, times_fall, unless_falling, tickets_to_pair, plain_paired}
use Rattle.pairing.specs.Laws.{PlainPairedLaws}
use Rattle.pairing.proofs.Rules.{none_has_more}
use Rattle.pairing.proofs.Exchanged.{exchanged as as-many-exchanged}

-- ## One tape

-- what its tickets are with the order of times and without, and whether its length is right
data Opened : Reply (List Ticket) → Reply (List Ticket) → Bool → Type 0 where
  wrong : Opened (refused 2) (refused 2) false
  bad : Opened (refused 8) (refused 8) true
  fallen : {ts : List Ticket} → times_fall ts ≡ true → Opened (refused 12) (done ts) true
  good : {ts : List Ticket} → times_fall ts ≡ false → Opened (done ts) (done ts) true

opened : (plain : List ℕ) → Opened (tickets_to_pair plain) (plain_tickets plain) (is_tickets_length (length plain))
unfolding tickets_to_pair
opened plain = by (is_tickets_length (length plain)) (plain_tickets plain) refl refl
  where
    in_order : (ts : List Ticket) (b : Bool) → times_fall ts ≡ b → Opened (refused 12 if b else done ts) (done ts) true
    in_order ts true e = fallen e
    in_order ts false e = good e

    by : (b : Bool) (r : Reply (List Ticket)) → is_tickets_length (length plain) ≡ b → plain_tickets plain ≡ r → Opened (unless_falling r) r b
    by false r h e = subst (λ (x : Reply (List Ticket)). Opened (unless_falling x) x false) (sym (wrong_hold plain h) ∙ e) wrong
    by true (refused n) h e = subst (λ (m : ℕ). Opened (refused m) (refused m) true) (sym (only_8 plain n e h)) bad
    by true (done ts) h e = in_order ts (times_fall ts) refl

-- ## Two tapes

-- the four ways of a reply, by the tickets of the tapes and by whether both lengths are right
data Replied (x : Reply Paired) (p q : Reply (List Ticket)) (lengths : Bool) : Type 0 where
  by_two : x ≡ refused 2 → lengths ≡ false → (is_refused p || is_refused q) ≡ true → Replied x p q lengths
  by-eight : x ≡ refused 8 → lengths ≡ true → (is_refused p || is_refused q) ≡ true → Replied x p q lengths
  by_twelve : x ≡ refused 12 → lengths ≡ true → (ts us : List Ticket) → p ≡ done ts → q ≡ done us → (times_fall ts || times_fall us) ≡ true → Replied x p q lengths
  answer : (ts us : List Ticket) → x ≡ done (paired ts us) → lengths ≡ true → p ≡ done ts → q ≡ done us → times_fall ts ≡ false → times_fall us ≡ false
      → Replied x p q lengths

replied : {r p s q : Reply (List Ticket)} {b c : Bool} → Opened r p b → Opened s q c → Replied (map_replies paired r s) p q (b && c)
unfolding map_replies
replied wrong wrong = by_two refl refl refl
replied wrong bad = by_two refl refl refl
replied wrong (fallen h) = by_two refl refl refl
replied wrong (good h) = by_two refl refl refl
replied bad wrong = by_two refl refl refl
replied bad bad = by-eight refl refl refl
replied bad (fallen h) = by-eight refl refl refl
replied bad (good h) = by-eight refl refl refl
replied (fallen h) wrong = by_two refl refl refl
replied (fallen h) bad = by-eight refl refl refl
replied (fallen {ts = ts} h) (fallen {ts = us} g) = by_twelve refl refl ts us refl refl (rw h)
replied (fallen {ts = ts} h) (good {ts = us} g) = by_twelve refl refl ts us refl refl (rw h)
replied (good h) wrong = by_two refl refl refl
replied (good h) bad = by-eight refl refl refl
replied (good {ts = ts} h) (fallen {ts = us} g) = by_twelve refl refl ts us refl refl (rw (h, g))
replied (good {ts = ts} h) (good {ts = us} g) = answer ts us refl refl refl refl h g

reply : (first second : List ℕ)
    → Replied (plain_paired first second) (plain_tickets first) (plain_tickets second) (is_tickets_length (length first) && is_tickets_length (length second))
unfolding plain_paired
reply first second = replied (opened first) (opened second)

-- ## The laws

-- of two refusals the smaller number, either of them first
smaller : (n m : ℕ) → (n if leb n m else m) ≡ (m if leb m n else n)
smaller n m = by (leb n m) (leb m n) refl refl
  where
    by : (b c : Bool) → leb n m ≡ b → leb m n ≡ c → (n if b else m) ≡ (m if c else n)
    by true true e f = omega (arith, leb-true n m e, leb-true m n f)
    by true false e f = refl
    by false true e f = refl
    by false false e f = omega (arith, leb-false n m e, leb-false m n f)

turned : {A B C D : Type 0} (f : A → B → C) (g : B → A → D) (r : Reply A) (s : Reply B) (n : ℕ) → map_replies f r s ≡ refused n → map_replies g s r ≡ refused n
unfolding map_replies
turned f g (refused i) (refused j) n e = let same : (i if leb i j else j) ≡ n = cc in ap refused (smaller j i ∙ same)
turned f g (refused i) (done b) n e = let same : i ≡ n = cc in ap refused same
turned f g (done a) (refused j) n e = let same : j ≡ n = cc in ap refused same
turned f g (done a) (done b) n e = let z : ◌≡◌ {A = ℕ} 0 1 = cc in absurd (omega arith)

ordered : (plain : List ℕ) (ts : List Ticket) → plain_tickets plain ≡ done ts → times_fall ts ≡ false → tickets_to_pair plain ≡ done ts
unfolding tickets_to_pair
ordered plain ts e h = rw (e, h)

pub answered : (first second : List ℕ) (ts us : List Ticket) → plain_tickets first ≡ done ts → plain_tickets second ≡ done us → times_fall ts ≡ false → times_fall us ≡ false
    → plain_paired first second ≡ done (paired ts us)
unfolding plain_paired map_replies
answered first second ts us e f h g = ap₂ (map_replies paired) (ordered first ts e h) (ordered second us f g)

both-held : {p q : Reply (List Ticket)} {ts us : List Ticket} → p ≡ done ts → q ≡ done us → (is_refused p || is_refused q) ≡ false
both-held e f = rw (e, f)

same_number : {x : Reply Paired} {n m : ℕ} → x ≡ refused n → x ≡ refused m → n ≡ m
same_number e f = cc

not-both : {x : Reply Paired} {found : Paired} {n : ℕ} → x ≡ done found → x ≡ refused n → ⊥
not-both e f = let z : ◌≡◌ {A = ℕ} 0 1 = cc in omega arith

module _ {x : Reply Paired} {p q : Reply (List Ticket)} {lengths : Bool} where
  told_two : Replied x p q lengths → (x ≡ refused 2) ↔ (lengths ≡ false)
  told_two (by_two e h r) = (λ f. h, λ f. e)
  told_two (by-eight e h r) = (λ f. absurd (omega (arith, same_number e f)), λ f. absurd (true≢false (sym h ∙ f)))
  told_two (by_twelve e h ts us f g r) = (λ f. absurd (omega (arith, same_number e f)), λ f. absurd (true≢false (sym h ∙ f)))
  told_two (answer ts us e h f g r s) = (λ f. absurd (not-both e f), λ f. absurd (true≢false (sym h ∙ f)))

  told-eight : Replied x p q lengths → (x ≡ refused 8) ↔ ((lengths ≡ true) × ((is_refused p || is_refused q) ≡ true))
  told-eight (by_two e h r) = (λ f. absurd (omega (arith, same_number e f)), λ f. absurd (true≢false (sym f.0 ∙ h)))
  told-eight (by-eight e h r) = (λ f. (h, r), λ f. e)
  told-eight (by_twelve e h ts us f g r) = (λ k. absurd (omega (arith, same_number e k)), λ k. absurd (true≢false (sym k.1 ∙ both-held f g)))
  told-eight (answer ts us e h f g r s) = (λ k. absurd (not-both e k), λ k. absurd (true≢false (sym k.1 ∙ both-held f g)))

  told_twelve : Replied x p q lengths
      → (x ≡ refused 12) ↔ ((ts : List Ticket) × (us : List Ticket) × (p ≡ done ts) × (q ≡ done us) × ((times_fall ts || times_fall us) ≡ true))
  told_twelve (by_two e h r) = (λ f. absurd (omega (arith, same_number e f)), λ k. absurd (true≢false (sym r ∙ both-held k.2 k.3)))
  told_twelve (by-eight e h r) = (λ f. absurd (omega (arith, same_number e f)), λ k. absurd (true≢false (sym r ∙ both-held k.2 k.3)))
  told_twelve (by_twelve e h ts us f g r) = (λ k. (ts, us, f, g, r), λ k. e)
  told_twelve (answer ts us e h f g r s) = (
    λ k. absurd (not-both e k),
    λ k.
        let one : k.0 ≡ ts = cc k.2 in
        let other : k.1 ≡ us = cc k.3 in
        absurd (true≢false (sym k.4 ∙ ap₂ (λ (a b : Bool). a || b) (ap times_fall one ∙ r) (ap times_fall other ∙ s))),
  )

  told-number : Replied x p q lengths → (n : ℕ) → x ≡ refused n → (n ≡ 2) ⊎ ((n ≡ 8) ⊎ (n ≡ 12))
  told-number (by_two e h r) n f = inl (same_number f e)
  told-number (by-eight e h r) n f = inr (inl (same_number f e))
  told-number (by_twelve e h ts us g k r) n f = inr (inr (same_number f e))
  told-number (answer ts us e h g k r s) n f = absurd (not-both e f)

  told-done : Replied x p q lengths → (found : Paired) → x ≡ done found
      → (ts : List Ticket) × (us : List Ticket) × (p ≡ done ts) × (q ≡ done us) × (times_fall ts ≡ false) × (times_fall us ≡ false) × (found ≡ paired ts us)
  told-done (by_two e h r) found f = absurd (not-both f e)
  told-done (by-eight e h r) found f = absurd (not-both f e)
  told-done (by_twelve e h ts us g k r) found f = absurd (not-both f e)
  told-done (answer ts us e h g k r s) found f = (ts, us, g, k, r, s, cc)

pub only-numbers : (first second : List ℕ) (n : ℕ) → plain_paired first second ≡ refused n → (n ≡ 2) ⊎ ((n ≡ 8) ⊎ (n ≡ 12))
only-numbers first second = told-number (reply first second)

exchanged_refused : (first second : List ℕ) (n : ℕ) → plain_paired first second ≡ refused n → plain_paired second first ≡ refused n
unfolding plain_paired
exchanged_refused first second = turned paired paired (tickets_to_pair first) (tickets_to_pair second)

exchanged : (first second : List ℕ) (found : Paired) → plain_paired first second ≡ done found
    → (other : Paired) × (plain_paired second first ≡ done other) × (length other.pairs ≡ length found.pairs)
exchanged first second found e =
    let h = told-done (reply first second) found e in
    let many = as-many-exchanged h.0 h.1 h.4 h.5 ∙ ap (λ (x : Paired). length x.pairs) (sym h.6) in
    (paired h.1 h.0, answered second first h.1 h.0 h.3 h.2 h.5 h.4, many)

none_has_more_answered : (first second : List ℕ) (found : Paired) → plain_paired first second ≡ done found → (ts us : List Ticket) → plain_tickets first ≡ done ts
    → plain_tickets second ≡ done us → (pairs : List Pair) → KeepsRules ts us pairs → length pairs ≤ length found.pairs
none_has_more_answered first second found e ts us f g pairs k =
    let h = told-done (reply first second) found e in
    let one : h.0 ≡ ts = cc h.2 in
    let other : h.1 ≡ us = cc h.3 in
    let is : found ≡ paired ts us = h.6 ∙ ap₂ paired one other in
    rw is (none_has_more ts us (ap times_fall (sym one) ∙ h.4) (ap times_fall (sym other) ∙ h.5) pairs k)

pub opened-laws : (first second : List ℕ) → PlainPairedLaws first second
opened-laws first second =
    let r = reply first second in
    record {
      answered = answered first second;
      held = told-done r;
      two = told_two r;
      eight = told-eight r;
      twelve = told_twelve r;
      no_other = only-numbers first second;
      none_has_more = none_has_more_answered first second;
      exchanged_refused = exchanged_refused first second;
      exchanged = exchanged first second;
    }

pub packed : (ts us : List Ticket) → Valid ts → Valid us → length ts ≤ ticket_limit → length us ≤ ticket_limit → times_fall ts ≡ false → times_fall us ≡ false
    → plain_paired (pack_tickets ts) (pack_tickets us) ≡ done (paired ts us)
packed ts us v w n m = answered (pack_tickets ts) (pack_tickets us) ts us (plain-laws.packed ts v n) (plain-laws.packed us w m)
