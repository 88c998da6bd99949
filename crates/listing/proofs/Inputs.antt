-- The input of the listing program: where its key ends, and that one byte more than the longest is enough.
use mathlib.Core.Path.{◌≡◌, refl, sym, ap, ap₂, ◌∙◌}
use mathlib.Core.Bool.{Bool, true, false, not, ◌&&◌}
use mathlib.Core.Logic.{⊎_elim}
use mathlib.Core.List.{List, ◌++◌}
use Prim.Native.Nat.{ℕ, ◌+◌, ◌-◌, ◌*◌, ◌/◌, ◌%◌, ◌≤◌, ◌<◌}
use native.Mathlib.Omega.{arith}
use lib.Dec.{eqb, leb}
use lib.ListN.{length, take, drop, replicate, length-take, length-drop, drop_of_length-le}
use lib.Seq.{take_all, take-length, drop-length}
use borrow.Author.Tests.{lt-leb, ne_eqb}
use Rattle.calls.specs.Calls.{◌if◌else◌, done, as_reply, written_over}
use Rattle.std.specs.Prelude as std
use Rattle.std.specs.Result.{result_unwrap_or}
use Rattle.calls.specs.declared.Refusal.{Refusal}
use Rattle.acorn_model.specs.Machine.{key_length}
use Rattle.calls.proofs.Choices.{lt_or_ge}
use Rattle.tape_model.specs.Ticket.{ticket_length}
use Rattle.tape_model.specs.Tape.{ticket_limit, is_tickets_length, empty_tape_length, is_tape_length, tape_of, open_tape_refusal}
use Rattle.tape_model.specs.Listing.{refused_line, listing_unless, listing, printed}
use Rattle.tape_model.proofs.Tapes.{tapes_come_back}
use Rattle.listing.specs.Clauses.{Wrote, Listed, text_room}
use Rattle.listing.specs.Laws.{longest_input, ListingFacts}
use Rattle.listing.proofs.Texts.{listed-told, listed-wrote}
use Rattle.listing.proofs.Longest.{longest}

-- ## Where the key ends

module _ (s : List ℕ) (r k : ℕ) (few : length s ≤ k → r ≡ length s) (many : k ≤ length s → r ≡ k) where
  pub same_front : take r s ≡ take k s
  same_front =
      ⊎_elim (λ (p : length s < k). ap (λ (n : ℕ). take n s) (few (omega arith)) ∙ take-length s ∙ sym (take_all k s (omega arith))) (λ (p : k ≤ length s). ap (λ (n : ℕ). take n s) (many p))
      (lt_or_ge (length s) k)

  pub same_rest : drop r s ≡ drop k s
  same_rest =
      ⊎_elim (λ (p : length s < k). ap (λ (n : ℕ). drop n s) (few (omega arith)) ∙ drop-length s ∙ sym (drop_of_length-le s {i = k} (omega arith))) (λ (p : k ≤ length s). ap (λ (n : ℕ). drop n s) (many p))
      (lt_or_ge (length s) k)

  pub input-printed : listing (take r s) (drop r s) ≡ listing (take k s) (drop k s)
  input-printed = ap₂ listing same_front same_rest

-- ## Inputs that are too long

too_many : (n : ℕ) → ticket_length * ticket_limit < n → is_tickets_length n ≡ false
unfolding is_tickets_length
too_many n h =
    ⊎_elim (λ (p : ticket_limit < n / ticket_length). ap (λ (b : Bool). eqb (n % ticket_length) 0 && b) (lt-leb (n / ticket_length) ticket_limit p) ∙ none (eqb (n % ticket_length) 0))
    (λ (p : n / ticket_length ≤ ticket_limit). ap (λ (b : Bool). b && leb (n / ticket_length) ticket_limit) (ne_eqb (n % ticket_length) 0 (λ e. omega arith)))
    (lt_or_ge ticket_limit (n / ticket_length))
  where
    none : (b : Bool) → (b && false) ≡ false
    none true = refl
    none false = refl

pub long_number : (key tape out : List ℕ) → empty_tape_length + ticket_length * ticket_limit < length tape → open_tape_refusal key tape out ≡ 2
unfolding open_tape_refusal is_tape_length
long_number key tape out h =
    by (eqb (length key) key_length) (leb empty_tape_length (length tape)) (is_tickets_length (length tape - empty_tape_length)) _ (too_many (length tape - empty_tape_length) (omega arith))
  where
    by : (a b c : Bool) (n : ℕ) → c ≡ false → (2 if not (a && (b && c)) else n) ≡ 2
    by true true c n e = rw e
    by true false c n e = refl
    by false b c n e = refl

long_refused : (key tape : List ℕ) → empty_tape_length + ticket_length * ticket_limit < length tape → listing key tape ≡ refused_line 2
unfolding listing listing_unless
long_refused key tape h = ap (λ (n : ℕ). listing_unless n key tape) (long_number key tape (replicate (length tape) 0) h)

too_long : (input : List ℕ) → longest_input < length input → printed input ≡ refused_line 2
unfolding printed
too_long input h = long_refused (take key_length input) (drop key_length input) (omega (arith, length-drop key_length input))

pub printed-length : (input : List ℕ) → length (printed input) ≤ text_room
unfolding printed
printed-length input = longest (take key_length input) (drop key_length input)

-- ## What a call comes to that is lent room enough

pub input-listed : (input out : List ℕ) (answer : std.Result ℕ Refusal) (after : List ℕ) → text_room ≤ length out → Listed (printed input) out answer after
    → (as_reply answer ≡ done (length (printed input))) × (after ≡ written_over (printed input) out)
input-listed input out answer after room met = listed-told (printed input) out answer after (omega (arith, printed-length input)) met

pub input-wrote : (input out : List ℕ) (answer : std.Result ℕ Refusal) (after : List ℕ) → text_room ≤ length out → Listed (printed input) out answer after
    → Wrote (printed input) out (result_unwrap_or answer 0) after
input-wrote input out answer after room met = listed-wrote (printed input) out answer after (omega (arith, printed-length input)) met

pub listing_facts : ListingFacts
listing_facts =
    record {
      longest = longest;
      input-listed = input-listed;
      tapes = λ key head tickets k h v few out answer after room met.
          (input-listed (key ++ tape_of key head tickets) out answer after room met).1
          ∙ ap (λ (text : List ℕ). written_over text out) (tapes_come_back key head tickets k h v few).lists;
      too_long = too_long;
      read_enough = λ input n long within. too_long (take n input) (omega (arith, length-take n input)) ∙ sym (too_long input (omega arith));
    }
