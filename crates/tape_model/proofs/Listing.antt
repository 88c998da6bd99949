-- The listing's numbers are decimal digits that read back as the number, and document 01's example comes out.
use mathlib.Core.Path.{◌≡◌, refl, sym, ap, ap₂, ◌∙◌}
use mathlib.Core.Bool.{Bool, true, false, not, ◌&&◌}
use mathlib.Core.List.{List, [], ◌∷◌, ◌++◌, append_assoc}
use Prim.Native.Nat.{ℕ, zero, suc, ◌+◌, ◌-◌, ◌*◌, ◌/◌, ◌%◌, ◌^◌, ◌≤◌, ◌<◌}
use native.Mathlib.Nat.{pow-suc}
use native.Mathlib.Omega.{arith}
use lib.Dec.{ltb, eqb}
use lib.ListN.{length, get_or, take, drop, length-append, length-take}
use borrow.Author.Tests.{ltb-true, ltb-false, lt-ltb, le-ltb, ne_eqb}
use Rattle.calls.specs.Calls.{◌if◌else◌}
use Rattle.tape_model.specs.declared.Ticket.{Ticket}
use Rattle.tape_model.specs.Ticket.{net}
use Rattle.acorn_model.specs.Machine.{key_length}
use Rattle.tape_model.specs.Tape.{is_tickets_length, total_net, is_tape_length, open_tape_refusal}
use Rattle.tape_model.specs.Listing.{decimal_below, decimal, numbers, head_line, ticket_line, ticket_lines, line_of_totals, total_line, refused_line, listed, listing_unless, listing, printed}
use Rattle.tape_model.specs.Laws.{value_after, ListingLaws}
use Rattle.tape_model.proofs.Tickets.{ticket_laws}

-- what holds of one digit, and of more, holds of a number's digits
by_digits : (P : List ℕ → Type 0) (k n : ℕ) → (n < 10 → P ((0x30 + n) ∷ [])) → (10 ≤ n → P (decimal_below k (n / 10) ++ ((0x30 + n % 10) ∷ []))) → P (decimal_below (suc k) n)
unfolding decimal_below
by_digits P k n one more = chosen (ltb n 10) (λ e. one (ltb-true n 10 e)) (λ e. more (ltb-false n 10 e))
  where
    chosen : (t : Bool) → (t ≡ true → P ((0x30 + n) ∷ [])) → (t ≡ false → P (decimal_below k (n / 10) ++ ((0x30 + n % 10) ∷ [])))
        → P (((0x30 + n) ∷ []) if t else (decimal_below k (n / 10) ++ ((0x30 + n % 10) ∷ [])))
    chosen true a b = a refl
    chosen false a b = b refl

-- ## Digit by digit

one_digit_alone : (k n : ℕ) → n < 10 → decimal_below (suc k) n ≡ (0x30 + n) ∷ []
unfolding decimal_below
one_digit_alone k n h = rw (lt-ltb n 10 h)

more_digits : (k n : ℕ) → 10 ≤ n → decimal_below (suc k) n ≡ decimal_below k (n / 10) ++ ((0x30 + n % 10) ∷ [])
unfolding decimal_below
more_digits k n h = rw (le-ltb n 10 h)

-- room for a digit more changes nothing
more_room : (k n : ℕ) → n < 10 ^ suc k → decimal_below (suc (suc k)) n ≡ decimal_below (suc k) n
more_room zero n h = one_digit_alone 1 n (omega (arith, pow-suc 10 0)) ∙ sym (one_digit_alone 0 n (omega (arith, pow-suc 10 0)))
more_room (suc k) n h =
    by_digits (λ ds. decimal_below (suc (suc (suc k))) n ≡ ds) (suc k) n (one_digit_alone (suc (suc k)) n)
    (λ l. more_digits (suc (suc k)) n l ∙ ap (λ (ds : List ℕ). ds ++ ((0x30 + n % 10) ∷ [])) (more_room k (n / 10) (omega (arith, pow-suc 10 (suc k)))))

pub decimal-one : (n : ℕ) → n < 10 → decimal n ≡ (0x30 + n) ∷ []
decimal-one = one_digit_alone 19

pub decimal_more : (n : ℕ) → 10 ≤ n → n < 10 ^ 20 → decimal n ≡ decimal (n / 10) ++ ((0x30 + n % 10) ∷ [])
decimal_more n l h = more_digits 19 n l ∙ ap (λ (ds : List ℕ). ds ++ ((0x30 + n % 10) ∷ [])) (sym (more_room 18 (n / 10) (omega (arith, pow-suc 10 19))))

-- a number below 10 ^ k has at most k digits
few_digits : (k room n : ℕ) → n < 10 ^ suc k → length (decimal_below room n) ≤ suc k
few_digits k zero n h = unfold decimal_below in omega arith
few_digits zero (suc room) n h = rw (one_digit_alone room n (omega (arith, pow-suc 10 0))) (omega arith)
few_digits (suc k) (suc room) n h =
    by_digits (λ ds. length ds ≤ suc (suc k)) room n (λ l. omega arith)
    (λ l. omega (arith, length-append (decimal_below room (n / 10)) ((0x30 + n % 10) ∷ []), few_digits k room (n / 10) (omega (arith, pow-suc 10 (suc k)))))

pub decimal-length : (k n : ℕ) → n < 10 ^ suc k → length (decimal n) ≤ suc k
decimal-length k = few_digits k 20

-- ## Digits

abbrev IsDigit : ℕ → Type 0
IsDigit d = (0x30 ≤ d) × (d ≤ 0x39)

abbrev AllDigits : List ℕ → Type 0
AllDigits ds = (i : ℕ) → i < length ds → IsDigit (get_or ds i 0)

one_digit : (d : ℕ) → d < 10 → AllDigits ((0x30 + d) ∷ [])
one_digit d h zero b = omega arith
one_digit d h (suc i) b = absurd (omega arith)

digits_append : (ds es : List ℕ) → AllDigits ds → AllDigits es → AllDigits (ds ++ es)
digits_append [] es h g i b = g i b
digits_append (d ∷ ds) es h g zero b = h 0 (omega arith)
digits_append (d ∷ ds) es h g (suc i) b = digits_append ds es (λ j c. h (suc j) (omega arith)) g i (omega arith)

all_digits : (k n : ℕ) → n < 10 ^ k → AllDigits (decimal_below k n)
all_digits zero n h = unfold decimal_below in λ i b. absurd (omega arith)
all_digits (suc k) n h =
    by_digits AllDigits k n (one_digit n)
    (λ l. digits_append (decimal_below k (n / 10)) ((0x30 + n % 10) ∷ []) (all_digits k (n / 10) (omega (arith, pow-suc 10 k))) (one_digit (n % 10) (omega arith)))

-- ## No leading zero

first-kept : (ds es : List ℕ) → 0x30 < get_or ds 0 0 → 0x30 < get_or (ds ++ es) 0 0
first-kept [] es h = absurd (omega arith)
first-kept (d ∷ ds) es h = h

no_leading_zero : (k n : ℕ) → n < 10 ^ k → 0 < n → 0x30 < get_or (decimal_below k n) 0 0
no_leading_zero zero n h p = absurd (omega arith)
no_leading_zero (suc k) n h p =
    by_digits (λ ds. 0x30 < get_or ds 0 0) k n (λ l. omega arith)
    (λ l. first-kept (decimal_below k (n / 10)) ((0x30 + n % 10) ∷ []) (no_leading_zero k (n / 10) (omega (arith, pow-suc 10 k)) (omega arith)))

-- ## The value

value_last : (a d : ℕ) (ds : List ℕ) → value_after a (ds ++ (d ∷ [])) ≡ 10 * value_after a ds + (d - 0x30)
value_last a d [] = refl
value_last a d (e ∷ ds) = value_last (10 * a + (e - 0x30)) d ds

value_of_digits : (k n : ℕ) → n < 10 ^ k → value_after 0 (decimal_below k n) ≡ n
value_of_digits zero n h = unfold decimal_below in omega arith
value_of_digits (suc k) n h =
    by_digits (λ ds. value_after 0 ds ≡ n) k n (λ l. omega arith)
    (λ l. value_last 0 (0x30 + n % 10) (decimal_below k (n / 10))
    ∙ ap (λ (x : ℕ). 10 * x + (0x30 + n % 10 - 0x30)) (value_of_digits k (n / 10) (omega (arith, pow-suc 10 k))) ∙ omega arith)

-- ## Positions

positions : (p : ℕ) (ts us : List Ticket) → ticket_lines p (ts ++ us) ≡ ticket_lines p ts ++ ticket_lines (p + length ts) us
unfolding ticket_lines
positions p [] us = ap (λ (n : ℕ). ticket_lines n us) {x = p} {y = p + 0} (omega arith)
positions p (t ∷ ts) us =
    ap (◌++◌ (ticket_line p t)) (positions (p + 1) ts us ∙ ap (λ (n : ℕ). ticket_lines (p + 1) ts ++ ticket_lines n us) {x = p + 1 + length ts} {y = p + suc (length ts)} (omega arith))
    ∙ sym (append_assoc (ticket_line p t) (ticket_lines (p + 1) ts) (ticket_lines (p + suc (length ts)) us))

-- ## Totals

totals : (ts us : List Ticket) → total_line (ts ++ us) ≡ line_of_totals (length ts + length us) (total_net ts + total_net us)
unfolding total_line
totals ts us = ap₂ line_of_totals (length-append ts us) (ticket_laws.net-append ts us)

-- ## A key cut short

short_key : (input : List ℕ) → length input < key_length → printed input ≡ refused_line 2
unfolding printed listing listing_unless open_tape_refusal
short_key input h =
    ap (λ (n : ℕ). listing_unless n (take key_length input) (drop key_length input))
    (by (eqb (length (take key_length input)) key_length) (is_tape_length (length (drop key_length input))) _ (ne_eqb (length (take key_length input)) key_length (λ e. omega (arith, e, length-take key_length input))))
  where
    by : (a b : Bool) (n : ℕ) → a ≡ false → (2 if not (a && b) else n) ≡ 2
    by a b n e = rw e

-- ## All of it

pub listing-laws : ListingLaws
unfolding printed listing listing_unless listed head_line ticket_lines ticket_line total_line refused_line numbers decimal_below net total_net open_tape_refusal is_tape_length is_tickets_length
listing-laws =
    record {
      digits = all_digits 20;
      leading = no_leading_zero 20;
      value = value_of_digits 20;
      zero_digit = decimal-one 0 (omega arith);
      positions = positions;
      totals_none = refl;
      totals = totals;
      short_key = short_key;
      refusal = λ key tape n e. ap (λ (x : ℕ). listing_unless x key tape) e;
      example = refl;
      two_tickets = refl;
      refused_example = refl;
    }
