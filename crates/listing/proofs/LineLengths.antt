-- How long numbers and lines are.
use mathlib.Core.Path.{◌≡◌, refl, sym, ap, ◌∙◌}
use mathlib.Core.Bool.{Bool, true, false, not}
use mathlib.Core.List.{List, [], ◌∷◌, ◌++◌}
use Prim.Native.Nat.{ℕ, zero, suc, ◌+◌, ◌-◌, ◌/◌, ◌%◌, ◌^◌, ◌≤◌, ◌<◌}
use native.Mathlib.Omega.{arith}
use lib.Dec.{ltb}
use lib.ListN.{length, get_or, take, length-append}
use lib.Seq.{take_all}
use Rattle.std.proofs.Common.{Option, Some, None, SomeIff, is_some}
use Rattle.calls.specs.Calls.{◌if◌else◌}
use Rattle.tape_model.specs.declared.Ticket.{Ticket}
use Rattle.tape_model.specs.declared.Head.{Head}
use Rattle.tape_model.specs.Ticket.{net}
use Rattle.tape_model.specs.Listing.{space, line_end, word_tape, word_total, word_refused, decimal_below, decimal, numbers, head_line, listed_numbers, ticket_line, line_of_totals, refused_line}
use Rattle.tape_model.proofs.Listing.{decimal-one, decimal_more}
use Rattle.listing.proofs.Texts.{numbers-within, number_more, line_parts}

-- ## Digits

pub one_digit : (n : ℕ) → n < 10 → length (decimal n) ≡ 1
one_digit n small = ap length (decimal-one n small)

pub digit_more : (n : ℕ) → 10 ≤ n → n < 2 ^ 64 → length (decimal n) ≡ length (decimal (n / 10)) + 1
digit_more n large bound = ap length (decimal_more n large (omega arith)) ∙ length-append (decimal (n / 10)) ((0x30 + n % 10) ∷ [])

-- a number takes no more than the room for its digits
pub digits_room : (room n : ℕ) → length (decimal_below room n) ≤ room
unfolding decimal_below
digits_room zero n = omega arith
digits_room (suc room) n = by (ltb n 10) (digits_room room (n / 10))
  where
    by : (b : Bool) → length (decimal_below room (n / 10)) ≤ room → length (((0x30 + n) ∷ []) if b else (decimal_below room (n / 10) ++ ((0x30 + n % 10) ∷ []))) ≤ suc room
    by true h = omega arith
    by false h = omega (arith, h, length-append (decimal_below room (n / 10)) ((0x30 + n % 10) ∷ []))

-- ## Numbers behind a word

number-length : (n : ℕ) (ns : List ℕ) → length (numbers (n ∷ ns)) ≡ 1 + length (decimal n) + length (numbers ns)
unfolding numbers
number-length n ns = length-append (space ++ decimal n) (numbers ns) ∙ omega arith

no_numbers : length (numbers []) ≡ 0
unfolding numbers
no_numbers = refl

line-length : (word ns : List ℕ) → length (word ++ numbers ns ++ line_end) ≡ length word + length (numbers ns) + 1
line-length word ns = length-append (word ++ numbers ns) line_end ∙ ap (λ (k : ℕ). k + 1) (length-append word (numbers ns))

-- a line of one number
pub one_number : (word : List ℕ) (n : ℕ) → length (word ++ numbers (n ∷ []) ++ line_end) ≡ length word + length (decimal n) + 2
one_number word n = omega (arith, line-length word (n ∷ []), number-length n [], no_numbers)

-- ## What a word of so many bytes and i numbers leave of the room

module _ (word : ℕ) (ns : List ℕ) (room i left : ℕ) (counted : word + length (numbers (take i ns)) + left ≡ room) where
  rest-length : length (numbers ns ++ line_end) ≡ length (numbers ns) + 1
  rest-length = length-append (numbers ns) line_end

  pub counted_more : i < length ns → word + length (numbers (take (i + 1) ns)) + left ≡ room + (1 + length (decimal (get_or ns i 0)))
  counted_more here = omega (arith, ap length (number_more ns i here), length-append (numbers (take i ns)) (space ++ decimal (get_or ns i 0)))

  pub number_too_long : i < length ns → left < 1 + length (decimal (get_or ns i 0)) → room < word + length (numbers ns ++ line_end)
  number_too_long here short = omega (arith, rest-length, counted_more here, numbers-within ns (i + 1))

  pub all_counted : length ns ≤ i → word + length (numbers ns ++ line_end) + left ≡ room + 1
  all_counted all = omega (arith, rest-length, ap (λ (l : List ℕ). length (numbers l)) (take_all i ns all))

module _ (word ns : List ℕ) where
  pub line_size : length (word ++ numbers ns ++ line_end) ≡ length word + length (numbers ns ++ line_end)
  line_size = sym (ap length (line_parts word ns)) ∙ length-append word (numbers ns ++ line_end)

-- whether a text fits, by what it leaves of the room
pub short : (left : Option ℕ) (none : Bool) (rest : ℕ) {need room : ℕ} → SomeIff left (need ≤ room) rest → is_some left ≡ not none → none ≡ true → room < need
short None none rest s e f = omega (arith, s)
short (Some x) true rest s e f = absurd (cc)
short (Some x) false rest s e f = absurd (cc)

pub fits : (left : Option ℕ) (none : Bool) (rest : ℕ) {need room : ℕ} → SomeIff left (need ≤ room) rest → is_some left ≡ not none → none ≡ false → need ≤ room
fits None true rest s e f = absurd (cc)
fits None false rest s e f = absurd (cc)
fits (Some x) none rest s e f = s.0

-- the same need, counted from what is left of a larger room
pub counted_on : (left : Option ℕ) (before need all room rest : ℕ) → SomeIff left (need ≤ rest) (rest - need) → before + need ≡ all → rest + before ≡ room
    → SomeIff left (all ≤ room) (room - all)
counted_on None before need all room rest s e f = λ fits. s (omega (arith, fits))
counted_on (Some x) before need all room rest s e f = (omega (arith, s), omega (arith, s))

-- ## Lines

pub refused_length : (n : ℕ) → length (refused_line n) ≡ 9 + length (decimal n)
unfolding refused_line
refused_length n = omega (arith, one_number word_refused n)

pub head-length : (h : Head) → length (head_line h) ≡ 8 + length (decimal h.device) + length (decimal h.shift) + length (decimal h.sheet)
unfolding head_line
head-length h =
    omega (
      arith,
      line-length word_tape (h.device ∷ h.shift ∷ h.sheet ∷ []),
      number-length h.device (h.shift ∷ h.sheet ∷ []),
      number-length h.shift (h.sheet ∷ []),
      number-length h.sheet [],
      no_numbers,
    )

pub totals-length : (tickets total : ℕ) → length (line_of_totals tickets total) ≡ 8 + length (decimal tickets) + length (decimal total)
totals-length tickets total = omega (arith, line-length word_total (tickets ∷ total ∷ []), number-length tickets (total ∷ []), number-length total [], no_numbers)

pub ticket-length : (p : ℕ) (t : Ticket) → length (ticket_line p t)
    ≡ 8 + length (decimal p) + length (decimal t.truck) + length (decimal t.shovel) + length (decimal t.tip) + length (decimal t.grade) + length (decimal t.loaded) + length (decimal t.tipped) + length (decimal (net t))
unfolding ticket_line
ticket-length p t =
    omega (
      arith,
      line-length (decimal p) (listed_numbers t),
      number-length t.truck (t.shovel ∷ t.tip ∷ t.grade ∷ t.loaded ∷ t.tipped ∷ net t ∷ []),
      number-length t.shovel (t.tip ∷ t.grade ∷ t.loaded ∷ t.tipped ∷ net t ∷ []),
      number-length t.tip (t.grade ∷ t.loaded ∷ t.tipped ∷ net t ∷ []),
      number-length t.grade (t.loaded ∷ t.tipped ∷ net t ∷ []),
      number-length t.loaded (t.tipped ∷ net t ∷ []),
      number-length t.tipped (net t ∷ []),
      number-length (net t) [],
      no_numbers,
    )
