-- Text piece by piece: a byte or a string behind what is written, numbers one at a time, and a number digit by digit.
use mathlib.Core.Path.{◌≡◌, refl, sym, ap, ap₂, subst, ◌∙◌}
use mathlib.Core.List.{List, [], ◌∷◌, ◌++◌, append_assoc, append-nil}
use Prim.Native.Nat.{ℕ, suc, ◌+◌, ◌-◌, ◌/◌, ◌%◌, ◌^◌, ◌≤◌, ◌<◌}
use native.Mathlib.Omega.{arith}
use lib.ListN.{length, get_or, set, take, drop, length-append, length-take, length-drop, take-append-drop}
use lib.Seq.{drop-cons, set_at, take-suc, take-length}
use borrow.Rule.Slice.PartMut.{put_mid}
use borrow.Author.Tests.{le-ltb, lt-ltb}
use Rattle.std.specs.Prelude as std
use Rattle.std.specs.Prelude.{Ok, Err}
use Rattle.std.specs.Result.{result_unwrap_or}
use Rattle.calls.specs.declared.Refusal.{Refusal}
use Rattle.calls.specs.declared.Refusal.TheVariants.{OutputTooShort}
use Rattle.calls.specs.Calls.{done, as_reply, written_over, Result, put_into}
use Rattle.calls.proofs.Results.{result-written, result_refused}
use Rattle.calls.proofs.Writing.{written-length, written_behind}
use Rattle.tape_model.specs.Listing.{space, line_end, decimal, numbers}
use Rattle.tape_model.proofs.Listing.{decimal-one, decimal_more}
use Rattle.listing.specs.Clauses.{Wrote, Listed}

-- ## Any text

pub wrote_nothing : (out : List ℕ) → Wrote [] out 0 out
unfolding written_over
wrote_nothing out = record { count = refl; written = refl }

pub wrote-length : {text before after : List ℕ} {r : ℕ} → length text ≤ length before → Wrote text before r after → length after ≡ length before
wrote-length {text} {before} room w = ap length w.written ∙ written-length text before room

pub wrote_as : {text text' before after : List ℕ} {r : ℕ} → text ≡ text' → Wrote text before r after → Wrote text' before r after
wrote_as {before = before} {after = after} {r = r} e w = subst (λ (l : List ℕ). Wrote l before r after) e w

pub copied : (text out mid : List ℕ) (r : ℕ) → r ≡ length text → mid ≡ take (length text) text ++ drop (length text) out → Wrote text out r mid
unfolding written_over
copied text out mid r e f = record { count = e; written = f ∙ ap (λ (l : List ℕ). l ++ drop (length text) out) (take-length text) }

-- a byte behind what is written
module _ (a : List ℕ) (b : ℕ) (out mid : List ℕ) (k : ℕ) (room : length (a ++ (b ∷ [])) ≤ length out) (w : Wrote a out k mid) where
  longer : length (a ++ (b ∷ [])) ≡ length a + 1
  longer = length-append a (b ∷ [])

  pub byte_start : k < length mid
  byte_start = omega (arith, longer, w.count, wrote-length (omega (arith, longer)) w)

  pub byte_wrote : Wrote (a ++ (b ∷ [])) out (k + 1) (set mid k b)
  unfolding written_over
  byte_wrote =
      record {
        count = omega (arith, longer, w.count);
        written =
            ap (λ (l : List ℕ). set l k b) (w.written ∙ ap (λ (l : List ℕ). a ++ l) (drop-cons out (length a) 0 (omega (arith, longer))))
            ∙ set_at a (get_or out (length a) 0) (drop (suc (length a)) out) b k (sym w.count)
            ∙ sym (append_assoc a (b ∷ []) (drop (suc (length a)) out))
            ∙ ap (λ (n : ℕ). a ++ (b ∷ []) ++ drop n out) {x = suc (length a)} {y = length (a ++ (b ∷ []))} (omega (arith, longer));
      }

-- a string behind what is written, into the part that begins there
module _ (a b out mid : List ℕ) (n : ℕ) (room : length (a ++ b) ≤ length out) (w : Wrote a out n mid) where
  both : length (a ++ b) ≡ n + length b
  both = length-append a b ∙ ap (λ (k : ℕ). k + length b) (sym w.count)

  same-room : length mid ≡ length out
  same-room = wrote-length (omega (arith, both, w.count)) w

  pub behind-start : n ≤ length mid
  behind-start = omega (arith, both, same-room)

  pub behind-room : length b ≤ length (take (length mid - n) (drop n mid))
  behind-room = simp (length-take, length-drop) (omega (arith, both, same-room))

  module _ (r : ℕ) (part : List ℕ) (v : Wrote b (take (length mid - n) (drop n mid)) r part) where
    pub behind-wrote : Wrote (a ++ b) out (n + r) (put_mid n (length mid - n) mid part)
    behind-wrote = record { count = omega (arith, both, v.count); written = written_behind a b out mid part n (sym w.count) (omega (arith, both)) w.written v.written }

    pub behind-within : n + r ≤ length out
    behind-within = omega (arith, behind-wrote.count)

-- ## Decimal digits

fits : (n : ℕ) → n < 2 ^ 64 → n < 10 ^ 20
fits n h = omega arith

module _ (n : ℕ) (out : List ℕ) (room : length (decimal n) ≤ length out) where
  module _ (small : n < 10) where
    pub one_digit_start : 0 < length out
    one_digit_start = omega (arith, ap length (decimal-one n small))

    pub one_digit_wrote : Wrote (decimal n) out 1 (set out 0 (48 + n))
    one_digit_wrote = wrote_as (sym (decimal-one n small)) (byte_wrote [] (48 + n) out out 0 one_digit_start (wrote_nothing out))

  module _ (large : 10 ≤ n) (bound : n < 2 ^ 64) where
    abbrev digits : decimal n ≡ decimal (n / 10) ++ ((48 + n % 10) ∷ [])
    digits = decimal_more n large (fits n bound)

    with_last : length (decimal (n / 10) ++ ((48 + n % 10) ∷ [])) ≤ length out
    with_last = omega (arith, ap length digits)

    pub digits_before_room : length (decimal (n / 10)) ≤ length out
    digits_before_room = omega (arith, with_last, length-append (decimal (n / 10)) ((48 + n % 10) ∷ []))

    module _ (k : ℕ) (mid : List ℕ) (before : Wrote (decimal (n / 10)) out k mid) where
      pub last_digit_start : k < length mid
      last_digit_start = byte_start (decimal (n / 10)) (48 + n % 10) out mid k with_last before

      pub last_digit_wrote : Wrote (decimal n) out (k + 1) (set mid k (48 + n % 10))
      last_digit_wrote = wrote_as (sym digits) (byte_wrote (decimal (n / 10)) (48 + n % 10) out mid k with_last before)

-- ## Numbers

numbers-joined : (ms ns : List ℕ) → numbers (ms ++ ns) ≡ numbers ms ++ numbers ns
unfolding numbers
numbers-joined [] ns = refl
numbers-joined (m ∷ ms) ns = ap (λ (l : List ℕ). space ++ decimal m ++ l) (numbers-joined ms ns) ∙ sym (append_assoc (space ++ decimal m) (numbers ms) (numbers ns))

-- what is written of the numbers so far is no longer than all
pub numbers-within : (ns : List ℕ) (i : ℕ) → length (numbers (take i ns)) ≤ length (numbers ns)
numbers-within ns i =
    let e = ap (λ (l : List ℕ). length (numbers l)) (sym (take-append-drop i ns)) ∙ ap length (numbers-joined (take i ns) (drop i ns)) ∙ length-append (numbers (take i ns)) (numbers (drop i ns)) in
    omega (arith, e)

-- one number more
abbrev number : List ℕ → ℕ → List ℕ
number ns i = space ++ decimal (get_or ns i 0)

pub number_more : (ns : List ℕ) (i : ℕ) → i < length ns → numbers (take i ns) ++ number ns i ≡ numbers (take (i + 1) ns)
unfolding numbers
number_more ns i here =
    ap (λ (l : List ℕ). numbers (take i ns) ++ l) (sym (append-nil (number ns i)))
    ∙ sym (numbers-joined (take i ns) (get_or ns i 0 ∷ []))
    ∙ ap numbers (sym (take-suc ns i 0 here))
    ∙ ap (λ (k : ℕ). numbers (take k ns)) {x = suc i} {y = i + 1} (omega arith)

module _ (ns out mid : List ℕ) (i n : ℕ) (here : i < length ns) (room : length (numbers ns) ≤ length out) (so_far : Wrote (numbers (take i ns)) out n mid) where
  with_it : length (numbers (take i ns) ++ number ns i) ≤ length out
  with_it = omega (arith, ap length (number_more ns i here), numbers-within ns (i + 1))

  pub number-start : n ≤ length mid
  number-start = behind-start (numbers (take i ns)) (number ns i) out mid n with_it so_far

  pub number-room : length (number ns i) ≤ length (take (length mid - n) (drop n mid))
  number-room = behind-room (numbers (take i ns)) (number ns i) out mid n with_it so_far

  module _ (r : ℕ) (part : List ℕ) (w : Wrote (number ns i) (take (length mid - n) (drop n mid)) r part) where
    pub number-wrote : Wrote (numbers (take (i + 1) ns)) out (n + r) (put_mid n (length mid - n) mid part)
    number-wrote = wrote_as (number_more ns i here) (behind-wrote (numbers (take i ns)) (number ns i) out mid n with_it so_far r part w)

    pub number-within : n + r ≤ length out
    number-within = behind-within (numbers (take i ns)) (number ns i) out mid n with_it so_far r part w

-- ## Lines

pub line_parts : (word : List ℕ) (ns : List ℕ) → word ++ (numbers ns ++ line_end) ≡ word ++ numbers ns ++ line_end
line_parts word ns = sym (append_assoc word (numbers ns) line_end)

-- ## What was written

pub wrote-within : {text before after : List ℕ} {r : ℕ} → length text ≤ length before → Wrote text before r after → r ≤ length after
wrote-within room w = omega (arith, w.count, wrote-length room w)

-- ## A text that fits into the output, and one that does not

pub fits_out : (text out : List ℕ) → length text ≤ length out → put_into text out ≡ record { answer = done (length text); out = written_over text out }
unfolding put_into
fits_out text out room = result-written _ (length text) text out (rw (le-ltb (length out) (length text) room))

pub listed-whole : {text out after : List ℕ} {r : ℕ} → length text ≤ length out → Wrote text out r after → Listed text out (Ok r) after
unfolding as_reply
listed-whole {text} {out} room w = fits_out text out room ∙ ap₂ (λ (n : ℕ) (l : List ℕ). record { answer = done n; out = l }) (sym w.count) (sym w.written)

pub listed_short : (text : List ℕ) {out : List ℕ} → length out < length text → Listed text out (Err OutputTooShort) out
unfolding put_into as_reply
listed_short text {out} short = rw (lt-ltb (length out) (length text) short) (result_refused 6 (length text) text out (λ e. omega arith))

-- ## What a call comes to that is lent room enough: it is not refused, and the length that is answered is the text's

module _ (text out : List ℕ) (answer : std.Result ℕ Refusal) (after : List ℕ) (room : length text ≤ length out) (met : Listed text out answer after) where
  pub listed-told : (as_reply answer ≡ done (length text)) × (after ≡ written_over text out)
  listed-told = let e = sym met ∙ fits_out text out room in (ap (λ (r : Result ℕ). r.answer) e, ap (λ (r : Result ℕ). r.out) e)

  pub listed-wrote : Wrote text out (result_unwrap_or answer 0) after
  unfolding as_reply
  listed-wrote = record { count = by answer listed-told.0; written = listed-told.1 }
    where
      by : (r : std.Result ℕ Refusal) → as_reply r ≡ done (length text) → result_unwrap_or r 0 ≡ length text
      by (Ok n) e = cc
      by (Err r) e = absurd (let z : ◌≡◌ {A = ℕ} 0 1 = cc in omega arith)
