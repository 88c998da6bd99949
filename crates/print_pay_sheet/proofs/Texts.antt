-- The text of a sheet, line by line, and how long it is.
use mathlib.Core.Path.{◌≡◌, sym, ap, ◌∙◌}
use mathlib.Core.List.{List, [], ◌∷◌, ◌++◌, append_assoc, append-nil}
use Prim.Native.Nat.{ℕ, suc, ◌+◌, ◌-◌, ◌*◌, ◌^◌, ◌≤◌, ◌<◌}
use native.Mathlib.Omega.{arith}
use lib.ListN.{length, get_or, take, drop, length-append, take-append-drop}
use lib.Seq.{take-suc, length-take-le}
use borrow.Rule.Slice.PartMut.{put_mid}
use Rattle.tape_model.specs.Listing.{line_end, decimal, numbers, refused_line}
use Rattle.tape_model.proofs.Listing.{decimal-length}
use Rattle.listing.specs.Clauses.{Wrote}
use Rattle.listing.proofs.Texts.{wrote_as, behind-start, behind-room, behind-wrote, behind-within}
use Rattle.listing.proofs.LineLengths.{digits_room, refused_length, one_number}
use Rattle.pay_sheet.specs.PaySheet.{contractors}
use Rattle.print_pay_sheet.specs.Printed.{word_pay, contractor_lines}
use Rattle.print_pay_sheet.specs.Clauses.{share_line, paid_text}
use Rattle.print_pay_sheet.specs.Laws.{text_room}

-- ## How long lines are

share_length : (c share : ℕ) → c < 10 ^ 2 → length (share_line c share) ≤ 24
share_length c share small = omega (arith, one_number (decimal c) share, decimal-length 1 c small, digits_room 20 share)

pub shares-length : (c : ℕ) (shares : List ℕ) → c + length shares ≤ contractors → length (contractor_lines c shares) ≤ 24 * length shares
unfolding contractor_lines
shares-length c [] few = omega arith
shares-length c (share ∷ shares) few =
    omega (arith, length-append (share_line c share) (contractor_lines (c + 1) shares), share_length c share (omega arith), shares-length (c + 1) shares (omega arith))

pub paid_length : (pay : ℕ) (shares : List ℕ) → length shares ≡ contractors → length (paid_text pay shares) ≤ text_room
paid_length pay shares sixteen =
    omega (
      arith,
      length-append (word_pay ++ numbers (pay ∷ []) ++ line_end) (contractor_lines 0 shares),
      one_number word_pay pay,
      digits_room 20 pay,
      shares-length 0 shares (omega arith),
    )

pub refused_short : (n : ℕ) → length (refused_line n) ≤ text_room
refused_short n = omega (arith, refused_length n, digits_room 20 n)

-- ## One line more

lines-joined : (p : ℕ) (ms ns : List ℕ) → contractor_lines p (ms ++ ns) ≡ contractor_lines p ms ++ contractor_lines (p + length ms) ns
unfolding contractor_lines
lines-joined p [] ns = ap (λ (q : ℕ). contractor_lines q ns) {x = p} {y = p + 0} (omega arith)
lines-joined p (m ∷ ms) ns =
    ap (λ (l : List ℕ). share_line p m ++ l)
    (lines-joined (p + 1) ms ns ∙ ap (λ (q : ℕ). contractor_lines (p + 1) ms ++ contractor_lines q ns) {x = p + 1 + length ms} {y = p + suc (length ms)} (omega arith))
    ∙ sym (append_assoc (share_line p m) (contractor_lines (p + 1) ms) (contractor_lines (p + suc (length ms)) ns))

lines-within : (shares : List ℕ) (c : ℕ) → length (contractor_lines 0 (take c shares)) ≤ length (contractor_lines 0 shares)
lines-within shares c =
    let e = ap (λ (l : List ℕ). length (contractor_lines 0 l)) (sym (take-append-drop c shares)) ∙ ap length (lines-joined 0 (take c shares) (drop c shares))
    ∙ length-append (contractor_lines 0 (take c shares)) (contractor_lines (0 + length (take c shares)) (drop c shares)) in
    omega (arith, e)

module _ (shares out mid : List ℕ) (c n : ℕ) (here : c < length shares) (room : length (contractor_lines 0 shares) ≤ length out)
    (so_far : Wrote (contractor_lines 0 (take c shares)) out n mid) where
  abbrev line : List ℕ
  line = share_line c (get_or shares c 0)

  line_more : contractor_lines 0 (take c shares) ++ line ≡ contractor_lines 0 (take (c + 1) shares)
  unfolding contractor_lines
  line_more =
      let place : c ≡ 0 + length (take c shares) = omega (arith, length-take-le c shares (omega arith)) in
      ap (λ (l : List ℕ). contractor_lines 0 (take c shares) ++ l) (sym (append-nil line) ∙ ap (λ (q : ℕ). contractor_lines q (get_or shares c 0 ∷ [])) place)
      ∙ sym (lines-joined 0 (take c shares) (get_or shares c 0 ∷ []))
      ∙ ap (contractor_lines 0) (sym (take-suc shares c 0 here))
      ∙ ap (λ (k : ℕ). contractor_lines 0 (take k shares)) {x = suc c} {y = c + 1} (omega arith)

  with_it : length (contractor_lines 0 (take c shares) ++ line) ≤ length out
  with_it = omega (arith, ap length line_more, lines-within shares (c + 1))

  pub line-start : n ≤ length mid
  line-start = behind-start (contractor_lines 0 (take c shares)) line out mid n with_it so_far

  pub line-room : length line ≤ length (take (length mid - n) (drop n mid))
  line-room = behind-room (contractor_lines 0 (take c shares)) line out mid n with_it so_far

  module _ (r : ℕ) (part : List ℕ) (w : Wrote line (take (length mid - n) (drop n mid)) r part) where
    pub line_wrote : Wrote (contractor_lines 0 (take (c + 1) shares)) out (n + r) (put_mid n (length mid - n) mid part)
    line_wrote = wrote_as line_more (behind-wrote (contractor_lines 0 (take c shares)) line out mid n with_it so_far r part w)

    pub line-within : n + r ≤ length out
    line-within = behind-within (contractor_lines 0 (take c shares)) line out mid n with_it so_far r part w
