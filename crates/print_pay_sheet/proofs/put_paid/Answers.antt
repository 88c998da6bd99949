-- `put_paid`: the line of the pay, and the contractors' lines behind it.
use mathlib.Core.Path.{◌≡◌, sym}
use mathlib.Core.List.{List, [], ◌∷◌, ◌++◌}
use Prim.Native.Nat.{ℕ, ◌+◌, ◌-◌, ◌≤◌}
use native.Mathlib.Omega.{arith}
use lib.ListN.{length, take, drop, length-append}
use borrow.Rule.Slice.PartMut.{put_mid}
use Rattle.listing.specs.Clauses.{Wrote}
use borrow.Author.Rules.{rules}
use Rattle.tape_model.specs.Listing.{line_end, numbers}
use Rattle.listing.proofs.Texts.{behind-start, behind-room, behind-wrote, behind-within}
use Rattle.print_pay_sheet.specs.Printed.{word_pay, contractor_lines}
use Rattle.print_pay_sheet.proofs.Texts.{paid_length}
use Rattle.print_pay_sheet.proofs.put_paid.Goals as goal

-- the two parts
abbrev first : ℕ → List ℕ
first pay = word_pay ++ numbers (pay ∷ []) ++ line_end

abbrev lines : List ℕ → List ℕ
lines shares = contractor_lines 0 shares

-- m: the length of the text
module _ (a b out mid : List ℕ) (n m : ℕ) (long : m ≡ length mid) (room : length (a ++ b) ≤ length out) (w : Wrote a out n mid) (r : ℕ) (part : List ℕ)
    (v : Wrote b (take (m - n) (drop n mid)) r part) where
  two-wrote : Wrote (a ++ b) out (n + r) (put_mid n (m - n) mid part)
  two-wrote = rw long (behind-wrote a b out mid n room w r part (rw long at v))

  two-within : n + r ≤ length out
  two-within = behind-within a b out mid n room w r part (rw long at v)

pub put_line-a-requires : goal.put_line-a-requires
put_line-a-requires c =
    let s = c.args in
    omega (arith, paid_length s.pay s.shares.now (omega arith), length-append (first s.pay) (lines s.shares.now))

-- what the first line leaves of the text, which keeps its length
pub slice_bounds-put_shares-count : goal.slice_bounds-put_shares-count
slice_bounds-put_shares-count c =
    let s = c.args in
    let fits : length (first s.pay ++ lines s.shares.now) ≤ length s.text.now = omega (arith, paid_length s.pay s.shares.now (omega arith)) in
    let start = behind-start (first s.pay) (lines s.shares.now) s.text.now _ _ fits c.put_line-a.ensures in
    omega arith

pub slice_bounds-put_shares-start : goal.slice_bounds-put_shares-start
slice_bounds-put_shares-start c = slice_bounds-put_shares-count c

pub put_shares-b-requires : goal.put_shares-b-requires
put_shares-b-requires c =
    let s = c.args in
    let fits : length (first s.pay ++ lines s.shares.now) ≤ length s.text.now = omega (arith, paid_length s.pay s.shares.now (omega arith)) in
    let same : length c.put_line-a.new.text ≡ 409 = omega arith in
    rw same at (behind-room (first s.pay) (lines s.shares.now) s.text.now _ _ fits c.put_line-a.ensures)

pub overflow_add-result : goal.overflow_add-result
overflow_add-result c =
    let s = c.args in
    let fits : length (first s.pay ++ lines s.shares.now) ≤ length s.text.now = omega (arith, paid_length s.pay s.shares.now (omega arith)) in
    let same : length c.put_line-a.new.text ≡ 409 = omega arith in
    let within = two-within (first s.pay) (lines s.shares.now) s.text.now _ _ 409 (sym same) fits c.put_line-a.ensures _ _ c.put_shares-b.ensures in
    search rules

pub returns : goal.returns
returns c =
    let s = c.args in
    let fits : length (first s.pay ++ lines s.shares.now) ≤ length s.text.now = omega (arith, paid_length s.pay s.shares.now (omega arith)) in
    let same : length c.put_line-a.new.text ≡ 409 = omega arith in
    two-wrote (first s.pay) (lines s.shares.now) s.text.now _ _ 409 (sym same) fits c.put_line-a.ensures _ _ c.put_shares-b.ensures
