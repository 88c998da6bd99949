-- `put_listing`: the three parts of a listing, each behind the one before.
use mathlib.Core.Path.{◌≡◌, refl}
use mathlib.Core.List.{List, [], ◌∷◌, ◌++◌}
use Prim.Native.Nat.{ℕ, ◌+◌, ◌-◌, ◌/◌, ◌≤◌}
use lib.ListN.{length, take, drop}
use borrow.Author.Rules.{rules}
use borrow.Rule.Slice.PartMut.{put_mid}
use Rattle.tape_model.specs.declared.Head.{Head}
use Rattle.listing.specs.Clauses.{Wrote, HoldTickets, lines_of, text_of}
use Rattle.listing.proofs.Texts.{wrote_as, behind-start, behind-room, behind-wrote, behind-within}
use Rattle.listing.proofs.Whole.{heading, totals, whole, whole_room, lines-room, head_room}
use Rattle.listing.proofs.lines.put_listing.Goals as goal

-- the three parts, and room for them
module _ (head : Head) (plain : List ℕ) (net : ℕ) (held : HoldTickets plain net) (hs ts : List ℕ) (hs-are : hs ≡ head.device ∷ head.shift ∷ head.sheet ∷ [])
    (ts-are : ts ≡ length plain / 13 ∷ net ∷ []) (out : List ℕ) (room : length (text_of head plain) ≤ length out) where
  abbrev first : List ℕ
  first = heading head plain net held hs ts hs-are ts-are

  abbrev lines : List ℕ
  lines = lines_of plain

  abbrev last : List ℕ
  last = totals head plain net held hs ts hs-are ts-are

  two-fit : length (first ++ lines) ≤ length out
  two-fit = lines-room head plain net held hs ts hs-are ts-are out room

  three-fit : length (first ++ lines ++ last) ≤ length out
  three-fit = whole_room head plain net held hs ts hs-are ts-are out room

  -- behind the first call the first is written
  module _ {mid : List ℕ} {n : ℕ} (one : Wrote first out n mid) where
    lines-start : n ≤ length mid
    lines-start = behind-start first lines out mid n two-fit one

    lines-fit : length lines ≤ length (take (length mid - n) (drop n mid))
    lines-fit = behind-room first lines out mid n two-fit one

    -- behind the second two parts are
    module _ {part : List ℕ} {r : ℕ} (second : Wrote lines (take (length mid - n) (drop n mid)) r part) where
      abbrev both : List ℕ
      both = put_mid n (length mid - n) mid part

      two-wrote : Wrote (first ++ lines) out (n + r) both
      two-wrote = behind-wrote first lines out mid n two-fit one r part second

      two-within : n + r ≤ length out
      two-within = behind-within first lines out mid n two-fit one r part second

      totals-start : n + r ≤ length both
      totals-start = behind-start (first ++ lines) last out both (n + r) three-fit two-wrote

      totals-fit : length last ≤ length (take (length both - (n + r)) (drop (n + r) both))
      totals-fit = behind-room (first ++ lines) last out both (n + r) three-fit two-wrote

      -- behind the third all are
      module _ {end : List ℕ} {k : ℕ} (third : Wrote last (take (length both - (n + r)) (drop (n + r) both)) k end) where
        three-within : n + r + k ≤ length out
        three-within = behind-within (first ++ lines) last out both (n + r) three-fit two-wrote k end third

        three-wrote : Wrote (text_of head plain) out (n + r + k) (put_mid (n + r) (length both - (n + r)) both end)
        three-wrote = wrote_as (whole head plain net held hs ts hs-are ts-are) (behind-wrote (first ++ lines) last out both (n + r) three-fit two-wrote k end third)

pub put_line-a-requires : goal.put_line-a-requires
put_line-a-requires c = let o = c.args.opened in head_room o.head o.plain.now o.net o.held _ (length o.plain.now / 13 ∷ o.net ∷ []) c.head_numbers.ensures refl c.args.out.now c.requires

pub slice_bounds-put_ticket_lines-count : goal.slice_bounds-put_ticket_lines-count
slice_bounds-put_ticket_lines-count c = let o = c.args.opened in lines-start o.head o.plain.now o.net o.held _ (length o.plain.now / 13 ∷ o.net ∷ []) c.head_numbers.ensures refl c.args.out.now c.requires c.put_line-a.ensures

pub slice_bounds-put_ticket_lines-start : goal.slice_bounds-put_ticket_lines-start
slice_bounds-put_ticket_lines-start c = let o = c.args.opened in lines-start o.head o.plain.now o.net o.held _ (length o.plain.now / 13 ∷ o.net ∷ []) c.head_numbers.ensures refl c.args.out.now c.requires c.put_line-a.ensures

pub put_ticket_lines-b-requires : goal.put_ticket_lines-b-requires
put_ticket_lines-b-requires c = let o = c.args.opened in lines-fit o.head o.plain.now o.net o.held _ (length o.plain.now / 13 ∷ o.net ∷ []) c.head_numbers.ensures refl c.args.out.now c.requires c.put_line-a.ensures

pub overflow_add-at : goal.overflow_add-at
overflow_add-at c =
    let o = c.args.opened in
    let within = two-within o.head o.plain.now o.net o.held _ (length o.plain.now / 13 ∷ o.net ∷ []) c.head_numbers.ensures refl c.args.out.now c.requires c.put_line-a.ensures c.put_ticket_lines-b.ensures in
    search rules

pub slice_bounds-put_line-count : goal.slice_bounds-put_line-count
slice_bounds-put_line-count c = let o = c.args.opened in totals-start o.head o.plain.now o.net o.held _ _ c.head_numbers.ensures c.total_numbers.ensures c.args.out.now c.requires c.put_line-a.ensures c.put_ticket_lines-b.ensures

pub slice_bounds-put_line-start : goal.slice_bounds-put_line-start
slice_bounds-put_line-start c = let o = c.args.opened in totals-start o.head o.plain.now o.net o.held _ _ c.head_numbers.ensures c.total_numbers.ensures c.args.out.now c.requires c.put_line-a.ensures c.put_ticket_lines-b.ensures

pub put_line-c-requires : goal.put_line-c-requires
put_line-c-requires c = let o = c.args.opened in totals-fit o.head o.plain.now o.net o.held _ _ c.head_numbers.ensures c.total_numbers.ensures c.args.out.now c.requires c.put_line-a.ensures c.put_ticket_lines-b.ensures

pub overflow_add-result : goal.overflow_add-result
overflow_add-result c =
    let o = c.args.opened in
    let within = three-within o.head o.plain.now o.net o.held _ _ c.head_numbers.ensures c.total_numbers.ensures c.args.out.now c.requires c.put_line-a.ensures c.put_ticket_lines-b.ensures c.put_line-c.ensures in
    search rules

pub returns : goal.returns
returns c = let o = c.args.opened in three-wrote o.head o.plain.now o.net o.held _ _ c.head_numbers.ensures c.total_numbers.ensures c.args.out.now c.requires c.put_line-a.ensures c.put_ticket_lines-b.ensures c.put_line-c.ensures
