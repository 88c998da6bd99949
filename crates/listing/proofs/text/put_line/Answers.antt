-- `put_line`: a word, and the rest of its line behind it.
use mathlib.Core.Path.{◌≡◌, refl, sym, ap, ◌∙◌}
use mathlib.Core.List.{List, ◌++◌}
use Prim.Native.Nat.{ℕ, ◌≤◌}
use native.Mathlib.Omega.{arith}
use lib.ListN.{length, drop, length-append}
use lib.Seq.{take-length}
use Rattle.tape_model.specs.Listing.{numbers, line_end}
use Rattle.listing.specs.Clauses.{Wrote}
use Rattle.listing.proofs.Texts.{wrote_as, copied, behind-wrote, line_parts}
use Rattle.listing.proofs.text.put_line.Goals as goal

-- the two parts, and room for them
module _ (word ns out : List ℕ) (room : length (word ++ numbers ns ++ line_end) ≤ length out) where
  abbrev rest : List ℕ
  rest = numbers ns ++ line_end

  fits : length (word ++ rest) ≤ length out
  fits = omega (arith, ap length (line_parts word ns))

  word_fits : length word ≤ length out
  word_fits = omega (arith, fits, length-append word rest)

-- the word is written
word-wrote : (word out piece : List ℕ) → piece ≡ word → Wrote word out (length word) (piece ++ drop (length word) out)
word-wrote word out piece e = copied word out _ _ refl (ap (λ (l : List ℕ). l ++ drop (length word) out) (e ∙ sym (take-length word)))

pub returns : goal.returns
returns c =
    let a = c.args in
    wrote_as (line_parts a.word.now a.ns.now)
    (behind-wrote a.word.now (rest a.word.now a.ns.now a.out.now c.requires) a.out.now _ _ (fits a.word.now a.ns.now a.out.now c.requires) (word-wrote a.word.now a.out.now _ c.copy_from_slice.ensures.after)
    _ _ c.put_rest-k.ensures)
