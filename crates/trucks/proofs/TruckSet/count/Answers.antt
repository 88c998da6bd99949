-- `count` sums the ones of the words. Invariant: the sum, with the ones of the words that are left, is that of all words.
use Prim.Native.Nat.{◌≤◌}
use mathlib.Core.Path.{◌≡◌, ap, ◌∙◌}
use native.Mathlib.Numerals.{add-one}
use native.Mathlib.Omega.{arith}
use lib.ListN.{length, drop_of_length-le}
use lib.Seq.{drop-cons}
use borrow.Author.Rules.{rules}
use Rattle.trucks.specs.Words.{set_bits, held}
use Rattle.trucks.proofs.Words.{set_bits_16}
use Rattle.trucks.proofs.Counting.{count-at_most}
use Rattle.trucks.proofs.TruckSet.count.Goals as goal

pub overflow_add-n : goal.overflow_add-n
unfolding set_bits
overflow_add-n c =
    let words = c.args.self.words in
    let next = ap set_bits (drop-cons words c.loop-word.word-index 0 (search rules)) in
    omega (arith, next, c.loop-word.invariant, set_bits_16 words (search rules) (search rules), count-at_most 1024 (held words))

pub loop-word-preserved : goal.loop-word-preserved
unfolding set_bits
loop-word-preserved c =
    let l = c.loop-word in
    let next = ap set_bits (drop-cons c.args.self.words l.word-index 0 (search rules)) in
    rw (add-one l.word-index) (omega (arith, next))

pub returns : goal.returns
unfolding set_bits
returns c =
    let words = c.args.self.words in
    let sixteen : length words ≡ 16 = search rules in
    let past : length words ≤ c.loop-word.word-index = omega arith in
    let sum : c.loop-word.n ≡ set_bits words = omega (arith, ap set_bits (drop_of_length-le words past)) in
    record { value = sum; value_2 = sum ∙ set_bits_16 words sixteen (search rules) }
