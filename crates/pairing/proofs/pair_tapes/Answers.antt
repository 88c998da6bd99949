-- `pair_tapes` meets its contract: a number refuses the tapes, or they are paired, and what is answered and written is that of the partners found.
use mathlib.Core.Path.{◌≡◌, refl}
use native.Mathlib.Omega.{arith}
use borrow.Author.Rules.{rules}
use Rattle.std.specs.Prelude.{Err}
use Rattle.calls.specs.Calls.{as_reply}
use Rattle.pairing.specs.Clauses.{outputs}
use Rattle.pairing.proofs.Answers.{refuses, both_done, scratch, first_counted, second-counted, six, pairs_room, first-room, second-room, written}
use Rattle.pairing.proofs.pair_tapes.Goals as goal

pub returns-in_err-first : goal.returns-in_err-first
unfolding as_reply
returns-in_err-first c =
    let passed_on : c.from_residual.result ≡ Err c.in_err-first.field-0.0 = search rules in
    let out = outputs c.args.pairs.now c.args.left_first.now c.args.left_second.now in
    rw passed_on (refuses _ _ _ c.in_err-first.ensures out)

pub find_pairs-found-requires : goal.find_pairs-found-requires
find_pairs-found-requires c = scratch _ _ (omega arith) (omega arith) _ _ c.len.result c.len-2.result c.len.ensures.0 c.len-2.ensures.0 refl refl

pub overflow_sub-first_left : goal.overflow_sub-first_left
overflow_sub-first_left c = (first_counted c.find_pairs-found.ensures).0

pub overflow_sub-second_left : goal.overflow_sub-second_left
overflow_sub-second_left c = (second-counted c.find_pairs-found.ensures).0

pub overflow_mul-found : goal.overflow_mul-found
overflow_mul-found c = omega (arith, (first_counted c.find_pairs-found.ensures).0)

pub returns-then-pairs-found : goal.returns-then-pairs-found
unfolding as_reply
returns-then-pairs-found c =
    let both = c.in_ok-first.ensures in
    six c.find_pairs-found.ensures _ _ _ (both_done _ _ _ _ both.0 both.1) c.if-pairs-found.true

pub put_pairs-requires : goal.put_pairs-requires
put_pairs-requires c =
    let out = outputs c.args.pairs.now c.args.left_first.now c.args.left_second.now in
    (omega arith, pairs_room c.find_pairs-found.ensures out c.if-pairs-found.false)

pub put_left-requires : goal.put_left-requires
put_left-requires c =
    let out = outputs c.args.pairs.now c.args.left_first.now c.args.left_second.now in
    (omega arith, first-room c.find_pairs-found.ensures out c.if-pairs-found.false)

pub put_left-requires-2 : goal.put_left-requires-2
put_left-requires-2 c =
    let out = outputs c.args.pairs.now c.args.left_first.now c.args.left_second.now in
    (omega arith, second-room c.find_pairs-found.ensures out c.if-pairs-found.false)

pub returns : goal.returns
unfolding as_reply
returns c =
    let out = outputs c.args.pairs.now c.args.left_first.now c.args.left_second.now in
    let both = c.in_ok-first.ensures in
    written c.find_pairs-found.ensures out c.if-pairs-found.false _ _ (both_done _ _ _ _ both.0 both.1) _ _ _ c.put_pairs.ensures c.put_left.ensures c.put_left-2.ensures
