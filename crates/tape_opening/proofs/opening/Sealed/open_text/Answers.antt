-- `open_text` opens into the scratch as the tag and the tickets decide.
use mathlib.Core.Path.{sym, ap}
use Prim.Native.Nat.{ℕ}
use native.Mathlib.Omega.{arith}
use lib.ListN.{take}
use lib.Seq.{length-take-le}
use Rattle.tape_model.specs.Ticket.{head_length}
use Rattle.calls.specs.Calls.{as_reply}
use Rattle.tape_opening.proofs.Sizes.{tape_size}
use Rattle.tape_opening.proofs.OpenedParts.{rest-is, wrong_tag, wrong_ticket, opened-by_parts}
use Rattle.tape_opening.proofs.opening.Sealed.open_text.Goals as goal

pub slice_bounds-head-end : goal.slice_bounds-head-end
slice_bounds-head-end c = let s = c.args.self.now in sym (length-take-le head_length s.tape.now (omega (arith, (tape_size s.key.now s.tape.now s.passed).long)))

pub slice_bounds-decrypt_into-count : goal.slice_bounds-decrypt_into-count
slice_bounds-decrypt_into-count c = let s = c.args.self.now in omega (arith, (tape_size s.key.now s.tape.now s.passed).long)

pub slice_bounds-decrypt_into-start : goal.slice_bounds-decrypt_into-start
slice_bounds-decrypt_into-start c = let s = c.args.self.now in omega (arith, (tape_size s.key.now s.tape.now s.passed).long)

pub returns-then-not-decrypt_into : goal.returns-then-not-decrypt_into
unfolding as_reply
returns-then-not-decrypt_into c =
    let s = c.args.self.now in
    wrong_tag s.key.now s.tape.now s.passed c.args.scratch.now c.requires _ _ _ _ c.nonce_of-nonce.ensures (rest-is s.tape.now) c.decrypt_into.ensures c.if-not-decrypt_into.true

pub returns-in_default : goal.returns-in_default
unfolding as_reply
returns-in_default c =
    let s = c.args.self.now in
    let n = c.text_length-n.ensures in
    rw (c.zeroize.ensures, c.decrypt_into.auto.buffer)
    (wrong_ticket s.key.now s.tape.now s.passed c.args.scratch.now c.requires _ _ _ _ c.nonce_of-nonce.ensures (rest-is s.tape.now) c.decrypt_into.ensures
    _ _ c.if-not-decrypt_into.false (ap (λ (k : ℕ). take k c.decrypt_into.new.buffer) (omega (arith, n))) c.totals.ensures _ (ap as_reply c.in_default.is))

pub returns : goal.returns
unfolding as_reply
returns c =
    let s = c.args.self.now in
    let n = c.text_length-n.ensures in
    opened-by_parts s.key.now s.tape.now s.passed c.args.scratch.now c.requires _ _ _ _ c.nonce_of-nonce.ensures (rest-is s.tape.now) c.decrypt_into.ensures
    _ _ c.if-not-decrypt_into.false (ap (λ (k : ℕ). take k c.decrypt_into.new.buffer) (omega (arith, n))) c.totals.ensures _ (ap as_reply c.in-Ok.is)
