-- `open_scratch` opens tapes into a scratch, refusals included.
use mathlib.Core.Path.{◌≡◌}
use native.Mathlib.Omega.{arith}
use Rattle.std.proofs.Common.{Err}
use Rattle.calls.specs.Refusals.{refusal_number}
use Rattle.calls.specs.Calls.{as_reply}
use Rattle.calls.proofs.Numbers.{not_zero}
use Rattle.tape_opening.proofs.Sizes.{sent_back-at-once, too_short_scratch}
use borrow.Author.Rules.{rules}
use Rattle.tape_opening.proofs.open_scratch.Goals as goal

pub returns-in_err-sealed : goal.returns-in_err-sealed
unfolding as_reply
returns-in_err-sealed c =
    let a = c.args in
    let e = c.in_err-sealed.field-0.0 in
    let passed_on : c.from_residual.result ≡ Err e = search rules in
    rw passed_on (sent_back-at-once a.key.now a.tape.now a.scratch.now (refusal_number e) c.in_err-sealed.ensures (not_zero e))

pub returns-then-scratch-text_length : goal.returns-then-scratch-text_length
unfolding as_reply
returns-then-scratch-text_length c =
    let s = c.in_ok-sealed.sealed in
    let same = c.in_ok-sealed.ensures in
    rw (← same.0, ← same.1) (too_short_scratch s.key.now s.tape.now s.passed c.args.scratch.now (omega (arith, c.text_length.ensures, c.if-scratch-text_length.true)))
