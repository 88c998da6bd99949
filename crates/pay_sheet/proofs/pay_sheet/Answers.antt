-- `pay_sheet`: 13, then the number that the tape has, then the sheet.
use mathlib.Core.Path.{◌≡◌, ap, ◌∙◌}
use mathlib.Core.List.{List}
use Prim.Native.Nat.{ℕ}
use Rattle.std.specs.Prelude.{Ok}
use Rattle.calls.specs.declared.Refusal.{Refusal}
use Rattle.calls.specs.declared.Refusal.TheVariants.{RateTooHigh}
use Rattle.calls.specs.Refusals.{refusal_number}
use Rattle.calls.specs.Calls.{Reply, refused, done, as_reply}
use Rattle.pay_sheet.specs.declared.PaySheet.{PaySheet}
use Rattle.pay_sheet.specs.PaySheet.{Sheet}
use Rattle.pay_sheet.specs.Clauses.{sheet_reply, without_pay, shares_or_zeros}
use Rattle.pay_sheet.proofs.Made.{too_high, sent_back, paid_for}
use Rattle.pay_sheet.proofs.pay_sheet.Goals as goal

record Told (r : PaySheet) (x : Reply Sheet) : Type 0 where
  result_value : sheet_reply r ≡ x
  value : r.shares ≡ shares_or_zeros x

-- a sheet that is refused, and one that is not
refused-told : {r : PaySheet} (k : Refusal) {x : Reply Sheet} → r ≡ without_pay k → refused (refusal_number k) ≡ x → Told r x
unfolding sheet_reply
refused-told k e f = record { result_value = ap sheet_reply e ∙ f; value = ap (λ (s : PaySheet). s.shares) e ∙ ap shares_or_zeros f }

paid-told : (pay : ℕ) (shares : List ℕ) {x : Reply Sheet} → done (record { pay = pay; shares = shares }) ≡ x → Told (record { answer = Ok pay; shares = shares }) x
unfolding sheet_reply
paid-told pay shares f = record { result_value = f; value = ap shares_or_zeros f }

pub returns-then-rate-gt-HIGHEST_RATE : goal.returns-then-rate-gt-HIGHEST_RATE
returns-then-rate-gt-HIGHEST_RATE c =
    let t = refused-told RateTooHigh c.refused.ensures (too_high c.args.plain.now _ c.if-rate-gt-HIGHEST_RATE.true) in
    record { result_value = t.result_value; value = t.value }

pub returns-in-Err : goal.returns-in-Err
unfolding as_reply
returns-in-Err c =
    let t = refused-told _ c.refused-in-Err.ensures (sent_back _ _ c.if-rate-gt-HIGHEST_RATE.false _ c.in-Err.ensures.nets_value) in
    record { result_value = t.result_value; value = t.value }

pub returns-in-Ok : goal.returns-in-Ok
unfolding as_reply
returns-in-Ok c =
    let t = paid-told _ _ (paid_for _ _ c.if-rate-gt-HIGHEST_RATE.false _ c.in-Ok.ensures.nets_value _ _ c.tape_pay.ensures c.shares.ensures) in
    record { result_value = t.result_value; value = t.value }
