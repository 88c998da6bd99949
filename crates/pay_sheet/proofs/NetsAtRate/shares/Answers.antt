-- `shares`: the whole cents, and one of the cents left for those that come first.
use mathlib.Core.Path.{◌∙◌}
use Prim.Native.Nat.{◌/◌, ◌%◌}
use native.Mathlib.Omega.{arith}
use Rattle.std.proofs.Common.{rules, tests}
use Rattle.pay_sheet.proofs.Calls.{mapped, each-of}
use Rattle.pay_sheet.proofs.Made.{w_most, w_fits, w_small, w_shares}
use Rattle.pay_sheet.proofs.NetsAtRate.shares.Goals as goal

pub sum-requires : goal.sum-requires
sum-requires c =
    let whole = mapped _ (λ n. n / 1000) _ (λ x y q k. search (rules, tests)) _ _ 16 c.map-whole.ensures.items ∙ each-of (λ n. n / 1000) _ _ 16 c.exact_shares-exact.ensures in
    w_fits _ _ _ whole c.args.self.in_range

pub overflow_sub-left : goal.overflow_sub-left
overflow_sub-left c =
    let a = c.args in
    let whole = mapped _ (λ n. n / 1000) _ (λ x y q k. search (rules, tests)) _ _ 16 c.map-whole.ensures.items ∙ each-of (λ n. n / 1000) _ _ 16 c.exact_shares-exact.ensures in
    omega (arith, w_most a.self.nets a.self.rate _ whole, c.tape_pay.ensures, c.sum.ensures)

pub with_cents_left-requires : goal.with_cents_left-requires
with_cents_left-requires c =
    let whole = mapped _ (λ n. n / 1000) _ (λ x y q k. search (rules, tests)) _ _ 16 c.map-whole.ensures.items ∙ each-of (λ n. n / 1000) _ _ 16 c.exact_shares-exact.ensures in
    w_small _ _ _ whole c.args.self.in_range

pub returns : goal.returns
returns c tickets nets-are total-is =
    let whole = mapped _ (λ n. n / 1000) _ (λ x y q k. search (rules, tests)) _ _ 16 c.map-whole.ensures.items ∙ each-of (λ n. n / 1000) _ _ 16 c.exact_shares-exact.ensures in
    let rests = mapped _ (λ n. n % 1000) _ (λ x y q k. search (rules, tests)) _ _ 16 c.map-rests.ensures.items ∙ each-of (λ n. n % 1000) _ _ 16 c.exact_shares-exact.ensures in
    c.with_cents_left.ensures ∙ w_shares _ _ _ whole _ _ _ rests c.tape_pay.ensures c.sum.ensures tickets nets-are total-is
