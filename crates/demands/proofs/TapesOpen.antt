-- Only tapes open, and what opened under an earlier rule opens: the laws of the definitions, by the contract of `open_tape`.
use mathlib.Core.Path.{sym, ap, ◌∙◌}
use Rattle.calls.specs.Calls.{Result}
use Rattle.tape_model.specs.declared.Totals.{Totals}
use Rattle.tape_model.specs.Ticket.{Rule}
use Rattle.tape_model.specs.EarlierRules.{base_rule, one_form_rule, StillOpen}
use Rattle.tape_model.proofs.Exact.{tapes_open_exactly}
use Rattle.tape_model.proofs.EarlierRules.{earlier_rule_laws}
use Rattle.demands.specs.TapesOpen.{OnlyTapesOpen, OpenedBeforeOpens, EarlierTapesOpen}

pub only_tapes_open : OnlyTapesOpen
only_tapes_open key tape out after r bytes met totals =
    let exactly = tapes_open_exactly.exactly key tape out totals after bytes in
    (λ e. exactly.0 (met ∙ (λ i. record { answer = e i; out = after })), λ o. ap (λ (x : Result Totals). x.answer) (sym met ∙ exactly.1 o))

opened_before_opens : (earlier : Rule) → StillOpen earlier → OpenedBeforeOpens earlier
opened_before_opens earlier still key tape out after r met totals before e =
    let same = sym met ∙ (still key tape out totals before e).opens in
    (ap (λ (x : Result Totals). x.answer) same, ap (λ (x : Result Totals). x.out) same)

pub earlier_tapes_open : EarlierTapesOpen
earlier_tapes_open =
    record { base = opened_before_opens base_rule earlier_rule_laws.base_still_open; one_form = opened_before_opens one_form_rule earlier_rule_laws.one_form_still_open }
