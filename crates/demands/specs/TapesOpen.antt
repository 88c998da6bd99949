-- Demand 2's tapes the other way round: only the tape of a right head and at most 5,000 valid tickets opens; and what opened under an earlier rule does.
-- By the contract of `open_tape` and by nothing else.
use Rattle.std.specs.Prelude.{◌≡◌, List, ◌↔◌, ℕ, Result}
use Rattle.calls.specs.declared.Refusal.{Refusal}
use Rattle.calls.specs.Calls.{AreBytes, done, as_reply}
use Rattle.tape_model.specs.declared.Ticket.{Ticket}
use Rattle.tape_model.specs.declared.Head.{Head}
use Rattle.tape_model.specs.declared.Totals.{Totals}
use Rattle.tape_model.specs.Ticket.{Rule}
use Rattle.tape_model.specs.Laws.{OpensAs}
use Rattle.tape_model.specs.EarlierRules.{open_tape_under, base_rule, one_form_rule}
use Rattle.tape_opening.specs.Clauses.{OpensTape}

-- a call answers these totals exactly where the bytes are the tape of such a head and tickets; and then totals and output are theirs
abbrev pub OnlyTapesOpen : Type 0
OnlyTapesOpen = (key tape out after : List ℕ) (r : Result Totals Refusal) → AreBytes tape → OpensTape key tape out r after
    → (totals : Totals) → (as_reply r ≡ done totals) ↔ ((head : Head) × (tickets : List Ticket) × OpensAs key tape out totals after head tickets)

-- Document 02, P2, held for P6, too: where a key and a tape opened under this rule, a call answers the same totals and leaves the same bytes.
abbrev pub OpenedBeforeOpens : Rule → Type 0
OpenedBeforeOpens earlier = (key tape out after : List ℕ) (r : Result Totals Refusal) → OpensTape key tape out r after
    → (totals : Totals) (before : List ℕ) → open_tape_under earlier key tape out ≡ record { answer = done totals; out = before }
    → (as_reply r ≡ done totals) × (after ≡ before)

-- the base's rule, and the one before form 2
pub record EarlierTapesOpen : Type 0 where
  pub base : OpenedBeforeOpens base_rule
  pub one_form : OpenedBeforeOpens one_form_rule
