-- The numbers of refusals: none of them is 0, which stands for no refusal, and no two are the same.
use Rattle.std.proofs.Common.{◌≡◌, arith, refl, sym, ap, ◌∙◌}
use Rattle.std.specs.Prelude.{List, [], ◌∷◌, ℕ, ◌-◌, get_or}
use Rattle.calls.specs.declared.Refusal.{Refusal}
use Rattle.calls.specs.declared.Refusal.TheVariants.{WrongPhase, WrongLength, HeadOutOfRange, TicketRule, OverLimit, OutputTooShort, WrongTag, TicketUnreadable, TagLength, Parted, TooLateForForm1, TimesFall, RateTooHigh}
use Rattle.calls.specs.Refusals.{refusal_number}

pub not_zero : (r : Refusal) → refusal_number r ≡ 0 → ⊥
not_zero WrongPhase e = omega arith
not_zero WrongLength e = omega arith
not_zero HeadOutOfRange e = omega arith
not_zero TicketRule e = omega arith
not_zero OverLimit e = omega arith
not_zero OutputTooShort e = omega arith
not_zero WrongTag e = omega arith
not_zero TicketUnreadable e = omega arith
not_zero TagLength e = omega arith
not_zero Parted e = omega arith
not_zero TooLateForForm1 e = omega arith
not_zero TimesFall e = omega arith
not_zero RateTooHigh e = omega arith

-- the refusal of each number
refusals : List Refusal
refusals = WrongPhase ∷ WrongLength ∷ HeadOutOfRange ∷ TicketRule ∷ OverLimit ∷ OutputTooShort ∷ WrongTag ∷ TicketUnreadable ∷ TagLength ∷ Parted ∷ TooLateForForm1 ∷ TimesFall ∷ RateTooHigh ∷ []

refusal_of : ℕ → Refusal
refusal_of n = get_or refusals (n - 1) WrongPhase

of_number : (r : Refusal) → refusal_of (refusal_number r) ≡ r
unfolding refusal_of refusals
of_number WrongPhase = refl
of_number WrongLength = refl
of_number HeadOutOfRange = refl
of_number TicketRule = refl
of_number OverLimit = refl
of_number OutputTooShort = refl
of_number WrongTag = refl
of_number TicketUnreadable = refl
of_number TagLength = refl
of_number Parted = refl
of_number TooLateForForm1 = refl
of_number TimesFall = refl
of_number RateTooHigh = refl

-- different refusals have different numbers
pub one_to_one : (a b : Refusal) → refusal_number a ≡ refusal_number b → a ≡ b
one_to_one a b e = sym (of_number a) ∙ ap refusal_of e ∙ of_number b
