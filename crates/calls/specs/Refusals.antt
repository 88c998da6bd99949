-- The numbers of refusals.
use Rattle.std.specs.Prelude.{ℕ, Result, Ok, Err}
use Rattle.calls.specs.declared.Refusal.{Refusal}
use Rattle.calls.specs.declared.Refusal.TheVariants.{WrongPhase, WrongLength, HeadOutOfRange, TicketRule, OverLimit, OutputTooShort, WrongTag, TicketUnreadable, TagLength, Parted, TooLateForForm1, TimesFall, RateTooHigh}

-- document 01's number, or document 02's
abbrev pub refusal_number : Refusal → ℕ
refusal_number WrongPhase = 1
refusal_number WrongLength = 2
refusal_number HeadOutOfRange = 3
refusal_number TicketRule = 4
refusal_number OverLimit = 5
refusal_number OutputTooShort = 6
refusal_number WrongTag = 7
refusal_number TicketUnreadable = 8
refusal_number TagLength = 9
refusal_number Parted = 10
refusal_number TooLateForForm1 = 11
refusal_number TimesFall = 12
refusal_number RateTooHigh = 13

-- the number that refuses, or 0 where none does
abbrev pub number_in : {A : Type 0} → Result A Refusal → ℕ
number_in (Ok a) = 0
number_in (Err r) = refusal_number r
