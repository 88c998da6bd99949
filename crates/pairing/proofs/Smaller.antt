-- Of two refusals the smaller is the one with the smaller number.
use mathlib.Core.Path.{◌≡◌, refl, sym, ap, ap₂, ◌∙◌}
use mathlib.Core.Bool.{Bool, true, false}
use mathlib.Core.List.{[], ◌∷◌}
use lib.Dec.{leb, ltb}
use lib.ListN.{get_or}
use borrow.Author.Tests.{ltb-true, ltb-false, le-leb, lt-leb}
use denote.Enum.Declared.{tag_of}
use Rattle.std.specs.Prelude.{ℤ, pos, cond}
use Rattle.std.specs.Ordering.{ord_min, int_cmp, is_lt}
use Rattle.std.specs.declared.cmp.Ordering.TheVariants.{Less, Greater, Equal}
use Rattle.calls.specs.Calls.{◌if◌else◌}
use Rattle.calls.specs.declared.Refusal.{Refusal}
use Rattle.calls.specs.declared.Refusal.TheVariants.{WrongPhase, WrongLength, HeadOutOfRange, TicketRule, OverLimit, OutputTooShort, WrongTag, TicketUnreadable, TagLength, Parted, TooLateForForm1, TimesFall, RateTooHigh}
use Rattle.calls.specs.Refusals.{refusal_number}
use Rattle.calls.specs.contracts.Refusal.{the_type}
use Rattle.calls.specs.contracts.RefusalOrd.TheImpl as ord

-- what the derived order compares
number : Refusal → ℤ
number r = get_or (pos 1 ∷ pos 2 ∷ pos 3 ∷ pos 4 ∷ pos 5 ∷ pos 6 ∷ pos 7 ∷ pos 8 ∷ pos 9 ∷ pos 10 ∷ pos 11 ∷ pos 12 ∷ pos 13 ∷ []) (tag_of the_type r) (pos 0)

number-is : (r : Refusal) → number r ≡ pos (refusal_number r)
unfolding number
number-is WrongPhase = refl
number-is WrongLength = refl
number-is HeadOutOfRange = refl
number-is TicketRule = refl
number-is OverLimit = refl
number-is OutputTooShort = refl
number-is WrongTag = refl
number-is TicketUnreadable = refl
number-is TagLength = refl
number-is Parted = refl
number-is TooLateForForm1 = refl
number-is TimesFall = refl
number-is RateTooHigh = refl

lower : (a b : Refusal) → is_lt ((ord.cmp-value).it a b) ≡ ltb (refusal_number a) (refusal_number b)
unfolding number
lower a b = ap₂ (λ (x y : ℤ). is_lt (int_cmp x y)) (number-is a) (number-is b) ∙ by (ltb (refusal_number a) (refusal_number b)) (ltb (refusal_number b) (refusal_number a))
  where
    by : (x y : Bool) → is_lt (cond x Less (cond y Greater Equal)) ≡ x
    by true y = refl
    by false true = refl
    by false false = refl

pub smaller : (a b : Refusal) → (refusal_number a if leb (refusal_number a) (refusal_number b) else refusal_number b) ≡ refusal_number (ord_min (ord.cmp-value).it a b)
smaller a b = by (ltb (refusal_number b) (refusal_number a)) refl ∙ ap (λ (t : Bool). refusal_number (cond t b a)) (sym (lower b a))
  where
    by : (t : Bool) → ltb (refusal_number b) (refusal_number a) ≡ t → (refusal_number a if leb (refusal_number a) (refusal_number b) else refusal_number b) ≡ refusal_number (cond t b a)
    by true e = let l = ltb-true (refusal_number b) (refusal_number a) e in rw (lt-leb (refusal_number a) (refusal_number b) l)
    by false e = let l = ltb-false (refusal_number b) (refusal_number a) e in rw (le-leb (refusal_number a) (refusal_number b) l)
