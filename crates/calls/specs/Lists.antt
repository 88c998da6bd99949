-- Lists of calls of any kind, on any kind of state, with any kind of answer: each call is made on what the call before it handed on.
use Rattle.std.specs.Prelude.{◌≡◌, List, [], ◌∷◌, ℕ, take}
use Rattle.calls.specs.Calls.{Reply, refused, done, Work, Outcome}

-- A call with its arguments and its output as they stood at the call, what it answered, and its output after it.
pub record Entry (C A : Type 0) : Type 0 where
  pub call : C
  pub answer : Reply A
  pub out : List ℕ

unfoldable pub calls_of : {C A : Type 0} → List (Entry C A) → List C
calls_of [] = []
calls_of (e ∷ es) = e.call ∷ calls_of es

-- ## By a definition

-- A machine whose one call is `step`, given a list of calls: what it answers and writes, and what it is at the end.
module _ {M C A : Type 0} (step : M → C → Outcome M A) where
  unfoldable pub entries : M → List C → List (Entry C A)
  entries m [] = []
  entries m (c ∷ cs) = record { call = c; answer = (step m c).answer; out = (step m c).out } ∷ entries (step m c).next cs

  unfoldable pub handed_on : M → List C → M
  handed_on m [] = m
  handed_on m (c ∷ cs) = handed_on (step m c).next cs

-- ## By contracts

-- S: the states (sessions, or writers); C: the calls; A: what a call answers; R: what a method gives back, with the state handed on and the answer in it.
-- `Called s c r out`: the contract of the call c on s, which gave r and left `out` in its output.
-- `CallsMade .. s es e`: the calls of `es`, made on s one after the other, gave the answers and left the outputs that stand beside them in `es`, and
-- the last handed back e. Of each call it is known what the contract of its method says, and nothing else.
pub data CallsMade {S C A R : Type 0} (next : R → S) (reply : R → Reply A) (Called : S → C → R → List ℕ → Type 0) : S → List (Entry C A) → S → Type 0 where
  none : {s : S} → CallsMade next reply Called s [] s
  call : {s e : S} {c : C} {out : List ℕ} {es : List (Entry C A)} (r : R) → Called s c r out → CallsMade next reply Called (next r) es e
      → CallsMade next reply Called s (record { call = c; answer = reply r; out = out } ∷ es) e

-- ## What of a list counts

-- of an accepted call
abbrev pub if_accepted : {A B : Type 0} → Reply B → List A → List A
if_accepted (refused n) l = []
if_accepted (done w) l = l

-- the bytes that a call wrote, of its output after it
abbrev pub written_by : Reply Work → List ℕ → List ℕ
written_by (refused n) out = []
written_by (done w) out = take w.bytes out

-- every call of a list is accepted
abbrev pub AllAccepted : {C A : Type 0} → List (Entry C A) → Type 0
AllAccepted [] = Unit {0}
AllAccepted {A = A} (e ∷ es) = ((w : A) × (e.answer ≡ done w)) × AllAccepted es
