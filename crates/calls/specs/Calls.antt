-- What a call of any kind answers, when it is sent back, and what it comes to: the words in which every crate above says it.
use Rattle.std.specs.Prelude as std
use Rattle.std.specs.Prelude.{Ok, Err, Bool, true, false, not, cond, ◌&&◌, List, [], ◌∷◌, ◌++◌, ℕ, zero, suc, ◌<◌, eqb, leb, ltb, length, drop, get_or}
use Rattle.calls.specs.declared.Answer.{Answer}
use Rattle.calls.specs.declared.Answer.TheVariants.{Refused, Done}
use Rattle.calls.specs.declared.Refusal.{Refusal}
use Rattle.calls.specs.Refusals.{refusal_number}

infixr 5 ◌if◌else◌
-- a where the test holds, else b
abbrev pub ◌if◌else◌ : {A : Type 0} → A → Bool → A → A
a if test else b = cond test a b

-- ## Answers

-- A refusal number, or what the call did.
pub data Reply (A : Type 0) : Type 0 where
  refused : ℕ → Reply A
  done : A → Reply A

-- What a call did: the bytes that it wrote, and the steps run since its session was fresh.
pub record Work : Type 0 where
  pub bytes : ℕ
  pub steps : ℕ

-- the papers' number and values for each case of the answers in code
unfoldable pub answer_reply : Answer → Reply Work
answer_reply (Refused r) = refused (refusal_number r)
answer_reply (Done bytes steps) = done (record { bytes = bytes; steps = steps })

unfoldable pub as_reply : {A : Type 0} → std.Result A Refusal → Reply A
as_reply (Err r) = refused (refusal_number r)
as_reply (Ok a) = done a

abbrev pub is_refused : {A : Type 0} → Reply A → Bool
is_refused (refused n) = true
is_refused (done a) = false

-- a function of what a call answered; a refusal is passed on
unfoldable pub map_reply : {A B : Type 0} → (A → B) → Reply A → Reply B
map_reply f (refused n) = refused n
map_reply f (done a) = done (f a)

-- a function of what two calls answered; a refusal is passed on, and of two the smaller number
unfoldable pub map_replies : {A B C : Type 0} → (A → B → C) → Reply A → Reply B → Reply C
map_replies f (refused n) (refused m) = refused (n if leb n m else m)
map_replies f (refused n) (done b) = refused n
map_replies f (done a) (refused m) = refused m
map_replies f (done a) (done b) = done (f a b)

-- ## Refusals

-- No number applies: the call is accepted. A chain `1 if .. else 5 if .. else accepted` gives the first that applies, in the order that the
-- document gives.
abbrev pub accepted : ℕ
accepted = 0

-- by the number that applies: the call's work where there is none, else its refusal
unfoldable pub unless_refused : {A : Type 0} → ℕ → A → A → A
unless_refused zero work refusal = work
unless_refused (suc n) work refusal = refusal

-- and the reply: this value is answered, or the number
abbrev pub reply_of : {A : Type 0} → ℕ → A → Reply A
reply_of n value = unless_refused n (done value) (refused n)

-- whether a refused call of a session or a writer has left it as it was: a wrong tag (7) closes a session
unfoldable pub left_unchanged : {A : Type 0} → Reply A → Bool
left_unchanged (refused n) = not (eqb n 7)
left_unchanged (done a) = false

-- ## Strings and outputs

-- a list of bytes
abbrev pub AreBytes : List ℕ → Type 0
AreBytes string = (p : ℕ) → get_or string p 0 < 256

-- what is written stands at the start of the output, and nothing changes behind it
unfoldable pub written_over : List ℕ → List ℕ → List ℕ
written_over written out = written ++ drop (length written) out

unfoldable pub same_bytes : List ℕ → List ℕ → Bool
same_bytes [] [] = true
same_bytes [] (y ∷ m) = false
same_bytes (x ∷ l) [] = false
same_bytes (x ∷ l) (y ∷ m) = eqb x y && same_bytes l m

-- ## What a call comes to

-- with a state: the state handed on, the answer, and the call's output after it ([] where it is lent none)
pub record Outcome (M A : Type 0) : Type 0 where
  pub next : M
  pub answer : Reply A
  pub out : List ℕ

-- a refused call changes nothing
unfoldable pub refused_with : {M A : Type 0} → ℕ → M → List ℕ → Outcome M A
refused_with n m out = record { next = m; answer = refused n; out = out }

-- without a state: its answer, and its output after it
pub record Result (A : Type 0) : Type 0 where
  pub answer : Reply A
  pub out : List ℕ

-- by the number that applies: these bytes are written, with this answer; or nothing is, and the number is the answer
unfoldable pub result_of : {A : Type 0} → ℕ → A → List ℕ → List ℕ → Result A
result_of n answer written out = unless_refused n (record { answer = done answer; out = written_over written out }) (record { answer = refused n; out = out })

-- a string put into lent bytes: 6 where they are too few
unfoldable pub put_into : List ℕ → List ℕ → Result ℕ
put_into string out = result_of (6 if ltb (length out) (length string) else accepted) (length string) string out
