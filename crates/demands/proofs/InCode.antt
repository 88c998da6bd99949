-- Every reply that a call comes to is one that code can answer: a number that refuses is that of one of the refusals.
use mathlib.Core.Path.{◌≡◌, refl, ap}
use mathlib.Core.Bool.{Bool, true, false}
use mathlib.Core.List.{List}
use mathlib.Core.Logic.{◌⊎◌, inl, inr}
use Prim.Native.Nat.{ℕ, zero, suc}
use native.Mathlib.Omega.{arith}
use Rattle.std.proofs.Common.{Result, Ok, Err}
use Rattle.calls.specs.declared.Answer.{Answer}
use Rattle.calls.specs.declared.Answer.TheVariants.{Refused, Done}
use Rattle.calls.specs.declared.Refusal.{Refusal}
use Rattle.calls.specs.declared.Refusal.TheVariants.{WrongPhase, WrongLength, HeadOutOfRange, TicketRule, OverLimit, OutputTooShort, WrongTag, TicketUnreadable, TagLength}
use Rattle.calls.specs.Refusals.{refusal_number}
use Rattle.calls.specs.Calls.{◌if◌else◌, Reply, refused, done, Work, Outcome, accepted, unless_refused, answer_reply, as_reply, refused_with, result_of}
use Rattle.acorn_model.specs.Machine.{Machine, Call, begin, data_call, seal_text, check_text, seal_close, check_close, output_of, refusal, answered, wrote, verdict, work, call}
use Rattle.acorn_model.specs.Message.{seal_refusal, seal_message, open_refusal, open_message}
use Rattle.tape_model.specs.Tape.{open_tape_refusal, open_tape}
use Rattle.tape_model.specs.Writer.{PlainWriter, WriterCall, start, add, finish, on_answer, passed_on, started, writer_call}
use Rattle.tape_model.specs.Writer as plain
use Rattle.session.specs.Clauses.{wrapped_reply}

abbrev IsRefusal : ℕ → Type 0
IsRefusal n = (r : Refusal) × (refusal_number r ≡ n)

-- code can tell a reply: the number, if it is one, is that of a refusal
abbrev pub Told : {A : Type 0} → Reply A → Type 0
Told (refused n) = IsRefusal n
Told (done a) = Unit {0}

-- ## The answers in code that stand for replies

pub result_for : {A : Type 0} (a : Reply A) → Told a → (r : Result A Refusal) × (as_reply r ≡ a)
unfolding as_reply
result_for (refused n) t = (Err t.0, ap refused t.1)
result_for (done a) t = (Ok a, refl)

pub answer_for : (a : Reply Work) → Told a → (x : Answer) × (answer_reply x ≡ a)
unfolding answer_reply
answer_for (refused n) t = (Refused t.0, ap refused t.1)
answer_for (done w) t = (Done w.bytes w.steps, refl)

-- ## Chains of refusals

-- the first number that applies is that of a refusal, or 0 where none does
abbrev First : ℕ → Type 0
First n = (n ≡ accepted) ⊎ IsRefusal n

none : First accepted
none = inl refl

-- a link: this refusal where the test holds, and else the rest
link : (b : Bool) (r : Refusal) (n : ℕ) → First n → First (refusal_number r if b else n)
link true r n h = inr (r, refl)
link false r n h = h

told_of : (n : ℕ) → First n → (n ≡ 0 → ⊥) → IsRefusal n
told_of n (inl e) h = absurd (h e)
told_of n (inr t) h = t

result_told : {A : Type 0} (n : ℕ) (a : A) (written out : List ℕ) → First n → Told (result_of n a written out).answer
unfolding result_of unless_refused
result_told zero a written out h = tt
result_told (suc n) a written out h = told_of (suc n) h (λ e. omega arith)

-- ## Messages and tapes

module _ (n : ℕ) (key nonce «data» : List ℕ) where
  pub seal_told : (text out : List ℕ) → Told (seal_message n key nonce «data» text out).answer
  unfolding seal_message seal_refusal
  seal_told text out = result_told _ _ _ out (link _ TagLength _ (link _ WrongLength _ (link _ OverLimit _ (link _ OutputTooShort _ none))))

  pub open_told : (sealed_bytes out : List ℕ) → Told (open_message n key nonce «data» sealed_bytes out).answer
  unfolding open_message open_refusal
  open_told sealed_bytes out = result_told _ _ _ out (link _ TagLength _ (link _ WrongLength _ (link _ OverLimit _ (link _ OutputTooShort _ (link _ WrongTag _ none)))))

pub open_tape_told : (key tape out : List ℕ) → Told (open_tape key tape out).answer
unfolding open_tape open_tape_refusal
open_tape_told key tape out =
    result_told _ _ _ out (link _ WrongLength _ (link _ HeadOutOfRange _ (link _ OutputTooShort _ (link _ WrongTag _ (link _ TicketUnreadable _ none)))))

-- ## Sessions and writers

outcome_told : {M : Type 0} (n : ℕ) (did : Outcome M Work) (m : M) (out : List ℕ) → First n → Told did.answer → Told (unless_refused n did (refused_with n m out)).answer
unfolding unless_refused refused_with
outcome_told zero did m out h t = t
outcome_told (suc n) did m out h t = told_of (suc n) h (λ e. omega arith)

-- counting in 64 bits leaves a refusal as it is
pub wrapped_told : (a : Reply Work) → Told a → Told (wrapped_reply a)
unfolding wrapped_reply
wrapped_told (refused n) t = t
wrapped_told (done w) t = tt

verdict_told : (b : Bool) (m : Machine) → Told (verdict b m)
unfolding verdict answered
verdict_told true m = tt
verdict_told false m = (WrongTag, refl)

work_told : (m : Machine) (c : Call) → Told (work m c).answer
unfolding work wrote answered
work_told m (begin key nonce n) = tt
work_told m (data_call piece) = tt
work_told m (seal_text piece out) = tt
work_told m (check_text piece) = tt
work_told m (seal_close out) = tt
work_told m (check_close tag) = verdict_told _ _

pub call_told : (m : Machine) (c : Call) → Told (call m c).answer
unfolding call refusal
call_told m c =
    outcome_told (refusal m c) (work m c) m (output_of c) (link _ WrongPhase _ (link _ TagLength _ (link _ WrongLength _ (link _ OverLimit _ (link _ OutputTooShort _ none))))) (work_told m c)

on-answer_told : (a : Reply Work) (go_on : Work → Outcome PlainWriter Work) (w : PlainWriter) (out : List ℕ) → Told a → ((x : Work) → Told (go_on x).answer) → Told (on_answer a go_on w out).answer
unfolding on_answer refused_with
on-answer_told (refused n) go_on w out t h = t
on-answer_told (done x) go_on w out t h = h x

writer_work_told : (w : PlainWriter) (c : WriterCall) → Told (plain.work w c).answer
unfolding plain.work started passed_on
writer_work_told w (start key head out) = on-answer_told _ _ w out (call_told _ _) (λ x. on-answer_told _ _ w out (call_told _ _) (λ y. tt))
writer_work_told w (add ticket out) = on-answer_told _ _ w out (call_told _ _) (λ x. tt)
writer_work_told w (finish out) = on-answer_told _ _ w out (call_told _ _) (λ x. tt)

pub writer_call_told : (w : PlainWriter) (c : WriterCall) → Told (writer_call w c).answer
unfolding writer_call plain.refusal
writer_call_told w c =
    outcome_told (plain.refusal w c) (plain.work w c) w (plain.output_of c)
    (link _ WrongPhase _ (link _ WrongLength _ (link _ HeadOutOfRange _ (link _ TicketRule _ (link _ OverLimit _ (link _ OutputTooShort _ none)))))) (writer_work_told w c)
