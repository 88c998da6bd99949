-- What is shown of the machine's lists holds of every list that comes to what the machine does; and it is the paper's.
use mathlib.Core.Path.{◌≡◌, sym, ap, ◌∙◌, subst, subst₂}
use mathlib.Core.List.{List, [], ◌∷◌, ◌++◌}
use mathlib.Core.Logic.{◌↔◌}
use Prim.Native.Nat.{ℕ, ◌≤◌}
use lib.ListN.{length}
use Rattle.acorn_model.specs.declared.Kind.{Kind}
use Rattle.acorn_model.specs.declared.Kind.TheVariants.{Sealing, Checking}
use Rattle.acorn_model.specs.Bits.{Bits, bits_in, bytes}
use Rattle.calls.specs.Calls.{Work, refused, done}
use Rattle.calls.specs.Lists.{Entry, calls_of, entries}
use Rattle.acorn_model.specs.Machine.{Machine, Call, fresh, call}
use Rattle.acorn_model.specs.Stretches.{full_tag_length}
use Rattle.acorn_model.specs.Lists.{Arguments, Ended}
use Rattle.acorn_model.proofs.Proved.{paper_computed}
use Rattle.call_lists.specs.MachineLists.{machine_after, log_from, fixed_length, ended_steps}
use Rattle.call_lists.proofs.Reached.{reached_small}
use Rattle.call_lists.proofs.After.{reached_after}
use Rattle.call_lists.proofs.MachineLists.{machine_lists}
use Rattle.demands.specs.SessionFacts.{AsMachine, PaperOf, SessionFacts, CutsAgree}
use Rattle.demands.proofs.Messages.{by_paper}

-- ## By the paper

-- the length that the one begin has fixed is at most that of a full tag
begun-fits : (kind : Kind) (calls : List Call) (a : Arguments) → (log_from kind calls).begins ≡ (a ∷ []) → a.tag_length ≤ full_tag_length
begun-fits kind calls a b =
    let fixed = machine_lists.fixed kind calls in
    subst (λ (n : ℕ). n ≤ full_tag_length) (fixed.0 ∙ ap fixed_length b) fixed.2

sealed : (calls : List Call) → Ended (machine_after Sealing calls) → (a : Arguments) → (log_from Sealing calls).begins ≡ (a ∷ []) → (c T : Bits)
    → PaperOf (log_from Sealing calls) a (bits_in (log_from Sealing calls).text) c T
    → (log_from Sealing calls).written ≡ bytes (length (log_from Sealing calls).text) c ++ bytes a.tag_length T
sealed calls h a b c T p = machine_lists.wrote calls a h b ∙ sym (by_paper a.tag_length (begun-fits Sealing calls a b) a.key a.nonce _ _ c T p)

judged : (calls : List Call) → Ended (machine_after Checking calls) → (a : Arguments) → (log_from Checking calls).begins ≡ (a ∷ [])
    → (p T : Bits) → PaperOf (log_from Checking calls) a p (bits_in (log_from Checking calls).text) T
    → ((log_from Checking calls).written ≡ []) × ((t : List ℕ) × ((log_from Checking calls).tags ≡ (t ∷ []))
    × (((log_from Checking calls).verdicts ≡ (done (record { bytes = 0; steps = ended_steps (log_from Checking calls) }) ∷ [])) ↔ (t ≡ bytes a.tag_length T))
    × (((log_from Checking calls).verdicts ≡ (refused 7 ∷ [])) ↔ (t ≡ bytes a.tag_length T → ⊥)))
judged calls h a b p T q =
    rw ((paper_computed a.tag_length a.key a.nonce (log_from Checking calls).«data» (begun-fits Checking calls a b)).opening_only (log_from Checking calls).text p T q).1 (machine_lists.judged calls a h b)

-- ## The claims

pub session_facts : (kind : Kind) (es : List (Entry Call Work)) (m : Machine) → AsMachine kind es m → SessionFacts kind es m
session_facts kind es m same =
    let calls = calls_of es in
    subst₂ (λ (fs : List (Entry Call Work)) (n : Machine). AsMachine kind fs n → SessionFacts kind fs n) (sym same.0) (sym same.1) (λ same. record {
      as_machine = same;
      fixed = machine_lists.fixed kind calls;
      taken = machine_lists.taken kind calls;
      steps = machine_lists.steps kind calls;
      small = reached_small _ _ (reached_after kind calls);
      counted = machine_lists.counted kind calls;
      began = machine_lists.began kind calls;
      sealed = λ k. rw k (sealed calls);
      judged = λ k. rw k (judged calls);
    }) same

pub cuts_agree : (kind : Kind) (es : List (Entry Call Work)) (m : Machine) (es' : List (Entry Call Work)) (m' : Machine)
    → AsMachine kind es m → AsMachine kind es' m' → CutsAgree kind es m es' m'
cuts_agree kind es m es' m' same same' =
    subst₂ (λ (fs : List (Entry Call Work)) (n : Machine). CutsAgree kind fs n es' m') (sym same.0) (sym same.1)
    (subst₂ (λ (fs : List (Entry Call Work)) (n : Machine). CutsAgree kind (entries call (fresh kind) (calls_of es)) (machine_after kind (calls_of es)) fs n)
    (sym same'.0) (sym same'.1) (machine_lists.cuts kind (calls_of es) (calls_of es')))
