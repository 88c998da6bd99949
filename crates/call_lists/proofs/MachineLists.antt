-- The statements of specs/MachineLists.antt, proved from what a list leads to.
use mathlib.Core.Path.{◌≡◌, refl, sym, ap, ap₂, ◌∙◌, subst, subst₂}
use mathlib.Core.Bool.{Bool, true, false, true≢false}
use mathlib.Core.List.{List, [], ◌∷◌}
use mathlib.Core.Logic.{◌↔◌}
use Prim.Native.Nat.{ℕ}
use native.Mathlib.Omega.{arith}
use Rattle.acorn_model.specs.declared.Kind.{Kind}
use Rattle.acorn_model.specs.declared.Kind.TheVariants.{Sealing, Checking}
use Rattle.acorn_model.specs.declared.Phase.{Phase}
use Rattle.acorn_model.specs.declared.Phase.TheVariants.{Closed}
use Rattle.calls.specs.Calls.{Reply, refused, done, Work, same_bytes}
use Rattle.acorn_model.specs.Machine.{Call}
use Rattle.acorn_model.specs.Lists.{Arguments, Log, SameTags, Alike}
use Rattle.calls.proofs.SameBytes.{same-bytes-refl, same-bytes-true}
use Rattle.call_lists.specs.MachineLists.{machine_after, log_from, phase_steps, ended_steps, MachineLists}
use Rattle.call_lists.proofs.Logs.{good_or7}
use Rattle.call_lists.proofs.ByKind.{right_tag, all_written}
use Rattle.call_lists.proofs.Reached.{Means, Judged, InClosed}
use Rattle.call_lists.proofs.After.{reached_after, kind_after}

-- ## One ended list

module _ (kind : Kind) (calls : List Call) (c : (machine_after kind calls).phase ≡ Closed) where
  pub ended_after : InClosed kind (log_from kind calls)
  ended_after = subst₂ (λ (p : Phase) (k : Kind). Means p k (machine_after kind calls).state (log_from kind calls)) c (kind_after kind calls) (reached_after kind calls).means

  pub steps_after : (machine_after kind calls).counts.steps ≡ ended_steps (log_from kind calls)
  steps_after = omega (arith, (reached_after kind calls).steps, ap phase_steps c)

-- a list is of one element alone
same-one : {A : Type 0} (l : List A) (a b : A) → l ≡ (a ∷ []) → l ≡ (b ∷ []) → a ≡ b
same-one l a b p q = cc

-- what was written and judged, by the arguments of the one begin
by_arguments : (kind : Kind) (log : Log) (a : Arguments) → log.begins ≡ (a ∷ []) → InClosed kind log
    → (log.written ≡ all_written kind a log.«data» log.text)
    × Judged kind (right_tag kind a log.«data» log.text) (ended_steps log) log.tags log.verdicts
by_arguments kind log a h e =
    subst (λ (x : Arguments). (log.written ≡ all_written kind x log.«data» log.text)
    × Judged kind (right_tag kind x log.«data» log.text) (ended_steps log) log.tags log.verdicts)
    (same-one log.begins e.arguments a e.begins h) (e.written, e.judged)

-- ## Good or 7

module _ (t T : List ℕ) (steps : ℕ) (verdicts : List (Reply Work)) where
  says : (b : Bool) → same_bytes t T ≡ b → verdicts ≡ (good_or7 b steps ∷ [])
      → ((verdicts ≡ (done (record { bytes = 0; steps = steps }) ∷ [])) ↔ (t ≡ T)) × ((verdicts ≡ (refused 7 ∷ [])) ↔ (t ≡ T → ⊥))
  says true h v = (
    (λ _. same-bytes-true t T h, λ _. v),
    (λ w. let z : ◌≡◌ {A = ℕ} 0 1 = cc in absurd (omega arith), λ n. absurd (n (same-bytes-true t T h))),
  )
  says false h v =
      let differ : t ≡ T → ⊥ = λ e. true≢false (sym (same-bytes-refl T) ∙ rw e at h) in (
        (λ w. let z : ◌≡◌ {A = ℕ} 0 1 = cc in absurd (omega arith), λ e. absurd (differ e)),
        (λ _. differ, λ _. v),
      )

-- ## Two ended lists that are alike

-- the tags given and the verdicts go by the right tag, the steps and, checking, the tag given
same_verdicts : (kind : Kind) (a b : Log) (T U : List ℕ) (n k : ℕ) → SameTags kind a b → T ≡ U → n ≡ k
    → Judged kind T n a.tags a.verdicts → Judged kind U k b.tags b.verdicts → a.verdicts ≡ b.verdicts
same_verdicts Sealing a b T U n k s p q x y = x.1 ∙ sym y.1
same_verdicts Checking a b T U n k s p q x y =
    let t : x.0 ≡ y.0 = same-one b.tags x.0 y.0 (sym s ∙ x.1) y.1 in
    x.2 ∙ (λ i. good_or7 (same_bytes (t i) (p i)) (q i) ∷ []) ∙ sym y.2

module _ (kind : Kind) (a b : Log) (s : Alike kind a b) where
  same_steps : ended_steps a ≡ ended_steps b
  same_steps = rw (s.«data», s.text)

  same-work : InClosed kind a → InClosed kind b → (a.written ≡ b.written) × (a.verdicts ≡ b.verdicts)
  same-work x y =
      let z = by_arguments kind b x.arguments (sym s.begins ∙ x.begins) y in (
        x.written ∙ ap₂ (all_written kind x.arguments) s.«data» s.text ∙ sym z.0,
        same_verdicts kind a b _ _ _ _ s.tags (ap₂ (right_tag kind x.arguments) s.«data» s.text) same_steps x.judged z.1,
      )

-- ## The claims

pub machine_lists : MachineLists
machine_lists = record {
  fixed = λ kind calls. let r = reached_after kind calls in (r.tag_length, r.tag_least, r.tag_most);
  taken = λ kind calls. let r = reached_after kind calls in (r.data_bytes, r.data_fits, r.text_bytes, r.text_fits);
  steps = λ kind calls. (reached_after kind calls).steps;
  counted = steps_after;
  began = λ kind calls c. ((ended_after kind calls c).arguments, (ended_after kind calls c).begins);
  wrote = λ calls a c h. (by_arguments Sealing (log_from Sealing calls) a h (ended_after Sealing calls c)).0;
  judged = λ calls a c h.
      let e = by_arguments Checking (log_from Checking calls) a h (ended_after Checking calls c) in
      let v = says _ _ _ _ _ refl e.1.2 in
      (e.0, (e.1.0, e.1.1, v.0, v.1));
  cuts = λ kind calls calls' c c' s.
      let w = same-work kind _ _ s (ended_after kind calls c) (ended_after kind calls' c') in
      (w.0, steps_after kind calls c ∙ same_steps kind _ _ s ∙ sym (steps_after kind calls' c'), w.1);
}
