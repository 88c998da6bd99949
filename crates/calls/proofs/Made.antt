-- Lists of calls that were made, by the contracts of their methods: every list can be made where every call has a reply; and calls whose contracts
-- say of each what a model does come to what that model does over the whole list.
use mathlib.Core.Path.{◌≡◌, refl, sym, ap, ◌∙◌, subst}
use mathlib.Core.List.{List, [], ◌∷◌}
use Prim.Native.Nat.{ℕ}
use Rattle.calls.specs.Calls.{Reply, Outcome}
use Rattle.calls.specs.Lists.{Entry, calls_of, entries, handed_on, CallsMade, none, call}

module _ {S C A R : Type 0} (next : R → S) (reply : R → Reply A) (Called : S → C → R → List ℕ → Type 0)
    (replies : (s : S) (c : C) → (r : R) × (out : List ℕ) × Called s c r out) where
  pub calls_made : (s : S) (cs : List C) → (es : List (Entry C A)) × (e : S) × CallsMade next reply Called s es e × (calls_of es ≡ cs)
  unfolding calls_of
  calls_made s [] = ([], s, none, refl)
  calls_made s (c ∷ cs) =
      let k = replies s c in
      let p = calls_made (next k.0) cs in
      (record { call = c; answer = reply k.0; out = k.1 } ∷ p.0, p.1, call k.0 k.2 p.2, ap (◌∷◌ c) p.3)

module _ {S C A R M : Type 0} (next : R → S) (reply : R → Reply A) (Called : S → C → R → List ℕ → Type 0) (step : M → C → Outcome M A)
    (model_of : S → M) (Inv : M → Type 0)
    (says : (s : S) (c : C) (r : R) (out : List ℕ) → Inv (model_of s) → Called s c r out
    → record { next = model_of (next r); answer = reply r; out = out } ≡ step (model_of s) c)
    (kept : (m : M) (c : C) → Inv m → Inv (step m c).next) where
  pub as_model : (s e : S) (es : List (Entry C A)) → Inv (model_of s) → CallsMade next reply Called s es e
      → (es ≡ entries step (model_of s) (calls_of es)) × (model_of e ≡ handed_on step (model_of s) (calls_of es))
  unfolding entries handed_on calls_of
  as_model s e _ i none = (refl, refl)
  as_model s e _ i (call {c = c} {out = out} {es = es} r h p) =
      let o : record { next = model_of (next r); answer = reply r; out = out } ≡ step (model_of s) c = says s c r out i h in
      let here : model_of (next r) ≡ (step (model_of s) c).next = ap (λ (x : Outcome M A). x.next) o in
      let rest = as_model (next r) e es (subst Inv (sym here) (kept (model_of s) c i)) p in (
        λ j. record { call = c; answer = (o j).answer; out = (o j).out } ∷ (rest.0 ∙ ap (λ (m : M). entries step m (calls_of es)) here) j,
        rest.1 ∙ ap (λ (m : M). handed_on step m (calls_of es)) here,
      )
