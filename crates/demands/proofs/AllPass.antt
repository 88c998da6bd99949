-- Lists of calls that all pass: what the whole list comes to is their work.
use mathlib.Core.Path.{◌≡◌, refl, subst}
use mathlib.Core.List.{List, [], ◌∷◌}
use Rattle.calls.specs.Calls.{Work, Outcome}
use Rattle.calls.specs.Lists.{entries, handed_on}

-- `step` does the work `plain` wherever the call passes
module _ {M C : Type 0} (step plain : M → C → Outcome M Work) (Inv : M → Type 0) (Passes : M → C → Type 0)
    (same : (m : M) (c : C) → Inv m → Passes m c → step m c ≡ plain m c) (kept : (m : M) (c : C) → Inv m → Inv (step m c).next) where
  abbrev pub AllPass : M → List C → Type 0
  AllPass m [] = Unit {0}
  AllPass m (c ∷ cs) = Passes m c × AllPass (plain m c).next cs

  pub all_same : (m : M) (cs : List C) → Inv m → AllPass m cs → (entries step m cs ≡ entries plain m cs) × (handed_on step m cs ≡ handed_on plain m cs)
  unfolding entries handed_on
  all_same m [] i p = (refl, refl)
  all_same m (c ∷ cs) i p =
      let e : step m c ≡ plain m c = same m c i p.0 in
      let rest = all_same (plain m c).next cs (subst (λ (o : Outcome M Work). Inv o.next) e (kept m c i)) p.1 in
      rw e (λ j. record { call = c; answer = (plain m c).answer; out = (plain m c).out } ∷ rest.0 j, rest.1)
