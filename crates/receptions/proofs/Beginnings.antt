-- Strings that do not part: one is the beginning of the other, and the longer is handed back.
use mathlib.Core.Path.{◌≡◌, refl, sym, ap, ap₂, ◌∙◌}
use mathlib.Core.Bool.{Bool, true, false, ◌&&◌, ◌||◌, false≢true}
use mathlib.Core.List.{List, [], ◌∷◌, ◌++◌}
use Prim.Native.Nat.{ℕ}
use lib.Dec.{eqb}
use borrow.Author.Tests.{eq-eqb, eqb-true}
use Rattle.std.proofs.lemmas.Bool.{and_parts}
use Rattle.calls.specs.Calls.{◌if◌else◌}
use Rattle.receptions.specs.Receptions.{PartingReply, refused_at, not_parted, one_place_later, parting, is_beginning, all_of_longer, no_bytes, longer}
use Rattle.receptions.specs.Laws.{Begins}
use Rattle.receptions.proofs.Places.{is_not_parted, eqb-sym}

-- ## Whether a string is the beginning of another

pub begins : (a b : List ℕ) → is_beginning a b ≡ true → Begins a b
unfolding is_beginning
begins [] b e = (b, refl)
begins (x ∷ a) [] e = absurd (false≢true e)
begins (x ∷ a) (y ∷ b) e =
    let t = and_parts (eqb x y) (is_beginning a b) e in
    let p = begins a b t.1 in (p.0, ap₂ ◌∷◌ (eqb-true x y t.0) p.1)

goes_on : (a rest : List ℕ) → is_beginning a (a ++ rest) ≡ true
unfolding is_beginning
goes_on [] rest = refl
goes_on (x ∷ a) rest = rw (eq-eqb x x refl) (goes_on a rest)

pub is-beginning : (a b : List ℕ) → Begins a b → is_beginning a b ≡ true
is-beginning a b p = ap (is_beginning a) (sym p.1) ∙ goes_on a p.0

-- ## They do not part exactly where one is the beginning of the other

by_first : (t : Bool) (r : PartingReply) → is_not_parted (one_place_later r if t else refused_at 10 0) ≡ (t && is_not_parted r)
by_first true (refused_at n k) = refl
by_first true not_parted = refl
by_first false r = refl

both_or : (t u v : Bool) → (t && (u || v)) ≡ ((t && u) || (t && v))
both_or true u v = refl
both_or false u v = refl

pub one-begins : (a b : List ℕ) → is_not_parted (parting a b) ≡ (is_beginning a b || is_beginning b a)
unfolding parting is_beginning
one-begins [] b = refl
one-begins (x ∷ a) [] = refl
one-begins (x ∷ a) (y ∷ b) =
    by_first (eqb x y) (parting a b) ∙ ap (λ (t : Bool). eqb x y && t) (one-begins a b) ∙ both_or (eqb x y) (is_beginning a b) (is_beginning b a)
    ∙ ap (λ (t : Bool). (eqb x y && is_beginning a b) || (t && is_beginning b a)) (eqb-sym x y)

-- ## What is handed back

module _ (a b : List ℕ) where
  by-parting : longer a b ≡ (all_of_longer a b if is_not_parted (parting a b) else no_bytes)
  unfolding longer
  by-parting = ap (λ (t : Bool). all_of_longer a b if t else no_bytes) (sym (one-begins a b))

  pub longer-not_parted : parting a b ≡ not_parted → longer a b ≡ all_of_longer a b
  longer-not_parted e = by-parting ∙ ap (λ (r : PartingReply). all_of_longer a b if is_not_parted r else no_bytes) e

  pub longer_parted : (n k : ℕ) → parting a b ≡ refused_at n k → longer a b ≡ no_bytes
  longer_parted n k e = by-parting ∙ ap (λ (r : PartingReply). all_of_longer a b if is_not_parted r else no_bytes) e
