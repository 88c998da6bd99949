-- Lists of calls of any kind on any kind of machine: a list after a list, and that a list keeps what each call keeps.
use mathlib.Core.Path.{◌≡◌, refl, ap}
use mathlib.Core.List.{List, [], ◌∷◌, ◌++◌, append-nil, append_assoc}
use Rattle.calls.specs.Calls.{Outcome}
use Rattle.calls.specs.Lists.{Entry, entries, handed_on}

module _ {M C A : Type 0} (step : M → C → Outcome M A) where
  abbrev pub entry_of : M → C → Entry C A
  entry_of m c = record { call = c; answer = (step m c).answer; out = (step m c).out }

  pub handed_append : (m : M) (cs ds : List C) → handed_on step m (cs ++ ds) ≡ handed_on step (handed_on step m cs) ds
  unfolding handed_on
  handed_append m [] ds = refl
  handed_append m (c ∷ cs) ds = handed_append (step m c).next cs ds

  pub entries_append : (m : M) (cs ds : List C) → entries step m (cs ++ ds) ≡ entries step m cs ++ entries step (handed_on step m cs) ds
  unfolding entries handed_on
  entries_append m [] ds = refl
  entries_append m (c ∷ cs) ds = ap (◌∷◌ (entry_of m c)) (entries_append (step m c).next cs ds)

  -- what holds of a machine and the entries that led to it
  module _ (P : M → List (Entry C A) → Type 0) (kept : (m : M) (c : C) (es : List (Entry C A)) → P m es → P (step m c).next (es ++ (entry_of m c ∷ []))) where
    list_keeps : (m : M) (cs : List C) (es : List (Entry C A)) → P m es → P (handed_on step m cs) (es ++ entries step m cs)
    unfolding handed_on entries
    list_keeps m [] es h = rw append-nil h
    list_keeps m (c ∷ cs) es h = rw append_assoc at (list_keeps (step m c).next cs (es ++ (entry_of m c ∷ [])) (kept m c es h))

    pub kept-by_list : (m : M) (cs : List C) → P m [] → P (handed_on step m cs) (entries step m cs)
    kept-by_list m cs h = list_keeps m cs [] h
