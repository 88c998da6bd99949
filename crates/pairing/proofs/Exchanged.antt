-- Exchanging the tapes gives as many pairs, where no times fall.
use mathlib.Core.Path.{◌≡◌, refl, sym, ap}
use mathlib.Core.Bool.{true, false}
use mathlib.Core.List.{List, [], ◌∷◌}
use Prim.Native.Nat.{ℕ, suc, ◌≤◌}
use native.Mathlib.Omega.{arith}
use lib.ListN.{length}
use Rattle.tape_model.specs.declared.Ticket.{Ticket}
use Rattle.pairing.specs.Pairing.{fits, Pair, firsts, seconds, AllFit, KeepsRules, paired, times_fall}
use Rattle.pairing.proofs.Rules.{fits_means, means_fits, none_has_more}
use Rattle.pairing.proofs.Leftovers.{keeps_rules}

-- the pairs with first and second exchanged
abbrev turned : List Pair → List Pair
turned [] = []
turned (x ∷ pairs) = record { first = x.second; second = x.first } ∷ turned pairs

turned-length : (pairs : List Pair) → length (turned pairs) ≡ length pairs
turned-length [] = refl
turned-length (x ∷ pairs) = ap suc (turned-length pairs)

turned-firsts : (pairs : List Pair) → firsts (turned pairs) ≡ seconds pairs
turned-firsts [] = refl
turned-firsts (x ∷ pairs) = ap (λ (l : List ℕ). x.second ∷ l) (turned-firsts pairs)

turned-seconds : (pairs : List Pair) → seconds (turned pairs) ≡ firsts pairs
turned-seconds [] = refl
turned-seconds (x ∷ pairs) = ap (λ (l : List ℕ). x.first ∷ l) (turned-seconds pairs)

module _ (ts us : List Ticket) where
  pub fits-turned : (p q : ℕ) → fits ts us p q ≡ true → fits us ts q p ≡ true
  fits-turned p q e =
      let m = fits_means ts us p q e in
      means_fits us ts q p
      (record {
        first-low = m.second-low;
        first-high = m.second-high;
        second-low = m.first-low;
        second-high = m.first-high;
        truck = sym m.truck;
        first_late = m.second_late;
        second_late = m.first_late;
      })

  turned-fit : (pairs : List Pair) → AllFit (fits ts us) pairs → AllFit (fits us ts) (turned pairs)
  turned-fit [] f = tt
  turned-fit (x ∷ pairs) f = (fits-turned x.first x.second f.0, turned-fit pairs f.1)

  turned_keeps : (pairs : List Pair) → KeepsRules ts us pairs → KeepsRules us ts (turned pairs)
  turned_keeps pairs k =
      record { fit = turned-fit pairs k.fit; once-first = rw turned-firsts k.once-second; once-second = rw turned-seconds k.once-first }

  at_most : times_fall ts ≡ false → times_fall us ≡ false → length (paired ts us).pairs ≤ length (paired us ts).pairs
  at_most e e' =
      let h = none_has_more us ts e' e (turned (paired ts us).pairs) (turned_keeps (paired ts us).pairs (keeps_rules ts us)) in
      omega (arith, turned-length (paired ts us).pairs)

pub exchanged : (ts us : List Ticket) → times_fall ts ≡ false → times_fall us ≡ false → length (paired us ts).pairs ≡ length (paired ts us).pairs
exchanged ts us e e' = omega (arith, at_most ts us e e', at_most us ts e' e)
