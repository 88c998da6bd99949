-- Times that fall; and the form of a ticket, which does not matter.
use mathlib.Core.Path.{◌≡◌, refl, sym, ap, ap₂, ◌∙◌, fun_ext}
use mathlib.Core.Bool.{Bool, true, false, ◌&&◌, false≢true}
use mathlib.Core.List.{List, [], ◌∷◌, map}
use mathlib.Core.Logic.{◌↔◌}
use Prim.Native.Nat.{ℕ, zero, suc, ◌≤◌, ◌<◌}
use native.Mathlib.Omega.{arith}
use lib.Dec.{eqb, ltb}
use lib.ListN.{length, get_or, length-map}
use borrow.Author.Tests.{eqb-true, eq-eqb, ltb-true, ltb-false}
use Rattle.std.proofs.lemmas.Bool.{and_parts, or_parts}
use Rattle.tape_model.specs.declared.Ticket.{Ticket}
use Rattle.tape_model.specs.Ticket.{no_ticket, in_form}
use Rattle.trucks.proofs.Counting.{told}
use Rattle.pairing.specs.Pairing.{at, fits, positions, greedy, paired, falls_behind, times_fall}
use Rattle.forms.specs.Laws.{AlikeButForms}
use Rattle.pairing.specs.Laws.{Falls}

-- the ticket at a place, counted from 0
abbrev place : List Ticket → ℕ → Ticket
place ts i = get_or ts i no_ticket

-- ## Where times do not fall

-- u has t's truck, and is tipped before it
abbrev falls_to : Ticket → Ticket → Bool
falls_to t u = eqb u.truck t.truck && ltb u.tipped t.tipped

behind : (t : Ticket) (ts : List Ticket) → falls_behind t ts ≡ false → (i : ℕ) → i < length ts → t.truck ≡ (place ts i).truck → t.tipped ≤ (place ts i).tipped
unfolding falls_behind
behind t [] e i h q = absurd (omega arith)
behind t (u ∷ us) e zero h q =
    let n : falls_to t u ≡ false = (or_parts (falls_to t u) (falls_behind t us) e).0 in
    ltb-false u.tipped t.tipped (rw (eq-eqb u.truck t.truck (sym q)) at n)
behind t (u ∷ us) e (suc i) h q = behind t us (or_parts (falls_to t u) (falls_behind t us) e).1 i (omega arith) q

-- later on the tape and of the same truck is not tipped earlier: for places counted from 0
pub times_by-place : (ts : List Ticket) → times_fall ts ≡ false → (i j : ℕ) → i < j → j < length ts
    → (get_or ts i no_ticket).truck ≡ (get_or ts j no_ticket).truck → (get_or ts i no_ticket).tipped ≤ (get_or ts j no_ticket).tipped
unfolding times_fall
times_by-place [] e i j h l q = absurd (omega arith)
times_by-place (t ∷ ts) e i zero h l q = absurd (omega arith)
times_by-place (t ∷ ts) e zero (suc j) h l q = behind t ts (or_parts (falls_behind t ts) (times_fall ts) e).0 j (omega arith) q
times_by-place (t ∷ ts) e (suc i) (suc j) h l q = times_by-place ts (or_parts (falls_behind t ts) (times_fall ts) e).1 i j (omega arith) (omega arith) q

-- and for positions counted from 1
pub times_by_position : (ts : List Ticket) → times_fall ts ≡ false → (p q : ℕ) → 1 ≤ p → p < q → q ≤ length ts
    → (at ts p).truck ≡ (at ts q).truck → (at ts p).tipped ≤ (at ts q).tipped
times_by_position ts e zero q one h l same = absurd (omega arith)
times_by_position ts e (suc i) zero one h l same = absurd (omega arith)
times_by_position ts e (suc i) (suc j) one h l same = times_by-place ts e i j (omega arith) (omega arith) same

-- ## Where they fall

found-behind : (t : Ticket) (ts : List Ticket) → falls_behind t ts ≡ true
    → (i : ℕ) × (i < length ts) × (t.truck ≡ (place ts i).truck) × ((place ts i).tipped < t.tipped)
unfolding falls_behind
found-behind t [] e = absurd (false≢true e)
found-behind t (u ∷ us) e =
    told (falls_to t u)
    (λ q. let f = and_parts _ _ q in (0, omega arith, sym (eqb-true _ _ f.0), ltb-true _ _ f.1))
    (λ q. let f = found-behind t us (rw q at e) in (suc f.0, omega arith, f.2, f.3))

found : (ts : List Ticket) → times_fall ts ≡ true
    → (i : ℕ) × (j : ℕ) × (i < j) × (j < length ts) × ((place ts i).truck ≡ (place ts j).truck) × ((place ts j).tipped < (place ts i).tipped)
unfolding times_fall
found [] e = absurd (false≢true e)
found (t ∷ ts) e =
    told (falls_behind t ts) (λ q. let f = found-behind t ts q in (0, suc f.0, omega arith, omega arith, f.2, f.3))
    (λ q. let f = found ts (rw q at e) in (suc f.0, suc f.1, omega arith, omega arith, f.4, f.5))

pub falls : (ts : List Ticket) → (times_fall ts ≡ true) ↔ Falls ts
falls ts = (to, back)
  where
    to : times_fall ts ≡ true → Falls ts
    to e =
        let f = found ts e in
        record { earlier = suc f.0; later = suc f.1; on-tape = (omega arith, omega arith, omega arith); same_truck = f.4; fall = f.5 }

    back : Falls ts → times_fall ts ≡ true
    back f =
        told (times_fall ts) (λ e. e)
        (λ e. absurd (let h = times_by_position ts e f.earlier f.later f.on-tape.0 f.on-tape.1 f.on-tape.2 f.same_truck in omega (arith, f.fall)))

-- ## Forms

-- the same tickets, all in form 1
abbrev in_form1 : List Ticket → List Ticket
in_form1 ts = map (in_form 1) ts

falls-behind_form : (t : Ticket) (ts : List Ticket) → falls_behind (in_form 1 t) (in_form1 ts) ≡ falls_behind t ts
unfolding falls_behind
falls-behind_form t [] = refl
falls-behind_form t (u ∷ us) = rw (falls-behind_form t us)

times_fall_form : (ts : List Ticket) → times_fall (in_form1 ts) ≡ times_fall ts
unfolding times_fall
times_fall_form [] = refl
times_fall_form (t ∷ ts) = rw (falls-behind_form t ts, times_fall_form ts)

place_form : (ts : List Ticket) (i : ℕ) → ((place (in_form1 ts) i).truck ≡ (place ts i).truck) × ((place (in_form1 ts) i).tipped ≡ (place ts i).tipped)
place_form [] i = (refl, refl)
place_form (t ∷ ts) zero = (refl, refl)
place_form (t ∷ ts) (suc i) = place_form ts i

at_form : (ts : List Ticket) (p : ℕ) → ((at (in_form1 ts) p).truck ≡ (at ts p).truck) × ((at (in_form1 ts) p).tipped ≡ (at ts p).tipped)
at_form ts zero = (refl, refl)
at_form ts (suc i) = place_form ts i

fits_form : (ts us : List Ticket) (p q : ℕ) → fits (in_form1 ts) (in_form1 us) p q ≡ fits ts us p q
unfolding fits
fits_form ts us p q = rw (length-map ts (in_form 1), length-map us (in_form 1), (at_form ts p).0, (at_form ts p).1, (at_form us q).0, (at_form us q).1)

paired_form : (ts us : List Ticket) → paired (in_form1 ts) (in_form1 us) ≡ paired ts us
unfolding paired
paired_form ts us =
    rw (length-map ts (in_form 1), length-map us (in_form 1))
    (ap (λ (fit : ℕ → ℕ → Bool). greedy fit (positions 1 (length ts)) (positions 1 (length us))) (fun_ext (λ p. fun_ext (λ q. fits_form ts us p q))))

pub forms : (ts ts' us us' : List Ticket) → AlikeButForms ts ts' → AlikeButForms us us' → (times_fall ts ≡ times_fall ts') × (paired ts us ≡ paired ts' us')
forms ts ts' us us' e f =
    (sym (times_fall_form ts) ∙ ap times_fall e ∙ times_fall_form ts', sym (paired_form ts us) ∙ ap₂ paired e f ∙ paired_form ts' us')
