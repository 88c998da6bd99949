-- An output that is filled from its start; and the positions with a partner and without one, taken one after the other.
use mathlib.Core.Path.{◌≡◌, refl, sym, ap, ap₂, ◌∙◌}
use mathlib.Core.List.{List, [], ◌∷◌, ◌++◌, append-nil}
use Prim.Native.Nat.{ℕ, zero, suc, ◌+◌, ◌≤◌, ◌<◌}
use native.Mathlib.Omega.{arith}
use native.Mathlib.Numerals.{add-one}
use lib.ListN.{length, get_or, set, take, drop, length-set, length-append, take-append-drop, drop_of_length-le}
use lib.Seq.{length-take-le, drop-cons, append_snoc, drop-set-lt, take-suc-set, drop-drop}
use Rattle.calls.specs.Calls.{written_over}
use Rattle.pairing.specs.Pairing.{pair_numbers}
use Rattle.pairing.specs.Clauses.{unpaired, pairs_in}

-- ## Filling

-- the first n numbers of the output and the rest that is to come are all that is to be written; behind them the output is as it was
pub record Filled (out₀ all out : List ℕ) (n : ℕ) (rest : List ℕ) : Type 0 where
  pub room : length all ≤ length out₀
  pub same : length out ≡ length out₀
  pub within : n ≤ length out
  pub front : take n out ++ rest ≡ all
  pub behind : drop n out ≡ drop n out₀

pub fill_start : (out all : List ℕ) → length all ≤ length out → Filled out all out 0 all
fill_start out all h = record { room = h; same = refl; within = omega arith; front = refl; behind = refl }

-- as much room as is yet needed
pub fill_room : {out₀ all out rest : List ℕ} {n : ℕ} → Filled out₀ all out n rest → n + length rest ≤ length out
fill_room {out = out} {rest = rest} {n = n} f =
    omega (arith, f.room, f.same, sym (length-append (take n out) rest) ∙ ap length f.front, length-take-le n out f.within)

pub fill_next : {out₀ all out rest : List ℕ} {n : ℕ} (x : ℕ) → Filled out₀ all out n (x ∷ rest) → Filled out₀ all (set out n x) (n + 1) rest
fill_next {out₀} {out = out} {rest = rest} {n = n} x f =
    let h : n < length out = omega (arith, fill_room f) in
    record {
      room = f.room;
      same = length-set out n x ∙ f.same;
      within = omega (arith, length-set out n x);
      front = rw (add-one, take-suc-set out n x h) (append_snoc (take n out) x rest ∙ f.front);
      behind = drop-set-lt (n + 1) out n x (omega arith) ∙ further;
    }
  where
    further : drop (n + 1) out ≡ drop (n + 1) out₀
    further = sym (drop-drop 1 n out) ∙ ap (drop 1) f.behind ∙ drop-drop 1 n out₀

pub fill_end : {out₀ all out : List ℕ} {n : ℕ} → Filled out₀ all out n [] → out ≡ written_over all out₀
unfolding written_over
fill_end {out₀} {all} {out} {n} f =
    let whole : take n out ≡ all = sym (append-nil (take n out)) ∙ f.front in
    let long : length all ≡ n = sym (ap length whole) ∙ length-take-le n out f.within in
    sym (take-append-drop n out) ∙ ap₂ ◌++◌ whole (f.behind ∙ ap (λ (k : ℕ). drop k out₀) (sym long))

-- ## Partners, from place j on

module _ (l : List ℕ) (k j : ℕ) (h : j < length l) where
  abbrev behind : List ℕ
  behind = drop (j + 1) l

  here : drop j l ≡ get_or l j 0 ∷ behind
  here = rw (add-one) (drop-cons l j 0 h)

  pub left_here : get_or l j 0 ≡ 0 → unpaired k (drop j l) ≡ k ∷ unpaired (suc k) behind
  left_here z = ap (unpaired k) here ∙ ap (λ (x : ℕ). unpaired k (x ∷ behind)) z

  pub left_passed : (get_or l j 0 ≡ 0 → ⊥) → unpaired k (drop j l) ≡ unpaired (suc k) behind
  left_passed z = ap (unpaired k) here ∙ by (get_or l j 0) z
    where
      by : (x : ℕ) → (x ≡ 0 → ⊥) → unpaired k (x ∷ behind) ≡ unpaired (suc k) behind
      by zero d = absurd (d refl)
      by (suc q) d = refl

  pub pair-here : (get_or l j 0 ≡ 0 → ⊥) → pairs_in k (drop j l) ≡ record { first = k; second = get_or l j 0 } ∷ pairs_in (suc k) behind
  pair-here z = ap (pairs_in k) here ∙ by (get_or l j 0) z
    where
      by : (x : ℕ) → (x ≡ 0 → ⊥) → pairs_in k (x ∷ behind) ≡ record { first = k; second = x } ∷ pairs_in (suc k) behind
      by zero d = absurd (d refl)
      by (suc q) d = refl

  pub pair-passed : get_or l j 0 ≡ 0 → pairs_in k (drop j l) ≡ pairs_in (suc k) behind
  pair-passed z = ap (pairs_in k) here ∙ ap (λ (x : ℕ). pairs_in k (x ∷ behind)) z

-- ## One turn of a loop that writes: of positions without a partner, and of pairs

later : (j : ℕ) → suc (suc j) ≡ suc (j + 1)
later j = omega arith

module _ {out₀ all out : List ℕ} {n : ℕ} (l : List ℕ) (j : ℕ) (h : j < length l) where
  module _ (f : Filled out₀ all out n (unpaired (suc j) (drop j l))) where
    module _ (z : get_or l j 0 ≡ 0) where
      to_write : Filled out₀ all out n (suc j ∷ unpaired (suc (suc j)) (drop (j + 1) l))
      to_write = rw (left_here l (suc j) j h z) at f

      pub left-room : n < length out
      left-room = omega (arith, fill_room to_write)

      pub left-written : (x : ℕ) → x ≡ suc j → (o : List ℕ) (m : ℕ) → o ≡ set out n x → m ≡ n + 1
          → Filled out₀ all o m (unpaired (suc (j + 1)) (drop (j + 1) l))
      left-written x e o m eo em = rw (eo, em, e, ← later j) (fill_next (suc j) to_write)

    pub left-kept : (get_or l j 0 ≡ 0 → ⊥) → (o : List ℕ) (m : ℕ) → o ≡ out → m ≡ n → Filled out₀ all o m (unpaired (suc (j + 1)) (drop (j + 1) l))
    left-kept z o m eo em = rw (eo, em, ← later j) (rw (left_passed l (suc j) j h z) at f)

  module _ (f : Filled out₀ all out n (pair_numbers (pairs_in (suc j) (drop j l)))) where
    module _ (z : get_or l j 0 ≡ 0 → ⊥) where
      pair_to_write : Filled out₀ all out n (suc j ∷ get_or l j 0 ∷ pair_numbers (pairs_in (suc (suc j)) (drop (j + 1) l)))
      pair_to_write = rw (pair-here l (suc j) j h z) at f

      pub pair-written : (x y : ℕ) → x ≡ suc j → y ≡ get_or l j 0 → (o : List ℕ) (m : ℕ) → o ≡ set (set out n x) (n + 1) y → m ≡ n + 2
          → Filled out₀ all o m (pair_numbers (pairs_in (suc (j + 1)) (drop (j + 1) l)))
      pair-written x y ex ey o m eo em =
          let two : n + 2 ≡ n + 1 + 1 = omega arith in
          rw (eo, em, ex, ey, two, ← later j) (fill_next (get_or l j 0) (fill_next (suc j) pair_to_write))

    pub pairs_kept : get_or l j 0 ≡ 0 → (o : List ℕ) (m : ℕ) → o ≡ out → m ≡ n → Filled out₀ all o m (pair_numbers (pairs_in (suc (j + 1)) (drop (j + 1) l)))
    pairs_kept z o m eo em = rw (eo, em, ← later j) (rw (pair-passed l (suc j) j h z) at f)

-- at the end of the partners nothing is to come
module _ {out₀ all out : List ℕ} {n : ℕ} (l : List ℕ) (j : ℕ) (h : length l ≤ j) where
  pub left_ended : Filled out₀ all out n (unpaired (suc j) (drop j l)) → out ≡ written_over all out₀
  left_ended f = fill_end (rw (drop_of_length-le l h) at f)

  pub pairs_ended : Filled out₀ all out n (pair_numbers (pairs_in (suc j) (drop j l))) → out ≡ written_over all out₀
  pairs_ended f = fill_end (rw (drop_of_length-le l h) at f)
