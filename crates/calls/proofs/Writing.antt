-- What is written behind what was written: the two strings joined.
use mathlib.Core.Path.{◌≡◌, sym, ap, ap₂, ◌∙◌}
use mathlib.Core.List.{List, [], ◌++◌, append_assoc, append-nil}
use Prim.Native.Nat.{ℕ, ◌+◌, ◌-◌, ◌≤◌}
use native.Mathlib.Omega.{arith}
use lib.ListN.{length, take, drop, length-append, length-drop}
use lib.Seq.{take_at, drop_at, take_all, drop-drop, drop-length}
use borrow.Rule.Slice.PartMut.{put_mid}
use Rattle.calls.specs.Calls.{written_over}

pub written-length : (a out : List ℕ) → length a ≤ length out → length (written_over a out) ≡ length out
unfolding written_over
written-length a out h = length-append a (drop (length a) out) ∙ omega (arith, length-drop (length a) out)

-- a string written at the start, and another into the part that begins behind it
pub written_behind : (a b out mid part : List ℕ) (n : ℕ) → length a ≡ n → n + length b ≤ length out → mid ≡ written_over a out
    → part ≡ written_over b (take (length mid - n) (drop n mid)) → put_mid n (length mid - n) mid part ≡ written_over (a ++ b) out
unfolding written_over
written_behind a b out mid part n long room mid-is part_is =
    ap₂ ◌++◌ (ap (take n) first ∙ take_at a (drop n out) n long) (ap₂ ◌++◌ (part_is ∙ ap (λ (l : List ℕ). b ++ drop (length b) l) whole) none ∙ append-nil (b ++ drop (length b) (drop n out)))
    ∙ sym (append_assoc a b (drop (length b) (drop n out))) ∙ ap (λ (l : List ℕ). a ++ b ++ l) behind
  where
    first : mid ≡ a ++ drop n out
    first = mid-is ∙ ap (λ (k : ℕ). a ++ drop k out) long

    rest : drop n mid ≡ drop n out
    rest = ap (drop n) first ∙ drop_at a (drop n out) n long

    same : length mid ≡ length out
    same = ap length first ∙ length-append a (drop n out) ∙ omega (arith, length-drop n out)

    whole : take (length mid - n) (drop n mid) ≡ drop n out
    whole = take_all (length mid - n) (drop n mid) (omega (arith, length-drop n mid)) ∙ rest

    none : drop (length mid - n) (drop n mid) ≡ []
    none = ap (λ (k : ℕ). drop k (drop n mid)) (sym (length-drop n mid)) ∙ drop-length (drop n mid)

    both : n + length b ≡ length (a ++ b)
    both = omega (arith, length-append a b)

    behind : drop (length b) (drop n out) ≡ drop (length (a ++ b)) out
    behind = drop-drop (length b) n out ∙ ap (λ (k : ℕ). drop k out) both
