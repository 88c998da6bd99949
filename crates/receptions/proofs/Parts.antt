-- The slice that is returned, in each case, is the part that the definition names.
use mathlib.Core.Path.{◌≡◌, refl, sym, ap, ◌∙◌, subst}
use mathlib.Core.Bool.{Bool, true, false, false≢true}
use mathlib.Core.List.{List, []}
use Prim.Native.Nat.{ℕ, ◌≤◌, ◌<◌}
use native.Mathlib.Nat.{le_refl}
use lib.ListN.{length}
use lib.Seq.{take_all}
use borrow.Author.Tests.{lt-ltb, le-ltb}
use denote.Ref.{Bor}
use Rattle.std.specs.Prelude.{Result, Ok, Err, is_err}
use Rattle.calls.specs.Calls.{◌if◌else◌}
use Rattle.calls.specs.Refusals.{refusal_number}
use Rattle.receptions.specs.declared.PartedAt.{PartedAt}
use Rattle.receptions.specs.Receptions.{Part, second_mast, first_mast, refused_at, not_parted, parting, longer}
use Rattle.receptions.specs.Clauses.{parting_reply, IsPart}
use Rattle.receptions.proofs.Beginnings.{longer-not_parted, longer_parted}

-- what an answer in code says: an error has a place where they part, and else they do not
pub err_parts : (r : Result Unit PartedAt) → is_err r ≡ true → (n : ℕ) × (k : ℕ) × (parting_reply r ≡ refused_at n k)
unfolding parting_reply
err_parts (Ok u) e = absurd (false≢true e)
err_parts (Err p) e = (refusal_number p.refusal, p.place, refl)

pub ok_not_parted : (r : Result Unit PartedAt) → is_err r ≡ false → parting_reply r ≡ not_parted
unfolding parting_reply
ok_not_parted (Ok u) e = refl
ok_not_parted (Err p) e = absurd (false≢true (sym e))

module _ (first second : Bor (List ℕ)) where
  all_of : Bool → Part
  all_of t = record { mast = second_mast; bytes = length second.now } if t else record { mast = first_mast; bytes = length first.now }

  pub is-second : parting first.now second.now ≡ not_parted → length first.now < length second.now
      → IsPart (longer first.now second.now) first second second
  unfolding all_of
  is-second e l =
      subst (λ (p : Part). IsPart p first second second) (sym (longer-not_parted first.now second.now e ∙ ap all_of (lt-ltb _ _ l)))
      (record { start = refl; bytes = sym (take_all (length second.now) second.now (le_refl _)) })

  pub is-first : parting first.now second.now ≡ not_parted → length second.now ≤ length first.now
      → IsPart (longer first.now second.now) first second first
  unfolding all_of
  is-first e l =
      subst (λ (p : Part). IsPart p first second first) (sym (longer-not_parted first.now second.now e ∙ ap all_of (le-ltb _ _ l)))
      (record { start = refl; bytes = sym (take_all (length first.now) first.now (le_refl _)) })

  pub is_empty : (r : Bor (List ℕ)) (n k : ℕ) → parting first.now second.now ≡ refused_at n k → r.ref_ptr ≡ first.ref_ptr → r.now ≡ []
      → IsPart (longer first.now second.now) first second r
  is_empty r n k e start none = subst (λ (p : Part). IsPart p first second r) (sym (longer_parted first.now second.now n k e)) (record { start = start; bytes = none })
