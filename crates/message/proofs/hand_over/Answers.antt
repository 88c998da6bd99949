-- `hand_over` writes the piece, or nothing.
use mathlib.Core.Path.{refl, sym, ap₂}
use mathlib.Core.List.{List, ◌++◌}
use Prim.Native.Nat.{ℕ}
use lib.ListN.{drop}
use lib.Seq.{length-take-le}
use Rattle.calls.specs.Calls.{written_over}
use Rattle.message.proofs.hand_over.Goals as goal

pub returns-then-good : goal.returns-then-good
unfolding written_over
returns-then-good c =
    rw c.if-good.true (record {
      out_after = ap₂ (λ (l : List ℕ) (k : ℕ). l ++ drop k c.args.out.now) c.copy_from_slice.ensures.after (sym (length-take-le c.args.n c.args.scratch.now c.requires.0));
      scratch_after = refl;
    })
