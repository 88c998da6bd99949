-- `nonce_of` fills a head's bytes up with zeros.
use borrow.Author.Tests.{ne_eqb}
use mathlib.Core.Path.{sym, ap, ◌∙◌}
use mathlib.Core.List.{List, ◌++◌}
use Prim.Native.Nat.{ℕ}
use lib.ListN.{replicate}
use lib.Seq.{take-length}
use Rattle.ticket.specs.Packing.{nonce_or_zeros}
use Rattle.ticket.proofs.Nonce.{nonce_filled}
use Rattle.ticket.proofs.nonce_of.Goals as goal

pub returns-then-head-eq-HEAD_LENGTH : goal.returns-then-head-eq-HEAD_LENGTH
returns-then-head-eq-HEAD_LENGTH c =
    nonce_filled c.args.head.now c.if-head-eq-HEAD_LENGTH.true _ (ap (λ (l : List ℕ). l ++ replicate 7 0) (c.copy_from_slice.ensures.after ∙ sym (take-length c.args.head.now)) ∙ rw c.if-head-eq-HEAD_LENGTH.true)

pub returns-else-head-eq-HEAD_LENGTH : goal.returns-else-head-eq-HEAD_LENGTH
unfolding nonce_or_zeros
returns-else-head-eq-HEAD_LENGTH c = rw (ne_eqb _ _ c.if-head-eq-HEAD_LENGTH.false)
