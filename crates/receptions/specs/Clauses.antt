-- What the code's answers stand for.
use Rattle.std.specs.Prelude.{◌≡◌, Result, Ok, Err, List, ℕ, take}
use Rattle.std.specs.Borrow.{Bor}
use Rattle.calls.specs.Refusals.{refusal_number}
use Rattle.receptions.specs.declared.PartedAt.{PartedAt}
use Rattle.receptions.specs.Receptions.{PartingReply, refused_at, not_parted, of_mast, Part}

-- document 02's number and values for each case of the answer in code
unfoldable pub parting_reply : Result Unit PartedAt → PartingReply
parting_reply (Ok _) = not_parted
parting_reply (Err p) = refused_at (refusal_number p.refusal) p.place

-- The returned slice r is this part of a lent reception itself: it starts where the reception does in memory, and has so many of its bytes. A slice's
-- length is that of its bytes, so that nothing of it is left open.
pub record IsPart (part : Part) (first second r : Bor (List ℕ)) : Type 0 where
  pub start : r.ref_ptr ≡ of_mast part.mast first.ref_ptr second.ref_ptr
  pub bytes : r.now ≡ take part.bytes (of_mast part.mast first.now second.now)
