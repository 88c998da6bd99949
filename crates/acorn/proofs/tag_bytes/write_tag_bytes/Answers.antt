-- `acorn::write_tag_bytes` meets its contract.
use mathlib.Core.Path.{refl, ◌∙◌}
use native.Mathlib.Omega.{arith}
use lib.ListN.{replicate}
use Rattle.acorn_kernel.specs.Together.{state_of}
use Rattle.acorn.proofs.FixedRuns.{tag_exact, tag-bytes_over, tag-bytes_short, tag-part, tag-bytes-copied}
use Rattle.acorn.proofs.tag_bytes.write_tag_bytes.Goals as goal

pub returns-then-n-gt-TAG_BYTES : goal.returns-then-n-gt-TAG_BYTES
returns-then-n-gt-TAG_BYTES c = let a = c.args in tag-bytes_over (state_of a.s) a.n a.out.now (omega arith)

pub returns-then-out-n : goal.returns-then-out-n
returns-then-out-n c = let a = c.args in tag-bytes_short (state_of a.s) a.n a.out.now (omega arith) (omega arith)

pub returns : goal.returns
returns c =
    let a = c.args in
    let S = state_of a.s in
    let full = c.write_tag.ensures ∙ tag_exact S (replicate 16 0) refl in
    tag-bytes-copied S a.n a.out.now (omega arith) (omega arith) _ _ (tag-part S a.n a.out.now _ _ full refl) c.copy_from_slice.ensures.after
