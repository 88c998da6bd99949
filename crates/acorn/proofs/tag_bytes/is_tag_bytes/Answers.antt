-- `acorn::is_tag_bytes` meets its contract.
use mathlib.Core.Path.{ap, ◌∙◌}
use lib.ListN.{replicate}
use native.Mathlib.Omega.{arith}
use Rattle.calls.specs.Calls.{same_bytes}
use Rattle.acorn_kernel.specs.Together.{state_of}
use Rattle.acorn.proofs.FixedRuns.{tag_front, tag-cut}
use Rattle.acorn.proofs.tag_bytes.is_tag_bytes.Goals as goal

pub returns : goal.returns
returns c =
    let a = c.args in
    let k = c.min-k.result in
    c.same_bytes.ensures
    ∙ ap (same_bytes a.given.now) (tag_front (state_of a.s) k (replicate 16 0) (omega (arith, c.min-k.ensures)) (omega (arith, c.min-k.ensures)) _ c.write_tag_bytes.ensures
    ∙ tag-cut (state_of a.s) a.n a.given.now k (omega (arith, c.min-k.ensures)))
