-- `acorn::seal_13` meets its contract: 4, 8, 12 and then 13 bytes of the piece are run and written.
use native.Mathlib.Omega.{arith}
use Rattle.acorn_kernel.specs.Together.{state_of}
use Rattle.acorn.proofs.StretchRuns.{text_none, text_all}
use Rattle.acorn.proofs.seal_13.Goals as goal

pub returns : goal.returns
returns c =
    let S = state_of c.args.s in
    let o = c.args.out.now in
    text_all _ _ _ _ 13 _ _ (omega arith) (omega arith)
    (c.text_rest.ensures S o (c.seal_word-s3.ensures S o (c.seal_word-s2.ensures S o (c.seal_word-s1.ensures S o (text_none _ _ _ _)))))
