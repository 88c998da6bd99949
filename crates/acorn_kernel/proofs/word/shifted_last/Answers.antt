-- `acorn_kernel::word::shifted_last` meets its contract.
use Rattle.acorn_kernel.proofs.ShiftedBits.{both_lower, both_upper}
use borrow.Author.Rules.{rules}
use Rattle.acorn_kernel.proofs.word.shifted_last.Goals as goal

pub returns : goal.returns
returns c =
    let a = c.args in
    let r = c.shifted in
    (both_lower 60 4 a.w a.u a.n r.result a.k (search rules) r.ensures, both_upper 60 4 a.w a.u a.n r.result a.k (search rules) r.ensures)
