-- `Session::words` meets its contract.
use Rattle.std.proofs.Common.{arith}
use Rattle.session.specs.Clauses.{machine_of}
use Rattle.session.proofs.WordsBack.{words_are}
use Rattle.session.proofs.Session.words.Goals as goal

pub returns : goal.returns
returns c =
    words_are _ _ _ c.number.ensures (unfold machine_of in c.fixed_length.ensures)
    (omega (arith, c.struct_known-2-1.given))
    (omega (arith, c.struct_known-4-1.given))
    (omega (arith, c.struct_known-6-1.given))
    (omega (arith, c.struct_known-8-1.given))
    (omega (arith, c.struct_known-10-1.given))
    (omega (arith, c.struct_known-12-1.given))
