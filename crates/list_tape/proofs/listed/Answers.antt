-- `listed`: the text has room, so it is written and its length answered.
use mathlib.Core.Path.{sym}
use native.Mathlib.Omega.{arith}
use lib.Seq.{length-take-le}
use Rattle.listing.proofs.Texts.{wrote-within}
use Rattle.listing.proofs.Inputs.{printed-length, input-wrote}
use Rattle.list_tape.proofs.listed.Goals as goal

pub returns : goal.returns
returns c =
    let a = c.args in
    let w = input-wrote a.input.now a.text.now _ _ (omega (arith, c.requires)) c.list_input.ensures in
    let within = wrote-within (omega (arith, c.requires, printed-length a.input.now)) w in
    rw c.unwrap_or.ensures (record { wrote = w; prefix_len = (within, sym (length-take-le _ _ within)) })
