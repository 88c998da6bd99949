-- `after_data` runs start, the data and the data end.
use mathlib.Core.Path.{ap, ◌∙◌}
use Rattle.acorn_model.specs.Stretches.{through, data_piece, data_end}
use Rattle.acorn.proofs.Callers.{start_sized}
use Rattle.message.proofs.Inputs.after_data.Goals as goal

pub returns : goal.returns
returns c =
    let a = c.args in
    c.end_data.ensures
    ∙ ap (through data_end) (c.absorb_data.ensures
    ∙ ap (through (data_piece a.self.now.«data».now)) (c.start.ensures ∙ start_sized a.self.now.key.now a.self.now.nonce.now c.requires.0 c.requires.1))
