-- `put_line`: there is room, so the line is written and its length answered.
use mathlib.Core.List.{◌++◌}
use Rattle.tape_model.specs.Listing.{line_end, numbers}
use Rattle.listing.proofs.Texts.{listed-wrote}
use Rattle.print_pay_sheet.proofs.put_line.Goals as goal

pub returns : goal.returns
returns c = rw c.unwrap_or.ensures (listed-wrote (c.args.word.now ++ numbers c.args.ns.now ++ line_end) c.args.text.now _ _ c.requires c.list_line.ensures)
