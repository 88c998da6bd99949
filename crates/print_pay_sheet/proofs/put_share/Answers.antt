-- `put_share`: there is room, so the line is written and its length answered.
use Rattle.listing.proofs.Texts.{listed-wrote}
use Rattle.print_pay_sheet.specs.Clauses.{share_line}
use Rattle.print_pay_sheet.proofs.put_share.Goals as goal

pub returns : goal.returns
returns c = rw c.unwrap_or.ensures (listed-wrote (share_line c.args.c c.args.share) c.args.text.now _ _ c.requires c.list_numbers.ensures)
