-- `list_opened`: the text is written where it fits.
use Rattle.listing.specs.Clauses.{text_of}
use Rattle.listing.proofs.Texts.{listed-whole, listed_short}
use Rattle.listing.proofs.LineLengths.{short, fits}
use Rattle.listing.proofs.list_opened.Goals as goal

pub returns-then-is_none : goal.returns-then-is_none
returns-then-is_none c = listed_short (text_of c.args.opened.head c.args.opened.plain.now) (short _ _ _ c.room_behind.ensures c.is_none.ensures c.if-is_none.true)

pub returns : goal.returns
returns c = listed-whole (fits _ _ _ c.room_behind.ensures c.is_none.ensures c.if-is_none.false) c.put_listing.ensures
