-- `put_rest`: numbers, and the line's end.
use Rattle.tape_model.specs.Listing.{numbers}
use Rattle.listing.proofs.Texts.{byte_wrote}
use Rattle.listing.proofs.text.put_rest.Goals as goal

pub returns : goal.returns
returns c = byte_wrote (numbers c.args.ns.now) 10 c.args.out.now _ _ c.requires c.put_numbers-k.ensures
