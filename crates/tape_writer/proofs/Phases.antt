-- What a comparison of a writer's phases says, for those that code compares with.
use Rattle.std.proofs.Common.{◌≡◌, Bool, not, sym, ap}
use denote.Enum.Bare.{sameb}
use Rattle.tape_model.specs.declared.WriterPhase.{WriterPhase}
use Rattle.tape_model.specs.declared.WriterPhase.TheVariants.{Fresh, Open, Closed}
use Rattle.tape_model.specs.contracts.WriterPhase.{the_type}
use Rattle.tape_model.specs.Writer.{is_fresh, is_open}

pub fresh_unless : (p : WriterPhase) (differs : Bool) → differs ≡ not (sameb the_type p Fresh) → is_fresh p ≡ not differs
fresh_unless Fresh differs e = ap not (sym e)
fresh_unless Open differs e = ap not (sym e)
fresh_unless Closed differs e = ap not (sym e)

pub open_unless : (p : WriterPhase) (differs : Bool) → differs ≡ not (sameb the_type p Open) → is_open p ≡ not differs
open_unless Fresh differs e = ap not (sym e)
open_unless Open differs e = ap not (sym e)
open_unless Closed differs e = ap not (sym e)
