-- What a comparison of phases says, for those that code compares with.
use Rattle.std.proofs.Common.{◌≡◌, Bool, not, sym, ap}
use denote.Enum.Bare.{sameb}
use Rattle.acorn_model.specs.declared.Phase.{Phase}
use Rattle.acorn_model.specs.declared.Phase.TheVariants.{Fresh, Data, Text, Closed}
use Rattle.acorn_model.specs.contracts.Phase.{the_type}
use Rattle.acorn_model.specs.Machine.{is_fresh, is_data}

pub fresh_unless : (p : Phase) (differs : Bool) → differs ≡ not (sameb the_type p Fresh) → is_fresh p ≡ not differs
fresh_unless Fresh differs e = ap not (sym e)
fresh_unless Data differs e = ap not (sym e)
fresh_unless Text differs e = ap not (sym e)
fresh_unless Closed differs e = ap not (sym e)

pub data_unless : (p : Phase) (differs : Bool) → differs ≡ not (sameb the_type p Data) → is_data p ≡ not differs
data_unless Fresh differs e = ap not (sym e)
data_unless Data differs e = ap not (sym e)
data_unless Text differs e = ap not (sym e)
data_unless Closed differs e = ap not (sym e)
