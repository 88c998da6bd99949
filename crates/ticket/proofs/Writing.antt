-- What packing into lent bytes comes to, for tickets and heads alike.
use Prim.Native.Nat.{ℕ, ◌≤◌}
use mathlib.Core.Path.{◌≡◌}
use mathlib.Core.Bool.{Bool, true, not}
use mathlib.Core.List.{List, ◌++◌}
use lib.Dec.{ltb}
use lib.ListN.{length, take, drop}
use lib.Seq.{take-length}
use borrow.Author.Tests.{le-ltb}
use Rattle.calls.specs.Calls.{◌if◌else◌, done, accepted, unless_refused, written_over, Result, result_of, put_into}

-- into an output that is long enough, all bytes are copied
pub put-fits : (packed out after : List ℕ) → length packed ≤ length out → after ≡ take (length packed) packed ++ drop (length packed) out
    → put_into packed out ≡ record { answer = done (length packed); out = after }
unfolding put_into result_of unless_refused written_over
put-fits packed out after h e = rw (le-ltb _ _ h, e, take-length packed)

-- where the rule is met, packing is putting the packed string
pub packing_puts : (n size : ℕ) (rule : Bool) (packed string out : List ℕ) (r : Result ℕ) → rule ≡ true → string ≡ packed → length packed ≡ size
    → put_into string out ≡ r → result_of (n if not rule else 6 if ltb (length out) size else accepted) size packed out ≡ r
unfolding put_into
packing_puts n size rule packed string out r met e long put = rw (met, ← long, ← e) put
