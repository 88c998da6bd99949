-- `put` copies into an output that is long enough, and refuses any other.
use borrow.Author.Tests.{lt-ltb}
use lib.Seq.{take-length}
use Rattle.calls.specs.Calls.{as_reply, unless_refused, result_of, put_into}
use Rattle.ticket.proofs.Writing.{put-fits}
use Rattle.ticket.proofs.put.Goals as goal

pub returns-then-out-packed : goal.returns-then-out-packed
unfolding put_into result_of unless_refused as_reply
returns-then-out-packed c = rw (lt-ltb _ _ c.if-out-packed.true)

pub returns : goal.returns
unfolding as_reply
returns c =
    let s = c.args in
    put-fits s.packed.now s.out.now _ c.if-out-packed.false (rw (c.copy_from_slice.ensures.after, take-length s.packed.now))
