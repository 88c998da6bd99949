-- The contracts of opening a tape into an output and into a scratch.
use Rattle.std.specs.Prelude as std
use Rattle.std.specs.Prelude.{◌≡◌, not, ◌&&◌, ◌||◌, List, ℕ, eqb, length, replicate}
use Rattle.calls.specs.declared.Refusal.{Refusal}
use Rattle.calls.specs.Calls.{◌if◌else◌, accepted, written_over, Result, as_reply, is_refused}
use Rattle.acorn_model.specs.Machine.{key_length}
use Rattle.tape_model.specs.declared.Totals.{Totals}
use Rattle.tape_model.specs.Ticket.{unpack_head}
use Rattle.tape_model.specs.Tape.{is_tape_length, head_bytes, plain_bytes, open_tape_refusal, open_tape}

-- opening into `out` answered r, and left `after` there
abbrev pub OpensTape : List ℕ → List ℕ → List ℕ → std.Result Totals Refusal → List ℕ → Type 0
OpensTape key tape out r after = open_tape key tape out ≡ record { answer = as_reply r; out = after }

-- ## Opening into a scratch

-- what stands in the scratch after an opening with this number: the text at its front where none applies, zeros all through where the tag or a
-- ticket sends the tape back (7, 8), and what stood there for every other number
unfoldable pub scratch_after : ℕ → List ℕ → List ℕ → List ℕ
scratch_after number text scratch =
    written_over text scratch if eqb number accepted else
    replicate (length scratch) 0 if eqb number 7 || eqb number 8 else
    scratch

-- what an opening into a scratch comes to: its answer is that of `open_tape` with the scratch as output
unfoldable pub open_scratch : List ℕ → List ℕ → List ℕ → Result Totals
open_scratch key tape scratch = record { answer = (open_tape key tape scratch).answer; out = scratch_after (open_tape_refusal key tape scratch) (plain_bytes key tape) scratch }

-- opening into a scratch answered r, and left `after` there
abbrev pub OpensScratch : List ℕ → List ℕ → List ℕ → std.Result Totals Refusal → List ℕ → Type 0
OpensScratch key tape scratch r after = open_scratch key tape scratch ≡ record { answer = as_reply r; out = after }

-- ## What the private functions cite

-- the numbers that key and tape give by their lengths and the head
unfoldable pub sealed_refusal : List ℕ → List ℕ → ℕ
sealed_refusal key tape =
    2 if not (eqb (length key) key_length && is_tape_length (length tape)) else
    3 if is_refused (unpack_head (head_bytes tape)) else
    accepted
