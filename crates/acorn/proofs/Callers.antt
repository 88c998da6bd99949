-- The runs where nothing is refused, for the crates above.
use mathlib.Core.Path.{◌≡◌, sym, ap, ◌∙◌}
use mathlib.Core.Bool.{Bool, cond}
use mathlib.Core.List.{List}
use Prim.Native.Nat.{ℕ, ◌≤◌}
use borrow.Author.Tests.{le-ltb}
use lib.ListN.{length}
use Rattle.acorn_model.specs.Bits.{Bits}
use Rattle.acorn_model.specs.Stretches.{through, zeros, start, text_piece, text_out}
use Rattle.calls.specs.Calls.{written_over}
use Rattle.acorn_model.specs.Machine.{key_length}
use Rattle.acorn.specs.Runs.{TextRun, start_state}
use Rattle.acorn.proofs.FixedRuns.{start_all}

module _ (opening : Bool) (S : Bits) (piece out : List ℕ) (S' : Bits) (out' : List ℕ) (room : length piece ≤ length out) (run : TextRun opening S piece out S' out') where
  pub text-state : S' ≡ through (text_piece opening piece) S
  text-state = run.state ∙ ap (λ (t : Bool). cond t S (through (text_piece opening piece) S)) (le-ltb (length out) (length piece) room)

  pub text_output : out' ≡ written_over (text_out opening piece S) out
  text_output = run.output ∙ ap (λ (t : Bool). cond t out (written_over (text_out opening piece S) out)) (le-ltb (length out) (length piece) room)

pub start_sized : (key nonce : List ℕ) → length key ≡ key_length → length nonce ≡ key_length → start_state key nonce ≡ through (start key nonce) zeros
start_sized key nonce k n = sym (start_all key nonce k n)
