-- `list_input`: the key is the first 16 bytes, or all where there are fewer.
use mathlib.Core.Path.{sym, ap, ap₂, ◌∙◌}
use mathlib.Core.List.{List}
use Prim.Native.Nat.{ℕ}
use native.Mathlib.Omega.{arith}
use Rattle.acorn_model.specs.Machine.{key_length}
use Rattle.tape_model.specs.Listing.{listing, printed}
use Rattle.calls.specs.Calls.{put_into}
use Rattle.listing.proofs.Inputs.{input-printed}
use Rattle.listing.proofs.list_input.Goals as goal

pub returns : goal.returns
unfolding printed
returns c =
    let parts = ap₂ listing c.split_at.ensures.front c.split_at.ensures.back in
    ap (λ (text : List ℕ). put_into text c.args.out.now) (sym (parts ∙ input-printed c.args.input.now _ key_length (λ h. omega (arith, c.min.ensures)) (λ h. omega (arith, c.min.ensures)))) ∙ c.list_tape.ensures
