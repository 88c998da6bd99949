-- `list_by`: the line of the refusal is the listing.
use mathlib.Core.Path.{◌≡◌, sym, ap, ◌∙◌}
use mathlib.Core.List.{List}
use Prim.Native.Nat.{ℕ}
use borrow.Author.Rules.{rules}
use Rattle.calls.specs.Refusals.{refusal_number}
use Rattle.calls.specs.Calls.{put_into}
use Rattle.tape_model.specs.Listing.{refused_line}
use Rattle.listing.proofs.list_by.Goals as goal

pub returns-in-Err : goal.returns-in-Err
unfolding refused_line
returns-in-Err c =
    let number : c.from-in-Err.result ≡ refusal_number c.in-Err.refusal = search rules in
    ap (λ (text : List ℕ). put_into text c.args.out.now) (sym c.in-Err.ensures ∙ ap refused_line (sym number)) ∙ c.list_line.ensures
