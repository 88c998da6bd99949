-- `Session::data` meets its contract.
use Rattle.std.proofs.Common.{◌≡◌, ◌+◌, ◌≤◌, [], length, sym, refl, ap, not, ◌∙◌, ltb-false, ℕ, Bool, true, false, List, ltb}
use Rattle.calls.specs.Calls.{written_over}
use Rattle.acorn_model.specs.Machine.{data_call, output_of, phase_allows, fixes_right, sizes_right, byte_limit, over_limit, output_short, run_through, count_data, data_taken, work}
use Rattle.acorn_model.proofs.Refusals.{Passed}
use denote.Enum.Bare.{sameb}
use Rattle.acorn_model.specs.declared.Phase.TheVariants.{Data}
use Rattle.acorn_model.specs.contracts.Phase.{the_type}
use Rattle.session.proofs.Phases.{data_unless}
use Rattle.session.specs.declared.Session.{Session}
use Rattle.session.specs.Clauses.{machine_of, wrapped}
use Rattle.session.proofs.NextSession.{stands_for}
use Rattle.session.proofs.Replies.{refused_1, refused_5, writes}
use Rattle.session.proofs.Session.data.Goals as goal

module _ (s : Session) (piece : List ℕ) where
  allowed-is : (differs : Bool) → differs ≡ not (sameb the_type s.phase Data) → phase_allows (machine_of s).kind (machine_of s).phase (data_call piece) ≡ not differs
  unfolding machine_of phase_allows
  allowed-is differs e = data_unless s.phase differs e

  over-is : (b : Bool) → b ≡ ltb byte_limit (s.data_bytes + length piece) → over_limit (machine_of s).counts (data_call piece) ≡ b
  unfolding machine_of over_limit
  over-is b e = sym e

  accepted : phase_allows (machine_of s).kind (machine_of s).phase (data_call piece) ≡ true → over_limit (machine_of s).counts (data_call piece) ≡ false
      → Passed (machine_of s) (data_call piece)
  unfolding fixes_right sizes_right output_short
  accepted phase limit = record { phase = phase; fixes = refl; sizes = refl; limit = limit; output = refl }

  -- the piece of an accepted call
  fits : over_limit (machine_of s).counts (data_call piece) ≡ false → s.data_bytes + length piece ≤ byte_limit
  unfolding machine_of over_limit
  fits limit = ltb-false byte_limit (s.data_bytes + length piece) limit

pub returns-then-ne : goal.returns-then-ne
unfolding output_of
returns-then-ne c = refused_1 _ _ _ c.refused.ensures (allowed-is c.args.self c.args.piece.now _ c.ne.ensures ∙ ap not c.if-ne.true)

pub returns-then-over_limit : goal.returns-then-over_limit
unfolding output_of fixes_right sizes_right
returns-then-over_limit c =
    refused_5 _ _ _ c.refused-then-over_limit.ensures (allowed-is c.args.self c.args.piece.now _ c.ne.ensures ∙ ap not c.if-ne.false) refl refl (over-is c.args.self c.args.piece.now _ c.over_limit.ensures ∙ c.if-over_limit.true)

pub returns : goal.returns
unfolding work data_taken run_through count_data machine_of wrapped written_over
returns c =
    let a = c.args in
    let next = data_taken a.piece.now (machine_of a.self) in
    let after = stands_for _ next refl refl refl c.absorb_data-absorbed.ensures refl refl refl in
    writes a.self (accepted c.args.self c.args.piece.now (allowed-is c.args.self c.args.piece.now _ c.ne.ensures ∙ ap not c.if-ne.false) (over-is c.args.self c.args.piece.now _ c.over_limit.ensures ∙ c.if-over_limit.false)) [] [] next refl _ after 0 refl [] refl _ c.done.ensures
