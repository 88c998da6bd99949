-- `Session::check_text` meets its contract.
use Rattle.std.proofs.Common.{◌≡◌, ◌+◌, ◌≤◌, true, ◌||◌, [], length, sym, refl, ap, ◌∙◌, ltb-false, ℕ, Bool, false, List, ltb}
use Rattle.calls.specs.Calls.{written_over}
use Rattle.acorn_model.specs.Machine.{check_text, output_of, is_checking, is_data, is_text, phase_allows, fixes_right, sizes_right, byte_limit, over_limit, output_short, text_taken, work}
use Rattle.acorn_model.proofs.Refusals.{Passed}
use Rattle.calls.proofs.Choices.{both}
use Rattle.session.specs.declared.Session.{Session}
use Rattle.acorn_model.specs.declared.Kind.TheVariants.{Checking}
use Rattle.acorn_model.specs.Stretches.{through, text_piece}
use Rattle.session.specs.Clauses.{machine_of, takes_text}
use Rattle.session.proofs.NextSession.{text-state}
use Rattle.session.proofs.Replies.{refused_1, refused_5, writes}
use Rattle.session.proofs.Session.check_text.Goals as goal

module _ (s : Session) (piece : List ℕ) where
  allowed-is : (b : Bool) → b ≡ takes_text Checking s → phase_allows (machine_of s).kind (machine_of s).phase (check_text piece) ≡ b
  unfolding machine_of phase_allows
  allowed-is b e = sym e

  over-is : (b : Bool) → b ≡ ltb byte_limit (s.text_bytes + length piece) → over_limit (machine_of s).counts (check_text piece) ≡ b
  unfolding machine_of over_limit
  over-is b e = sym e

  accepted : phase_allows (machine_of s).kind (machine_of s).phase (check_text piece) ≡ true → over_limit (machine_of s).counts (check_text piece) ≡ false
      → Passed (machine_of s) (check_text piece)
  unfolding fixes_right sizes_right output_short
  accepted phase limit = record { phase = phase; fixes = refl; sizes = refl; limit = limit; output = refl }

  -- the piece of an accepted call
  fits : over_limit (machine_of s).counts (check_text piece) ≡ false → s.text_bytes + length piece ≤ byte_limit
  unfolding machine_of over_limit
  fits limit = ltb-false byte_limit (s.text_bytes + length piece) limit

pub returns-then-not-allowed : goal.returns-then-not-allowed
unfolding output_of
returns-then-not-allowed c = refused_1 _ _ _ c.refused.ensures (allowed-is c.args.self c.args.piece.now _ c.takes_text-allowed.ensures ∙ c.if-not-allowed.true)

pub returns-then-over_limit : goal.returns-then-over_limit
unfolding output_of fixes_right sizes_right
returns-then-over_limit c =
    refused_5 _ _ _ c.refused-then-over_limit.ensures (allowed-is c.args.self c.args.piece.now _ c.takes_text-allowed.ensures ∙ c.if-not-allowed.false) refl refl (over-is c.args.self c.args.piece.now _ c.over_limit.ensures ∙ c.if-over_limit.true)

pub returns : goal.returns
unfolding machine_of phase_allows work written_over
returns c =
    let next = c.text_taken in
    let a = c.args in
    let p = accepted c.args.self c.args.piece.now (allowed-is c.args.self c.args.piece.now _ c.takes_text-allowed.ensures ∙ c.if-not-allowed.false) (over-is c.args.self c.args.piece.now _ c.over_limit.ensures ∙ c.if-over_limit.false) in
    let checks = (both (is_checking a.self.kind) (is_data a.self.phase || is_text a.self.phase) p.phase).0 in
    let state = c.check_text-checked.ensures ∙ ap (through (text_piece true a.piece.now)) c.data_ended.ensures ∙ text-state a.self a.piece.now true checks in
    writes a.self p [] [] (text_taken a.piece.now (machine_of a.self)) refl next.result (next.ensures state) 0 refl [] refl _ c.done.ensures
