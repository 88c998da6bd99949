-- `Session::seal_by` meets its contract.
use Rattle.std.proofs.Common.{◌≡◌, ◌+◌, false, ◌||◌, length, sym, refl, ◌∙◌, ℕ, Bool, true, List, ltb, le-ltb, lt-ltb}
use Rattle.acorn_model.specs.Machine.{seal_text, output_of, is_data, is_text, phase_allows, fixes_right, sizes_right, byte_limit, over_limit, output_short, data_ended, text_taken, work}
use Rattle.acorn_model.proofs.Refusals.{Passed}
use Rattle.acorn_model.proofs.Outputs.{text_out-length}
use Rattle.session.specs.declared.Session.{Session}
use Rattle.acorn_model.specs.declared.Kind.TheVariants.{Sealing}
use Rattle.session.specs.Clauses.{machine_of, takes_text}
use Rattle.session.proofs.NextSession.{text-state, sealed_output, sealing_only}
use Rattle.session.proofs.Replies.{refused_1, refused_5, refused_6, writes}
use Rattle.session.proofs.Session.seal_by.Goals as goal

module _ (s : Session) (piece out : List ℕ) where
  allowed-is : (b : Bool) → b ≡ takes_text Sealing s → phase_allows (machine_of s).kind (machine_of s).phase (seal_text piece out) ≡ b
  unfolding machine_of phase_allows
  allowed-is b e = sym e

  over-is : (b : Bool) → b ≡ ltb byte_limit (s.text_bytes + length piece) → over_limit (machine_of s).counts (seal_text piece out) ≡ b
  unfolding machine_of over_limit
  over-is b e = sym e

  accepted : phase_allows (machine_of s).kind (machine_of s).phase (seal_text piece out) ≡ true → over_limit (machine_of s).counts (seal_text piece out) ≡ false
      → ltb (length out) (length piece) ≡ false → Passed (machine_of s) (seal_text piece out)
  unfolding fixes_right sizes_right output_short
  accepted phase limit short = record { phase = phase; fixes = refl; sizes = refl; limit = limit; output = short }

pub returns-then-not-takes_text : goal.returns-then-not-takes_text
unfolding output_of
returns-then-not-takes_text g c = refused_1 _ _ _ c.refused.ensures (allowed-is c.args.self c.args.piece.now c.args.out.now _ c.takes_text.ensures ∙ c.if-not-takes_text.true)

pub returns-then-over : goal.returns-then-over
unfolding output_of fixes_right sizes_right
returns-then-over g c =
    refused_5 _ _ _ c.refused-then-over.ensures (allowed-is c.args.self c.args.piece.now c.args.out.now _ c.takes_text.ensures ∙ c.if-not-takes_text.false) refl refl (over-is c.args.self c.args.piece.now c.args.out.now _ c.over_limit-over.ensures ∙ c.if-over.true)

pub returns-then-out-piece : goal.returns-then-out-piece
unfolding output_of fixes_right sizes_right output_short
returns-then-out-piece g c =
    refused_6 _ _ _ c.refused-then-out-piece.ensures (allowed-is c.args.self c.args.piece.now c.args.out.now _ c.takes_text.ensures ∙ c.if-not-takes_text.false) refl refl (over-is c.args.self c.args.piece.now c.args.out.now _ c.over_limit-over.ensures ∙ c.if-over.false) (lt-ltb _ _ c.if-out-piece.true)

pub returns : goal.returns
unfolding machine_of phase_allows output_short work
returns g c =
    let next = c.text_taken in
    let text = c.requires.over_text _ _ _ _ _ c.run-sealed.ensures in
    let ended = c.data_ended in
    let a = c.args in
    let p = accepted c.args.self c.args.piece.now c.args.out.now (allowed-is c.args.self c.args.piece.now c.args.out.now _ c.takes_text.ensures ∙ c.if-not-takes_text.false) (over-is c.args.self c.args.piece.now c.args.out.now _ c.over_limit-over.ensures ∙ c.if-over.false) (le-ltb _ _ c.if-out-piece.false) in
    let seals = sealing_only a.self.kind (is_data a.self.phase || is_text a.self.phase) p.phase in
    let state = rw (p.output, ended.ensures) at text.state ∙ text-state a.self a.piece.now false seals in
    let output = rw (p.output, ended.ensures) at text.output ∙ sealed_output a.self a.piece.now a.out.now in
    writes a.self p _ a.out.now (text_taken a.piece.now (machine_of a.self)) refl next.result (next.ensures state)
    (length a.piece.now) (sym (text_out-length false a.piece.now (data_ended (machine_of a.self)).state)) _ output _ c.done.ensures
