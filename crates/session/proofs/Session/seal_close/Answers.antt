-- `Session::seal_close` meets its contract.
use Rattle.std.proofs.Common.{◌≡◌, ℕ, length, sym, refl, ◌∙◌, ap₂, arith, le-ltb, lt-ltb, ◌≤◌, Bool, true, List}
use Rattle.acorn_model.specs.Bits.{Bits}
use Rattle.acorn_model.specs.Stretches.{tag_bytes}
use Rattle.calls.specs.Calls.{written_over}
use Rattle.acorn_model.specs.Machine.{seal_close, output_of, phase_allows, fixes_right, sizes_right, over_limit, output_short, text_ended, closed, work}
use Rattle.acorn_model.proofs.Refusals.{length-told, Passed}
use Rattle.acorn_model.proofs.Outputs.{tag_bytes-length}
use Rattle.acorn.proofs.FixedRuns.{tag-written}
use Rattle.session.specs.declared.Session.{Session}
use Rattle.acorn_model.specs.declared.Kind.TheVariants.{Sealing}
use Rattle.session.specs.Clauses.{machine_of, takes_text}
use Rattle.session.proofs.NextSession.{closing_state}
use Rattle.session.proofs.WordsBack.{session_clear}
use Rattle.session.proofs.Replies.{refused_1, refused_6, writes}
use Rattle.session.proofs.Session.seal_close.Goals as goal

module _ (s : Session) (out : List ℕ) where
  allowed-is : (b : Bool) → b ≡ takes_text Sealing s → phase_allows (machine_of s).kind (machine_of s).phase (seal_close out) ≡ b
  unfolding machine_of phase_allows
  allowed-is b e = sym e

  accepted : phase_allows (machine_of s).kind (machine_of s).phase (seal_close out) ≡ true → (n : ℕ) → n ≡ (machine_of s).tag_length → n ≤ length out → Passed (machine_of s) (seal_close out)
  unfolding fixes_right sizes_right over_limit output_short
  accepted phase n fixed room = record { phase = phase; fixes = refl; sizes = refl; limit = refl; output = le-ltb (length out) (machine_of s).tag_length (omega arith) }

pub returns-then-not-takes_text : goal.returns-then-not-takes_text
unfolding output_of
returns-then-not-takes_text c = refused_1 _ _ _ c.refused.ensures (allowed-is c.args.self c.args.out.now _ c.takes_text.ensures ∙ c.if-not-takes_text.true)

pub returns-then-out-n : goal.returns-then-out-n
unfolding output_of fixes_right sizes_right over_limit output_short
returns-then-out-n c =
    let a = c.args in
    refused_6 _ _ _ c.refused-then-out-n.ensures (allowed-is c.args.self c.args.out.now _ c.takes_text.ensures ∙ c.if-not-takes_text.false) refl refl refl
    (lt-ltb (length a.out.now) (machine_of a.self).tag_length (omega (arith, c.fixed_length-n.ensures, c.if-out-n.true)))

pub returns : goal.returns
unfolding work
returns c =
    let a = c.args in
    let m = machine_of a.self in
    let n = c.fixed_length-n in
    let fits = (length-told m.tag_length (session_clear a.self).tag_length).1 in
    let S = c.text_ended.ensures ∙ closing_state a.self in
    let output = c.write_tag_bytes.ensures ∙ tag-written _ _ _ (omega (arith, n.ensures)) c.if-out-n.false
    ∙ ap₂ (λ (k : ℕ) (S : Bits). written_over (tag_bytes k S) a.out.now) n.ensures S in
    writes a.self (accepted c.args.self c.args.out.now (allowed-is c.args.self c.args.out.now _ c.takes_text.ensures ∙ c.if-not-takes_text.false) _ c.fixed_length-n.ensures c.if-out-n.false) _ a.out.now (closed m) refl _ c.closed.ensures n.result (n.ensures ∙ sym (tag_bytes-length m.tag_length fits (text_ended m).state))
    _ output _ c.done.ensures
