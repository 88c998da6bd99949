-- `Session::check_close` meets its contract.
use Rattle.std.proofs.Common.{◌≡◌, ℕ, sym, refl, ◌∙◌, ap₂, eq-eqb, ne_eqb, Bool, true, List, length}
use Rattle.acorn_model.specs.Bits.{Bits}
use Rattle.acorn_model.specs.Stretches.{tag_bytes}
use Rattle.calls.specs.Calls.{same_bytes}
use Rattle.acorn_model.specs.Machine.{check_close, output_of, phase_allows, fixes_right, sizes_right, over_limit, output_short, text_ended}
use Rattle.acorn_model.proofs.Refusals.{Passed}
use Rattle.session.specs.declared.Session.{Session}
use Rattle.acorn_model.specs.declared.Kind.TheVariants.{Checking}
use Rattle.session.specs.Clauses.{machine_of, takes_text}
use Rattle.session.proofs.NextSession.{closing_state}
use Rattle.session.proofs.Replies.{refused_1, refused_2, right-tag, wrong_tag}
use Rattle.session.specs.Clauses.{ended_state}
use Rattle.acorn_kernel.specs.Together.{state_of}
use Rattle.acorn_model.specs.Stretches.{through, text_end}
use Rattle.session.proofs.Session.check_close.Goals as goal

module _ (s : Session) (tag : List ℕ) where
  allowed-is : (b : Bool) → b ≡ takes_text Checking s → phase_allows (machine_of s).kind (machine_of s).phase (check_close tag) ≡ b
  unfolding machine_of phase_allows
  allowed-is b e = sym e

  accepted : phase_allows (machine_of s).kind (machine_of s).phase (check_close tag) ≡ true → (n : ℕ) → n ≡ (machine_of s).tag_length → length tag ≡ n → Passed (machine_of s) (check_close tag)
  unfolding fixes_right sizes_right over_limit output_short
  accepted phase n fixed sized = record { phase = phase; fixes = refl; sizes = eq-eqb _ _ (sized ∙ fixed); limit = refl; output = refl }

  good_is : (n : ℕ) (S : Bits) (good : Bool) → n ≡ (machine_of s).tag_length → S ≡ through text_end (ended_state s.phase (state_of s.state)) → good ≡ same_bytes tag (tag_bytes n S)
      → good ≡ same_bytes tag (tag_bytes (machine_of s).tag_length (text_ended (machine_of s)).state)
  good_is n S good fixed ended compared = compared ∙ ap₂ (λ (n : ℕ) (S : Bits). same_bytes tag (tag_bytes n S)) fixed (ended ∙ closing_state s)

pub returns-then-not-takes_text : goal.returns-then-not-takes_text
unfolding output_of
returns-then-not-takes_text c = refused_1 _ _ _ c.refused.ensures (allowed-is c.args.self c.args.tag.now _ c.takes_text.ensures ∙ c.if-not-takes_text.true)

pub returns-then-tag-n : goal.returns-then-tag-n
unfolding output_of fixes_right sizes_right
returns-then-tag-n c =
    refused_2 _ _ _ c.refused-then-tag-n.ensures (allowed-is c.args.self c.args.tag.now _ c.takes_text.ensures ∙ c.if-not-takes_text.false) refl
    (ne_eqb _ _ (λ e. c.if-tag-n.true (e ∙ sym c.fixed_length-n.ensures)))

pub returns-then-good : goal.returns-then-good
returns-then-good c =
    right-tag _ (accepted c.args.self c.args.tag.now (allowed-is c.args.self c.args.tag.now _ c.takes_text.ensures ∙ c.if-not-takes_text.false) _ c.fixed_length-n.ensures c.if-tag-n.false) _ c.closed-closed.ensures (sym c.if-good.true ∙ good_is c.args.self c.args.tag.now _ _ _ c.fixed_length-n.ensures c.text_ended.ensures c.is_tag_bytes-good.ensures) _ c.done.ensures

pub returns-else-good : goal.returns-else-good
returns-else-good c =
    wrong_tag _ (accepted c.args.self c.args.tag.now (allowed-is c.args.self c.args.tag.now _ c.takes_text.ensures ∙ c.if-not-takes_text.false) _ c.fixed_length-n.ensures c.if-tag-n.false) _ c.closed-closed.ensures (sym c.if-good.false ∙ good_is c.args.self c.args.tag.now _ _ _ c.fixed_length-n.ensures c.text_ended.ensures c.is_tag_bytes-good.ensures) _ c.refused-else-good.ensures
