-- `Session::begin_tag` meets its contract.
use Rattle.std.proofs.Common.{◌≡◌, [], sym, refl, ap, ◌∙◌, eq-eqb, ne_eqb, ℕ, Bool, true, not, List, length}
use denote.Enum.Bare.{sameb}
use Rattle.acorn_model.specs.declared.Phase.TheVariants.{Fresh}
use Rattle.acorn_model.specs.contracts.Phase.{the_type}
use Rattle.calls.specs.Calls.{written_over}
use Rattle.acorn_model.specs.Machine.{begin, output_of, phase_allows, fixes_right, sizes_right, over_limit, output_short, run_through, enter, cleared, begun, work, tag_length_right, key_length, nonce_length}
use Rattle.acorn_model.proofs.Refusals.{Passed}
use Rattle.acorn.specs.Runs.{start_state}
use Rattle.session.specs.declared.Session.{Session}
use Rattle.session.specs.Clauses.{machine_of, wrapped}
use Rattle.session.proofs.Phases.{fresh_unless}
use Rattle.session.proofs.NextSession.{length-of, stands_for}
use Rattle.session.proofs.Replies.{refused_1, refused_9, refused_2, writes}
use Rattle.session.proofs.Session.begin_tag.Goals as goal
use Rattle.session.proofs.Session.begin_tag.Goals.{then-key-ne-KEY_LENGTH-via-then-key-ne-KEY_LENGTH, then-key-ne-KEY_LENGTH-via-else-key-ne-KEY_LENGTH+then-nonce-ne-NONCE_LENGTH}

module _ (s : Session) (key nonce : List ℕ) (tag_length : ℕ) where
  allowed-is : (differs : Bool) → differs ≡ not (sameb the_type s.phase Fresh) → phase_allows (machine_of s).kind (machine_of s).phase (begin key nonce tag_length) ≡ not differs
  unfolding machine_of phase_allows
  allowed-is differs e = fresh_unless s.phase differs e

  right_is : (b : Bool) → b ≡ tag_length_right tag_length → fixes_right (begin key nonce tag_length) ≡ b
  unfolding fixes_right
  right_is b e = sym e

  accepted : phase_allows (machine_of s).kind (machine_of s).phase (begin key nonce tag_length) ≡ true → fixes_right (begin key nonce tag_length) ≡ true
      → length key ≡ key_length → length nonce ≡ nonce_length → Passed (machine_of s) (begin key nonce tag_length)
  unfolding sizes_right over_limit output_short
  accepted phase fixes k n = record { phase = phase; fixes = fixes; sizes = rw (eq-eqb _ _ k, eq-eqb _ _ n); limit = refl; output = refl }

pub returns-then-ne : goal.returns-then-ne
unfolding output_of
returns-then-ne c = let a = c.args in refused_1 _ _ _ c.refused.ensures (allowed-is a.self a.key.now a.nonce.now a.tag_length _ c.ne.ensures ∙ ap not c.if-ne.true)

pub returns-then-not-tag_length_right : goal.returns-then-not-tag_length_right
unfolding output_of
returns-then-not-tag_length_right c =
    let a = c.args in
    refused_9 _ _ _ c.refused-then-not-tag_length_right.ensures (allowed-is a.self a.key.now a.nonce.now a.tag_length _ c.ne.ensures ∙ ap not c.if-ne.false)
    (right_is a.self a.key.now a.nonce.now a.tag_length _ c.tag_length_right.ensures ∙ c.if-not-tag_length_right.true)

pub returns-then-key-ne-KEY_LENGTH : goal.returns-then-key-ne-KEY_LENGTH
unfolding output_of sizes_right
returns-then-key-ne-KEY_LENGTH c =
    let a = c.args in
    refused_2 _ _ _ c.refused-then-key-ne-KEY_LENGTH.ensures (allowed-is a.self a.key.now a.nonce.now a.tag_length _ c.ne.ensures ∙ ap not c.if-ne.false)
    (right_is a.self a.key.now a.nonce.now a.tag_length _ c.tag_length_right.ensures ∙ c.if-not-tag_length_right.false)
    (elim c.then-key-ne-KEY_LENGTH.branch [
      | then-key-ne-KEY_LENGTH-via-then-key-ne-KEY_LENGTH w ↦ rw (ne_eqb _ _ w.if-key-ne-KEY_LENGTH.true)
      | then-key-ne-KEY_LENGTH-via-else-key-ne-KEY_LENGTH+then-nonce-ne-NONCE_LENGTH w ↦ rw (eq-eqb _ _ w.if-key-ne-KEY_LENGTH.false, ne_eqb _ _ w.if-nonce-ne-NONCE_LENGTH.true)
    ])

pub returns : goal.returns
unfolding work begun run_through enter cleared machine_of wrapped start_state fixes_right sizes_right written_over
returns c =
    let a = c.args in
    let p = accepted a.self a.key.now a.nonce.now a.tag_length (allowed-is a.self a.key.now a.nonce.now a.tag_length _ c.ne.ensures ∙ ap not c.if-ne.false)
    (right_is a.self a.key.now a.nonce.now a.tag_length _ c.tag_length_right.ensures ∙ c.if-not-tag_length_right.false) c.if-key-ne-KEY_LENGTH.false c.if-nonce-ne-NONCE_LENGTH.false in
    let next = begun a.key.now a.nonce.now a.tag_length (machine_of a.self) in
    let state = rw p.sizes at c.start.ensures in
    writes a.self p [] [] next refl _ (stands_for _ next refl refl (length-of a.tag_length p.fixes) state refl refl refl) 0 refl [] refl _ c.done.ensures
