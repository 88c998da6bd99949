-- A message of either kind by its begin, data and text: the state in its text, what is written of its text, and its tag. In checking the text is
-- ciphertext.
use mathlib.Core.Path.{◌≡◌, refl, sym, ap, ◌∙◌}
use mathlib.Core.Bool.{false}
use mathlib.Core.List.{List, [], ◌++◌}
use Prim.Native.Nat.{ℕ, ◌≤◌}
use Rattle.acorn_model.specs.declared.Kind.{Kind}
use Rattle.acorn_model.specs.declared.Kind.TheVariants.{Sealing, Checking}
use Rattle.acorn_model.specs.Bits.{Bits}
use Rattle.acorn_model.specs.Stretches.{through, text_piece, text_end, full_tag_length, text_out, tag_bytes, after_data}
use Rattle.acorn_model.specs.Paper.{ciphertext, tag_of_length, new_tag_of_length}
use Rattle.acorn_model.specs.Machine.{is_checking}
use Rattle.acorn_model.specs.Lists.{Arguments}
use Rattle.acorn_model.specs.Message.{sealed_with}
use Rattle.acorn_model.proofs.Agree.{ciphertext_agrees, tag_agrees, new_tag_agrees}
use Rattle.acorn_model.proofs.Pieces.{text_piece-append, text_out_none, text_out-append}

-- what is written of a piece of text in the state S, and at a close whose tag is T
abbrev pub piece_out : Kind → List ℕ → Bits → List ℕ
piece_out Sealing piece S = text_out false piece S
piece_out Checking piece S = []

abbrev pub close_out : Kind → List ℕ → List ℕ
close_out Sealing T = T
close_out Checking T = []

module _ (kind : Kind) (a : Arguments) (d : List ℕ) where
  abbrev pub text_state : List ℕ → Bits
  text_state t = through (text_piece (is_checking kind) t) (after_data a.key a.nonce d)

  pub state_append : (t piece : List ℕ) → text_state (t ++ piece) ≡ through (text_piece (is_checking kind) piece) (text_state t)
  state_append t piece = text_piece-append (is_checking kind) t piece (after_data a.key a.nonce d)

-- what is written of the text
abbrev pub text_written : Kind → Arguments → List ℕ → List ℕ → List ℕ
text_written Sealing a d t = ciphertext a.key a.nonce d t
text_written Checking a d t = []

-- the tag that is written, or that the given one must be
abbrev pub right_tag : Kind → Arguments → List ℕ → List ℕ → List ℕ
right_tag Sealing a d t = tag_of_length a.tag_length a.key a.nonce d t
right_tag Checking a d t = new_tag_of_length a.tag_length a.key a.nonce d t

-- all that is written
abbrev pub all_written : Kind → Arguments → List ℕ → List ℕ → List ℕ
all_written Sealing a d t = sealed_with a.tag_length a.key a.nonce d t
all_written Checking a d t = []

pub written_none : (kind : Kind) (a : Arguments) (d : List ℕ) → text_written kind a d [] ≡ []
written_none Sealing a d = sym (ciphertext_agrees a.key a.nonce d []) ∙ text_out_none false _
written_none Checking a d = refl

pub written-append : (kind : Kind) (a : Arguments) (d t piece : List ℕ)
    → text_written kind a d (t ++ piece) ≡ text_written kind a d t ++ piece_out kind piece (text_state kind a d t)
written-append Sealing a d t piece =
    let S = after_data a.key a.nonce d in
    sym (ciphertext_agrees a.key a.nonce d (t ++ piece)) ∙ text_out-append false t piece S
    ∙ ap (λ (w : List ℕ). w ++ text_out false piece (through (text_piece false t) S)) (ciphertext_agrees a.key a.nonce d t)
written-append Checking a d t piece = refl

pub tag_of_state : (kind : Kind) (a : Arguments) (d t : List ℕ) → a.tag_length ≤ full_tag_length
    → tag_bytes a.tag_length (through text_end (text_state kind a d t)) ≡ right_tag kind a d t
tag_of_state Sealing a d t h = tag_agrees a.key a.nonce d a.tag_length h t
tag_of_state Checking a d t h = new_tag_agrees a.key a.nonce d a.tag_length h t

pub written_all : (kind : Kind) (a : Arguments) (d t : List ℕ) → all_written kind a d t ≡ text_written kind a d t ++ close_out kind (right_tag kind a d t)
written_all Sealing a d t = unfold sealed_with in refl
written_all Checking a d t = refl
