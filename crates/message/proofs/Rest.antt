-- Opening the rest of a message from its parts: a piece, and what is behind it. The tag has any length.
use mathlib.Core.Path.{◌≡◌, refl, sym, ap, ap₂, ◌∙◌}
use mathlib.Core.Bool.{Bool, true, false}
use mathlib.Core.List.{List, [], ◌++◌, append_assoc, append-nil}
use Prim.Native.Nat.{ℕ, ◌+◌, ◌-◌, ◌≤◌}
use native.Mathlib.Omega.{arith}
use lib.Dec.{ltb}
use lib.ListN.{length, take, drop, length-append, length-drop}
use lib.Seq.{length-take-le, take_all, take_at, drop_at, take-add, drop-drop, drop-length}
use borrow.Author.Tests.{le-ltb}
use borrow.Rule.Slice.PartMut.{put_mid, put_same}
use Rattle.acorn_model.specs.Bits.{Bits}
use Rattle.calls.specs.Calls.{◌if◌else◌, written_over, same_bytes}
use Rattle.acorn_model.specs.Stretches.{through, text_piece, text_end, text_out, tag_bytes}
use Rattle.acorn_model.specs.Message.{cipher_part, tag_part}
use Rattle.acorn_model.proofs.Pieces.{text_piece_none, text_piece-append, text_out_none, text_out-append}
use Rattle.acorn_model.proofs.Outputs.{text_out-length}
use Rattle.acorn.specs.Runs.{TextRun}
use Rattle.message.specs.Clauses.{rest_matches, rest_opened}

-- ## The tag alone

module _ (S : Bits) (tag_length : ℕ) (s : List ℕ) (none_left : length s ≡ tag_length) where
  no_cipher : cipher_part tag_length s ≡ []
  no_cipher = let e : length s - tag_length ≡ 0 = omega (arith, none_left) in ap (λ (n : ℕ). take n s) e

  pub tag_alone : rest_matches S tag_length s ≡ same_bytes s (tag_bytes tag_length (through text_end S))
  unfolding rest_matches
  tag_alone =
      let e : length s - tag_length ≡ 0 = omega (arith, none_left) in
      ap₂ same_bytes (ap (λ (n : ℕ). drop n s) e) (ap (λ (l : List ℕ). tag_bytes tag_length (through text_end (through (text_piece true l) S))) no_cipher ∙ ap (λ (R : Bits). tag_bytes tag_length (through text_end R)) (text_piece_none true S))

  pub nothing_written : (out : List ℕ) → rest_opened S tag_length s out ≡ out
  unfolding rest_opened written_over
  nothing_written out = kept (rest_matches S tag_length s)
    where
      kept : (b : Bool) → (text_out true (cipher_part tag_length s) S ++ drop (length (text_out true (cipher_part tag_length s) S)) out if b else out) ≡ out
      kept true = ap (λ (l : List ℕ). l ++ drop (length l) out) (ap (λ (l : List ℕ). text_out true l S) no_cipher ∙ text_out_none true S)
      kept false = refl

-- ## A piece, and the rest behind it

module _ (S : Bits) (tag_length : ℕ) (s : List ℕ) (n : ℕ) (within : n + tag_length ≤ length s) where
  abbrev piece : List ℕ
  piece = take n s

  abbrev behind : List ℕ
  behind = drop n s

  abbrev next : Bits
  next = through (text_piece true piece) S

  pub all_left : take (length s - n) (drop n s) ≡ behind
  all_left = take_all (length s - n) (drop n s) (omega (arith, length-drop n s))

  left : length behind - tag_length ≡ length s - tag_length - n
  left = omega (arith, length-drop n s)

  cipher_parts : cipher_part tag_length s ≡ piece ++ cipher_part tag_length behind
  cipher_parts =
      let e : length s - tag_length ≡ n + (length behind - tag_length) = omega (arith, left) in
      ap (λ (k : ℕ). take k s) e ∙ take-add n (length behind - tag_length) s

  tag-behind : tag_part tag_length s ≡ tag_part tag_length behind
  tag-behind =
      let e : length s - tag_length ≡ n + (length behind - tag_length) = omega (arith, left) in
      ap (λ (k : ℕ). drop k s) e ∙ sym (drop-drop (length behind - tag_length) n s)

  pub matches_behind : rest_matches S tag_length s ≡ rest_matches next tag_length behind
  unfolding rest_matches
  matches_behind =
      ap₂ same_bytes tag-behind (ap (λ (R : Bits). tag_bytes tag_length (through text_end R)) (ap (λ (l : List ℕ). through (text_piece true l) S) cipher_parts ∙ text_piece-append true piece (cipher_part tag_length behind) S))

  text_parts : text_out true (cipher_part tag_length s) S ≡ text_out true piece S ++ text_out true (cipher_part tag_length behind) next
  text_parts = ap (λ (l : List ℕ). text_out true l S) cipher_parts ∙ text_out-append true piece (cipher_part tag_length behind) S

  piece_length : length piece ≡ n
  piece_length = length-take-le n s (omega arith)

  -- what a run of the piece into a scratch leaves
  module _ (scratch scratch' : List ℕ) (S' : Bits) (room : n ≤ length scratch) (run : TextRun true S piece scratch S' scratch') where
    fits : ltb (length scratch) (length piece) ≡ false
    fits = le-ltb (length scratch) (length piece) (omega (arith, piece_length))

    pub next_state : S' ≡ next
    next_state = rw fits at run.state

    pub piece_text : take n scratch' ≡ text_out true piece S
    unfolding written_over
    piece_text = ap (take n) (rw fits at run.output) ∙ take_at _ _ n (text_out-length true piece S ∙ piece_length)

  -- the rest is opened into the output from n on, and then the piece is written at its start
  module _ (out part : List ℕ) (room : length s ≤ length out + tag_length) where
    abbrev out_behind : List ℕ
    out_behind = take (length out - n) (drop n out)

    all_behind : out_behind ≡ drop n out
    all_behind = take_all (length out - n) (drop n out) (omega (arith, length-drop n out))

    none_after : drop (length out - n) (drop n out) ≡ []
    none_after = ap (λ (k : ℕ). drop k (drop n out)) (sym (length-drop n out)) ∙ drop-length (drop n out)

    joined : (text rest : List ℕ) → length text ≡ n → part ≡ written_over rest out_behind → written_over text (put_mid n (length out - n) out part) ≡ written_over (text ++ rest) out
    unfolding written_over
    joined text rest count part_is =
        let both : n + length rest ≡ length (text ++ rest) = omega (arith, count, length-append text rest) in
        let first : length (take n out) ≡ n = length-take-le n out (omega arith) in
        ap (λ (l : List ℕ). text ++ l)
        (ap (λ (k : ℕ). drop k (put_mid n (length out - n) out part)) count ∙ drop_at (take n out) (part ++ drop (length out - n) (drop n out)) n first
        ∙ ap₂ ◌++◌ (part_is ∙ ap (λ (l : List ℕ). rest ++ drop (length rest) l) all_behind) none_after ∙ append-nil (rest ++ drop (length rest) (drop n out)))
        ∙ sym (append_assoc text rest (drop (length rest) (drop n out))) ∙ ap (λ (l : List ℕ). text ++ rest ++ l) (drop-drop (length rest) n out ∙ ap (λ (k : ℕ). drop k out) both)

    pub handed_over : (good : Bool) (text mid out' : List ℕ) → mid ≡ put_mid n (length out - n) out part → good ≡ rest_matches next tag_length behind → part ≡ rest_opened next tag_length behind out_behind
        → text ≡ text_out true piece S → out' ≡ (written_over text mid if good else mid) → out' ≡ rest_opened S tag_length s out
    unfolding rest_opened
    handed_over true text mid out' mid-is matches part_is text-is out_is =
        out_is
        ∙ ap (written_over text) mid-is ∙ joined text (text_out true (cipher_part tag_length behind) next) (ap length text-is ∙ text_out-length true piece S ∙ piece_length) (rw (← matches) at part_is)
        ∙ ap (λ (l : List ℕ). written_over l out) (ap (λ (l : List ℕ). l ++ text_out true (cipher_part tag_length behind) next) text-is ∙ sym text_parts)
        ∙ (rw (matches_behind, ← matches))
    handed_over false text mid out' mid-is differs part_is text-is out_is =
        out_is ∙ mid-is ∙ ap (put_mid n (length out - n) out) (rw (← differs) at part_is) ∙ put_same n (length out - n) out ∙ (rw (matches_behind, ← differs))

  -- ## The last piece: behind it is the tag

  module _ (last : n + tag_length ≡ length s) where
    left-length : length s - tag_length ≡ n
    left-length = omega (arith, last)

    pub tag_last : rest_matches S tag_length s ≡ same_bytes behind (tag_bytes tag_length (through text_end next))
    unfolding rest_matches
    tag_last = ap (λ (k : ℕ). same_bytes (drop k s) (tag_bytes tag_length (through text_end (through (text_piece true (take k s)) S)))) left-length

    pub last_handed_over : (good : Bool) (text out out' : List ℕ) → good ≡ rest_matches S tag_length s → text ≡ text_out true piece S → out' ≡ (written_over text out if good else out) → out' ≡ rest_opened S tag_length s out
    unfolding rest_opened
    last_handed_over good text out out' good_is text-is out_is =
        let whole : text_out true (cipher_part tag_length s) S ≡ text = ap (λ (k : ℕ). text_out true (take k s) S) left-length ∙ sym text-is in
        out_is ∙ ap₂ (λ (b : Bool) (l : List ℕ). written_over l out if b else out) good_is (sym whole)
