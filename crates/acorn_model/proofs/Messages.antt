-- Whole sealing and opening: where no number applies, what a refused call leaves, and when a text is written.
use mathlib.Core.Path.{◌≡◌, refl, sym, ap, ap₂, ◌∙◌}
use mathlib.Core.Bool.{Bool, true, false, not}
use mathlib.Core.List.{List}
use mathlib.Core.Logic.{◌↔◌}
use Prim.Native.Nat.{ℕ, ◌+◌, ◌-◌, ◌≤◌, ◌<◌}
use native.Mathlib.Omega.{arith}
use lib.Dec.{ltb}
use lib.ListN.{length, take}
use lib.Seq.{take_at, length-take-le}
use borrow.Author.Tests.{eq-eqb, eqb-true, le-ltb, lt-ltb, ltb-false, not-false}
use Rattle.std.proofs.Math.Bool.{or-true}
use Rattle.std.proofs.lemmas.Bool.{and_parts, or_parts}
use Rattle.calls.specs.Calls.{AreBytes, ◌if◌else◌, Reply, refused, done, unless_refused, written_over, Result, result_of}
use Rattle.acorn_model.specs.Machine.{least_tag_length, tag_length_right, byte_limit}
use Rattle.acorn_model.specs.Stretches.{full_tag_length}
use Rattle.acorn_model.specs.Message.{cipher_part, length_wrong, sizes_wrong, sealed_with, seal_refusal, seal_message, tag_matches_with, opened_with, tag_refusal, open_refusal, open_message}
use Rattle.acorn_model.specs.Laws.{WithinLimits}
use Rattle.acorn_model.proofs.Outputs.{decrypted-length, sealed-length, sealed_are_bytes}
use Rattle.acorn_model.proofs.Whole.{opened_exactly}
use Rattle.acorn_model.proofs.Refusals.{length_right, length-told, length_short, length_over}
use Rattle.calls.proofs.Results.{result-written, done-told, unwritten}

-- ## Numbers

-- a number that is none of the chain's first four: their tests failed
passed : (z a b c : Bool) (n m : ℕ) → (m ≡ 9 → ⊥) → (m ≡ 2 → ⊥) → (m ≡ 5 → ⊥) → (m ≡ 6 → ⊥) → (9 if z else 2 if a else 5 if b else 6 if c else n) ≡ m
    → (z ≡ false) × (a ≡ false) × (b ≡ false) × (c ≡ false) × (n ≡ m)
passed true a b c n m h9 h2 h5 h6 e = absurd (h9 (sym e))
passed false true b c n m h9 h2 h5 h6 e = absurd (h2 (sym e))
passed false false true c n m h9 h2 h5 h6 e = absurd (h5 (sym e))
passed false false false true n m h9 h2 h5 h6 e = absurd (h6 (sym e))
passed false false false false n m h9 h2 h5 h6 e = (refl, refl, refl, refl, e)

-- ## Outputs

written_same : (l k out : List ℕ) → length l ≡ length k → written_over l out ≡ written_over k out → l ≡ k
unfolding written_over
written_same l k out e f = sym (take_at l _ (length k) e) ∙ ap (take (length k)) f ∙ take_at k _ (length k) refl

module _ (tag_length : ℕ) (key nonce «data» : List ℕ) where
  -- ## Where no number applies

  sizes-right : length key ≡ 16 → length nonce ≡ 16 → sizes_wrong tag_length key nonce «data» ≡ false
  sizes-right e f = rw (eq-eqb _ _ e, eq-eqb _ _ f)

  sizes_told : sizes_wrong tag_length key nonce «data» ≡ false → (length key ≡ 16) × (length nonce ≡ 16)
  sizes_told h = let a = and_parts _ _ (not-false _ h) in (eqb-true _ _ a.0, eqb-true _ _ a.1)

  length-passed : least_tag_length ≤ tag_length → tag_length ≤ full_tag_length → length_wrong tag_length key nonce «data» ≡ false
  length-passed l m = rw (length_right tag_length l m)

  seal_accepted : (text out : List ℕ) → WithinLimits tag_length key nonce «data» text → length text + tag_length ≤ length out → seal_refusal tag_length key nonce «data» text out ≡ 0
  unfolding seal_refusal
  seal_accepted text out w room =
      rw (length-passed w.tag-least w.tag-most, sizes-right w.key_size w.nonce_size, le-ltb _ _ w.data_limit, le-ltb _ _ w.text_limit, le-ltb _ _ room)

  pub seal_told : (text out : List ℕ) → seal_refusal tag_length key nonce «data» text out ≡ 0 → WithinLimits tag_length key nonce «data» text × (length text + tag_length ≤ length out)
  unfolding seal_refusal
  seal_told text out e =
      let p = passed _ _ _ _ _ 0 (omega arith) (omega arith) (omega arith) (omega arith) e in
      let limits = or_parts _ _ p.2 in
      let range = length-told tag_length (not-false _ p.0) in
      let right = sizes_told p.1 in (
        record { tag-least = range.0; tag-most = range.1; key_size = right.0; nonce_size = right.1; data_limit = ltb-false _ _ limits.0; text_limit = ltb-false _ _ limits.1 },
        ltb-false _ _ p.3,
      )

  tag_right : (s : List ℕ) → tag_matches_with tag_length key nonce «data» s ≡ true → tag_refusal tag_length key nonce «data» s ≡ 0
  tag_right s e = rw e

  tag-told : (s : List ℕ) → tag_refusal tag_length key nonce «data» s ≡ 0 → tag_matches_with tag_length key nonce «data» s ≡ true
  tag-told s e = by-tag (tag_matches_with tag_length key nonce «data» s) e
    where
      by-tag : (matches : Bool) → ◌≡◌ {A = ℕ} (7 if not matches else 0) 0 → matches ≡ true
      by-tag true f = refl
      by-tag false f = absurd (omega arith)

  -- the numbers 9, 2, 5 and 6 do not apply to an opening
  pub record Openable (s out : List ℕ) : Type 0 where
    pub tag-least : least_tag_length ≤ tag_length
    pub tag-most : tag_length ≤ full_tag_length
    pub key_size : length key ≡ 16
    pub nonce_size : length nonce ≡ 16
    pub data_limit : length «data» ≤ byte_limit
    pub tag_there : tag_length ≤ length s
    pub text_limit : length s - tag_length ≤ byte_limit
    pub room : length s - tag_length ≤ length out

  module _ (s out : List ℕ) where
    pub open_passed : Openable s out → open_refusal tag_length key nonce «data» s out ≡ tag_refusal tag_length key nonce «data» s
    unfolding open_refusal
    open_passed o =
        rw (length-passed o.tag-least o.tag-most, sizes-right o.key_size o.nonce_size, le-ltb _ _ o.tag_there, le-ltb _ _ o.data_limit, le-ltb _ _ o.text_limit, le-ltb _ _ o.room)

    pub open_told : (m : ℕ) → (m ≡ 9 → ⊥) → (m ≡ 2 → ⊥) → (m ≡ 5 → ⊥) → (m ≡ 6 → ⊥) → open_refusal tag_length key nonce «data» s out ≡ m → Openable s out × (tag_refusal tag_length key nonce «data» s ≡ m)
    unfolding open_refusal
    open_told m h9 h2 h5 h6 e =
        let p = passed _ _ _ _ _ m h9 h2 h5 h6 e in
        let range = length-told tag_length (not-false _ p.0) in
        let sizes = or_parts _ _ p.1 in
        let limits = or_parts _ _ p.2 in
        let right = sizes_told sizes.0 in (
          record {
            tag-least = range.0;
            tag-most = range.1;
            key_size = right.0;
            nonce_size = right.1;
            data_limit = ltb-false _ _ limits.0;
            tag_there = ltb-false _ _ sizes.1;
            text_limit = ltb-false _ _ limits.1;
            room = ltb-false _ _ p.3;
          },
          p.4,
        )

  -- ## The laws

  pub seals : (text out : List ℕ) → WithinLimits tag_length key nonce «data» text → length text + tag_length ≤ length out
      → seal_message tag_length key nonce «data» text out ≡ record { answer = done (length text + tag_length); out = written_over (sealed_with tag_length key nonce «data» text) out }
  unfolding seal_message
  seals text out w room =
      result-written _ _ _ _ (seal_accepted text out w room)
      ∙ ap (λ (n : ℕ). record { answer = done n; out = written_over (sealed_with tag_length key nonce «data» text) out }) (sealed-length key nonce «data» tag_length text)

  pub opened-length : (s : List ℕ) → length (opened_with tag_length key nonce «data» s) ≡ length s - tag_length
  unfolding opened_with
  opened-length s = decrypted-length key nonce «data» (cipher_part tag_length s) ∙ length-take-le (length s - tag_length) s (omega arith)

  pub opens : (s text out : List ℕ) → AreBytes s → AreBytes text
      → (open_message tag_length key nonce «data» s out ≡ record { answer = done (length text); out = written_over text out })
      ↔ (WithinLimits tag_length key nonce «data» text × (length text ≤ length out) × (s ≡ sealed_with tag_length key nonce «data» text))
  unfolding open_message
  opens s text out hs ht = (forth, back)
    where
      forth : open_message tag_length key nonce «data» s out ≡ record { answer = done (length text); out = written_over text out }
          → WithinLimits tag_length key nonce «data» text × (length text ≤ length out) × (s ≡ sealed_with tag_length key nonce «data» text)
      forth e =
          let d = done-told (open_refusal tag_length key nonce «data» s out) _ _ out _ _ e in
          let told = open_told s out 0 (omega arith) (omega arith) (omega arith) (omega arith) d.0 in
          let long = opened-length s in
          let text-is : opened_with tag_length key nonce «data» s ≡ text = written_same _ _ out d.1 d.2 in (
            record { tag-least = told.0.tag-least; tag-most = told.0.tag-most; key_size = told.0.key_size; nonce_size = told.0.nonce_size; data_limit = told.0.data_limit; text_limit = omega arith },
            omega arith,
            (opened_exactly tag_length key nonce «data» told.0.tag-most s text hs ht).0 (tag-told s told.1, text-is),
          )

      back : WithinLimits tag_length key nonce «data» text × (length text ≤ length out) × (s ≡ sealed_with tag_length key nonce «data» text)
          → open_message tag_length key nonce «data» s out ≡ record { answer = done (length text); out = written_over text out }
      back h =
          let m = (opened_exactly tag_length key nonce «data» h.0.tag-most s text hs ht).1 h.2 in
          let long : length s ≡ length text + tag_length = ap length h.2 ∙ sealed-length key nonce «data» tag_length text in
          let w = h.0 in
          let o : Openable s out = record { tag-least = w.tag-least; tag-most = w.tag-most; key_size = w.key_size; nonce_size = w.nonce_size; data_limit = w.data_limit; tag_there = omega arith; text_limit = omega arith; room = omega arith } in
          result-written _ _ _ _ (open_passed s out o ∙ tag_right s m.0)
          ∙ ap (λ (t : List ℕ). record { answer = done (length t); out = written_over t out }) m.1

  pub opens-sealed : (text out out' : List ℕ) → AreBytes text → WithinLimits tag_length key nonce «data» text → length text + tag_length ≤ length out → length text ≤ length out'
      → open_message tag_length key nonce «data» (take (length text + tag_length) (seal_message tag_length key nonce «data» text out).out) out'
      ≡ record { answer = done (length text); out = written_over text out' }
  unfolding written_over
  opens-sealed text out out' ht w room room' =
      let e : take (length text + tag_length) (seal_message tag_length key nonce «data» text out).out ≡ sealed_with tag_length key nonce «data» text
      = ap (λ (r : Result ℕ). take (length text + tag_length) r.out) (seals text out w room)
      ∙ take_at (sealed_with tag_length key nonce «data» text) _ (length text + tag_length) (sealed-length key nonce «data» tag_length text) in
      rw e ((opens (sealed_with tag_length key nonce «data» text) text out' (sealed_are_bytes key nonce «data» tag_length text) ht).1 (w, room', refl))

  seal_nine : (text out : List ℕ) → tag_length_right tag_length ≡ false → (seal_message tag_length key nonce «data» text out).answer ≡ refused 9
  unfolding seal_message seal_refusal result_of unless_refused
  seal_nine text out e = rw e

  open_nine : (s out : List ℕ) → tag_length_right tag_length ≡ false → (open_message tag_length key nonce «data» s out).answer ≡ refused 9
  unfolding open_message open_refusal result_of unless_refused
  open_nine s out e = rw e

  pub seal_tag_under : (text out : List ℕ) → tag_length < least_tag_length → (seal_message tag_length key nonce «data» text out).answer ≡ refused 9
  seal_tag_under text out h = seal_nine text out (length_short tag_length h)

  pub seal_tag_over : (text out : List ℕ) → full_tag_length < tag_length → (seal_message tag_length key nonce «data» text out).answer ≡ refused 9
  seal_tag_over text out h = seal_nine text out (length_over tag_length h)

  pub open_tag_under : (s out : List ℕ) → tag_length < least_tag_length → (open_message tag_length key nonce «data» s out).answer ≡ refused 9
  open_tag_under s out h = open_nine s out (length_short tag_length h)

  pub open_tag_over : (s out : List ℕ) → full_tag_length < tag_length → (open_message tag_length key nonce «data» s out).answer ≡ refused 9
  open_tag_over s out h = open_nine s out (length_over tag_length h)

  pub open_under : (s out : List ℕ) → least_tag_length ≤ tag_length → tag_length ≤ full_tag_length → length s < tag_length
      → (open_message tag_length key nonce «data» s out).answer ≡ refused 2
  unfolding open_message open_refusal result_of unless_refused
  open_under s out l m h = rw (length-passed l m, lt-ltb (length s) tag_length h, or-true (sizes_wrong tag_length key nonce «data»))

  pub seal_no_room : (text out : List ℕ) → WithinLimits tag_length key nonce «data» text → length out < length text + tag_length
      → (seal_message tag_length key nonce «data» text out).answer ≡ refused 6
  unfolding seal_message seal_refusal result_of unless_refused
  seal_no_room text out w h =
      rw (length-passed w.tag-least w.tag-most, sizes-right w.key_size w.nonce_size, le-ltb _ _ w.data_limit, le-ltb _ _ w.text_limit, lt-ltb _ _ h)

  pub seal_long_data : (text out : List ℕ) → least_tag_length ≤ tag_length → tag_length ≤ full_tag_length → length key ≡ 16 → length nonce ≡ 16 → byte_limit < length «data» → (seal_message tag_length key nonce «data» text out).answer ≡ refused 5
  unfolding seal_message seal_refusal result_of unless_refused
  seal_long_data text out l m k n h = rw (length-passed l m, sizes-right k n, lt-ltb _ _ h)

  pub seal_long_text : (text out : List ℕ) → least_tag_length ≤ tag_length → tag_length ≤ full_tag_length → length key ≡ 16 → length nonce ≡ 16 → byte_limit < length text → (seal_message tag_length key nonce «data» text out).answer ≡ refused 5
  unfolding seal_message seal_refusal result_of unless_refused
  seal_long_text text out l m k n h = rw (length-passed l m, sizes-right k n, lt-ltb byte_limit (length text) h, or-true (ltb byte_limit (length «data»)))

  pub open_long_data : (s out : List ℕ) → least_tag_length ≤ tag_length → tag_length ≤ full_tag_length → length key ≡ 16 → length nonce ≡ 16 → tag_length ≤ length s → byte_limit < length «data»
      → (open_message tag_length key nonce «data» s out).answer ≡ refused 5
  unfolding open_message open_refusal result_of unless_refused
  open_long_data s out l m k n t h = rw (length-passed l m, sizes-right k n, le-ltb _ _ t, lt-ltb _ _ h)

  pub open_long_text : (s out : List ℕ) → least_tag_length ≤ tag_length → tag_length ≤ full_tag_length → length key ≡ 16 → length nonce ≡ 16 → byte_limit + tag_length < length s → (open_message tag_length key nonce «data» s out).answer ≡ refused 5
  unfolding open_message open_refusal result_of unless_refused
  open_long_text s out l m k n h =
      rw (length-passed l m, sizes-right k n, le-ltb (length s) tag_length (omega arith), lt-ltb byte_limit (length s - tag_length) (omega arith), or-true (ltb byte_limit (length «data»)))

  pub seal_refused : (n : ℕ) (text out : List ℕ) → (seal_message tag_length key nonce «data» text out).answer ≡ refused n → (seal_message tag_length key nonce «data» text out).out ≡ out
  unfolding seal_message
  seal_refused n text out = unwritten _ _ _ out n

  pub open_refused : (n : ℕ) (s out : List ℕ) → (open_message tag_length key nonce «data» s out).answer ≡ refused n → (open_message tag_length key nonce «data» s out).out ≡ out
  unfolding open_message
  open_refused n s out = unwritten _ _ _ out n

module _ (tag_length : ℕ) (key nonce «data» : List ℕ) where
  pub sevens_alike : (tag_length' : ℕ) (key' nonce' data' s s' out : List ℕ) → (open_message tag_length key nonce «data» s out).answer ≡ refused 7
      → (open_message tag_length' key' nonce' data' s' out).answer ≡ refused 7
      → open_message tag_length key nonce «data» s out ≡ open_message tag_length' key' nonce' data' s' out
  sevens_alike tag_length' key' nonce' data' s s' out e e' =
      ap₂ (λ (a : Reply ℕ) (o : List ℕ). record { answer = a; out = o }) (e ∙ sym e')
      (open_refused tag_length key nonce «data» 7 s out e ∙ sym (open_refused tag_length' key' nonce' data' 7 s' out e'))
