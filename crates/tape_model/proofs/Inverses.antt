-- Packing and unpacking undo each other: one argument, for whatever lies in packed bytes as the values of a list of fields.
use Prim.Native.Nat.{ℕ, suc}
use mathlib.Core.Path.{◌≡◌, refl, sym, ap, ap₂, ◌∙◌}
use mathlib.Core.Bool.{Bool, true, false, not}
use mathlib.Core.List.{List}
use native.Mathlib.Omega.{arith}
use lib.Dec.{eqb}
use lib.ListN.{length}
use borrow.Author.Tests.{eqb-true, eq-eqb}
use Rattle.calls.specs.Calls.{AreBytes, ◌if◌else◌, Reply, done, accepted, unless_refused, reply_of}
use Rattle.tape_model.specs.Format.{Field, widths, in_ranges, total_width, join, cut, Fit, byte_widths, pack, unpack}
use Rattle.tape_model.specs.Laws.{Inverse}
use Rattle.tape_model.proofs.Widths.{recut}
use Rattle.tape_model.proofs.Ranges.{in-ranges, Roomy, ranges_fit, bytes_fit, pack-bytes, pack-length}

-- no two that the rule allows are packed alike
pub injective : {A : Type 0} {rule : A → Bool} {packed : A → List ℕ} {unpacked : List ℕ → Reply A} → Inverse rule packed unpacked
    → (a b : A) → rule a ≡ true → rule b ≡ true → packed a ≡ packed b → a ≡ b
injective {A} {rule} {packed} {unpacked} i a b ra rb e =
    let p : done a ≡ done b = sym (i.unpack-pack a ra) ∙ ap unpacked e ∙ i.unpack-pack b rb in cc

-- what is unpacked passed both tests
pub unpack-passed : {A : Type 0} (n : ℕ) (b c : Bool) (x y : A) → reply_of (2 if not b else suc n if not c else accepted) x ≡ done y
    → (b ≡ true) × (c ≡ true) × (x ≡ y)
unfolding unless_refused
unpack-passed n true true x y e = (refl, refl, cc)
unpack-passed n true false x y e = let z : ◌≡◌ {A = ℕ} 0 1 = cc in absurd (omega arith)
unpack-passed n false c x y e = let z : ◌≡◌ {A = ℕ} 0 1 = cc in absurd (omega arith)

-- A thing lies in `size` packed bytes as its values, one for each field of its form, which meet the test; where they fail it, the answer is
-- the number one above `below`. The form is told by the values, and by the bytes.
module _ {A : Type 0} (fields : ℕ → List Field) (told in_bytes : List ℕ → ℕ) (size below : ℕ) (test : List ℕ → Bool) (values_of : A → List ℕ) (of_values : List ℕ → A) where
  abbrev ws : ℕ → List ℕ
  ws form = widths (fields form)

  -- values that meet the test lie in the ranges of the form that they tell, and each form's fields fill the bytes; thing and values give each
  -- other back; and whichever form the bytes are read by, the values tell the form in the bytes
  pub record Laid : Type 0 where
    pub ranges : (vs : List ℕ) → test vs ≡ true → in_ranges (fields (told vs)) vs ≡ true
    pub roomy : (form : ℕ) → Roomy (fields form)
    pub whole : (form : ℕ) → total_width (byte_widths size) ≡ total_width (ws form)
    pub back : (a : A) → of_values (values_of a) ≡ a
    pub forth : (form n : ℕ) → told (cut (ws form) n) ≡ form → test (cut (ws form) n) ≡ true → values_of (of_values (cut (ws form) n)) ≡ cut (ws form) n
    pub first : (form : ℕ) (s : List ℕ) → AreBytes s → length s ≡ size → told (unpack (ws form) s) ≡ in_bytes s

  abbrev packed : A → List ℕ
  packed a = pack (ws (told (values_of a))) size (values_of a)

  abbrev answer : ℕ → List ℕ → Reply A
  answer n vs = reply_of (2 if not (eqb n size) else suc below if not (test vs) else accepted) (of_values vs)

  module _ (l : Laid) where
    fit : (a : A) → test (values_of a) ≡ true → Fit (ws (told (values_of a))) (values_of a)
    fit a h = ranges_fit (fields (told (values_of a))) (values_of a) (l.roomy (told (values_of a))) (in-ranges (fields (told (values_of a))) (values_of a) (l.ranges (values_of a) h))

    unpack-pack : (a : A) → test (values_of a) ≡ true → answer (length (packed a)) (unpack (ws (in_bytes (packed a))) (packed a)) ≡ done a
    unfolding unless_refused
    unpack-pack a h =
        let form = told (values_of a) in
        let s = packed a in
        let n : length s ≡ size = pack-length (ws form) size (values_of a) in
        let v : unpack (ws form) s ≡ values_of a =
        ap (λ (k : ℕ). cut (ws form) (join (byte_widths k) s)) n ∙ recut (ws form) (byte_widths size) (values_of a) (l.whole form) (fit a h) in
        let same : in_bytes s ≡ form = sym (l.first form s (pack-bytes (ws form) size (values_of a)) n) ∙ ap told v in
        ap₂ answer n (ap (λ (k : ℕ). unpack (ws k) s) same ∙ v) ∙ rw (eq-eqb size size refl, h, l.back a)

    pack-unpack : (s : List ℕ) (a : A) → AreBytes s → answer (length s) (unpack (ws (in_bytes s)) s) ≡ done a → (test (values_of a) ≡ true) × (packed a ≡ s)
    pack-unpack s a f e =
        let form = in_bytes s in
        let vs = unpack (ws form) s in
        let p = unpack-passed below (eqb (length s) size) (test vs) (of_values vs) a e in
        let n : length s ≡ size = eqb-true (length s) size p.0 in
        let same : told vs ≡ form = l.first form s f n in
        let v : values_of a ≡ vs = ap values_of (sym p.2) ∙ l.forth form _ same p.1 in (
          ap test v ∙ p.1,
          ap (λ (us : List ℕ). pack (ws (told us)) size us) v ∙ ap (λ (k : ℕ). pack (ws k) size vs) same
              ∙ ap (λ (k : ℕ). cut (byte_widths k) (join (ws form) vs)) (sym n)
              ∙ recut (byte_widths (length s)) (ws form) s (sym (l.whole form) ∙ ap (λ (k : ℕ). total_width (byte_widths k)) (sym n)) (bytes_fit s f),
        )

    pub inverse : Inverse (λ a. test (values_of a)) packed (λ s. answer (length s) (unpack (ws (in_bytes s)) s))
    inverse = record { unpack-pack = unpack-pack; pack-unpack = pack-unpack }
