-- The statements of specs/Laws.antt, specs/Opening.antt and specs/Cases.antt, proved.
use mathlib.Core.Path.{◌≡◌, refl, sym, ap, ap₂, ◌∙◌, subst}
use mathlib.Core.Bool.{Bool, true, false, not, ◌&&◌, ◌||◌, false≢true}
use mathlib.Core.List.{List, [], ◌∷◌, ◌++◌, append-nil}
use mathlib.Core.Logic.{◌↔◌, ◌⊎◌, inl, inr, ⊎_elim}
use Prim.Native.Nat.{ℕ, ◌≤◌, ◌<◌}
use native.Mathlib.Nat.{le_refl}
use native.Mathlib.Omega.{arith}
use lib.Dec.{eqb}
use lib.ListN.{length, take, drop, get_or, length-append}
use lib.Seq.{take-length, length-take-le}
use borrow.Author.Tests.{lt-ltb, le-ltb}
use denote.Ref.{Bor}
use Rattle.std.proofs.lemmas.Bool.{cases_lt}
use Rattle.calls.specs.Calls.{refused, result_of, unless_refused}
use Rattle.acorn_model.specs.Machine.{key_length}
use Rattle.tape_model.specs.Tape.{is_tape_length, open_tape_refusal, open_tape}
use Rattle.tape_model.specs.Listing.{listing}
use Rattle.tape_model.proofs.Tapes.{tapes_come_back}
use Rattle.receptions.specs.Receptions.{Part, first_mast, second_mast, Mast, of_mast, PartingReply, refused_at, not_parted, parting, is_beginning, no_bytes, longer, longer_bytes}
use Rattle.receptions.specs.Clauses.{IsPart}
use Rattle.receptions.specs.Laws.{FirstDifferenceAt, Begins, PlaceLaws, LongerLaws, SliceLaws, ReceptionLaws}
use Rattle.receptions.specs.Opening.{HeardWhole, OpeningLaws, SliceOpens, JoinedToOpening}
use Rattle.receptions.specs.Cases.{ReceptionCases}
use Rattle.receptions.proofs.Places.{is_not_parted, place_in, at_place, found, parting-exchanged}
use Rattle.receptions.proofs.Beginnings.{begins, is-beginning, one-begins, longer-not_parted, longer_parted}

-- ## The place

is-not_parted : (r : PartingReply) → is_not_parted r ≡ true → r ≡ not_parted
is-not_parted (refused_at n k) e = absurd (false≢true e)
is-not_parted not_parted e = refl

one_or_other : (t u : Bool) → (t || u) ≡ true → (t ≡ true) ⊎ (u ≡ true)
one_or_other true u e = inl refl
one_or_other false u e = inr e

right_true : (t : Bool) → (t || true) ≡ true
right_true true = refl
right_true false = refl

module _ (a b : List ℕ) where
  one-is_beginning : parting a b ≡ not_parted → Begins a b ⊎ Begins b a
  one-is_beginning e =
      ⊎_elim (λ t. inl (begins a b t)) (λ t. inr (begins b a t)) (one_or_other (is_beginning a b) (is_beginning b a) (sym (one-begins a b) ∙ ap is_not_parted e))

  pub do_not_part : Begins a b ⊎ Begins b a → parting a b ≡ not_parted
  do_not_part p =
      is-not_parted (parting a b) (one-begins a b
      ∙ ⊎_elim (λ q. ap (λ (t : Bool). t || is_beginning b a) (is-beginning a b q)) (λ q. ap (λ (t : Bool). is_beginning a b || t) (is-beginning b a q) ∙ right_true (is_beginning a b)) p)

  place-laws : PlaceLaws a b
  place-laws = record {
    place = λ n k. (found a b n k, λ p. at_place k a b p.1 ∙ ap (λ (m : ℕ). refused_at m k) (sym p.0));
    only = λ j k p q. ap place_in (sym (at_place j a b p) ∙ at_place k a b q);
    no_place = (one-is_beginning, do_not_part);
    beginning = (begins a b, is-beginning a b);
    exchanged = parting-exchanged a b;
  }

-- ## The part

-- a beginning of as many bytes is the whole
all_of : (a rest b : List ℕ) → a ++ rest ≡ b → length b ≤ length a → a ≡ b
all_of a [] b e l = sym (append-nil a) ∙ e
all_of a (x ∷ rest) b e l = absurd (omega (arith, l, sym (length-append a (x ∷ rest)) ∙ ap length e))

shorter : (a b : List ℕ) → Begins a b → length a ≤ length b
shorter a b p = subst (λ (l : List ℕ). length a ≤ length l) p.1 (omega (arith, length-append a p.0))

-- of strings that do not part the shorter is the beginning of the longer
shorter-begins : (a b : List ℕ) → parting a b ≡ not_parted → length b ≤ length a → Begins b a
shorter-begins a b e l = ⊎_elim (λ p. ([], append-nil b ∙ sym (all_of a p.0 b p.1 l))) (λ p. p) (one-is_beginning a b e)

begins_itself : (a : List ℕ) → Begins a a
begins_itself a = ([], append-nil a)

module _ (a b : List ℕ) where
  second-longer : parting a b ≡ not_parted → length a < length b → longer a b ≡ record { mast = second_mast; bytes = length b }
  second-longer e l = longer-not_parted a b e ∙ rw (lt-ltb (length a) (length b) l) refl

  first-longer : parting a b ≡ not_parted → length b ≤ length a → longer a b ≡ record { mast = first_mast; bytes = length a }
  first-longer e l = longer-not_parted a b e ∙ rw (le-ltb (length a) (length b) l) refl

  bytes_of : (p : Part) → longer a b ≡ p → longer_bytes a b ≡ take p.bytes (of_mast p.mast a b)
  unfolding longer_bytes
  bytes_of p e = ap (λ (q : Part). take q.bytes (of_mast q.mast a b)) e

  bytes-first : parting a b ≡ not_parted → length b ≤ length a → longer_bytes a b ≡ a
  bytes-first e l = bytes_of _ (first-longer e l) ∙ take-length a

  bytes-second : parting a b ≡ not_parted → length a < length b → longer_bytes a b ≡ b
  bytes-second e l = bytes_of _ (second-longer e l) ∙ take-length b

  second-begins : parting a b ≡ not_parted → length a < length b → Begins a b
  second-begins e l = shorter-begins b a (parting-exchanged b a ∙ e) (omega arith)

  -- the longer of the two is handed back, and both begin it
  begins_with : parting a b ≡ not_parted → Begins a (longer_bytes a b) × Begins b (longer_bytes a b)
  begins_with e =
      ⊎_elim
      (λ l. subst (λ (h : List ℕ). Begins a h × Begins b h) (sym (bytes-second e l)) (second-begins e l, begins_itself b))
      (λ l. subst (λ (h : List ℕ). Begins a h × Begins b h) (sym (bytes-first e l)) (begins_itself a, shorter-begins a b e l))
      (cases_lt (length a) (length b))

  -- ## By the three cases

  module _ {P : Type 0} (parted : (n k : ℕ) → parting a b ≡ refused_at n k → P) (second : parting a b ≡ not_parted → length a < length b → P)
      (first : parting a b ≡ not_parted → length b ≤ length a → P) where
    by-reply : (r : PartingReply) → parting a b ≡ r → P
    by-reply (refused_at n k) e = parted n k e
    by-reply not_parted e = ⊎_elim (second e) (first e) (cases_lt (length a) (length b))

    pub three-cases : P
    three-cases = by-reply (parting a b) refl

  abbrev Within : Part → Type 0
  Within p = p.bytes ≤ length (of_mast p.mast a b)

  within : (longer a b).bytes ≤ length (of_mast (longer a b).mast a b)
  within =
      three-cases
      (λ n k e. subst Within (sym (longer_parted a b n k e)) (omega arith))
      (λ e l. subst Within (sym (second-longer e l)) (le_refl (length b)))
      (λ e l. subst Within (sym (first-longer e l)) (le_refl (length a)))

  abbrev NoBytes : Part → Type 0
  NoBytes p = (p.bytes ≡ 0) ↔ (((k : ℕ) × FirstDifferenceAt a b k) ⊎ ((a ≡ []) × (b ≡ [])))

  no-bytes : ((longer a b).bytes ≡ 0) ↔ (((k : ℕ) × FirstDifferenceAt a b k) ⊎ ((a ≡ []) × (b ≡ [])))
  no-bytes =
      three-cases
      (λ n k e. subst NoBytes (sym (longer_parted a b n k e)) (λ _. inl (k, (found a b n k e).1), λ _. refl))
      (λ e l. subst NoBytes (sym (second-longer e l)) (λ z. absurd (omega (arith, z)), λ h. absurd (differ_or_empty e h (λ y. omega (arith, l, ap length y)))))
      (λ e l. subst NoBytes (sym (first-longer e l)) (λ z. inr (empty a (omega (arith, z)), empty b (omega (arith, z))), λ h. ⊎_elim (λ p. absurd (not-both e p)) (λ p. ap length p.0) h))
    where
      empty : (l : List ℕ) → length l ≤ 0 → l ≡ []
      empty [] h = refl
      empty (x ∷ l) h = absurd (omega arith)

      not-both : parting a b ≡ not_parted → (k : ℕ) × FirstDifferenceAt a b k → ⊥
      not-both e p = false≢true (ap is_not_parted (sym (at_place p.0 a b p.1) ∙ e))

      differ_or_empty : parting a b ≡ not_parted → ((k : ℕ) × FirstDifferenceAt a b k) ⊎ ((a ≡ []) × (b ≡ [])) → (b ≡ [] → ⊥) → ⊥
      differ_or_empty e h f = ⊎_elim (not-both e) (λ p. f p.1) h

  abbrev ByLength : Part → Type 0
  ByLength p = (p.mast ≡ second_mast) ↔ (length a < p.bytes)

  by_length : ((longer a b).mast ≡ second_mast) ↔ (length a < (longer a b).bytes)
  by_length =
      three-cases
      (λ n k e. subst ByLength (sym (longer_parted a b n k e)) (λ s. absurd (not-second s), λ l. absurd (omega arith)))
      (λ e l. subst ByLength (sym (second-longer e l)) (λ s. l, λ _. refl))
      (λ e l. subst ByLength (sym (first-longer e l)) (λ s. absurd (not-second s), λ m. absurd (omega arith)))
    where
      not-second : first_mast ≡ second_mast → ⊥
      not-second s = false≢true (ap (λ (m : Mast). of_mast m false true) s)

bytes-exchanged : (a b : List ℕ) → longer_bytes a b ≡ longer_bytes b a
bytes-exchanged a b =
    three-cases a b
    (λ n k e. bytes_of a b no_bytes (longer_parted a b n k e) ∙ sym (bytes_of b a no_bytes (longer_parted b a n k (parting-exchanged b a ∙ e))))
    (λ e l. bytes-second a b e l ∙ sym (bytes-first b a (parting-exchanged b a ∙ e) (omega arith)))
    (λ e l. bytes-first a b e l ∙ ⊎_elim (λ m. sym (bytes-second b a (parting-exchanged b a ∙ e) m)) (λ m. same e l m ∙ sym (bytes-first b a (parting-exchanged b a ∙ e) m)) (cases_lt (length b) (length a)))
  where
    same : parting a b ≡ not_parted → length b ≤ length a → length a ≤ length b → a ≡ b
    same e l m = let p = shorter-begins a b e l in sym (all_of b p.0 a p.1 m)

longer-laws : (a b : List ℕ) → LongerLaws a b
longer-laws a b = record {
  second-longer = second-longer a b;
  first-longer = first-longer a b;
  begins_with = begins_with a b;
  parted = longer_parted a b;
  no-bytes = no-bytes a b;
  within = within a b;
  by_length = by_length a b;
  exchanged = bytes-exchanged a b;
}

-- ## Two beginnings of one tape

either_begins : (a b rest other : List ℕ) → a ++ rest ≡ b ++ other → Begins a b ⊎ Begins b a
either_begins [] b rest other e = inl (b, refl)
either_begins (x ∷ a) [] rest other e = inr (x ∷ a, refl)
either_begins (x ∷ a) (y ∷ b) rest other e =
    let h : x ≡ y = ap (λ (l : List ℕ). get_or l 0 0) e in
    ⊎_elim (λ p. inl (p.0, ap₂ ◌∷◌ h p.1)) (λ p. inr (p.0, ap₂ ◌∷◌ (sym h) p.1)) (either_begins a b rest other (ap (drop 1) e))

of_one-tape : (tape a b : List ℕ) → Begins a tape → Begins b tape → (parting a b ≡ not_parted) × Begins (longer_bytes a b) tape
of_one-tape tape a b p q =
    let e = do_not_part a b (either_begins a b p.0 q.0 (p.1 ∙ sym q.1)) in (
      e,
      ⊎_elim
          (λ l. subst (λ (h : List ℕ). Begins h tape) (sym (bytes-second a b e l)) q)
          (λ l. subst (λ (h : List ℕ). Begins h tape) (sym (bytes-first a b e l)) p)
          (cases_lt (length a) (length b)),
    )

-- ## The slice handed back

module _ (first second r : Bor (List ℕ)) (part : IsPart (longer first.now second.now) first second r) where
  -- by the part that the definition names
  is : (p : Part) → longer first.now second.now ≡ p
      → (r.ref_ptr ≡ of_mast p.mast first.ref_ptr second.ref_ptr) × (r.now ≡ take p.bytes (of_mast p.mast first.now second.now))
  is p e = (part.start ∙ ap (λ (q : Part). of_mast q.mast first.ref_ptr second.ref_ptr) e, part.bytes ∙ ap (λ (q : Part). take q.bytes (of_mast q.mast first.now second.now)) e)

  slice_laws : SliceLaws first second r
  slice_laws = record {
    first_itself = λ h.
        let p = is _ (first-longer first.now second.now (do_not_part _ _ (inr h)) (shorter second.now first.now h)) in (p.0, p.1 ∙ take-length first.now);
    second_itself = λ h l. let p = is _ (second-longer first.now second.now (do_not_part _ _ (inl h)) l) in (p.0, p.1 ∙ take-length second.now);
    parted = λ k h. is no_bytes (longer_parted _ _ 10 k (at_place k _ _ h));
    size = ap length part.bytes ∙ length-take-le _ _ (within first.now second.now);
  }

pub reception_laws : ReceptionLaws
reception_laws = record { places = place-laws; longers = longer-laws; slices = slice_laws; of_one-tape = of_one-tape }

-- ## Opening

-- a whole tape, heard by either mast, is handed back where the other heard its beginning
whole-bytes : (tape first second : List ℕ) → HeardWhole tape first second → longer_bytes first second ≡ tape
whole-bytes tape first second h =
    ⊎_elim
    (λ p. ap (λ (l : List ℕ). longer_bytes l second) p.0 ∙ heard-by-first second p.1)
    (λ p. bytes-exchanged first second ∙ ap (λ (l : List ℕ). longer_bytes l first) p.0 ∙ heard-by-first first p.1)
    h
  where
    heard-by-first : (other : List ℕ) → Begins other tape → longer_bytes tape other ≡ tape
    heard-by-first other p = bytes-first tape other (do_not_part tape other (inr p)) (shorter other tape p)

opening_laws : (tape first second : List ℕ) (heard : HeardWhole tape first second) → OpeningLaws tape first second heard
opening_laws tape first second heard =
    let e = whole-bytes tape first second heard in
    record {
      bytes = e;
      opens = λ key out. ap (λ (l : List ℕ). open_tape key l out) e;
      lists = λ key. ap (listing key) e;
    }

and-false : (t : Bool) → not (t && false) ≡ true
and-false true = refl
and-false false = refl

-- no bytes are no tape
none_opens : (key out : List ℕ) → open_tape key [] out ≡ record { answer = refused 2; out = out }
unfolding open_tape open_tape_refusal is_tape_length result_of unless_refused
none_opens key out = rw (and-false (eqb (length key) key_length)) refl

slice_opens : (first second r : Bor (List ℕ)) (part : IsPart (longer first.now second.now) first second r) → SliceOpens first second r part
unfolding longer_bytes
slice_opens first second r part = record {
  whole = λ key head tickets sixteen right valid few heard out room.
      ap (λ (l : List ℕ). open_tape key l out) part.bytes ∙ (opening_laws _ first.now second.now heard).opens key out
      ∙ (tapes_come_back key head tickets sixteen right valid few).opens out room;
  parted = λ k h key out. ap (λ (l : List ℕ). open_tape key l out) ((slice_laws first second r part).parted k h).1 ∙ none_opens key out;
}

pub joined_to_opening : JoinedToOpening
joined_to_opening = record { whole-tape = opening_laws; handed_back = slice_opens }

-- ## Cases

pub reception_cases : ReceptionCases
unfolding parting is_beginning longer longer_bytes
reception_cases = record {
  both_empty = (refl, refl);
  first_empty = (refl, refl);
  second_empty = (refl, refl);
  equal = (refl, refl);
  first-shorter = (refl, refl);
  second-shorter = (refl, refl);
  one_byte = (refl, refl);
  other_byte = (refl, refl);
  at_first = (refl, refl);
  at_last = (refl, refl);
  longer_parted = (refl, refl);
  no-bytes = refl;
  all_bytes = (refl, refl);
}
