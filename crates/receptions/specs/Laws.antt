-- What is shown of the definitions of `Receptions`, and of the slice that is handed back: the statements, to be read without their proofs.
use Rattle.std.specs.Prelude.{◌≡◌, true, List, [], ◌++◌, ◌↔◌, ◌⊎◌, ℕ, ◌≤◌, ◌<◌, length, get_or}
use Rattle.std.specs.Borrow.{Bor}
use Rattle.receptions.specs.Receptions.{first_mast, second_mast, of_mast, refused_at, not_parted, parting, is_beginning, longer, longer_bytes}
use Rattle.receptions.specs.Clauses.{IsPart}

-- two strings agree in the bytes before a place
abbrev pub AgreeBefore : ℕ → List ℕ → List ℕ → Type 0
AgreeBefore place first second = (k : ℕ) → k < place → get_or first k 0 ≡ get_or second k 0

-- both have a byte at a place, these differ, and those before it agree
pub record FirstDifferenceAt (first second : List ℕ) (place : ℕ) : Type 0 where
  pub in_first : place < length first
  pub in_second : place < length second
  pub before : AgreeBefore place first second
  pub differ : get_or first place 0 ≡ get_or second place 0 → ⊥

-- a string is the beginning of another: more bytes, or none, make it the other
abbrev pub Begins : List ℕ → List ℕ → Type 0
Begins beginning whole = (rest : List ℕ) × (beginning ++ rest ≡ whole)

pub record PlaceLaws (first second : List ℕ) : Type 0 where
  -- 10 is answered with a place exactly where the first difference is there, and there is one such place at most; no other number is answered
  pub place : (n k : ℕ) → (parting first second ≡ refused_at n k) ↔ ((n ≡ 10) × FirstDifferenceAt first second k)
  pub only : (j k : ℕ) → FirstDifferenceAt first second j → FirstDifferenceAt first second k → j ≡ k
  -- they do not part exactly where one is the beginning of the other
  pub no_place : (parting first second ≡ not_parted) ↔ (Begins first second ⊎ Begins second first)
  -- what the definition of `longer` tests is whether one string is the beginning of the other
  pub beginning : (is_beginning first second ≡ true) ↔ Begins first second
  -- either mast may be called the first
  pub exchanged : parting first second ≡ parting second first

pub record LongerLaws (first second : List ℕ) : Type 0 where
  -- where the receptions do not part, all of the longer is handed back; with equal lengths the first mast's
  pub second-longer : parting first second ≡ not_parted → length first < length second → longer first second ≡ record { mast = second_mast; bytes = length second }
  pub first-longer : parting first second ≡ not_parted → length second ≤ length first → longer first second ≡ record { mast = first_mast; bytes = length first }
  -- and it begins with both
  pub begins_with : parting first second ≡ not_parted → Begins first (longer_bytes first second) × Begins second (longer_bytes first second)
  -- where they part, no bytes of the first mast's
  pub parted : (n k : ℕ) → parting first second ≡ refused_at n k → longer first second ≡ record { mast = first_mast; bytes = 0 }
  -- no bytes are handed back exactly where they part or both are empty
  pub no-bytes : ((longer first second).bytes ≡ 0) ↔ (((k : ℕ) × FirstDifferenceAt first second k) ⊎ ((first ≡ []) × (second ≡ [])))
  -- the part lies within the reception that it is of
  pub within : (longer first second).bytes ≤ length (of_mast (longer first second).mast first second)
  -- it is the second mast's exactly where it is longer than the first mast's reception
  pub by_length : ((longer first second).mast ≡ second_mast) ↔ (length first < (longer first second).bytes)
  -- either mast may be called the first: the bytes are the same
  pub exchanged : longer_bytes first second ≡ longer_bytes second first

-- the slice r that the code handed back of two lent receptions
pub record SliceLaws (first second r : Bor (List ℕ)) : Type 0 where
  -- the longer itself, where one is the beginning of the other, and with equal lengths the first mast's: where it lies in memory, and its bytes
  pub first_itself : Begins second.now first.now → (r.ref_ptr ≡ first.ref_ptr) × (r.now ≡ first.now)
  pub second_itself : Begins first.now second.now → length first.now < length second.now → (r.ref_ptr ≡ second.ref_ptr) × (r.now ≡ second.now)
  -- where they part, no bytes, at the start of the first mast's
  pub parted : (k : ℕ) → FirstDifferenceAt first.now second.now k → (r.ref_ptr ≡ first.ref_ptr) × (r.now ≡ [])
  -- its length is that of the part
  pub size : length r.now ≡ (longer first.now second.now).bytes

pub record ReceptionLaws : Type 0 where
  pub places : (first second : List ℕ) → PlaceLaws first second
  pub longers : (first second : List ℕ) → LongerLaws first second
  pub slices : (first second r : Bor (List ℕ)) → IsPart (longer first.now second.now) first second r → SliceLaws first second r
  -- two beginnings of one tape do not part, and what is handed back is a beginning of it, too
  pub of_one-tape : (tape first second : List ℕ) → Begins first tape → Begins second tape → (parting first second ≡ not_parted) × Begins (longer_bytes first second) tape
