-- Document 02, P5: two receptions of one tape.
use Rattle.std.specs.Prelude.{Bool, true, false, ◌&&◌, ◌||◌, List, [], ◌∷◌, ℕ, suc, eqb, ltb, length, take}
use Rattle.calls.specs.Calls.{◌if◌else◌}

-- ## The place

-- what the first call answers: a number with a place, or that the receptions do not part, with no place
pub data PartingReply : Type 0 where
  refused_at : (number place : ℕ) → PartingReply
  not_parted : PartingReply

abbrev pub one_place_later : PartingReply → PartingReply
one_place_later (refused_at number place) = refused_at number (suc place)
one_place_later not_parted = not_parted

-- 10 with the place, counted from 0, of the first byte that differs; where the shorter ends first there is no such byte, and they do not part
unfoldable pub parting : List ℕ → List ℕ → PartingReply
parting [] second = not_parted
parting (x ∷ first) [] = not_parted
parting (x ∷ first) (y ∷ second) = one_place_later (parting first second) if eqb x y else refused_at 10 0

-- ## The part of a buffer

pub data Mast : Type 0 where
  first_mast : Mast
  second_mast : Mast

-- of two things, one for each mast, this mast's
abbrev pub of_mast : {A : Type 0} → Mast → A → A → A
of_mast first_mast first second = first
of_mast second_mast first second = second

-- so many bytes from the start of a mast's reception
pub record Part : Type 0 where
  pub mast : Mast
  pub bytes : ℕ

-- whether a string is the beginning of another
unfoldable pub is_beginning : List ℕ → List ℕ → Bool
is_beginning [] whole = true
is_beginning (x ∷ string) [] = false
is_beginning (x ∷ string) (y ∷ whole) = eqb x y && is_beginning string whole

-- all of the longer of two receptions; with equal lengths, of the first mast's
abbrev pub all_of_longer : List ℕ → List ℕ → Part
all_of_longer first second = record { mast = second_mast; bytes = length second } if ltb (length first) (length second) else record { mast = first_mast; bytes = length first }

-- no bytes, at the start of the first mast's
abbrev pub no_bytes : Part
no_bytes = record { mast = first_mast; bytes = 0 }

-- what the second call hands back
unfoldable pub longer : List ℕ → List ℕ → Part
longer first second = all_of_longer first second if is_beginning first second || is_beginning second first else no_bytes

-- its bytes
unfoldable pub longer_bytes : List ℕ → List ℕ → List ℕ
longer_bytes first second = take (longer first second).bytes (of_mast (longer first second).mast first second)
