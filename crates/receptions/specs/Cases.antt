-- Receptions worked out by the prover.
use Rattle.std.specs.Prelude.{◌≡◌, List, [], ◌∷◌, ℕ}
use Rattle.receptions.specs.Receptions.{refused_at, not_parted, parting, first_mast, second_mast, longer, longer_bytes}

-- three bytes, and strings that part from them at the first and at the last
abbrev pub heard : List ℕ
heard = 16 ∷ 20 ∷ 32 ∷ []

abbrev pub differs_at_first : List ℕ
differs_at_first = 17 ∷ 20 ∷ 32 ∷ []

abbrev pub differs_at_last : List ℕ
differs_at_last = 16 ∷ 20 ∷ 33 ∷ []

pub record ReceptionCases : Type 0 where
  pub both_empty : (parting [] [] ≡ not_parted) × (longer [] [] ≡ record { mast = first_mast; bytes = 0 })
  pub first_empty : (parting [] heard ≡ not_parted) × (longer [] heard ≡ record { mast = second_mast; bytes = 3 })
  pub second_empty : (parting heard [] ≡ not_parted) × (longer heard [] ≡ record { mast = first_mast; bytes = 3 })
  pub equal : (parting heard heard ≡ not_parted) × (longer heard heard ≡ record { mast = first_mast; bytes = 3 })
  -- the beginning of one byte, heard by either mast
  pub first-shorter : (parting (16 ∷ []) heard ≡ not_parted) × (longer (16 ∷ []) heard ≡ record { mast = second_mast; bytes = 3 })
  pub second-shorter : (parting heard (16 ∷ []) ≡ not_parted) × (longer heard (16 ∷ []) ≡ record { mast = first_mast; bytes = 3 })
  pub one_byte : (parting (16 ∷ []) (16 ∷ []) ≡ not_parted) × (longer (16 ∷ []) (16 ∷ []) ≡ record { mast = first_mast; bytes = 1 })
  pub other_byte : (parting (16 ∷ []) (17 ∷ []) ≡ refused_at 10 0) × (longer (16 ∷ []) (17 ∷ []) ≡ record { mast = first_mast; bytes = 0 })
  -- parted at the first byte and at the last; and the longer of two that part is not handed back, nor are bytes that agree behind the place
  pub at_first : (parting heard differs_at_first ≡ refused_at 10 0) × (longer heard differs_at_first ≡ record { mast = first_mast; bytes = 0 })
  pub at_last : (parting heard differs_at_last ≡ refused_at 10 2) × (longer heard differs_at_last ≡ record { mast = first_mast; bytes = 0 })
  pub longer_parted : (parting (17 ∷ []) heard ≡ refused_at 10 0) × (longer (17 ∷ []) heard ≡ record { mast = first_mast; bytes = 0 })
  pub no-bytes : longer_bytes heard differs_at_last ≡ []
  pub all_bytes : (longer_bytes heard [] ≡ heard) × (longer_bytes [] heard ≡ heard)
