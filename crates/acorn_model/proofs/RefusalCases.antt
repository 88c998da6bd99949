-- The cases of specs/RefusalCases hold: each is computed.
use mathlib.Core.Path.{◌≡◌, refl}
use mathlib.Core.Bool.{Bool, true, ◌&&◌}
use mathlib.Core.List.{List, [], ◌∷◌}
use lib.Dec.{eqb}
use borrow.Author.Tests.{eqb-true}
use Rattle.std.proofs.lemmas.Bool.{and_parts}
use Rattle.acorn_model.specs.Machine.{phase_allows, fixes_right, sizes_right, over_limit, output_short, refusal}
use Rattle.acorn_model.specs.Message.{seal_refusal, open_refusal}
use Rattle.acorn_model.specs.RefusalCases.{string, machine_with, RefusalCase, calls_with, seals_with, opens_with, Gets, AllGet, cipher_refusal_cases, tag_length_cases}

abbrev gets : RefusalCase → Bool
gets (calls_with tag_length kind phase data_bytes text_bytes call number) = eqb (refusal (machine_with tag_length kind phase data_bytes text_bytes) call) number
gets (seals_with tag_length key nonce «data» text out number) = eqb (seal_refusal tag_length (string key) (string nonce) (string «data») (string text) (string out)) number
gets (opens_with tag_length key nonce «data» sealed_bytes out number) =
    eqb (open_refusal tag_length (string key) (string nonce) (string «data») (string sealed_bytes) (string out)) number

abbrev all_get : List RefusalCase → Bool
all_get [] = true
all_get (c ∷ cs) = gets c && all_get cs

shown : (c : RefusalCase) → gets c ≡ true → Gets c
shown (calls_with tag_length kind phase data_bytes text_bytes call number) h = eqb-true _ _ h
shown (seals_with tag_length key nonce «data» text out number) h = eqb-true _ _ h
shown (opens_with tag_length key nonce «data» sealed_bytes out number) h = eqb-true _ _ h

shown_all : (cs : List RefusalCase) → all_get cs ≡ true → AllGet cs
shown_all [] h = tt
shown_all (c ∷ cs) h = let p = and_parts (gets c) (all_get cs) h in (shown c p.0, shown_all cs p.1)

pub refusal-cases : AllGet cipher_refusal_cases
unfolding refusal phase_allows fixes_right sizes_right over_limit output_short seal_refusal open_refusal
refusal-cases = shown_all cipher_refusal_cases refl

pub tag-length-cases : AllGet tag_length_cases
unfolding refusal phase_allows fixes_right sizes_right over_limit output_short seal_refusal open_refusal
tag-length-cases = shown_all tag_length_cases refl
