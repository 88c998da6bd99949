-- The paper's definitions give the published answers.
use mathlib.Core.Path.{ap, ap₂, ◌∙◌}
use mathlib.Core.List.{List, [], ◌∷◌, ◌++◌}
use Prim.Native.Nat.{◌-◌}
use lib.ListN.{drop}
use Rattle.acorn_model.specs.Bits.{bit, bits_in, number, bytes}
use Rattle.acorn_model.specs.Step.{◌⊕=◌and◌, lfsr_update, maj, ch, ksg128, fbk128, keystream_bit, feedback_bit}
use Rattle.acorn_model.specs.Stretches.{full_tag_length, start_bit}
use Rattle.acorn_model.specs.Message.{sealed_with}
use Rattle.acorn_model.proofs.Proved.{short_tags}
use Rattle.known_answers.specs.Answers.{KnownAnswer, Given, AllGiven, GivenShort, AllGivenShort, published, sixteen_zeros, counted_key, counted_nonce, sixteen_ones, CiphertextGiven}
use Rattle.known_answers.proofs.StepNumbers.{join_at, step_n, run_n, keystream_n}
use Rattle.known_answers.proofs.Messages.{through_n, after_data_n, text_keystream_n, final_keystream_n, ciphertext_computes, tag_computes}

pub published-given : AllGiven published
unfolding after_data_n text_keystream_n final_keystream_n through_n run_n keystream_n step_n join_at lfsr_update ◌⊕=◌and◌ maj ch ksg128 fbk128 keystream_bit feedback_bit start_bit bit bits_in number bytes
published-given = (
  (ciphertext_computes sixteen_zeros sixteen_zeros [] (0x01 ∷ []), tag_computes sixteen_zeros sixteen_zeros [] (0x01 ∷ [])),
  (
    (ciphertext_computes sixteen_zeros sixteen_zeros (0x01 ∷ []) [], tag_computes sixteen_zeros sixteen_zeros (0x01 ∷ []) []),
    tt,
  ),
)

given_short : (a : KnownAnswer) → Given a → GivenShort a
unfolding sealed_with
given_short a given n fits =
    ap₂ ◌++◌ given.0 ((short_tags n a.key a.nonce a.«data» fits).sealing a.text ∙ ap (drop (full_tag_length - n)) given.1)

all_short : (answers : List KnownAnswer) → AllGiven answers → AllGivenShort answers
all_short [] given = tt
all_short (a ∷ others) given = (given_short a given.0, all_short others given.1)

pub published-given_short : AllGivenShort published
published-given_short = all_short published published-given

pub ciphertext-given : CiphertextGiven
unfolding after_data_n text_keystream_n through_n run_n keystream_n step_n join_at lfsr_update ◌⊕=◌and◌ maj ch ksg128 fbk128 keystream_bit feedback_bit start_bit bit bits_in number bytes
ciphertext-given = ciphertext_computes counted_key counted_nonce sixteen_ones sixteen_ones
