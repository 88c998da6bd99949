-- Published answers of ACORN-128 version 3, and what it is for the paper's definitions to give them.
use Rattle.std.specs.Prelude.{◌≡◌, List, [], ◌∷◌, ◌++◌, ℕ, ◌-◌, ◌≤◌, drop, replicate}
use Rattle.acorn_model.specs.Stretches.{full_tag_length}
use Rattle.acorn_model.specs.Paper.{ciphertext, tag}
use Rattle.acorn_model.specs.Message.{sealed_with}

pub record KnownAnswer : Type 0 where
  pub key : List ℕ
  pub nonce : List ℕ
  pub «data» : List ℕ
  pub text : List ℕ
  pub cipher : List ℕ
  pub tag : List ℕ

abbrev pub Given : KnownAnswer → Type 0
Given a = (ciphertext a.key a.nonce a.«data» a.text ≡ a.cipher) × (tag a.key a.nonce a.«data» a.text ≡ a.tag)

abbrev pub AllGiven : List KnownAnswer → Type 0
AllGiven [] = Unit {0}
AllGiven (a ∷ others) = Given a × AllGiven others

-- sealed with a tag of any length up to sixteen: the ciphertext, and the last bytes of the tag
abbrev pub GivenShort : KnownAnswer → Type 0
GivenShort a = (n : ℕ) → n ≤ full_tag_length → sealed_with n a.key a.nonce a.«data» a.text ≡ a.cipher ++ drop (full_tag_length - n) a.tag

abbrev pub AllGivenShort : List KnownAnswer → Type 0
AllGivenShort [] = Unit {0}
AllGivenShort (a ∷ others) = GivenShort a × AllGivenShort others

abbrev pub sixteen_zeros : List ℕ
sixteen_zeros = replicate 16 0

-- published answers, as the test suite of a public implementation of version 3 carries them (docs/DECISIONS.md): one byte of text, and one of data
abbrev pub published : List KnownAnswer
published =
    record {
      key = sixteen_zeros;
      nonce = sixteen_zeros;
      «data» = [];
      text = 0x01 ∷ [];
      cipher = 0x2b ∷ [];
      tag = 0x4b ∷ 0x60 ∷ 0x64 ∷ 0x0e ∷ 0x26 ∷ 0xf0 ∷ 0xa9 ∷ 0x9d ∷ 0xd0 ∷ 0x1f ∷ 0x93 ∷ 0xbf ∷ 0x63 ∷ 0x49 ∷ 0x97 ∷ 0xcb ∷ [];
    }
    ∷ record {
      key = sixteen_zeros;
      nonce = sixteen_zeros;
      «data» = 0x01 ∷ [];
      text = [];
      cipher = [];
      tag = 0x98 ∷ 0x2e ∷ 0xf7 ∷ 0xd1 ∷ 0xbb ∷ 0xa7 ∷ 0xf8 ∷ 0x9a ∷ 0x15 ∷ 0x75 ∷ 0x29 ∷ 0x7a ∷ 0x09 ∷ 0x5c ∷ 0xd7 ∷ 0xf2 ∷ [];
    }
    ∷ []

-- ## A published ciphertext, without its tag: here key and nonce are no zeros, and differ

abbrev pub counted_key : List ℕ
counted_key = 0x00 ∷ 0x01 ∷ 0x02 ∷ 0x03 ∷ 0x04 ∷ 0x05 ∷ 0x06 ∷ 0x07 ∷ 0x08 ∷ 0x09 ∷ 0x0a ∷ 0x0b ∷ 0x0c ∷ 0x0d ∷ 0x0e ∷ 0x0f ∷ []

abbrev pub counted_nonce : List ℕ
counted_nonce = 0x00 ∷ 0x03 ∷ 0x06 ∷ 0x09 ∷ 0x0c ∷ 0x0f ∷ 0x12 ∷ 0x15 ∷ 0x18 ∷ 0x1b ∷ 0x1e ∷ 0x21 ∷ 0x24 ∷ 0x27 ∷ 0x2a ∷ 0x2d ∷ []

abbrev pub sixteen_ones : List ℕ
sixteen_ones = replicate 16 1

abbrev pub CiphertextGiven : Type 0
CiphertextGiven =
    ciphertext counted_key counted_nonce sixteen_ones sixteen_ones
    ≡ 0x86 ∷ 0x80 ∷ 0x1f ∷ 0xa8 ∷ 0x9e ∷ 0x33 ∷ 0xd9 ∷ 0x92 ∷ 0x35 ∷ 0xdd ∷ 0x4d ∷ 0x1a ∷ 0x72 ∷ 0xce ∷ 0x00 ∷ 0x1a ∷ []
