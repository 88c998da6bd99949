-- Demand 2 on whole messages with a tag of any length from 8 to 16: what `message::seal_tag` and `message::open_tag` give, by their contracts, and
-- `message::seal` and `message::open` at sixteen.
use Rattle.std.specs.Prelude.{◌≡◌, false, List, ◌++◌, ◌↔◌, ℕ, ◌+◌, ◌-◌, ◌≤◌, length, Result}
use Rattle.acorn_model.specs.Bits.{Bits, bits_in, bytes}
use Rattle.calls.specs.declared.Refusal.{Refusal}
use Rattle.calls.specs.Calls.{done, refused, written_over, AreBytes, as_reply}
use Rattle.acorn_model.specs.Machine.{least_tag_length, key_length, nonce_length, byte_limit}
use Rattle.acorn_model.specs.Stretches.{full_tag_length}
use Rattle.acorn_model.specs.Message.{tag_matches_with}
use Rattle.acorn_model.specs.Laws.{ByPaper, WithinLimits}
use Rattle.message.specs.Clauses.{Seals, OpensTo}

module _ (tag_length : ℕ) (key nonce «data» : List ℕ) where
  pub record MessageDemand : Type 0 where
    -- within the limits, with an output long enough, what is written is ciphertext and then tag, by the paper's relation and by nothing else
    pub sealing : (text out after : List ℕ) (r : Result ℕ Refusal) → Seals tag_length key nonce «data» text out r after
        → WithinLimits tag_length key nonce «data» text → length text + tag_length ≤ length out
        → (c T : Bits) → ByPaper tag_length key nonce «data» (length text) (bits_in text) c T
        → (as_reply r ≡ done (length text + tag_length)) × (after ≡ written_over (bytes (length text) c ++ bytes tag_length T) out)
    -- and there is such a ciphertext and tag
    pub sealable : (text : List ℕ) → (c T : Bits) × ByPaper tag_length key nonce «data» (length text) (bits_in text) c T
    -- and every ciphertext is that of a text, with a tag
    pub openable : (cipher : List ℕ) → (p T : Bits) × ByPaper tag_length key nonce «data» (length cipher) p (bits_in cipher) T
    -- a text is given exactly when the sealed bytes are the paper's ciphertext and tag of it
    pub opening : (sealed_bytes text out after : List ℕ) (r : Result ℕ Refusal) → AreBytes sealed_bytes → AreBytes text
        → WithinLimits tag_length key nonce «data» text → length text ≤ length out → OpensTo tag_length key nonce «data» sealed_bytes out r after
        → (c T : Bits) → ByPaper tag_length key nonce «data» (length text) (bits_in text) c T
        → ((as_reply r ≡ done (length text)) × (after ≡ written_over text out)) ↔ (sealed_bytes ≡ bytes (length text) c ++ bytes tag_length T)
    -- where the tag is not the new one and neither 9 nor a smaller number applies, the answer is 7, and nothing is written
    pub seven : (sealed_bytes out after : List ℕ) (r : Result ℕ Refusal) → OpensTo tag_length key nonce «data» sealed_bytes out r after
        → least_tag_length ≤ tag_length → tag_length ≤ full_tag_length → length key ≡ key_length → length nonce ≡ nonce_length → length «data» ≤ byte_limit
        → tag_length ≤ length sealed_bytes → length sealed_bytes - tag_length ≤ byte_limit → length sealed_bytes - tag_length ≤ length out
        → tag_matches_with tag_length key nonce «data» sealed_bytes ≡ false → (as_reply r ≡ refused 7) × (after ≡ out)

-- for every length from 8 to 16 together
abbrev pub EveryMessage : Type 0
EveryMessage = (tag_length : ℕ) → least_tag_length ≤ tag_length → tag_length ≤ full_tag_length → (key nonce «data» : List ℕ) → MessageDemand tag_length key nonce «data»
