-- What is shown of the cipher's definitions, for every key, nonce, data and text: the statements, to be read without their proofs.
use Rattle.std.specs.Prelude.{◌≡◌, Bool, true, false, not, List, [], ◌++◌, ◌↔◌, ℕ, suc, ◌+◌, ◌-◌, ◌*◌, ◌≤◌, ◌<◌, eqb, ltb, length, take, drop, get_or}
use Rattle.acorn_model.specs.Bits.{Bits, bit, bits_in, bytes}
use Rattle.calls.specs.Calls.{AreBytes, ◌if◌else◌, refused, done, accepted, written_over, same_bytes}
use Rattle.acorn_model.specs.Paper.{Encrypts, ciphertext, tag_of_length, decrypted, new_tag_of_length, tag, new_tag, Opens}
use Rattle.acorn_model.specs.Stretches.{Stretch, full_tag_length, text_out, tag_of, tag_bytes, through, text_end, after_data, before_final, text_pieces, text_pieces_out, joined, after_data_pieces}
use Rattle.acorn_model.specs.Machine.{Machine, Call, begin, data_call, seal_text, check_text, seal_close, check_close, least_tag_length, tag_length_right, key_length, nonce_length, key_and_nonce_right, byte_limit, phase_allows, refusal, data_taken, text_taken, text_ended, closed, call}
use Rattle.acorn_model.specs.Message.{sealed_with, tag_matches_with, opened_with, seal_message, open_message}

-- In a string, bit 8k+j (j below 8) has weight 2^j in byte k; and in the n bytes that bits make, the weight 2^j of byte k is bit 8k+j of them.
pub record BitOrder : Type 0 where
  pub in_string : (string : List ℕ) (k j : ℕ) → j < 8 → bits_in string (8 * k + j) ≡ bit (get_or string k 0) j
  pub made : (n k j : ℕ) (b : Bits) → k < n → j < 8 → bit (get_or (bytes n b) k 0) j ≡ b (8 * k + j)

-- the same bits 0 to 292
abbrev pub SameState : Bits → Bits → Type 0
SameState S R = (p : ℕ) → p ≤ 292 → S p ≡ R p

-- What states with the same bits 0 to 292 give is the same, whatever stands above.
pub record StateBits (S R : Bits) : Type 0 where
  pub next : (stretch : Stretch) → SameState (through stretch S) (through stretch R)
  pub text : (opening : Bool) (piece : List ℕ) → text_out opening piece S ≡ text_out opening piece R
  pub tag : tag_of S ≡ tag_of R

-- A tag has `tag_length` bytes. `EveryLength` below says for which lengths these hold: those from 8 to 16, all together.
module _ (tag_length : ℕ) (key nonce «data» : List ℕ) where
  -- by the paper n bytes of plaintext bits p are encrypted to c, with the tag T
  abbrev pub ByPaper : ℕ → Bits → Bits → Bits → Type 0
  ByPaper n p c T = Encrypts (bits_in key) (bits_in nonce) (bits_in «data») (8 * length «data») (8 * n) (8 * tag_length) p c T

  -- The functions compute what the paper's relation says, and it allows nothing else.
  pub record PaperComputed : Type 0 where
    pub sealing : (text : List ℕ)
        → ByPaper (length text) (bits_in text) (bits_in (ciphertext key nonce «data» text)) (bits_in (tag_of_length tag_length key nonce «data» text))
    pub sealing_only : (text : List ℕ) (c T : Bits) → ByPaper (length text) (bits_in text) c T
        → (bytes (length text) c ≡ ciphertext key nonce «data» text) × (bytes tag_length T ≡ tag_of_length tag_length key nonce «data» text)
    pub opening : (cipher : List ℕ)
        → ByPaper (length cipher) (bits_in (decrypted key nonce «data» cipher)) (bits_in cipher) (bits_in (new_tag_of_length tag_length key nonce «data» cipher))
    pub opening_only : (cipher : List ℕ) (p T : Bits) → ByPaper (length cipher) p (bits_in cipher) T
        → (bytes (length cipher) p ≡ decrypted key nonce «data» cipher) × (bytes tag_length T ≡ new_tag_of_length tag_length key nonce «data» cipher)

  -- A shorter tag is the last bytes of the full one, in sealing and in opening.
  pub record ShortTags : Type 0 where
    pub sealing : (text : List ℕ) → tag_of_length tag_length key nonce «data» text ≡ drop (full_tag_length - tag_length) (tag key nonce «data» text)
    pub opening : (cipher : List ℕ) → new_tag_of_length tag_length key nonce «data» cipher ≡ drop (full_tag_length - tag_length) (new_tag key nonce «data» cipher)
    pub sealing_length : (text : List ℕ) → length (tag_of_length tag_length key nonce «data» text) ≡ tag_length
    pub opening_length : (cipher : List ℕ) → length (new_tag_of_length tag_length key nonce «data» cipher) ≡ tag_length

  -- Opening undoes sealing, and opens exactly when the tag is the one.
  pub record OpeningExact : Type 0 where
    pub decrypts : (text : List ℕ) → AreBytes text → decrypted key nonce «data» (ciphertext key nonce «data» text) ≡ text
    pub with_tag : (text t : List ℕ) → AreBytes text
        → Opens tag_length key nonce «data» (ciphertext key nonce «data» text) t text ↔ (t ≡ tag_of_length tag_length key nonce «data» text)
    pub exactly : (cipher t text : List ℕ) → AreBytes cipher → AreBytes text
        → Opens tag_length key nonce «data» cipher t text ↔ ((cipher ≡ ciphertext key nonce «data» text) × (t ≡ tag_of_length tag_length key nonce «data» text))
    pub whole : (sealed_bytes text : List ℕ) → AreBytes sealed_bytes → AreBytes text
        → ((tag_matches_with tag_length key nonce «data» sealed_bytes ≡ true) × (opened_with tag_length key nonce «data» sealed_bytes ≡ text))
        ↔ (sealed_bytes ≡ sealed_with tag_length key nonce «data» text)

  -- Document 01's stretches give the paper's ciphertext and tag.
  pub record StretchesAgree : Type 0 where
    pub sealing : (text : List ℕ)
        → (text_out false text (after_data key nonce «data») ≡ ciphertext key nonce «data» text)
        × (tag_bytes tag_length (before_final false text (after_data key nonce «data»)) ≡ tag_of_length tag_length key nonce «data» text)
    pub opening : (cipher : List ℕ)
        → (text_out true cipher (after_data key nonce «data») ≡ decrypted key nonce «data» cipher)
        × (tag_bytes tag_length (before_final true cipher (after_data key nonce «data»)) ≡ new_tag_of_length tag_length key nonce «data» cipher)
    -- and so they do wherever data and text are cut into pieces
    pub sealing_pieces : (ds ts : List (List ℕ)) → joined ds ≡ «data»
        → (text_pieces_out false ts (after_data_pieces key nonce ds) ≡ ciphertext key nonce «data» (joined ts))
        × (tag_bytes tag_length (through text_end (text_pieces false ts (after_data_pieces key nonce ds))) ≡ tag_of_length tag_length key nonce «data» (joined ts))
    pub opening_pieces : (ds ts : List (List ℕ)) → joined ds ≡ «data»
        → (text_pieces_out true ts (after_data_pieces key nonce ds) ≡ decrypted key nonce «data» (joined ts))
        × (tag_bytes tag_length (through text_end (text_pieces true ts (after_data_pieces key nonce ds))) ≡ new_tag_of_length tag_length key nonce «data» (joined ts))

  -- the numbers 9, 2 and 5 do not apply to a message of this text
  pub record WithinLimits (text : List ℕ) : Type 0 where
    pub tag-least : least_tag_length ≤ tag_length
    pub tag-most : tag_length ≤ full_tag_length
    pub key_size : length key ≡ key_length
    pub nonce_size : length nonce ≡ nonce_length
    pub data_limit : length «data» ≤ byte_limit
    pub text_limit : length text ≤ byte_limit

  -- Whole sealing and opening, with their answers and outputs.
  pub record MessageLaws : Type 0 where
    pub seals : (text out : List ℕ) → WithinLimits text → length text + tag_length ≤ length out
        → seal_message tag_length key nonce «data» text out
        ≡ record { answer = done (length text + tag_length); out = written_over (sealed_with tag_length key nonce «data» text) out }
    -- a text is written exactly where it is within the limits, has room, and the sealed bytes are that text sealed with a tag of that length
    pub opens_exactly : (sealed_bytes text out : List ℕ) → AreBytes sealed_bytes → AreBytes text
        → (open_message tag_length key nonce «data» sealed_bytes out ≡ record { answer = done (length text); out = written_over text out })
        ↔ (WithinLimits text × (length text ≤ length out) × (sealed_bytes ≡ sealed_with tag_length key nonce «data» text))
    -- what a sealing wrote opens to its text
    pub opens-sealed : (text out out' : List ℕ) → AreBytes text → WithinLimits text → length text + tag_length ≤ length out → length text ≤ length out'
        → open_message tag_length key nonce «data» (take (length text + tag_length) (seal_message tag_length key nonce «data» text out).out) out'
        ≡ record { answer = done (length text); out = written_over text out' }
    -- a tag of another length than 8 to 16 is 9, whatever else is wrong
    pub seal_tag_under : (text out : List ℕ) → tag_length < least_tag_length → (seal_message tag_length key nonce «data» text out).answer ≡ refused 9
    pub seal_tag_over : (text out : List ℕ) → full_tag_length < tag_length → (seal_message tag_length key nonce «data» text out).answer ≡ refused 9
    pub open_tag_under : (sealed_bytes out : List ℕ) → tag_length < least_tag_length → (open_message tag_length key nonce «data» sealed_bytes out).answer ≡ refused 9
    pub open_tag_over : (sealed_bytes out : List ℕ) → full_tag_length < tag_length → (open_message tag_length key nonce «data» sealed_bytes out).answer ≡ refused 9
    -- fewer sealed bytes than the tag has are 2, whatever the data and the output
    pub open_under : (sealed_bytes out : List ℕ) → least_tag_length ≤ tag_length → tag_length ≤ full_tag_length → length sealed_bytes < tag_length
        → (open_message tag_length key nonce «data» sealed_bytes out).answer ≡ refused 2
    -- data or text over the limit is 5, whatever the output
    pub seal_long_data : (text out : List ℕ) → least_tag_length ≤ tag_length → tag_length ≤ full_tag_length → length key ≡ key_length → length nonce ≡ nonce_length
        → byte_limit < length «data» → (seal_message tag_length key nonce «data» text out).answer ≡ refused 5
    pub seal_long_text : (text out : List ℕ) → least_tag_length ≤ tag_length → tag_length ≤ full_tag_length → length key ≡ key_length → length nonce ≡ nonce_length
        → byte_limit < length text → (seal_message tag_length key nonce «data» text out).answer ≡ refused 5
    pub open_long_data : (sealed_bytes out : List ℕ) → least_tag_length ≤ tag_length → tag_length ≤ full_tag_length → length key ≡ key_length → length nonce ≡ nonce_length
        → tag_length ≤ length sealed_bytes → byte_limit < length «data» → (open_message tag_length key nonce «data» sealed_bytes out).answer ≡ refused 5
    pub open_long_text : (sealed_bytes out : List ℕ) → least_tag_length ≤ tag_length → tag_length ≤ full_tag_length → length key ≡ key_length → length nonce ≡ nonce_length
        → byte_limit + tag_length < length sealed_bytes → (open_message tag_length key nonce «data» sealed_bytes out).answer ≡ refused 5
    -- an output without room for text and tag is 6
    pub seal_no_room : (text out : List ℕ) → WithinLimits text → length out < length text + tag_length → (seal_message tag_length key nonce «data» text out).answer ≡ refused 6
    -- a refused call leaves its output as it was
    pub seal_refused : (n : ℕ) (text out : List ℕ) → (seal_message tag_length key nonce «data» text out).answer ≡ refused n
        → (seal_message tag_length key nonce «data» text out).out ≡ out
    pub open_refused : (n : ℕ) (sealed_bytes out : List ℕ) → (open_message tag_length key nonce «data» sealed_bytes out).answer ≡ refused n
        → (open_message tag_length key nonce «data» sealed_bytes out).out ≡ out
    -- two openings that end with 7, on equal outputs, give the same answer and leave equal outputs, also with tags of different lengths
    pub sevens_alike : (tag_length' : ℕ) (key' nonce' data' sealed_bytes sealed_bytes' out : List ℕ)
        → (open_message tag_length key nonce «data» sealed_bytes out).answer ≡ refused 7
        → (open_message tag_length' key' nonce' data' sealed_bytes' out).answer ≡ refused 7
        → open_message tag_length key nonce «data» sealed_bytes out ≡ open_message tag_length' key' nonce' data' sealed_bytes' out

-- ## Every length of a tag

pub record EveryLength : Type 0 where
  pub computed : (tag_length : ℕ) → least_tag_length ≤ tag_length → tag_length ≤ full_tag_length → (key nonce «data» : List ℕ) → PaperComputed tag_length key nonce «data»
  pub last-bytes : (tag_length : ℕ) → least_tag_length ≤ tag_length → tag_length ≤ full_tag_length → (key nonce «data» : List ℕ) → ShortTags tag_length key nonce «data»
  pub opening : (tag_length : ℕ) → least_tag_length ≤ tag_length → tag_length ≤ full_tag_length → (key nonce «data» : List ℕ) → OpeningExact tag_length key nonce «data»
  pub stretches : (tag_length : ℕ) → least_tag_length ≤ tag_length → tag_length ≤ full_tag_length → (key nonce «data» : List ℕ) → StretchesAgree tag_length key nonce «data»
  -- these have the range in each law that needs it
  pub messages : (tag_length : ℕ) (key nonce «data» : List ℕ) → MessageLaws tag_length key nonce «data»

-- ## Data and text in pieces

-- Data that the machine takes in two pieces, or text, leads to the same machine as both at once: its state, phase, tag length and counts. So a piece does not end
-- the data, and each piece of text has its effect.
pub record PieceLaws (m : Machine) : Type 0 where
  pub of_data : (a b : List ℕ) → data_taken b (data_taken a m) ≡ data_taken (a ++ b) m
  pub of_text : (a b : List ℕ) → text_taken b (text_taken a m) ≡ text_taken (a ++ b) m

-- ## The tag's length

-- what a call that the machine does not refuse leaves of the length, and what a close writes or judges by it
pub record TagLengthLaws (m : Machine) : Type 0 where
  -- a begin fixes the length that it is given, and no later call changes it
  pub fixed : (key nonce : List ℕ) (n : ℕ) → refusal m (begin key nonce n) ≡ accepted → (call m (begin key nonce n)).next.tag_length ≡ n
  pub kept-by-data : (piece : List ℕ) → (call m (data_call piece)).next.tag_length ≡ m.tag_length
  pub kept-by_sealing : (piece out : List ℕ) → (call m (seal_text piece out)).next.tag_length ≡ m.tag_length
  pub kept-by_checking : (piece : List ℕ) → (call m (check_text piece)).next.tag_length ≡ m.tag_length
  pub kept-by_seal_close : (out : List ℕ) → (call m (seal_close out)).next.tag_length ≡ m.tag_length
  pub kept-by_check_close : (tag : List ℕ) → (call m (check_close tag)).next.tag_length ≡ m.tag_length
  -- where kind and phase allow it, a begin is stopped by 9 before 2, a sealing close by 6 where the output has fewer bytes than the tag, and a checking
  -- close by 2 where the tag given has another length
  pub begins : (key nonce : List ℕ) (n : ℕ) → phase_allows m.kind m.phase (begin key nonce n) ≡ true
      → refusal m (begin key nonce n) ≡ (9 if not (tag_length_right n) else 2 if not (key_and_nonce_right key nonce) else accepted)
  pub room : (out : List ℕ) → phase_allows m.kind m.phase (seal_close out) ≡ true → refusal m (seal_close out) ≡ (6 if ltb (length out) m.tag_length else accepted)
  pub given : (tag : List ℕ) → phase_allows m.kind m.phase (check_close tag) ≡ true
      → refusal m (check_close tag) ≡ (2 if not (eqb (length tag) m.tag_length) else accepted)
  -- a sealing close writes so many bytes, the last of the sixteen, and nothing behind them
  pub written : (out : List ℕ) → m.tag_length ≤ full_tag_length → refusal m (seal_close out) ≡ accepted
      → ((call m (seal_close out)).answer ≡ done (record { bytes = m.tag_length; steps = (closed m).counts.steps }))
      × ((call m (seal_close out)).out ≡ written_over (drop (full_tag_length - m.tag_length) (tag_of (text_ended m).state)) out)
  -- a checking close says good where the tag given is all of them, else 7
  pub judged : (tag : List ℕ) → refusal m (check_close tag) ≡ accepted
      → (call m (check_close tag)).answer
      ≡ (done (record { bytes = 0; steps = (closed m).counts.steps }) if same_bytes tag (drop (full_tag_length - m.tag_length) (tag_of (text_ended m).state)) else refused 7)

-- ## A call that is sent back

-- where a number but 7 applies, the call answers it, and the machine and the output that it is lent ([] for none) stay as they are
abbrev pub SentBack : Machine → Call → List ℕ → Type 0
SentBack m c out = (n : ℕ) → refusal m c ≡ suc n → call m c ≡ record { next = m; answer = refused (suc n); out = out }

pub record SentBackLaws (m : Machine) : Type 0 where
  pub of_begin : (key nonce : List ℕ) (n : ℕ) → SentBack m (begin key nonce n) []
  pub of_data : (piece : List ℕ) → SentBack m (data_call piece) []
  pub of_seal_text : (piece out : List ℕ) → SentBack m (seal_text piece out) out
  pub of_check_text : (piece : List ℕ) → SentBack m (check_text piece) []
  pub of_seal_close : (out : List ℕ) → SentBack m (seal_close out) out
  pub of_check_close : (tag : List ℕ) → SentBack m (check_close tag) []
