-- Demands 3 and 2 on a list of calls from a fresh session, whoever made the calls: `es` are the calls with their answers and outputs, and m is the
-- machine that the session stands for at the end. Refused calls and empty pieces may be among them.
use Rattle.std.specs.Prelude.{◌≡◌, List, [], ◌∷◌, ◌++◌, ◌↔◌, ℕ, ◌+◌, ◌^◌, ◌≤◌, ◌<◌, length}
use Rattle.acorn_model.specs.declared.Kind.{Kind}
use Rattle.acorn_model.specs.declared.Kind.TheVariants.{Sealing, Checking}
use Rattle.acorn_model.specs.Bits.{Bits, bits_in, bytes}
use Rattle.calls.specs.Calls.{Work, refused, done}
use Rattle.calls.specs.Lists.{Entry, calls_of, entries, handed_on}
use Rattle.acorn_model.specs.Machine.{Machine, Call, least_tag_length, fresh, byte_limit, call}
use Rattle.acorn_model.specs.Stretches.{full_tag_length}
use Rattle.acorn_model.specs.Lists.{Arguments, Log, log_of, Ended, Alike}
use Rattle.acorn_model.specs.Laws.{ByPaper}
use Rattle.call_lists.specs.MachineLists.{fixed_length, phase_steps, byte_steps, ended_steps}

-- the session answers, writes and counts steps as the one-step machine does: over the whole list the answers and the outputs are the machine's, and at
-- its end phase, counts, the tag's length and (before closed) the 293 bits are
abbrev pub AsMachine : Kind → List (Entry Call Work) → Machine → Type 0
AsMachine kind es m = (es ≡ entries call (fresh kind) (calls_of es)) × (m ≡ handed_on call (fresh kind) (calls_of es))

-- by the paper, under the key and nonce of the begin a and with the data taken, the bits p, as many as the text taken has, are encrypted to c, with
-- the tag T of the length that a has fixed
abbrev pub PaperOf : Log → Arguments → Bits → Bits → Bits → Type 0
PaperOf log a p c T = ByPaper a.tag_length a.key a.nonce log.«data» (length log.text) p c T

pub record SessionFacts (kind : Kind) (es : List (Entry Call Work)) (m : Machine) : Type 0 where
  pub as_machine : AsMachine kind es m
  -- it holds the tag's length that the accepted begin has fixed, sixteen where there is none; it is from 8 to 16, and stays after a close
  pub fixed : (m.tag_length ≡ fixed_length (log_of es).begins) × (least_tag_length ≤ m.tag_length) × (m.tag_length ≤ full_tag_length)
  -- it has counted the bytes of data and of text taken, each at most 65,536
  pub taken : (m.counts.data_bytes ≡ length (log_of es).«data») × (length (log_of es).«data» ≤ byte_limit)
      × (m.counts.text_bytes ≡ length (log_of es).text) × (length (log_of es).text ≤ byte_limit)
  -- the count of steps in each phase: 0 in fresh, 1,792 in data, 2,048 in text and 3,072 in closed, and 8 a byte of data and text taken
  pub steps : m.counts.steps ≡ phase_steps m.phase + byte_steps (log_of es)
  -- and so it stays far below what 64 bits hold
  pub small : m.counts.steps < 2 ^ 64
  -- the count of an ended session: 3,072, and 8 a byte of data and text taken
  pub counted : Ended m → m.counts.steps ≡ ended_steps (log_of es)
  -- demand 2: an ended session has one accepted begin
  pub began : Ended m → (a : Arguments) × ((log_of es).begins ≡ (a ∷ []))
  -- demand 2, of sealing: an ended sealing session wrote, over the list, the ciphertext and then the tag that the paper gives for the text taken, of the
  -- length fixed
  pub sealed : kind ≡ Sealing → Ended m → (a : Arguments) → (log_of es).begins ≡ (a ∷ []) → (c T : Bits) → PaperOf (log_of es) a (bits_in (log_of es).text) c T
      → (log_of es).written ≡ bytes (length (log_of es).text) c ++ bytes a.tag_length T
  -- demand 2, "exactly when the tag is that one": an ended checking session wrote nothing, was given one tag, and said good exactly when that is the
  -- paper's tag, of the length fixed, of the text p that the ciphertext taken decrypts to, and else 7
  pub judged : kind ≡ Checking → Ended m → (a : Arguments) → (log_of es).begins ≡ (a ∷ []) → (p T : Bits) → PaperOf (log_of es) a p (bits_in (log_of es).text) T
      → ((log_of es).written ≡ []) × ((t : List ℕ) × ((log_of es).tags ≡ (t ∷ []))
      × (((log_of es).verdicts ≡ (done (record { bytes = 0; steps = ended_steps (log_of es) }) ∷ [])) ↔ (t ≡ bytes a.tag_length T))
      × (((log_of es).verdicts ≡ (refused 7 ∷ [])) ↔ (t ≡ bytes a.tag_length T → ⊥)))

-- cuts do not matter: of two ended sessions that are alike, the bytes, the steps and the verdict are the same
abbrev pub CutsAgree : Kind → List (Entry Call Work) → Machine → List (Entry Call Work) → Machine → Type 0
CutsAgree kind es m es' m' = Ended m → Ended m' → Alike kind (log_of es) (log_of es')
    → ((log_of es).written ≡ (log_of es').written) × (m.counts.steps ≡ m'.counts.steps) × ((log_of es).verdicts ≡ (log_of es').verdicts)
