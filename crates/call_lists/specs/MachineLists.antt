-- What is shown of every list of calls from a fresh one-step machine: the tag's length, the count of steps, what an ended one wrote and judged, and that cuts do
-- not matter. Calls may be refused, and pieces empty.
use Rattle.std.specs.Prelude.{◌≡◌, List, [], ◌∷◌, ◌↔◌, ℕ, ◌+◌, ◌*◌, ◌≤◌, length}
use Rattle.acorn_model.specs.declared.Kind.{Kind}
use Rattle.acorn_model.specs.declared.Kind.TheVariants.{Sealing, Checking}
use Rattle.acorn_model.specs.declared.Phase.{Phase}
use Rattle.acorn_model.specs.declared.Phase.TheVariants.{Fresh, Data, Text, Closed}
use Rattle.acorn_model.specs.Stretches.{full_tag_length}
use Rattle.acorn_model.specs.Paper.{new_tag_of_length}
use Rattle.calls.specs.Calls.{refused, done}
use Rattle.calls.specs.Lists.{entries, handed_on}
use Rattle.acorn_model.specs.Machine.{Machine, fresh, Call, least_tag_length, byte_limit, call}
use Rattle.acorn_model.specs.Lists.{Arguments, Log, log_of, Ended, Alike}
use Rattle.acorn_model.specs.Message.{sealed_with}

module _ (kind : Kind) (calls : List Call) where
  -- the machine after the list, and what the list amounts to
  abbrev pub machine_after : Machine
  machine_after = handed_on call (fresh kind) calls

  abbrev pub log_from : Log
  log_from = log_of (entries call (fresh kind) calls)

-- the steps of the stretches that a session in this phase has run, data and text apart
abbrev pub phase_steps : Phase → ℕ
phase_steps Fresh = 0
phase_steps Data = 1792
phase_steps Text = 2048
phase_steps Closed = 3072

-- the steps of the data and text taken: 8 for each byte
abbrev pub byte_steps : Log → ℕ
byte_steps log = 8 * (length log.«data» + length log.text)

-- the steps of an ended session
abbrev pub ended_steps : Log → ℕ
ended_steps log = phase_steps Closed + byte_steps log

-- the tag's length that the accepted begins of a list have fixed: that of a full tag where there is none
abbrev pub fixed_length : List Arguments → ℕ
fixed_length [] = full_tag_length
fixed_length (a ∷ others) = a.tag_length

pub record MachineLists : Type 0 where
  -- it holds the tag's length that was fixed, which is from 8 to 16, also after a close
  pub fixed : (kind : Kind) (calls : List Call)
      → ((machine_after kind calls).tag_length ≡ fixed_length (log_from kind calls).begins)
      × (least_tag_length ≤ (machine_after kind calls).tag_length) × ((machine_after kind calls).tag_length ≤ full_tag_length)
  -- it has counted the bytes of data and of text taken, each at most 65,536
  pub taken : (kind : Kind) (calls : List Call)
      → ((machine_after kind calls).counts.data_bytes ≡ length (log_from kind calls).«data») × (length (log_from kind calls).«data» ≤ byte_limit)
      × ((machine_after kind calls).counts.text_bytes ≡ length (log_from kind calls).text) × (length (log_from kind calls).text ≤ byte_limit)
  -- in every phase the count is that of the stretches run and of the bytes taken
  pub steps : (kind : Kind) (calls : List Call)
      → (machine_after kind calls).counts.steps ≡ phase_steps (machine_after kind calls).phase + byte_steps (log_from kind calls)
  -- closed, with whatever verdict: 3,072 steps, and 8 for each byte taken
  pub counted : (kind : Kind) (calls : List Call) → Ended (machine_after kind calls)
      → (machine_after kind calls).counts.steps ≡ ended_steps (log_from kind calls)
  -- an ended session began once
  pub began : (kind : Kind) (calls : List Call) → Ended (machine_after kind calls)
      → (a : Arguments) × ((log_from kind calls).begins ≡ (a ∷ []))
  -- an ended sealing session wrote the paper's ciphertext and tag, of the length fixed, of the data and text taken
  pub wrote : (calls : List Call) (a : Arguments) → Ended (machine_after Sealing calls) → (log_from Sealing calls).begins ≡ (a ∷ [])
      → (log_from Sealing calls).written ≡ sealed_with a.tag_length a.key a.nonce (log_from Sealing calls).«data» (log_from Sealing calls).text
  -- an ended checking session wrote nothing, was given one tag, and said good where it is the paper's of the length fixed, else 7
  pub judged : (calls : List Call) (a : Arguments) → Ended (machine_after Checking calls) → (log_from Checking calls).begins ≡ (a ∷ [])
      → ((log_from Checking calls).written ≡ []) × ((t : List ℕ) × ((log_from Checking calls).tags ≡ (t ∷ []))
      × (((log_from Checking calls).verdicts ≡ (done (record { bytes = 0; steps = ended_steps (log_from Checking calls) }) ∷ []))
      ↔ (t ≡ new_tag_of_length a.tag_length a.key a.nonce (log_from Checking calls).«data» (log_from Checking calls).text))
      × (((log_from Checking calls).verdicts ≡ (refused 7 ∷ []))
      ↔ (t ≡ new_tag_of_length a.tag_length a.key a.nonce (log_from Checking calls).«data» (log_from Checking calls).text → ⊥)))
  -- ended sessions that are alike agree in the bytes written, in the steps and, where they check, in the verdict
  pub cuts : (kind : Kind) (calls calls' : List Call) → Ended (machine_after kind calls) → Ended (machine_after kind calls')
      → Alike kind (log_from kind calls) (log_from kind calls')
      → ((log_from kind calls).written ≡ (log_from kind calls').written)
      × ((machine_after kind calls).counts.steps ≡ (machine_after kind calls').counts.steps)
      × ((log_from kind calls).verdicts ≡ (log_from kind calls').verdicts)
