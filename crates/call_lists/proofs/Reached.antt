-- The one-step machine that a list of calls has led to, by what the list amounts to.
use mathlib.Core.Path.{◌≡◌, refl, subst}
use mathlib.Core.List.{List, [], ◌∷◌}
use Prim.Native.Nat.{ℕ, ◌+◌, ◌^◌, ◌≤◌, ◌<◌}
use native.Mathlib.Omega.{arith}
use lib.ListN.{length}
use Rattle.acorn_model.specs.declared.Kind.{Kind}
use Rattle.acorn_model.specs.declared.Kind.TheVariants.{Sealing, Checking}
use Rattle.acorn_model.specs.declared.Phase.{Phase}
use Rattle.acorn_model.specs.declared.Phase.TheVariants.{Fresh, Data, Text, Closed}
use Rattle.acorn_model.specs.Bits.{Bits}
use Rattle.acorn_model.specs.Stretches.{full_tag_length, through, start, data_piece, zeros}
use Rattle.calls.specs.Calls.{Reply, Work, same_bytes}
use Rattle.acorn_model.specs.Machine.{Machine, fresh, least_tag_length, byte_limit}
use Rattle.acorn_model.specs.Lists.{Arguments, Log, nothing}
use Rattle.call_lists.specs.MachineLists.{fixed_length, phase_steps, byte_steps, ended_steps}
use Rattle.call_lists.proofs.Logs.{good_or7}
use Rattle.call_lists.proofs.ByKind.{text_state, text_written, right_tag, all_written}

-- ## By phase

-- in data: begun once, and nothing but data taken since
pub record InData (S : Bits) (log : Log) : Type 0 where
  pub arguments : Arguments
  pub begins : log.begins ≡ (arguments ∷ [])
  pub state : S ≡ through (data_piece log.«data») (through (start arguments.key arguments.nonce) zeros)
  pub text : log.text ≡ []
  pub written : log.written ≡ []
  pub tags : log.tags ≡ []
  pub verdicts : log.verdicts ≡ []

pub record InText (kind : Kind) (S : Bits) (log : Log) : Type 0 where
  pub arguments : Arguments
  pub begins : log.begins ≡ (arguments ∷ [])
  pub state : S ≡ text_state kind arguments log.«data» log.text
  pub written : log.written ≡ text_written kind arguments log.«data» log.text
  pub tags : log.tags ≡ []
  pub verdicts : log.verdicts ≡ []

-- the tags given, and the verdicts, where the right tag is T and so many steps were run
abbrev pub Judged : Kind → List ℕ → ℕ → List (List ℕ) → List (Reply Work) → Type 0
Judged Sealing T steps tags verdicts = (tags ≡ []) × (verdicts ≡ [])
Judged Checking T steps tags verdicts = (t : List ℕ) × (tags ≡ (t ∷ [])) × (verdicts ≡ (good_or7 (same_bytes t T) steps ∷ []))

pub record InClosed (kind : Kind) (log : Log) : Type 0 where
  pub arguments : Arguments
  pub begins : log.begins ≡ (arguments ∷ [])
  pub written : log.written ≡ all_written kind arguments log.«data» log.text
  pub judged : Judged kind (right_tag kind arguments log.«data» log.text) (ended_steps log) log.tags log.verdicts

abbrev pub Means : Phase → Kind → Bits → Log → Type 0
Means Fresh kind S log = log ≡ nothing
Means Data kind S log = InData S log
Means Text kind S log = InText kind S log
Means Closed kind S log = InClosed kind log

-- ## In every phase

pub record Reached (m : Machine) (log : Log) : Type 0 where
  pub tag_length : m.tag_length ≡ fixed_length log.begins
  pub tag_least : least_tag_length ≤ m.tag_length
  pub tag_most : m.tag_length ≤ full_tag_length
  pub data_bytes : m.counts.data_bytes ≡ length log.«data»
  pub text_bytes : m.counts.text_bytes ≡ length log.text
  pub data_fits : length log.«data» ≤ byte_limit
  pub text_fits : length log.text ≤ byte_limit
  pub steps : m.counts.steps ≡ phase_steps m.phase + byte_steps log
  pub means : Means m.phase m.kind m.state log

-- what that is in a phase that is known
pub in_phase : (m : Machine) (log : Log) (p : Phase) → m.phase ≡ p → Reached m log → Means p m.kind m.state log
in_phase m log p e r = subst (λ (x : Phase). Means x m.kind m.state log) e r.means

pub fresh_reached : (kind : Kind) → Reached (fresh kind) nothing
unfolding fresh nothing
fresh_reached kind = record { tag_length = refl; tag_least = omega arith; tag_most = omega arith; data_bytes = refl; text_bytes = refl; data_fits = omega arith; text_fits = omega arith; steps = refl; means = refl }

base_most : (p : Phase) → phase_steps p ≤ 3072
base_most Fresh = omega arith
base_most Data = omega arith
base_most Text = omega arith
base_most Closed = omega arith

-- the steps stay far below what a u64 holds
pub reached_small : (m : Machine) (log : Log) → Reached m log → m.counts.steps < 2 ^ 64
reached_small m log r = omega (arith, base_most m.phase)
