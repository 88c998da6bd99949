-- The plain writer that a list of calls has led to, by what the list amounts to.
use mathlib.Core.Path.{◌≡◌, refl, sym, ap, ◌∙◌, subst}
use mathlib.Core.Bool.{true, ◌||◌}
use mathlib.Core.List.{List, [], ◌∷◌, ◌++◌, append-nil, append_assoc}
use Prim.Native.Nat.{ℕ, ◌*◌, ◌^◌, ◌≤◌, ◌<◌}
use native.Mathlib.Omega.{arith}
use lib.ListN.{length}
use Rattle.acorn_model.specs.declared.Kind.TheVariants.{Sealing}
use Rattle.acorn_model.specs.declared.Phase.{Phase}
use Rattle.acorn_model.specs.declared.Phase.TheVariants.{Closed as MachineClosed}
use Rattle.calls.specs.Calls.{Work}
use Rattle.calls.specs.Lists.{Entry, if_accepted, written_by}
use Rattle.acorn_model.specs.Machine.{is_data, is_text}
use Rattle.acorn_model.specs.Lists.{Log, nothing}
use Rattle.tape_model.specs.declared.WriterPhase.{WriterPhase}
use Rattle.tape_model.specs.declared.WriterPhase.TheVariants.{Fresh, Open, Closed}
use Rattle.tape_model.specs.Ticket.{ticket_length, head_length, pack_head}
use Rattle.tape_model.specs.Tape.{ticket_limit, tape_tag_length, nonce_of, pack_tickets}
use Rattle.tape_model.specs.Writer.{PlainWriter, fresh_writer, WriterCall}
use Rattle.tape_model.specs.WriterLists.{Started, start_of, tickets_of, machine_calls_of, WriterLog, writer_log, heads_of}
use Rattle.call_lists.specs.MachineLists.{fixed_length}
use Rattle.call_lists.proofs.Reached.{Reached, reached_small}
use Rattle.call_lists.proofs.Ran.{Ran, ran_fresh, ran_reached, ran_kind}
use Rattle.tape_model.proofs.Tickets.{head-length}
use Rattle.tape_model.proofs.Tapes.{tickets-length}

-- ## What a list of the writer's calls amounts to

-- what one entry amounts to, one log after another, and no call
abbrev pub writer_logged : Entry WriterCall Work → WriterLog
writer_logged e =
    record {
      starts = if_accepted e.answer (start_of e.call);
      tickets = if_accepted e.answer (tickets_of e.call);
      machine_calls = if_accepted e.answer (machine_calls_of e.call);
      written = written_by e.answer e.out;
    }

abbrev pub writer_followed : WriterLog → WriterLog → WriterLog
writer_followed a b =
    record {
      starts = a.starts ++ b.starts;
      tickets = a.tickets ++ b.tickets;
      machine_calls = a.machine_calls ++ b.machine_calls;
      written = a.written ++ b.written;
    }

abbrev pub writer_nothing : WriterLog
writer_nothing = record { starts = []; tickets = []; machine_calls = []; written = [] }

pub writer_log_last : (es : List (Entry WriterCall Work)) (e : Entry WriterCall Work) → writer_log (es ++ (e ∷ [])) ≡ writer_followed (writer_log es) (writer_logged e)
unfolding writer_log
writer_log_last [] e = simp append-nil
writer_log_last (d ∷ es) e = rw (writer_log_last es e) (simp append_assoc)

-- ## The invariant

-- a started writer, whose machine's calls amount to the log `below`
pub record Begun (log : WriterLog) (below : Log) : Type 0 where
  pub started : Started
  pub starts : log.starts ≡ (started ∷ [])
  pub begins : below.begins ≡ (record { key = started.key; nonce = nonce_of (pack_head started.head); tag_length = tape_tag_length } ∷ [])
  pub «data» : below.«data» ≡ pack_head started.head
  pub text : below.text ≡ pack_tickets log.tickets

-- the writer's phase, and its machine's
abbrev pub WriterMeans : WriterPhase → Phase → WriterLog → Log → Type 0
WriterMeans Fresh phase log below = log ≡ writer_nothing
WriterMeans Open phase log below = ((is_data phase || is_text phase) ≡ true) × Begun log below
WriterMeans Closed phase log below = (phase ≡ MachineClosed) × Begun log below

pub record WriterReached (w : PlainWriter) (log : WriterLog) : Type 0 where
  pub below : Log
  pub ran : Ran w.machine log.machine_calls below
  pub written : log.written ≡ heads_of log.starts ++ below.written
  pub tickets : w.tickets ≡ length log.tickets
  pub fits : w.tickets ≤ ticket_limit
  pub means : WriterMeans w.phase w.machine.phase log below

pub writer_in_phase : (w : PlainWriter) (log : WriterLog) (p : WriterPhase) → w.phase ≡ p → (r : WriterReached w log) → WriterMeans p w.machine.phase log r.below
writer_in_phase w log p e r = subst (λ (x : WriterPhase). WriterMeans x w.machine.phase log r.below) e r.means

pub fresh_writer_reached : WriterReached fresh_writer writer_nothing
unfolding fresh_writer nothing heads_of
fresh_writer_reached = record { below = nothing; ran = ran_fresh; written = refl; tickets = refl; fits = omega arith; means = refl }

module _ (w : PlainWriter) (log : WriterLog) (r : WriterReached w log) where
  pub machine_reached : Reached w.machine r.below
  machine_reached = ran_reached w.machine log.machine_calls r.below r.ran

  pub machine_seals : w.machine.kind ≡ Sealing
  machine_seals = ran_kind w.machine log.machine_calls r.below r.ran

  pub writer_small : w.machine.counts.steps < 2 ^ 64
  writer_small = reached_small w.machine r.below machine_reached

  -- a started writer's machine has a full tag, and has taken the head's bytes as data, and each ticket's as text
  module _ (b : Begun log r.below) where
    pub tag-full : w.machine.tag_length ≡ tape_tag_length
    tag-full = machine_reached.tag_length ∙ ap fixed_length b.begins

    pub head-taken : w.machine.counts.data_bytes ≡ head_length
    head-taken = machine_reached.data_bytes ∙ ap length b.«data» ∙ head-length b.started.head

    pub tickets-taken : w.machine.counts.text_bytes ≡ ticket_length * w.tickets
    tickets-taken = machine_reached.text_bytes ∙ ap length b.text ∙ tickets-length log.tickets ∙ ap (λ (n : ℕ). ticket_length * n) (sym r.tickets)
