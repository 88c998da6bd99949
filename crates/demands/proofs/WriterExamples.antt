-- The writers' lists of specs/Examples.antt: what comes of them is computed as far as phases, counts, sizes and answers go.
use mathlib.Core.Path.{◌≡◌, refl, sym, ap, ◌∙◌, subst₂}
use mathlib.Core.List.{List, [], ◌∷◌}
use Prim.Native.Nat.{ℕ, ◌≤◌}
use lib.ListN.{length, replicate}
use borrow.Author.Tests.{le-ltb, eq-eqb}
use Rattle.calls.specs.Calls.{Reply, refused, done, Work, unless_refused, refused_with}
use Rattle.calls.specs.Lists.{Entry, entries, handed_on, AllAccepted}
use Rattle.acorn_model.specs.Machine.{key_length, answered, wrote, work as machineWork}
use Rattle.tape_model.specs.declared.WriterPhase.TheVariants.{Closed}
use Rattle.tape_model.specs.Ticket.{ticket_length, ordered, values_rule, ticket_rule, head_length, head_rule}
use Rattle.tape_model.specs.Writer.{PlainWriter, fresh_writer, WriterCall, start, phase_allows, key_right, head_right, ticket_right, tape_full, output_short, refusal, writer_call}
use Rattle.tape_model.proofs.Refusals.{WriterPassed}
use Rattle.call_lists.proofs.WriterReached.{fresh_writer_reached}
use Rattle.call_lists.proofs.WriterAccepts.{machine_passed, comes_to, accepted-work}
use Rattle.call_lists.proofs.WriterRuns.{HasRun, fresh_has_run, runs_on, comes}
use Rattle.tape_model.specs.RefusalCases.{good_head}
use Rattle.tape_model.specs.Tape.{tape_tag_length}
use Rattle.demands.specs.Examples.{Answers, SomeWriter, writer_calls, refused_writer_calls, WriterExamples}
use Rattle.demands.proofs.Writers.{writer_demand}
use Rattle.demands.proofs.Exist.{writers_exist}
use Rattle.demands.proofs.AllPass.{AllPass, all_same}

-- ## The list

module _ (cs : List WriterCall) (P : List (Entry WriterCall Work) → PlainWriter → Type 0) where
  on_writer : P (entries writer_call fresh_writer cs) (handed_on writer_call fresh_writer cs) → SomeWriter cs P
  on_writer h =
      let x = writers_exist cs in
      let e = (writer_demand x.0 x.1 x.2).as_plain in (
        x.0,
        x.1,
        x.2,
        x.3,
        subst₂ P (sym (e.0 ∙ ap (entries writer_call fresh_writer) x.3)) (sym (e.1 ∙ ap (handed_on writer_call fresh_writer) x.3)) h,
      )

  on_passing : AllPass writer_call comes_to HasRun WriterPassed comes runs_on fresh_writer cs → P (entries comes_to fresh_writer cs) (handed_on comes_to fresh_writer cs) → SomeWriter cs P
  on_passing p h =
      let e = all_same writer_call comes_to HasRun WriterPassed comes runs_on fresh_writer cs fresh_has_run p in
      on_writer (subst₂ P (sym e.0) (sym e.1) h)

tape : (key out ticket_out tag_out : List ℕ) → length key ≡ key_length → head_length ≤ length out → ticket_length ≤ length ticket_out → tape_tag_length ≤ length tag_out
    → SomeWriter (writer_calls key out ticket_out tag_out) (λ es w. AllAccepted es × (w.phase ≡ Closed))
unfolding entries handed_on fresh_writer phase_allows key_right head_right ticket_right tape_full output_short head_rule ticket_rule values_rule ordered machineWork wrote answered
tape key out ticket_out tag_out k h t g =
    on_passing (writer_calls key out ticket_out tag_out) (λ es w. AllAccepted es × (w.phase ≡ Closed)) (
      record { phase = refl; key = eq-eqb (length key) key_length k; head = refl; ticket = refl; full = refl; output = le-ltb (length out) head_length h },
      (
        record { phase = refl; key = refl; head = refl; ticket = refl; full = refl; output = le-ltb (length ticket_out) ticket_length t },
        (
          record { phase = refl; key = refl; head = refl; ticket = refl; full = refl; output = le-ltb (length ticket_out) ticket_length t },
          (
            record { phase = refl; key = refl; head = refl; ticket = refl; full = refl; output = le-ltb (length ticket_out) ticket_length t },
            (
              record { phase = refl; key = refl; head = refl; ticket = refl; full = refl; output = le-ltb (length tag_out) tape_tag_length g },
              tt,
            ),
          ),
        ),
      ),
    )
    (((_, refl), ((_, refl), ((_, refl), ((_, refl), ((_, refl), tt))))), refl)

-- ## Refusals

abbrev their_answers : List (Reply Work)
their_answers = refused 1 ∷ refused 2 ∷ refused 3 ∷ refused 6 ∷ done (record { bytes = 9; steps = 1864 }) ∷ refused 4 ∷ []

abbrev good_start : WriterCall
good_start = start (replicate 16 0) good_head (replicate 9 0)

start_passes : WriterPassed fresh_writer good_start
unfolding fresh_writer phase_allows key_right head_right ticket_right tape_full output_short head_rule
start_passes = record { phase = refl; key = refl; head = refl; ticket = refl; full = refl; output = refl }

refusals : SomeWriter refused_writer_calls (Answers their_answers)
unfolding entries fresh_writer writer_call refusal unless_refused refused_with phase_allows key_right head_right ticket_right tape_full output_short head_rule ticket_rule values_rule ordered
refusals =
    on_writer refused_writer_calls (Answers their_answers)
    (rw (accepted-work fresh_writer good_start (machine_passed fresh_writer _ good_start fresh_writer_reached start_passes)) (refl {a = their_answers}))

pub writer_examples : WriterExamples
writer_examples = record { tape = tape; refusals = refusals }
