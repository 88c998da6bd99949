-- Demand 3 on the tape writer, from the contracts of its methods and from what the plain writer is after a list.
use mathlib.Core.Path.{◌≡◌, sym, ap, ◌∙◌, subst, subst₂, refl}
use mathlib.Core.List.{List}
use Prim.Native.Nat.{ℕ, ◌<◌, ◌^◌}
use Rattle.calls.specs.Calls.{Work, Outcome, answer_reply, refused_with, ◌if◌else◌, is_refused}
use mathlib.Core.Bool.{Bool, true, false}
use Rattle.calls.specs.Lists.{Entry, calls_of, entries, handed_on}
use Rattle.acorn_model.specs.Machine.{Machine, Call, seal_text, seal_close, work as machineWork, call}
use Rattle.tape_model.specs.declared.WriterPhase.{WriterPhase}
use Rattle.tape_model.specs.declared.WriterPhase.TheVariants.{Open, Closed}
use Rattle.tape_model.specs.Ticket.{pack_ticket}
use Rattle.tape_model.specs.Writer.{PlainWriter, fresh_writer, WriterCall, start, add, finish, output_of, refusal, work, writer_call}
use Rattle.acorn_model.proofs.Refusals.{Passed, works}
use Rattle.calls.proofs.Refusals.{by_number}
use Rattle.tape_model.proofs.Refusals.{writer_passed}
use Rattle.call_lists.proofs.WriterReached.{writer_small}
use Rattle.call_lists.proofs.WriterAccepts.{MachinePassed, machine_passed, passed_to, comes_to, accepted-work, started_machine}
use Rattle.call_lists.proofs.WriterKept.{writer_reached}
use Rattle.call_lists.proofs.WriterRuns.{HasRun, fresh_has_run, runs_on}
use Rattle.call_lists.proofs.WriterLists.{writer_lists}
use Rattle.session.specs.Clauses.{wrapped, wrapped_machine, wrapped_reply, wrapped_outcome}
use Rattle.session.proofs.Wrapping.{within, call-within}
use Rattle.tape_writer.specs.declared.Writer.{Writer}
use Rattle.tape_writer.specs.declared.WriterReply.{WriterReply}
use Rattle.tape_writer.specs.Clauses.{writer_of, writer_outcome, wrapped_writer, wrapped_writer_outcome, WriterCalled}
use Rattle.demands.specs.Writers.{WriterFacts, WriterList, WriterDemand}
use Rattle.calls.proofs.Made.{as_model}

-- ## Counts that do not wrap around

abbrev Small : PlainWriter → Type 0
Small w = w.machine.counts.steps < 2 ^ 64

abbrev pub Within : Outcome PlainWriter Work → Type 0
Within o = wrapped_writer_outcome o ≡ o

within_by : (o : Outcome PlainWriter Work) → wrapped_machine o.next.machine ≡ o.next.machine → wrapped_reply o.answer ≡ o.answer → Within o
unfolding wrapped_writer_outcome wrapped_writer
within_by o m a = λ i. record { next = either (is_refused o.answer) i; answer = a i; out = o.out }
  where
    either : (b : Bool) → (o.next if b else record { machine = wrapped_machine o.next.machine; phase = o.next.phase; tickets = o.next.tickets }) ≡ o.next
    either true = refl
    either false = λ i. record { machine = m i; phase = o.next.phase; tickets = o.next.tickets }

passed-within : (m : Machine) (c : Call) (phase : WriterPhase) (n : ℕ) → Passed m c → (machineWork m c).next.counts.steps < 2 ^ 64 → Within (passed_to (machineWork m c) phase n)
unfolding wrapped_outcome
passed-within m c phase n p h =
    let same : call m c ≡ machineWork m c = works m c p in
    let e : wrapped_outcome (machineWork m c) ≡ machineWork m c =
    ap wrapped_outcome (sym same) ∙ call-within m c (subst (λ (o : Outcome Machine Work). o.next.counts.steps < 2 ^ 64) (sym same) h) ∙ same in
    within_by (passed_to (machineWork m c) phase n) (within (machineWork m c).next h) (λ i. (e i).answer)

comes_within : (w : PlainWriter) (c : WriterCall) → MachinePassed w c → Small (comes_to w c).next → Within (comes_to w c)
comes_within w (start key head out) p h = within_by (comes_to w (start key head out)) (within (started_machine key head) h) (unfold wrapped_reply wrapped in refl)
comes_within w (add ticket out) p h = passed-within w.machine (seal_text (pack_ticket ticket) out) Open _ p h
comes_within w (finish out) p h = passed-within w.machine (seal_close out) Closed _ p h

refused_within : (n : ℕ) (w : PlainWriter) (out : List ℕ) → Within (refused_with n w out)
unfolding wrapped_writer_outcome wrapped_reply refused_with
refused_within n w out = refl

-- ## One call

small : (w : PlainWriter) → HasRun w → Small w
small w h = writer_small w h.log h.reached

pub call-within_writer : (w : PlainWriter) (c : WriterCall) → HasRun w → Within (writer_call w c)
unfolding writer_call
call-within_writer w c h =
    by_number (λ (o : Outcome PlainWriter Work). Small o.next → Within o) (refusal w c) (work w c) (refused_with (refusal w c) w (output_of c))
    (λ e s.
    let q = machine_passed w h.log c h.reached (writer_passed w c e) in
    let same = accepted-work w c q in
    subst Within (sym same) (comes_within w c q (subst (λ (o : Outcome PlainWriter Work). Small o.next) same s)))
    (λ e s. refused_within (refusal w c) w (output_of c)) (small _ (runs_on w c h))

says : (w : Writer) (c : WriterCall) (r : WriterReply) (out : List ℕ) → HasRun (writer_of w) → WriterCalled w c r out
    → record { next = writer_of r.writer; answer = answer_reply r.answer; out = out } ≡ writer_call (writer_of w) c
unfolding writer_outcome
says w c r out h k = k ∙ call-within_writer (writer_of w) c h

-- ## Whole lists

module _ (es : List (Entry WriterCall Work)) (e : Writer) (l : WriterList es e) where
  pub as_plain : (es ≡ entries writer_call fresh_writer (calls_of es)) × (writer_of e ≡ handed_on writer_call fresh_writer (calls_of es))
  as_plain =
      subst (λ (w : PlainWriter). (es ≡ entries writer_call w (calls_of es)) × (writer_of e ≡ handed_on writer_call w (calls_of es))) l.is_fresh
      (as_model (λ (r : WriterReply). r.writer) (λ (r : WriterReply). answer_reply r.answer) WriterCalled writer_call writer_of HasRun says runs_on l.first e es
      (subst HasRun (sym l.is_fresh) fresh_has_run) l.calls)

  -- the writer that they led to is such a one
  pub has_run : HasRun (writer_of e)
  has_run = subst HasRun (sym as_plain.1) (record { log = _; reached = writer_reached (calls_of es) })

-- the list comes to what the plain writer does
abbrev AsPlain : List (Entry WriterCall Work) → PlainWriter → Type 0
AsPlain es w = (es ≡ entries writer_call fresh_writer (calls_of es)) × (w ≡ handed_on writer_call fresh_writer (calls_of es))

-- what is shown of the plain writer's lists holds of every such list
pub writer_facts : (es : List (Entry WriterCall Work)) (w : PlainWriter) → AsPlain es w → WriterFacts es w
writer_facts es w same =
    subst₂ (λ (fs : List (Entry WriterCall Work)) (v : PlainWriter). AsPlain fs v → WriterFacts fs v) (sym same.0) (sym same.1) (λ same. record {
      as_plain = same;
      tickets = (writer_lists.tickets (calls_of es), writer_lists.at_most (calls_of es));
      right = (writer_lists.starts_right (calls_of es), writer_lists.tickets_right (calls_of es));
      once = writer_lists.once (calls_of es);
      accepts = writer_lists.accepts (calls_of es);
      machine = writer_lists.machine (calls_of es);
      small = writer_small _ _ (writer_reached (calls_of es));
      written = writer_lists.written (calls_of es);
      none = writer_lists.none (calls_of es);
      tape = writer_lists.tape (calls_of es);
    }) same

pub writer_demand : WriterDemand
writer_demand es e l = writer_facts es (writer_of e) (as_plain es e l)
