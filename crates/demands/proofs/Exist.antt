-- Every list of calls can be made, on sessions and on writers: the contracts leave no call without a reply.
use mathlib.Core.Bool.{Bool, true, false}
use Rattle.calls.specs.Calls.{◌if◌else◌, Work, left_unchanged, Outcome, answer_reply, is_refused}
use Rattle.acorn_model.specs.declared.Kind.TheVariants.{Sealing}
use Rattle.acorn_model.specs.Machine.{Machine, fresh, call as machineCall}
use Rattle.tape_model.specs.Writer.{PlainWriter, fresh_writer, writer_call}
use Rattle.session.specs.declared.Reply.{Reply as SessionReply}
use Rattle.session.specs.Clauses.{machine_of, session_outcome, wrapped_machine, wrapped_outcome, Called}
use Rattle.session.specs.Words.{session_for}
use Rattle.session.proofs.WordsBack.{Clear, session_clear, session_stands}
use Rattle.tape_writer.specs.declared.WriterReply.{WriterReply}
use Rattle.tape_writer.specs.Clauses.{writer_of, wrapped_writer, wrapped_writer_outcome, WriterCalled}
use Rattle.tape_writer.specs.Clauses as tape
use Rattle.demands.specs.Examples.{SessionReplies, WriterReplies, SessionsExist, WritersExist}
use Rattle.calls.proofs.Made.{calls_made}
use Rattle.demands.proofs.InCode.{answer_for, wrapped_told, call_told, writer_call_told}
use Rattle.demands.proofs.Standing.{fresh_clear, call_clear, writer_call_clear, writer_for, writer_stands}

-- ## Sessions

wrapped_clear : (b : Bool) (m : Machine) → Clear m → Clear (m if b else wrapped_machine m)
unfolding wrapped_machine
wrapped_clear true m h = h
wrapped_clear false m h = record { bits = h.bits; tag_length = h.tag_length }

pub session_replies : SessionReplies
unfolding session_outcome wrapped_outcome
session_replies s c =
    let o : Outcome Machine Work = wrapped_outcome (machineCall (machine_of s) c) in
    let next = session_stands o.next (wrapped_clear (left_unchanged (machineCall (machine_of s) c).answer) _ (call_clear (machine_of s) c (session_clear s))) in
    let answer = answer_for o.answer (wrapped_told _ (call_told (machine_of s) c)) in
    (record { answer = answer.0; session = session_for o.next }, o.out, λ i. record { next = next i; answer = answer.1 i; out = o.out })

pub sessions_exist : SessionsExist
unfolding fresh
sessions_exist kind cs =
    let p = calls_made (λ (r : SessionReply). r.session) (λ (r : SessionReply). answer_reply r.answer) Called session_replies (session_for (fresh kind)) cs in
    (p.0, p.1, record { first = session_for (fresh kind); is_fresh = session_stands (fresh kind) (fresh_clear kind); calls = p.2 }, p.3)

-- ## Writers

wrapped_writer_clear : (b : Bool) (w : PlainWriter) → Clear w.machine → Clear (w if b else wrapped_writer w).machine
unfolding wrapped_writer wrapped_machine
wrapped_writer_clear true w h = h
wrapped_writer_clear false w h = record { bits = h.bits; tag_length = h.tag_length }

pub writer_replies : WriterReplies
unfolding tape.writer_outcome writer_of wrapped_writer_outcome
writer_replies w c =
    let o : Outcome PlainWriter Work = wrapped_writer_outcome (writer_call (writer_of w) c) in
    let next = writer_stands o.next (wrapped_writer_clear (is_refused (writer_call (writer_of w) c).answer) _ (writer_call_clear (writer_of w) c (session_clear w.session))) in
    let answer = answer_for o.answer (wrapped_told _ (writer_call_told (writer_of w) c)) in
    (record { answer = answer.0; writer = writer_for o.next }, o.out, λ i. record { next = next i; answer = answer.1 i; out = o.out })

pub writers_exist : WritersExist
unfolding fresh_writer fresh
writers_exist cs =
    let p = calls_made (λ (r : WriterReply). r.writer) (λ (r : WriterReply). answer_reply r.answer) WriterCalled writer_replies (writer_for fresh_writer) cs in
    (p.0, p.1, record { first = writer_for fresh_writer; is_fresh = writer_stands fresh_writer (fresh_clear Sealing); calls = p.2 }, p.3)
