-- Demand 2 on the interface for C: whole messages from the demands on the library's own calls, and tapes from the writer's lists by way of opening to
-- readings.
use mathlib.Core.Path.{◌≡◌, refl, sym, ap, ◌∙◌, subst}
use mathlib.Core.Bool.{true}
use mathlib.Core.List.{List, [], ◌∷◌}
use Prim.Native.Nat.{ℕ, ◌+◌, ◌*◌, ◌≤◌}
use lib.ListN.{length, take}
use lib.Seq.{take_at}
use borrow.Author.Tests.{le-ltb}
use Rattle.calls.specs.Calls.{Reply, refused, done, written_over, result_of, as_reply}
use Rattle.calls.specs.Lists.{entries, AllAccepted}
use Rattle.calls.proofs.Results.{result-written}
use Rattle.acorn_model.specs.Machine.{key_length}
use Rattle.acorn_model.specs.Message.{open_refusal}
use Rattle.tape_model.specs.declared.Ticket.{Ticket}
use Rattle.tape_model.specs.declared.Head.{Head}
use Rattle.tape_model.specs.Ticket.{no_ticket, ticket_length, pack_ticket, pack_ticket_into, unpack_ticket, head_length, head_rule, pack_head, pack_head_into, unpack_head}
use Rattle.tape_model.specs.Tape.{ticket_limit, tape_of, plain_tickets, open_tape}
use Rattle.tape_model.specs.Writer.{WriterCall, fresh_writer, writer_call}
use Rattle.tape_model.specs.WriterLists.{writer_log}
use Rattle.tape_model.specs.Reader.{at_end}
use Rattle.tape_model.specs.Laws.{Valid}
use Rattle.tape_model.proofs.Tickets.{ticket-length, head-length, all_writable_valid, ticket_laws}
use Rattle.tape_model.proofs.Tapes.{tapes_come_back}
use Rattle.call_lists.specs.WriterLists.{StartsRight}
use Rattle.call_lists.proofs.WriterEvery.{every_tape-written}
use Rattle.reader.proofs.Reading.{Ahead, tickets-ahead, opened-tickets}
use Rattle.c_answers.specs.declared.HtWritten.{HtWritten}
use Rattle.c_answers.specs.declared.HtReading.{HtReading}
use Rattle.c_answers.specs.Answers.{written_numbers, opened_numbers, ticket_numbers, head_numbers, reading_numbers}
use Rattle.haul_tape.specs.Clauses.{ResultSeen, read_numbers}
use Rattle.demands.specs.Refusals.{AnsweredBy}
use Rattle.demands.specs.Exports.{MessageExports, PackingExports, ReadCalls, no_reading, a_reading, read_in_turn, ExportsComeBack, TapeExports, ExportDemand}
use Rattle.demands.proofs.Refusals.{refusal_demand}
use Rattle.demands.proofs.Messages.{message_demand}
use Rattle.demands.proofs.MessageExamples.{message_examples}
use Rattle.demands.proofs.ExportLists.{as_plain, list_exports}
use Rattle.demands.proofs.ExportNumbers.{told_is, number_exports}

-- ## Whole messages

-- an answer that goes by a number, told as done with x, is that
told-done : (n : ℕ) (a : Reply ℕ) (x : ℕ) → AnsweredBy n a → written_numbers a ≡ record { refused = 0; bytes = x } → a ≡ done x
unfolding written_numbers
told-done n (refused k) x h e =
    let z : n ≡ 0 = sym (told_is n (refused k) h) ∙ ap (λ (r : HtWritten). r.refused) e in
    let d = h.accepts.1 z in cc
told-done n (done y) x h e = ap done (ap (λ (r : HtWritten). r.bytes) e)

module _ (tag_length : ℕ) (key nonce «data» : List ℕ) where
  message_exports : MessageExports tag_length key nonce «data»
  unfolding written_numbers
  message_exports =
      record {
        sealing = λ text out after r seen w room c T p.
            let x = (message_examples tag_length key nonce «data»).seals text out in
            let d = (message_demand tag_length w.tag-most key nonce «data»).sealing text out x.1 x.0 x.2 w room c T p in
            (seen.0 ∙ (λ i. written_numbers (x.2 i).answer) ∙ ap written_numbers d.0, seen.1 ∙ (λ i. (x.2 i).out) ∙ d.1);
        opening = λ s text out after r hs ht w room seen c T p.
            let x = (message_examples tag_length key nonce «data»).opens s out in
            let d = (message_demand tag_length w.tag-most key nonce «data»).opening s text out x.1 x.0 hs ht w room x.2 c T p in
            let number = (refusal_demand.opening tag_length key nonce «data» s out x.1 x.0 x.2).number in
            let told : r ≡ written_numbers (as_reply x.0) = seen.0 ∙ (λ i. written_numbers (x.2 i).answer) in
            let left : after ≡ x.1 = seen.1 ∙ (λ i. (x.2 i).out) in (
              λ a. d.0 (told-done (open_refusal tag_length key nonce «data» s out) (as_reply x.0) (length text) number (sym told ∙ a.0), sym left ∙ a.1),
              λ b. let e = d.1 b in (told ∙ ap written_numbers e.0, left ∙ e.1),
            );
        seven = λ s out after r seen least most k n d t l room m.
            let x = (message_examples tag_length key nonce «data»).opens s out in
            let e = (message_demand tag_length most key nonce «data»).seven s out x.1 x.0 x.2 least most k n d t l room m in
            (seen.0 ∙ (λ i. written_numbers (x.2 i).answer) ∙ ap written_numbers e.0, seen.1 ∙ (λ i. (x.2 i).out) ∙ e.1);
      }

-- ## Tickets and heads

-- what is packed comes back: a string of n bytes that unpacks to `a`, written where no number applies
packed-back : {A N : Type 0} (numbers : Reply A → N) (unpacked : List ℕ → Reply A) (number n : ℕ) (a : A) (string out after : List ℕ) (w : HtWritten) (r : N)
    → number ≡ 0 → length string ≡ n → unpacked string ≡ done a → ResultSeen written_numbers (result_of number n string out) w after
    → r ≡ numbers (unpacked (take n after))
    → (w ≡ record { refused = 0; bytes = n }) × (after ≡ written_over string out) × (r ≡ numbers (done a))
unfolding written_numbers written_over
packed-back numbers unpacked number n a string out after w r none size back seen read =
    let o = result-written number n string out none in
    let left = seen.1 ∙ (λ i. (o i).out) in
    (seen.0 ∙ (λ i. written_numbers (o i).answer), left, read ∙ ap (λ l. numbers (unpacked l)) (ap (take n) left ∙ take_at string _ n size) ∙ ap numbers back)

packing_exports : PackingExports
unfolding pack_ticket_into pack_head_into ticket_numbers head_numbers
packing_exports =
    record {
      tickets = λ t out after w r rule room. packed-back ticket_numbers unpack_ticket _ ticket_length t (pack_ticket t) out after w r
          (rw (rule, le-ltb (length out) ticket_length room) refl) (ticket-length t) (ticket_laws.tickets.unpack-pack t rule);
      heads = λ h out after w r rule room. packed-back head_numbers unpack_head _ head_length h (pack_head h) out after w r
          (rw (rule, le-ltb (length out) head_length room) refl) (head-length h) (ticket_laws.heads.unpack-pack h rule);
    }

-- ## Tapes

-- readings of bytes before which these tickets lie
read-in-turn : (s : List ℕ) (p : ℕ) (ts : List Ticket) (rs : List HtReading) → Ahead s (done at_end) p ts → ReadCalls s p rs → rs ≡ read_in_turn ts p (length rs)
unfolding reading_numbers
read-in-turn s p ts _ a no_reading = refl
read-in-turn s p [] _ a (a_reading {readings = rs} r seen rest) =
    let e : r ≡ record { refused = 0; at_end = 1; position = p; ticket = no_ticket } = seen ∙ ap read_numbers a in
    let on : r.position ≡ p = ap (λ (h : HtReading). h.position) e in
    let later = read-in-turn s r.position [] rs (subst (λ (q : ℕ). Ahead s (done at_end) q []) (sym on) a) rest in
    λ i. e i ∷ (later ∙ ap (λ (q : ℕ). read_in_turn [] q (length rs)) on) i
read-in-turn s p (t ∷ ts) _ a (a_reading {readings = rs} r seen rest) =
    let e : r ≡ record { refused = 0; at_end = 0; position = p + 1; ticket = t } = seen ∙ ap read_numbers a.0 in
    let on : r.position ≡ p + 1 = ap (λ (h : HtReading). h.position) e in
    let later = read-in-turn s r.position ts rs (subst (λ (q : ℕ). Ahead s (done at_end) q ts) (sym on) a.1) rest in
    λ i. e i ∷ (later ∙ ap (λ (q : ℕ). read_in_turn ts q (length rs)) on) i

-- a tape of a key of 16 bytes, a head in its ranges and at most 5,000 valid tickets
come_back : (key : List ℕ) (head : Head) (ts : List Ticket) (written : List ℕ) → length key ≡ key_length → head_rule head ≡ true → Valid ts → length ts ≤ ticket_limit
    → written ≡ tape_of key head ts → ExportsComeBack key head ts written
unfolding opened_numbers
come_back key head ts written k h v n e =
    record {
      is-tape = e;
      opened = λ out after r fits seen.
          let p = ap (λ (t : List ℕ). open_tape key t out) e ∙ (tapes_come_back key head ts k h v n).opens out fits in
          (seen.0 ∙ (λ i. opened_numbers (p i).answer), seen.1 ∙ (λ i. (p i).out));
      read = λ out after r fits seen rs calls.
          let held = ap (λ (l : List ℕ). plain_tickets (take (ticket_length * length ts) l)) (seen.1 ∙ ap (λ (t : List ℕ). (open_tape key t out).out) e)
          ∙ opened-tickets key head ts k h v n out fits in
          read-in-turn _ 0 ts rs (tickets-ahead _ ts held) calls;
    }

tape_exports : TapeExports
tape_exports =
    record {
      closed = λ es e p c.
          let f = (list_exports.writers es e p).0 in
          let t = f.tape c in
          let right = subst StartsRight t.1 f.right.0 in
          (t.0, t.1, come_back t.0.key t.0.head _ _ right.0 right.1 (all_writable_valid (writer_log es).tickets f.right.1) f.tickets.1 t.2);
      tickets = λ key head ts k h w n outs room es e p cs.
          let every = every_tape-written key head ts outs k h w n room in
          let same = (as_plain es e p).0 ∙ ap (entries writer_call fresh_writer) cs in (
            subst (AllAccepted {C = WriterCall}) (sym same) every.accepted,
            come_back key head ts _ k h (all_writable_valid ts w) n (ap (λ x. (writer_log x).written) same ∙ every.written),
          );
    }

pub export_demand : ExportDemand
export_demand = record { lists = list_exports; numbers = number_exports; messages = message_exports; packing = packing_exports; tapes = tape_exports }
