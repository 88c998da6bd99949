-- What a writer accepts is as the rules say: its keys, heads and tickets.
use mathlib.Core.Path.{◌≡◌, refl}
use mathlib.Core.Bool.{true}
use mathlib.Core.List.{List, [], ◌∷◌, ◌++◌}
use Prim.Native.Nat.{ℕ}
use native.Mathlib.Omega.{arith}
use lib.ListN.{length}
use borrow.Author.Tests.{eqb-true}
use Rattle.calls.specs.Calls.{Reply, refused, done, Work, Outcome, refused_with}
use Rattle.calls.specs.Lists.{entries, if_accepted}
use Rattle.acorn_model.specs.Machine.{key_length}
use Rattle.tape_model.specs.declared.Ticket.{Ticket}
use Rattle.tape_model.specs.Writer.{PlainWriter, WriterCall, start, add, finish, output_of, key_right, head_right, ticket_right, refusal, work, writer_call}
use Rattle.tape_model.specs.WriterLists.{Started, start_of, tickets_of, writer_log}
use Rattle.tape_model.specs.Laws.{Writable}
use Rattle.call_lists.specs.WriterLists.{StartsRight}
use Rattle.calls.proofs.Refusals.{by_number}
use Rattle.tape_model.proofs.Refusals.{WriterPassed, writer_passed}

-- an accepted call passed every test
accepted-passed : (w : PlainWriter) (c : WriterCall) (a : Work) → (writer_call w c).answer ≡ done a → WriterPassed w c
unfolding writer_call refused_with
accepted-passed w c a =
    by_number (λ (o : Outcome PlainWriter Work). o.answer ≡ done a → WriterPassed w c) (refusal w c) (work w c) (refused_with (refusal w c) w (output_of c))
    (λ n h. writer_passed w c n) (λ n h. let z : ◌≡◌ {A = ℕ} 0 1 = cc in absurd (omega arith))

ticket-right : (c : WriterCall) (ts : List Ticket) → ticket_right c ≡ true → Writable ts → Writable (tickets_of c ++ ts)
unfolding ticket_right tickets_of
ticket-right (start key head out) ts h v = v
ticket-right (add ticket out) ts h v = (h, v)
ticket-right (finish out) ts h v = v

start_right : (c : WriterCall) (ss : List Started) → key_right c ≡ true → head_right c ≡ true → StartsRight ss → StartsRight (start_of c ++ ss)
unfolding key_right head_right start_of
start_right (start key head out) ss k h v = (eqb-true (length key) key_length k, h, v)
start_right (add ticket out) ss k h v = v
start_right (finish out) ss k h v = v

pub tickets_right : (w : PlainWriter) (calls : List WriterCall) → Writable (writer_log (entries writer_call w calls)).tickets
unfolding entries writer_log
tickets_right w [] = tt
tickets_right w (c ∷ cs) = by_answer (writer_call w c).answer (λ a e. (accepted-passed w c a e).ticket) _ (tickets_right (writer_call w c).next cs)
  where
    by_answer : (r : Reply Work) → ((a : Work) → r ≡ done a → ticket_right c ≡ true) → (ts : List Ticket) → Writable ts → Writable (if_accepted r (tickets_of c) ++ ts)
    by_answer (refused n) p ts v = v
    by_answer (done a) p ts v = ticket-right c ts (p a refl) v

pub starts_right : (w : PlainWriter) (calls : List WriterCall) → StartsRight (writer_log (entries writer_call w calls)).starts
unfolding entries writer_log
starts_right w [] = tt
starts_right w (c ∷ cs) = by_answer (writer_call w c).answer (λ a e. accepted-passed w c a e) _ (starts_right (writer_call w c).next cs)
  where
    by_answer : (r : Reply Work) → ((a : Work) → r ≡ done a → WriterPassed w c) → (ss : List Started) → StartsRight ss → StartsRight (if_accepted r (start_of c) ++ ss)
    by_answer (refused n) p ss v = v
    by_answer (done a) p ss v = start_right c ss (p a refl).key (p a refl).head v
