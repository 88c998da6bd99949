-- What is shown of every list of calls from a fresh plain writer: which calls it makes of its machine, and which bytes it writes.
use Rattle.std.specs.Prelude.{◌≡◌, true, List, [], ◌∷◌, ◌++◌, ℕ, suc, ◌≤◌, ◌<◌, length}
use Rattle.acorn_model.specs.declared.Kind.TheVariants.{Sealing}
use Rattle.calls.specs.Calls.{done, Work}
use Rattle.calls.specs.Lists.{entries, handed_on, AllAccepted}
use Rattle.acorn_model.specs.Machine.{fresh, key_length, call}
use Rattle.acorn_model.specs.Lists.{log_of}
use Rattle.tape_model.specs.declared.Ticket.{Ticket}
use Rattle.tape_model.specs.declared.Head.{Head}
use Rattle.tape_model.specs.declared.WriterPhase.TheVariants.{Closed}
use Rattle.tape_model.specs.Ticket.{ticket_length, head_length, head_rule}
use Rattle.tape_model.specs.Tape.{tape_tag_length, ticket_limit, tape_of}
use Rattle.tape_model.specs.Writer.{PlainWriter, fresh_writer, WriterCall, start, add, finish, writer_call}
use Rattle.tape_model.specs.WriterLists.{Started, WriterLog, writer_log, heads_of}
use Rattle.tape_model.specs.Laws.{Writable, TapeLaws}

module _ (calls : List WriterCall) where
  abbrev pub writer_after : PlainWriter
  writer_after = handed_on writer_call fresh_writer calls

  abbrev pub writer_log_from : WriterLog
  writer_log_from = writer_log (entries writer_call fresh_writer calls)

-- every start has a key of 16 bytes and a head in its ranges
abbrev pub StartsRight : List Started → Type 0
StartsRight [] = Unit {0}
StartsRight (s ∷ ss) = (length s.key ≡ key_length) × (head_rule s.head ≡ true) × StartsRight ss

pub record WriterLists : Type 0 where
  -- the writer's machine is the one-step machine after the calls that the accepted calls make of it, and it accepts each of them
  pub machine : (calls : List WriterCall) → (writer_after calls).machine ≡ handed_on call (fresh Sealing) (writer_log_from calls).machine_calls
  pub accepts : (calls : List WriterCall) → AllAccepted (entries call (fresh Sealing) (writer_log_from calls).machine_calls)
  -- what it accepts is as the rules say; and it accepts one start at most
  pub starts_right : (calls : List WriterCall) → StartsRight (writer_log_from calls).starts
  pub tickets_right : (calls : List WriterCall) → Writable (writer_log_from calls).tickets
  pub once : (calls : List WriterCall) → length (writer_log_from calls).starts ≤ 1
  -- the bytes written are the nine of every accepted head and then the one-step machine's
  pub written : (calls : List WriterCall)
      → (writer_log_from calls).written ≡ heads_of (writer_log_from calls).starts ++ (log_of (entries call (fresh Sealing) (writer_log_from calls).machine_calls)).written
  -- with no accepted start there are none
  pub none : (calls : List WriterCall) → (writer_log_from calls).starts ≡ [] → (writer_log_from calls).written ≡ []
  -- it has counted the tickets added, at most 5,000
  pub tickets : (calls : List WriterCall) → (writer_after calls).tickets ≡ length (writer_log_from calls).tickets
  pub at_most : (calls : List WriterCall) → length (writer_log_from calls).tickets ≤ ticket_limit
  -- a finished writer was started once, and has written the tape of that key and head and the tickets added, which come back from it
  pub tape : (calls : List WriterCall) → (writer_after calls).phase ≡ Closed
      → (s : Started) × ((writer_log_from calls).starts ≡ (s ∷ [])) × ((writer_log_from calls).written ≡ tape_of s.key s.head (writer_log_from calls).tickets)
      × TapeLaws s.key s.head (writer_log_from calls).tickets
  -- an accepted start answers 9 bytes and 1,864 steps
  pub start-answers : (calls : List WriterCall) (key out : List ℕ) (head : Head) (w : Work)
      → (writer_call (writer_after calls) (start key head out)).answer ≡ done w → w ≡ record { bytes = 9; steps = 1864 }
  -- an accepted add answers 13 bytes, and an accepted finish 16
  pub add_answers : (calls : List WriterCall) (ticket : Ticket) (out : List ℕ) (w : Work)
      → (writer_call (writer_after calls) (add ticket out)).answer ≡ done w → w.bytes ≡ 13
  pub finish_answers : (calls : List WriterCall) (out : List ℕ) (w : Work)
      → (writer_call (writer_after calls) (finish out)).answer ≡ done w → w.bytes ≡ 16

-- ## Every tape is written

-- the outputs lent to the calls that write a tape, each as it stands at its call: to start, to the adds by their number from 0, and to finish
pub record TapeOutputs : Type 0 where
  pub head : List ℕ
  pub ticket : ℕ → List ℕ
  pub tag : List ℕ

-- each of them is long enough, on a tape of n tickets
pub record RoomFor (n : ℕ) (outs : TapeOutputs) : Type 0 where
  pub head : head_length ≤ length outs.head
  pub ticket : (i : ℕ) → i < n → ticket_length ≤ length (outs.ticket i)
  pub tag : tape_tag_length ≤ length outs.tag

-- the calls that add these tickets, and those that write a tape of them
abbrev pub adds : List Ticket → (ℕ → List ℕ) → List WriterCall
adds [] outs = []
adds (t ∷ ts) outs = add t (outs 0) ∷ adds ts (λ i. outs (suc i))

abbrev pub tape_calls : List ℕ → Head → List Ticket → TapeOutputs → List WriterCall
tape_calls key head ts outs = start key head outs.head ∷ (adds ts outs.ticket ++ (finish outs.tag ∷ []))

-- for every key of 16 bytes, head in its ranges and at most 5,000 tickets that may be written, with outputs long enough, each of these calls is
-- accepted: the writer is finished, was started with that key and head, was given those tickets and has written their tape
pub record WriterEvery (key : List ℕ) (head : Head) (ts : List Ticket) (outs : TapeOutputs) : Type 0 where
  pub accepted : AllAccepted (entries writer_call fresh_writer (tape_calls key head ts outs))
  pub closed : (writer_after (tape_calls key head ts outs)).phase ≡ Closed
  pub starts : (writer_log_from (tape_calls key head ts outs)).starts ≡ (record { key = key; head = head } ∷ [])
  pub tickets : (writer_log_from (tape_calls key head ts outs)).tickets ≡ ts
  pub written : (writer_log_from (tape_calls key head ts outs)).written ≡ tape_of key head ts

abbrev pub EveryTapeWritten : Type 0
EveryTapeWritten = (key : List ℕ) (head : Head) (ts : List Ticket) (outs : TapeOutputs)
    → length key ≡ key_length → head_rule head ≡ true → Writable ts → length ts ≤ ticket_limit → RoomFor (length ts) outs → WriterEvery key head ts outs
