-- Document 01 on lists of the writer's calls: what a list amounts to, read off its calls, their answers and their outputs alone.
use Rattle.std.specs.Prelude.{List, [], ◌∷◌, ◌++◌, ℕ}
use Rattle.calls.specs.Calls.{Work}
use Rattle.calls.specs.Lists.{Entry, written_by, if_accepted}
use Rattle.acorn_model.specs.Machine.{Call, begin, data_call, seal_text, seal_close}
use Rattle.tape_model.specs.declared.Ticket.{Ticket}
use Rattle.tape_model.specs.declared.Head.{Head}
use Rattle.tape_model.specs.Ticket.{pack_ticket, pack_head}
use Rattle.tape_model.specs.Tape.{nonce_of, tape_tag_length}
use Rattle.tape_model.specs.Writer.{WriterCall, start, add, finish}

-- the arguments of an accepted start
pub record Started : Type 0 where
  pub key : List ℕ
  pub head : Head

unfoldable pub start_of : WriterCall → List Started
start_of (start key head out) = record { key = key; head = head } ∷ []
start_of (add ticket out) = []
start_of (finish out) = []

unfoldable pub tickets_of : WriterCall → List Ticket
tickets_of (start key head out) = []
tickets_of (add ticket out) = ticket ∷ []
tickets_of (finish out) = []

-- the calls of the machine below that an accepted call makes
unfoldable pub machine_calls_of : WriterCall → List Call
machine_calls_of (start key head out) = begin key (nonce_of (pack_head head)) tape_tag_length ∷ data_call (pack_head head) ∷ []
machine_calls_of (add ticket out) = seal_text (pack_ticket ticket) out ∷ []
machine_calls_of (finish out) = seal_close out ∷ []

pub record WriterLog : Type 0 where
  pub starts : List Started
  pub tickets : List Ticket
  pub machine_calls : List Call
  pub written : List ℕ

unfoldable pub writer_log : List (Entry WriterCall Work) → WriterLog
writer_log [] = record { starts = []; tickets = []; machine_calls = []; written = [] }
writer_log (e ∷ es) =
    record {
      starts = if_accepted e.answer (start_of e.call) ++ (writer_log es).starts;
      tickets = if_accepted e.answer (tickets_of e.call) ++ (writer_log es).tickets;
      machine_calls = if_accepted e.answer (machine_calls_of e.call) ++ (writer_log es).machine_calls;
      written = written_by e.answer e.out ++ (writer_log es).written;
    }

-- the nine bytes of every accepted head; none where no start was accepted
unfoldable pub heads_of : List Started → List ℕ
heads_of [] = []
heads_of (s ∷ ss) = pack_head s.head ++ heads_of ss
