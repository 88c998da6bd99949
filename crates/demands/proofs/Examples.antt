-- The statements of specs/Examples.antt, proved.
use Rattle.demands.specs.Examples.{Examples}
use Rattle.demands.proofs.Exist.{session_replies, writer_replies, sessions_exist, writers_exist}
use Rattle.demands.proofs.SessionExamples.{session_examples}
use Rattle.demands.proofs.WriterExamples.{writer_examples}
use Rattle.demands.proofs.MessageExamples.{message_examples, opening_replies, tape_seven}

pub examples : Examples
examples =
    record {
      session_replies = session_replies;
      writer_replies = writer_replies;
      sessions = sessions_exist;
      writers = writers_exist;
      of_sessions = session_examples;
      of_writers = writer_examples;
      of_messages = message_examples;
      opening_replies = opening_replies;
      of_tapes = tape_seven;
    }
