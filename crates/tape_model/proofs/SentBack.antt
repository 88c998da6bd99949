-- A call of the plain writer that is sent back changes nothing.
use Rattle.calls.specs.Calls.{unless_refused, refused_with}
use Rattle.tape_model.specs.Writer.{PlainWriter, WriterCall, start, add, finish, output_of, writer_call}
use Rattle.tape_model.specs.Laws.{WriterSentBack, WriterSentBackLaws}

sent_back : (w : PlainWriter) (c : WriterCall) → WriterSentBack w c (output_of c)
unfolding writer_call unless_refused refused_with
sent_back w c n e = rw e

pub sent_back-laws : (w : PlainWriter) → WriterSentBackLaws w
unfolding output_of
sent_back-laws w =
    record {
      of_start = λ key head out. sent_back w (start key head out);
      of_add = λ t out. sent_back w (add t out);
      of_finish = λ out. sent_back w (finish out);
    }
