-- A plain writer that a list of calls led to: after one more call it is such a writer again, and what a call that passes comes to.
use mathlib.Core.Path.{◌≡◌, ◌∙◌}
use Rattle.tape_model.specs.Writer.{PlainWriter, fresh_writer, WriterCall, writer_call}
use Rattle.tape_model.specs.WriterLists.{WriterLog}
use Rattle.tape_model.proofs.Refusals.{WriterPassed, writer_works}
use Rattle.call_lists.proofs.WriterReached.{WriterReached, fresh_writer_reached}
use Rattle.call_lists.proofs.WriterAccepts.{machine_passed, comes_to, accepted-work}
use Rattle.call_lists.proofs.WriterKept.{writer_kept}

pub record HasRun (w : PlainWriter) : Type 0 where
  pub log : WriterLog
  pub reached : WriterReached w log

pub fresh_has_run : HasRun fresh_writer
fresh_has_run = record { log = _; reached = fresh_writer_reached }

module _ (w : PlainWriter) (c : WriterCall) (h : HasRun w) where
  pub runs_on : HasRun (writer_call w c).next
  runs_on = record { log = _; reached = writer_kept w c h.log h.reached }

  pub comes : WriterPassed w c → writer_call w c ≡ comes_to w c
  comes p = writer_works w c p ∙ accepted-work w c (machine_passed w h.log c h.reached p)
