-- What a caller learns of each function, as the toolchain reads the contract in the source, is what the demands speak of, and a caller is asked
-- nothing: the session's and the writer's methods give `Called` and `WriterCalled` at their calls, so that `CallsMade` is made of the contracts and of
-- nothing else; whole messages and tapes are sealed and opened, and tickets and heads packed and unpacked, as the definitions say. For the reader
-- `reader/proofs/Tied` shows it.
use mathlib.Core.Path.{◌≡◌}
use mathlib.Core.List.{[]}
use contract.Lifetimes
use borrow.Fn.World
use borrow.Fn.Kinds as Kinds'
use denote.Triple.Clauses
use Rattle.acorn_model.specs.Machine as machine
use Rattle.session.specs.Clauses.{machine_of, Called}
use Rattle.acorn_model.specs.Stretches.{full_tag_length}
use Rattle.message.specs.Clauses.{Seals, OpensTo, DecryptsInto}
use Rattle.message.specs.contracts.seal as seal'
use Rattle.message.specs.contracts.seal_tag as seal-tag'
use Rattle.message.proofs.seal.Kinds as seal-kinds
use Rattle.message.proofs.seal_tag.Kinds as seal-tag-kinds
use Rattle.message.proofs.seal.Reads as seal-reads
use Rattle.message.proofs.seal_tag.Reads as seal-tag-reads
use Rattle.message.specs.contracts.open as open'
use Rattle.message.specs.contracts.open_tag as open-tag'
use Rattle.message.proofs.open.Kinds as open-kinds
use Rattle.message.proofs.open_tag.Kinds as open-tag-kinds
use Rattle.message.proofs.open.Reads as open-reads
use Rattle.message.proofs.open_tag.Reads as open-tag-reads
use Rattle.message.specs.contracts.decrypt_into as decrypt-into'
use Rattle.message.proofs.decrypt_into.Kinds as decrypt-into-kinds
use Rattle.message.proofs.decrypt_into.Reads as decrypt-into-reads
use Rattle.tape_model.specs.Writer as plain
use Rattle.tape_writer.specs.Clauses.{writer_of, WriterCalled}
use Rattle.tape_opening.specs.Clauses.{OpensTape, OpensScratch}
use Rattle.ticket.specs.Packing.{nonce_or_zeros}
use Rattle.ticket.specs.Clauses.{PacksTicket, PacksHead, UnpacksTicket, UnpacksHead}
use Rattle.ticket.specs.contracts.pack_ticket as pack-ticket'
use Rattle.ticket.proofs.pack_ticket.Kinds as pack-ticket-kinds
use Rattle.ticket.proofs.pack_ticket.Reads as pack-ticket-reads
use Rattle.ticket.specs.contracts.pack_head as pack-head'
use Rattle.ticket.proofs.pack_head.Kinds as pack-head-kinds
use Rattle.ticket.proofs.pack_head.Reads as pack-head-reads
use Rattle.ticket.specs.contracts.unpack_ticket as unpack-ticket'
use Rattle.ticket.proofs.unpack_ticket.Kinds as unpack-ticket-kinds
use Rattle.ticket.proofs.unpack_ticket.Reads as unpack-ticket-reads
use Rattle.ticket.specs.contracts.unpack_head as unpack-head'
use Rattle.ticket.proofs.unpack_head.Kinds as unpack-head-kinds
use Rattle.ticket.proofs.unpack_head.Reads as unpack-head-reads
use Rattle.ticket.specs.contracts.nonce_of as nonce-of'
use Rattle.ticket.proofs.nonce_of.Kinds as nonce-of-kinds
use Rattle.ticket.proofs.nonce_of.Reads as nonce-of-reads
use Rattle.tape_writer.specs.contracts.Writer.fresh as writer-fresh'
use Rattle.tape_writer.proofs.Writer.fresh.Kinds as writer-fresh-kinds
use Rattle.tape_writer.proofs.Writer.fresh.Reads as writer-fresh-reads
use Rattle.tape_writer.specs.contracts.Writer.start as start'
use Rattle.tape_writer.proofs.Writer.start.Kinds as start-kinds
use Rattle.tape_writer.proofs.Writer.start.Reads as start-reads
use Rattle.tape_writer.specs.contracts.Writer.add as add'
use Rattle.tape_writer.proofs.Writer.add.Kinds as add-kinds
use Rattle.tape_writer.proofs.Writer.add.Reads as add_reads
use Rattle.tape_writer.specs.contracts.Writer.add_first as add-first'
use Rattle.tape_writer.proofs.Writer.add_first.Kinds as add-first-kinds
use Rattle.tape_writer.proofs.Writer.add_first.Reads as add-first-reads
use Rattle.tape_writer.specs.contracts.Writer.finish as finish'
use Rattle.tape_writer.proofs.Writer.finish.Kinds as finish-kinds
use Rattle.tape_writer.proofs.Writer.finish.Reads as finish-reads
use Rattle.tape_opening.specs.contracts.open_tape as open-tape'
use Rattle.tape_opening.proofs.open_tape.Kinds as open-tape-kinds
use Rattle.tape_opening.proofs.open_tape.Reads as open-tape-reads
use Rattle.tape_opening.specs.contracts.open_scratch as open-scratch'
use Rattle.tape_opening.proofs.open_scratch.Kinds as open-scratch-kinds
use Rattle.tape_opening.proofs.open_scratch.Reads as open-scratch-reads
use Rattle.session.specs.contracts.Session.fresh as fresh'
use Rattle.session.proofs.Session.fresh.Kinds as fresh-kinds
use Rattle.session.proofs.Session.fresh.Reads as fresh-reads
use Rattle.session.specs.contracts.Session.begin as begin'
use Rattle.session.specs.contracts.Session.begin_tag as begin-tag'
use Rattle.session.proofs.Session.begin.Kinds as begin-kinds
use Rattle.session.proofs.Session.begin_tag.Kinds as begin-tag-kinds
use Rattle.session.proofs.Session.begin.Reads as begin-reads
use Rattle.session.proofs.Session.begin_tag.Reads as begin-tag-reads
use Rattle.session.specs.contracts.Session.data as data'
use Rattle.session.proofs.Session.data.Kinds as data-kinds
use Rattle.session.proofs.Session.data.Reads as data_Reads
use Rattle.session.specs.contracts.Session.seal_text as seal-text'
use Rattle.session.proofs.Session.seal_text.Kinds as seal-text-kinds
use Rattle.session.proofs.Session.seal_text.Reads as seal-text-reads
use Rattle.session.specs.contracts.Session.seal_13 as seal-13'
use Rattle.session.proofs.Session.seal_13.Kinds as seal-13-kinds
use Rattle.session.proofs.Session.seal_13.Reads as seal-13-reads
use Rattle.session.specs.contracts.Session.check_text as check-text'
use Rattle.session.proofs.Session.check_text.Kinds as check-text-kinds
use Rattle.session.proofs.Session.check_text.Reads as check-text-reads
use Rattle.session.specs.contracts.Session.seal_close as seal-close'
use Rattle.session.proofs.Session.seal_close.Kinds as seal-close-kinds
use Rattle.session.proofs.Session.seal_close.Reads as seal-close-reads
use Rattle.session.specs.contracts.Session.check_close as check-close'
use Rattle.session.proofs.Session.check_close.Kinds as check-close-kinds
use Rattle.session.proofs.Session.check_close.Reads as check-close-reads

module _ (κs : Lifetimes.Lfts 0) (a : World.ArgsD fresh'.signature κs) where
  fresh_asks : fresh-reads.Asked κs a
  fresh_asks = tt

  fresh-says : (r : World.ResD fresh'.signature κs) (x : Clauses.AtExit (Kinds'.ended_of 0 fresh-kinds.ps fresh-kinds.r) κs) → fresh-reads.Learnt κs a r x
      → machine_of r ≡ machine.fresh a.0
  fresh-says r x h = h

module _ (κs : Lifetimes.Lfts 2) (a : World.ArgsD begin'.signature κs) where
  begin_asks : begin-reads.Asked κs a
  begin_asks = tt

  begin_says : (r : World.ResD begin'.signature κs) (x : Clauses.AtExit (Kinds'.ended_of 2 begin-kinds.ps begin-kinds.r) κs) → begin-reads.Learnt κs a r x
      → Called a.0 (machine.begin a.1.0.now a.1.1.0.now full_tag_length) r []
  begin_says r x h = h

module _ (κs : Lifetimes.Lfts 2) (a : World.ArgsD begin-tag'.signature κs) where
  begin_tag_asks : begin-tag-reads.Asked κs a
  begin_tag_asks = tt

  begin_tag-says : (r : World.ResD begin-tag'.signature κs) (x : Clauses.AtExit (Kinds'.ended_of 2 begin-tag-kinds.ps begin-tag-kinds.r) κs) → begin-tag-reads.Learnt κs a r x
      → Called a.0 (machine.begin a.1.0.now a.1.1.0.now a.1.1.1.0) r []
  begin_tag-says r x h = h

module _ (κs : Lifetimes.Lfts 1) (a : World.ArgsD data'.signature κs) where
  data_asks : data_Reads.Asked κs a
  data_asks = tt

  data-says : (r : World.ResD data'.signature κs) (x : Clauses.AtExit (Kinds'.ended_of 1 data-kinds.ps data-kinds.r) κs) → data_Reads.Learnt κs a r x
      → Called a.0 (machine.data_call a.1.0.now) r []
  data-says r x h = h

module _ (κs : Lifetimes.Lfts 2) (a : World.ArgsD seal-text'.signature κs) where
  seal_text_asks : seal-text-reads.Asked κs a
  seal_text_asks = tt

  seal_text-says : (r : World.ResD seal-text'.signature κs) (x : Clauses.AtExit (Kinds'.ended_of 2 seal-text-kinds.ps seal-text-kinds.r) κs) → seal-text-reads.Learnt κs a r x
      → Called a.0 (machine.seal_text a.1.0.now a.1.1.0.now) r x.1.1.0.now
  seal_text-says r x h = h

module _ (κs : Lifetimes.Lfts 2) (a : World.ArgsD seal-13'.signature κs) where
  seal_13_asks : seal-13-reads.Asked κs a
  seal_13_asks = tt

  seal_13_says : (r : World.ResD seal-13'.signature κs) (x : Clauses.AtExit (Kinds'.ended_of 2 seal-13-kinds.ps seal-13-kinds.r) κs) → seal-13-reads.Learnt κs a r x
      → Called a.0 (machine.seal_text a.1.0.now a.1.1.0.now) r x.1.1.0.now
  seal_13_says r x h = h

module _ (κs : Lifetimes.Lfts 1) (a : World.ArgsD check-text'.signature κs) where
  check_text_asks : check-text-reads.Asked κs a
  check_text_asks = tt

  check_text-says : (r : World.ResD check-text'.signature κs) (x : Clauses.AtExit (Kinds'.ended_of 1 check-text-kinds.ps check-text-kinds.r) κs) → check-text-reads.Learnt κs a r x
      → Called a.0 (machine.check_text a.1.0.now) r []
  check_text-says r x h = h

module _ (κs : Lifetimes.Lfts 1) (a : World.ArgsD seal-close'.signature κs) where
  seal_close_asks : seal-close-reads.Asked κs a
  seal_close_asks = tt

  seal_close_says : (r : World.ResD seal-close'.signature κs) (x : Clauses.AtExit (Kinds'.ended_of 1 seal-close-kinds.ps seal-close-kinds.r) κs) → seal-close-reads.Learnt κs a r x
      → Called a.0 (machine.seal_close a.1.0.now) r x.1.0.now
  seal_close_says r x h = h

module _ (κs : Lifetimes.Lfts 1) (a : World.ArgsD check-close'.signature κs) where
  check_close_asks : check-close-reads.Asked κs a
  check_close_asks = tt

  check_close_says : (r : World.ResD check-close'.signature κs) (x : Clauses.AtExit (Kinds'.ended_of 1 check-close-kinds.ps check-close-kinds.r) κs) → check-close-reads.Learnt κs a r x
      → Called a.0 (machine.check_close a.1.0.now) r []
  check_close_says r x h = h

module _ (κs : Lifetimes.Lfts 5) (a : World.ArgsD seal'.signature κs) where
  seal_asks : seal-reads.Asked κs a
  seal_asks = tt

  seal_says : (r : World.ResD seal'.signature κs) (x : Clauses.AtExit (Kinds'.ended_of 5 seal-kinds.ps seal-kinds.r) κs) → seal-reads.Learnt κs a r x
      → Seals full_tag_length a.0.now a.1.0.now a.1.1.0.now a.1.1.1.0.now a.1.1.1.1.0.now r x.1.1.1.1.0.now
  seal_says r x h = h

module _ (κs : Lifetimes.Lfts 5) (a : World.ArgsD seal-tag'.signature κs) where
  seal_tag_asks : seal-tag-reads.Asked κs a
  seal_tag_asks = tt

  seal_tag-says : (r : World.ResD seal-tag'.signature κs) (x : Clauses.AtExit (Kinds'.ended_of 5 seal-tag-kinds.ps seal-tag-kinds.r) κs) → seal-tag-reads.Learnt κs a r x
      → Seals a.1.1.1.1.0 a.0.now a.1.0.now a.1.1.0.now a.1.1.1.0.now a.1.1.1.1.1.0.now r x.1.1.1.1.1.0.now
  seal_tag-says r x h = h

module _ (κs : Lifetimes.Lfts 5) (a : World.ArgsD open'.signature κs) where
  open_asks : open-reads.Asked κs a
  open_asks = tt

  open_says : (r : World.ResD open'.signature κs) (x : Clauses.AtExit (Kinds'.ended_of 5 open-kinds.ps open-kinds.r) κs) → open-reads.Learnt κs a r x
      → OpensTo full_tag_length a.0.now a.1.0.now a.1.1.0.now a.1.1.1.0.now a.1.1.1.1.0.now r x.1.1.1.1.0.now
  open_says r x h = h

module _ (κs : Lifetimes.Lfts 5) (a : World.ArgsD open-tag'.signature κs) where
  open_tag_asks : open-tag-reads.Asked κs a
  open_tag_asks = tt

  open_tag-says : (r : World.ResD open-tag'.signature κs) (x : Clauses.AtExit (Kinds'.ended_of 5 open-tag-kinds.ps open-tag-kinds.r) κs) → open-tag-reads.Learnt κs a r x
      → OpensTo a.1.1.1.1.0 a.0.now a.1.0.now a.1.1.0.now a.1.1.1.0.now a.1.1.1.1.1.0.now r x.1.1.1.1.1.0.now
  open_tag-says r x h = h

module _ (κs : Lifetimes.Lfts 5) (a : World.ArgsD decrypt-into'.signature κs) where
  decrypt_into_asks : decrypt-into-reads.Asked κs a
  decrypt_into_asks = tt

  decrypt_into_says : (r : World.ResD decrypt-into'.signature κs) (x : Clauses.AtExit (Kinds'.ended_of 5 decrypt-into-kinds.ps decrypt-into-kinds.r) κs) → decrypt-into-reads.Learnt κs a r x
      → DecryptsInto a.0.now a.1.0.now a.1.1.0.now a.1.1.1.0.now a.1.1.1.1.0.now r x.1.1.1.1.0.now
  decrypt_into_says r x h = h

module _ (κs : Lifetimes.Lfts 0) (a : World.ArgsD writer-fresh'.signature κs) where
  writer_fresh_asks : writer-fresh-reads.Asked κs a
  writer_fresh_asks = tt

  writer_fresh-says : (r : World.ResD writer-fresh'.signature κs) (x : Clauses.AtExit (Kinds'.ended_of 0 writer-fresh-kinds.ps writer-fresh-kinds.r) κs) → writer-fresh-reads.Learnt κs a r x
      → writer_of r ≡ plain.fresh_writer
  writer_fresh-says r x h = h

module _ (κs : Lifetimes.Lfts 2) (a : World.ArgsD start'.signature κs) where
  start_asks : start-reads.Asked κs a
  start_asks = tt

  start-says : (r : World.ResD start'.signature κs) (x : Clauses.AtExit (Kinds'.ended_of 2 start-kinds.ps start-kinds.r) κs) → start-reads.Learnt κs a r x
      → WriterCalled a.0 (plain.start a.1.0.now a.1.1.0 a.1.1.1.0.now) r x.1.1.1.0.now
  start-says r x h = h

module _ (κs : Lifetimes.Lfts 1) (a : World.ArgsD add'.signature κs) where
  add_asks : add_reads.Asked κs a
  add_asks = tt

  add_says : (r : World.ResD add'.signature κs) (x : Clauses.AtExit (Kinds'.ended_of 1 add-kinds.ps add-kinds.r) κs) → add_reads.Learnt κs a r x
      → WriterCalled a.0 (plain.add a.1.0 a.1.1.0.now) r x.1.1.0.now
  add_says r x h = h

module _ (κs : Lifetimes.Lfts 1) (a : World.ArgsD add-first'.signature κs) where
  add_first_asks : add-first-reads.Asked κs a
  add_first_asks = tt

  add_first-says : (r : World.ResD add-first'.signature κs) (x : Clauses.AtExit (Kinds'.ended_of 1 add-first-kinds.ps add-first-kinds.r) κs) → add-first-reads.Learnt κs a r x
      → WriterCalled a.0 (plain.add a.1.0 a.1.1.0.now) r x.1.1.0.now
  add_first-says r x h = h

module _ (κs : Lifetimes.Lfts 1) (a : World.ArgsD finish'.signature κs) where
  finish_asks : finish-reads.Asked κs a
  finish_asks = tt

  finish_says : (r : World.ResD finish'.signature κs) (x : Clauses.AtExit (Kinds'.ended_of 1 finish-kinds.ps finish-kinds.r) κs) → finish-reads.Learnt κs a r x
      → WriterCalled a.0 (plain.finish a.1.0.now) r x.1.0.now
  finish_says r x h = h

module _ (κs : Lifetimes.Lfts 3) (a : World.ArgsD open-tape'.signature κs) where
  open_tape_asks : open-tape-reads.Asked κs a
  open_tape_asks = tt

  open_tape-says : (r : World.ResD open-tape'.signature κs) (x : Clauses.AtExit (Kinds'.ended_of 3 open-tape-kinds.ps open-tape-kinds.r) κs) → open-tape-reads.Learnt κs a r x
      → OpensTape a.0.now a.1.0.now a.1.1.0.now r x.1.1.0.now
  open_tape-says r x h = h

module _ (κs : Lifetimes.Lfts 3) (a : World.ArgsD open-scratch'.signature κs) where
  open_scratch_asks : open-scratch-reads.Asked κs a
  open_scratch_asks = tt

  open_scratch_says : (r : World.ResD open-scratch'.signature κs) (x : Clauses.AtExit (Kinds'.ended_of 3 open-scratch-kinds.ps open-scratch-kinds.r) κs) → open-scratch-reads.Learnt κs a r x
      → OpensScratch a.0.now a.1.0.now a.1.1.0.now r x.1.1.0.now
  open_scratch_says r x h = h

module _ (κs : Lifetimes.Lfts 1) (a : World.ArgsD pack-ticket'.signature κs) where
  pack_ticket_asks : pack-ticket-reads.Asked κs a
  pack_ticket_asks = tt

  pack_ticket_says : (r : World.ResD pack-ticket'.signature κs) (x : Clauses.AtExit (Kinds'.ended_of 1 pack-ticket-kinds.ps pack-ticket-kinds.r) κs) → pack-ticket-reads.Learnt κs a r x
      → PacksTicket a.0 a.1.0.now r x.1.0.now
  pack_ticket_says r x h = h

module _ (κs : Lifetimes.Lfts 1) (a : World.ArgsD pack-head'.signature κs) where
  pack_head_asks : pack-head-reads.Asked κs a
  pack_head_asks = tt

  pack_head_says : (r : World.ResD pack-head'.signature κs) (x : Clauses.AtExit (Kinds'.ended_of 1 pack-head-kinds.ps pack-head-kinds.r) κs) → pack-head-reads.Learnt κs a r x
      → PacksHead a.0 a.1.0.now r x.1.0.now
  pack_head_says r x h = h

module _ (κs : Lifetimes.Lfts 1) (a : World.ArgsD unpack-ticket'.signature κs) where
  unpack_ticket_asks : unpack-ticket-reads.Asked κs a
  unpack_ticket_asks = tt

  unpack_ticket_says : (r : World.ResD unpack-ticket'.signature κs) (x : Clauses.AtExit (Kinds'.ended_of 1 unpack-ticket-kinds.ps unpack-ticket-kinds.r) κs) → unpack-ticket-reads.Learnt κs a r x
      → UnpacksTicket a.0.now r
  unpack_ticket_says r x h = h

module _ (κs : Lifetimes.Lfts 1) (a : World.ArgsD unpack-head'.signature κs) where
  unpack_head_asks : unpack-head-reads.Asked κs a
  unpack_head_asks = tt

  unpack_head_says : (r : World.ResD unpack-head'.signature κs) (x : Clauses.AtExit (Kinds'.ended_of 1 unpack-head-kinds.ps unpack-head-kinds.r) κs) → unpack-head-reads.Learnt κs a r x
      → UnpacksHead a.0.now r
  unpack_head_says r x h = h

module _ (κs : Lifetimes.Lfts 1) (a : World.ArgsD nonce-of'.signature κs) where
  nonce_of_asks : nonce-of-reads.Asked κs a
  nonce_of_asks = tt

  nonce_of_says : (r : World.ResD nonce-of'.signature κs) (x : Clauses.AtExit (Kinds'.ended_of 1 nonce-of-kinds.ps nonce-of-kinds.r) κs) → nonce-of-reads.Learnt κs a r x
      → r ≡ nonce_or_zeros a.0.now
  nonce_of_says r x h = h
