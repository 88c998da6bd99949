-- What a caller learns of each exported call, as the toolchain reads the contract in the source, is what specs/Exports speaks of (`SessionSeen` or
-- `WriterSeen` at its call, or `SealSeen` and the like), and a caller is asked nothing; so the demands on the interface for C rest on the contracts of
-- the exports and on nothing else.
use mathlib.Core.Path.{◌≡◌}
use mathlib.Core.List.{[]}
use contract.Lifetimes
use borrow.Fn.World
use borrow.Fn.Kinds as Kinds'
use denote.Triple.Clauses
use Rattle.acorn_model.specs.declared.Kind.TheVariants.{Sealing, Checking}
use Rattle.acorn_model.specs.Stretches.{full_tag_length}
use Rattle.acorn_model.specs.Machine as machine
use Rattle.tape_model.specs.Writer as plain
use Rattle.session.specs.Words.{words_for}
use Rattle.tape_writer.specs.Words.{writer_words_for}
use Rattle.haul_tape.specs.Clauses.{SessionSeen, WriterSeen, SealSeen, OpenSeen, PackTicketSeen, UnpackTicketSeen, PackHeadSeen, UnpackHeadSeen, OpenTapeSeen, ReadTicketSeen, ListTapeSeen}
use Rattle.haul_tape.specs.contracts.ht_session_fresh_sealing as fresh-sealing'
use Rattle.haul_tape.proofs.ht_session_fresh_sealing.Kinds as fresh-sealing-kinds
use Rattle.haul_tape.proofs.ht_session_fresh_sealing.Reads as fresh-sealing-reads
use Rattle.haul_tape.specs.contracts.ht_session_fresh_checking as fresh-checking'
use Rattle.haul_tape.proofs.ht_session_fresh_checking.Kinds as fresh-checking-kinds
use Rattle.haul_tape.proofs.ht_session_fresh_checking.Reads as fresh-checking-reads
use Rattle.haul_tape.specs.contracts.ht_session_begin as begin'
use Rattle.haul_tape.specs.contracts.ht_session_begin_tag as begin-tag'
use Rattle.haul_tape.proofs.ht_session_begin.Kinds as begin-kinds
use Rattle.haul_tape.proofs.ht_session_begin_tag.Kinds as begin-tag-kinds
use Rattle.haul_tape.proofs.ht_session_begin.Reads as begin-reads
use Rattle.haul_tape.proofs.ht_session_begin_tag.Reads as begin-tag-reads
use Rattle.haul_tape.specs.contracts.ht_session_data as data'
use Rattle.haul_tape.proofs.ht_session_data.Kinds as data-kinds
use Rattle.haul_tape.proofs.ht_session_data.Reads as data_Reads
use Rattle.haul_tape.specs.contracts.ht_session_seal_text as seal-text'
use Rattle.haul_tape.proofs.ht_session_seal_text.Kinds as seal-text-kinds
use Rattle.haul_tape.proofs.ht_session_seal_text.Reads as seal-text-reads
use Rattle.haul_tape.specs.contracts.ht_session_seal_close as seal-close'
use Rattle.haul_tape.proofs.ht_session_seal_close.Kinds as seal-close-kinds
use Rattle.haul_tape.proofs.ht_session_seal_close.Reads as seal-close-reads
use Rattle.haul_tape.specs.contracts.ht_session_check_text as check-text'
use Rattle.haul_tape.proofs.ht_session_check_text.Kinds as check-text-kinds
use Rattle.haul_tape.proofs.ht_session_check_text.Reads as check-text-reads
use Rattle.haul_tape.specs.contracts.ht_session_check_close as check-close'
use Rattle.haul_tape.proofs.ht_session_check_close.Kinds as check-close-kinds
use Rattle.haul_tape.proofs.ht_session_check_close.Reads as check-close-reads
use Rattle.haul_tape.specs.contracts.ht_writer_fresh as writer-fresh'
use Rattle.haul_tape.proofs.ht_writer_fresh.Kinds as writer-fresh-kinds
use Rattle.haul_tape.proofs.ht_writer_fresh.Reads as writer-fresh-reads
use Rattle.haul_tape.specs.contracts.ht_writer_start as start'
use Rattle.haul_tape.proofs.ht_writer_start.Kinds as start-kinds
use Rattle.haul_tape.proofs.ht_writer_start.Reads as start-reads
use Rattle.haul_tape.specs.contracts.ht_writer_add as add'
use Rattle.haul_tape.proofs.ht_writer_add.Kinds as add-kinds
use Rattle.haul_tape.proofs.ht_writer_add.Reads as add_reads
use Rattle.haul_tape.specs.contracts.ht_writer_finish as finish'
use Rattle.haul_tape.proofs.ht_writer_finish.Kinds as finish-kinds
use Rattle.haul_tape.proofs.ht_writer_finish.Reads as finish-reads
use Rattle.haul_tape.specs.contracts.ht_seal as seal'
use Rattle.haul_tape.specs.contracts.ht_seal_tag as seal-tag'
use Rattle.haul_tape.proofs.ht_seal.Kinds as seal-kinds
use Rattle.haul_tape.proofs.ht_seal_tag.Kinds as seal-tag-kinds
use Rattle.haul_tape.proofs.ht_seal.Reads as seal-reads
use Rattle.haul_tape.proofs.ht_seal_tag.Reads as seal-tag-reads
use Rattle.haul_tape.specs.contracts.ht_open as open'
use Rattle.haul_tape.specs.contracts.ht_open_tag as open-tag'
use Rattle.haul_tape.proofs.ht_open.Kinds as open-kinds
use Rattle.haul_tape.proofs.ht_open_tag.Kinds as open-tag-kinds
use Rattle.haul_tape.proofs.ht_open.Reads as open-reads
use Rattle.haul_tape.proofs.ht_open_tag.Reads as open-tag-reads
use Rattle.haul_tape.specs.contracts.ht_pack_ticket as pack-ticket'
use Rattle.haul_tape.proofs.ht_pack_ticket.Kinds as pack-ticket-kinds
use Rattle.haul_tape.proofs.ht_pack_ticket.Reads as pack-ticket-reads
use Rattle.haul_tape.specs.contracts.ht_unpack_ticket as unpack-ticket'
use Rattle.haul_tape.proofs.ht_unpack_ticket.Kinds as unpack-ticket-kinds
use Rattle.haul_tape.proofs.ht_unpack_ticket.Reads as unpack-ticket-reads
use Rattle.haul_tape.specs.contracts.ht_pack_head as pack-head'
use Rattle.haul_tape.proofs.ht_pack_head.Kinds as pack-head-kinds
use Rattle.haul_tape.proofs.ht_pack_head.Reads as pack-head-reads
use Rattle.haul_tape.specs.contracts.ht_unpack_head as unpack-head'
use Rattle.haul_tape.proofs.ht_unpack_head.Kinds as unpack-head-kinds
use Rattle.haul_tape.proofs.ht_unpack_head.Reads as unpack-head-reads
use Rattle.haul_tape.specs.contracts.ht_open_tape as open-tape'
use Rattle.haul_tape.proofs.ht_open_tape.Kinds as open-tape-kinds
use Rattle.haul_tape.proofs.ht_open_tape.Reads as open-tape-reads
use Rattle.haul_tape.specs.contracts.ht_read_ticket as read-ticket'
use Rattle.haul_tape.proofs.ht_read_ticket.Kinds as read-ticket-kinds
use Rattle.haul_tape.proofs.ht_read_ticket.Reads as read-ticket-reads
use Rattle.haul_tape.specs.contracts.ht_list_tape as list-tape'
use Rattle.haul_tape.proofs.ht_list_tape.Kinds as list-tape-kinds
use Rattle.haul_tape.proofs.ht_list_tape.Reads as list-tape-reads

module _ (κs : Lifetimes.Lfts 1) (a : World.ArgsD fresh-sealing'.signature κs) where
  fresh_sealing_asks : fresh-sealing-reads.Asked κs a
  fresh_sealing_asks = tt

  fresh_sealing_says : (r : World.ResD fresh-sealing'.signature κs) (x : Clauses.AtExit (Kinds'.ended_of 1 fresh-sealing-kinds.ps fresh-sealing-kinds.r) κs)
      → fresh-sealing-reads.Learnt κs a r x
      → x.0.now ≡ words_for (machine.fresh Sealing)
  fresh_sealing_says r x h = h

module _ (κs : Lifetimes.Lfts 1) (a : World.ArgsD fresh-checking'.signature κs) where
  fresh_checking_asks : fresh-checking-reads.Asked κs a
  fresh_checking_asks = tt

  fresh_checking_says : (r : World.ResD fresh-checking'.signature κs) (x : Clauses.AtExit (Kinds'.ended_of 1 fresh-checking-kinds.ps fresh-checking-kinds.r) κs)
      → fresh-checking-reads.Learnt κs a r x
      → x.0.now ≡ words_for (machine.fresh Checking)
  fresh_checking_says r x h = h

module _ (κs : Lifetimes.Lfts 3) (a : World.ArgsD begin'.signature κs) where
  begin_asks : begin-reads.Asked κs a
  begin_asks = tt

  begin_says : (r : World.ResD begin'.signature κs) (x : Clauses.AtExit (Kinds'.ended_of 3 begin-kinds.ps begin-kinds.r) κs)
      → begin-reads.Learnt κs a r x
      → SessionSeen a.0.now (machine.begin a.1.0.now a.1.1.0.now full_tag_length) x.0.now r []
  begin_says r x h = h

module _ (κs : Lifetimes.Lfts 3) (a : World.ArgsD begin-tag'.signature κs) where
  begin_tag_asks : begin-tag-reads.Asked κs a
  begin_tag_asks = tt

  begin_tag-says : (r : World.ResD begin-tag'.signature κs) (x : Clauses.AtExit (Kinds'.ended_of 3 begin-tag-kinds.ps begin-tag-kinds.r) κs)
      → begin-tag-reads.Learnt κs a r x
      → SessionSeen a.0.now (machine.begin a.1.0.now a.1.1.0.now a.1.1.1.0) x.0.now r []
  begin_tag-says r x h = h

module _ (κs : Lifetimes.Lfts 2) (a : World.ArgsD data'.signature κs) where
  data_asks : data_Reads.Asked κs a
  data_asks = tt

  data-says : (r : World.ResD data'.signature κs) (x : Clauses.AtExit (Kinds'.ended_of 2 data-kinds.ps data-kinds.r) κs)
      → data_Reads.Learnt κs a r x
      → SessionSeen a.0.now (machine.data_call a.1.0.now) x.0.now r []
  data-says r x h = h

module _ (κs : Lifetimes.Lfts 3) (a : World.ArgsD seal-text'.signature κs) where
  seal_text_asks : seal-text-reads.Asked κs a
  seal_text_asks = tt

  seal_text-says : (r : World.ResD seal-text'.signature κs) (x : Clauses.AtExit (Kinds'.ended_of 3 seal-text-kinds.ps seal-text-kinds.r) κs)
      → seal-text-reads.Learnt κs a r x
      → SessionSeen a.0.now (machine.seal_text a.1.0.now a.1.1.0.now) x.0.now r x.1.1.0.now
  seal_text-says r x h = h

module _ (κs : Lifetimes.Lfts 2) (a : World.ArgsD seal-close'.signature κs) where
  seal_close_asks : seal-close-reads.Asked κs a
  seal_close_asks = tt

  seal_close_says : (r : World.ResD seal-close'.signature κs) (x : Clauses.AtExit (Kinds'.ended_of 2 seal-close-kinds.ps seal-close-kinds.r) κs)
      → seal-close-reads.Learnt κs a r x
      → SessionSeen a.0.now (machine.seal_close a.1.0.now) x.0.now r x.1.0.now
  seal_close_says r x h = h

module _ (κs : Lifetimes.Lfts 2) (a : World.ArgsD check-text'.signature κs) where
  check_text_asks : check-text-reads.Asked κs a
  check_text_asks = tt

  check_text-says : (r : World.ResD check-text'.signature κs) (x : Clauses.AtExit (Kinds'.ended_of 2 check-text-kinds.ps check-text-kinds.r) κs)
      → check-text-reads.Learnt κs a r x
      → SessionSeen a.0.now (machine.check_text a.1.0.now) x.0.now r []
  check_text-says r x h = h

module _ (κs : Lifetimes.Lfts 2) (a : World.ArgsD check-close'.signature κs) where
  check_close_asks : check-close-reads.Asked κs a
  check_close_asks = tt

  check_close_says : (r : World.ResD check-close'.signature κs) (x : Clauses.AtExit (Kinds'.ended_of 2 check-close-kinds.ps check-close-kinds.r) κs)
      → check-close-reads.Learnt κs a r x
      → SessionSeen a.0.now (machine.check_close a.1.0.now) x.0.now r []
  check_close_says r x h = h

module _ (κs : Lifetimes.Lfts 1) (a : World.ArgsD writer-fresh'.signature κs) where
  writer_fresh_asks : writer-fresh-reads.Asked κs a
  writer_fresh_asks = tt

  writer_fresh-says : (r : World.ResD writer-fresh'.signature κs) (x : Clauses.AtExit (Kinds'.ended_of 1 writer-fresh-kinds.ps writer-fresh-kinds.r) κs)
      → writer-fresh-reads.Learnt κs a r x
      → x.0.now ≡ writer_words_for plain.fresh_writer
  writer_fresh-says r x h = h

module _ (κs : Lifetimes.Lfts 3) (a : World.ArgsD start'.signature κs) where
  start_asks : start-reads.Asked κs a
  start_asks = tt

  start-says : (r : World.ResD start'.signature κs) (x : Clauses.AtExit (Kinds'.ended_of 3 start-kinds.ps start-kinds.r) κs)
      → start-reads.Learnt κs a r x
      → WriterSeen a.0.now (plain.start a.1.0.now a.1.1.0 a.1.1.1.0.now) x.0.now r x.1.1.1.0.now
  start-says r x h = h

module _ (κs : Lifetimes.Lfts 2) (a : World.ArgsD add'.signature κs) where
  add_asks : add_reads.Asked κs a
  add_asks = tt

  add_says : (r : World.ResD add'.signature κs) (x : Clauses.AtExit (Kinds'.ended_of 2 add-kinds.ps add-kinds.r) κs)
      → add_reads.Learnt κs a r x
      → WriterSeen a.0.now (plain.add a.1.0 a.1.1.0.now) x.0.now r x.1.1.0.now
  add_says r x h = h

module _ (κs : Lifetimes.Lfts 2) (a : World.ArgsD finish'.signature κs) where
  finish_asks : finish-reads.Asked κs a
  finish_asks = tt

  finish_says : (r : World.ResD finish'.signature κs) (x : Clauses.AtExit (Kinds'.ended_of 2 finish-kinds.ps finish-kinds.r) κs)
      → finish-reads.Learnt κs a r x
      → WriterSeen a.0.now (plain.finish a.1.0.now) x.0.now r x.1.0.now
  finish_says r x h = h

module _ (κs : Lifetimes.Lfts 5) (a : World.ArgsD seal'.signature κs) where
  seal_asks : seal-reads.Asked κs a
  seal_asks = tt

  seal_says : (r : World.ResD seal'.signature κs) (x : Clauses.AtExit (Kinds'.ended_of 5 seal-kinds.ps seal-kinds.r) κs)
      → seal-reads.Learnt κs a r x
      → SealSeen full_tag_length a.0.now a.1.0.now a.1.1.0.now a.1.1.1.0.now a.1.1.1.1.0.now r x.1.1.1.1.0.now
  seal_says r x h = h

module _ (κs : Lifetimes.Lfts 5) (a : World.ArgsD seal-tag'.signature κs) where
  seal_tag_asks : seal-tag-reads.Asked κs a
  seal_tag_asks = tt

  seal_tag-says : (r : World.ResD seal-tag'.signature κs) (x : Clauses.AtExit (Kinds'.ended_of 5 seal-tag-kinds.ps seal-tag-kinds.r) κs)
      → seal-tag-reads.Learnt κs a r x
      → SealSeen a.1.1.1.1.0 a.0.now a.1.0.now a.1.1.0.now a.1.1.1.0.now a.1.1.1.1.1.0.now r x.1.1.1.1.1.0.now
  seal_tag-says r x h = h

module _ (κs : Lifetimes.Lfts 5) (a : World.ArgsD open'.signature κs) where
  open_asks : open-reads.Asked κs a
  open_asks = tt

  open_says : (r : World.ResD open'.signature κs) (x : Clauses.AtExit (Kinds'.ended_of 5 open-kinds.ps open-kinds.r) κs)
      → open-reads.Learnt κs a r x
      → OpenSeen full_tag_length a.0.now a.1.0.now a.1.1.0.now a.1.1.1.0.now a.1.1.1.1.0.now r x.1.1.1.1.0.now
  open_says r x h = h

module _ (κs : Lifetimes.Lfts 5) (a : World.ArgsD open-tag'.signature κs) where
  open_tag_asks : open-tag-reads.Asked κs a
  open_tag_asks = tt

  open_tag-says : (r : World.ResD open-tag'.signature κs) (x : Clauses.AtExit (Kinds'.ended_of 5 open-tag-kinds.ps open-tag-kinds.r) κs)
      → open-tag-reads.Learnt κs a r x
      → OpenSeen a.1.1.1.1.0 a.0.now a.1.0.now a.1.1.0.now a.1.1.1.0.now a.1.1.1.1.1.0.now r x.1.1.1.1.1.0.now
  open_tag-says r x h = h

module _ (κs : Lifetimes.Lfts 1) (a : World.ArgsD pack-ticket'.signature κs) where
  pack_ticket_asks : pack-ticket-reads.Asked κs a
  pack_ticket_asks = tt

  pack_ticket_says : (r : World.ResD pack-ticket'.signature κs) (x : Clauses.AtExit (Kinds'.ended_of 1 pack-ticket-kinds.ps pack-ticket-kinds.r) κs)
      → pack-ticket-reads.Learnt κs a r x
      → PackTicketSeen a.0 a.1.0.now r x.1.0.now
  pack_ticket_says r x h = h

module _ (κs : Lifetimes.Lfts 1) (a : World.ArgsD unpack-ticket'.signature κs) where
  unpack_ticket_asks : unpack-ticket-reads.Asked κs a
  unpack_ticket_asks = tt

  unpack_ticket_says : (r : World.ResD unpack-ticket'.signature κs) (x : Clauses.AtExit (Kinds'.ended_of 1 unpack-ticket-kinds.ps unpack-ticket-kinds.r) κs)
      → unpack-ticket-reads.Learnt κs a r x
      → UnpackTicketSeen a.0.now r
  unpack_ticket_says r x h = h

module _ (κs : Lifetimes.Lfts 1) (a : World.ArgsD pack-head'.signature κs) where
  pack_head_asks : pack-head-reads.Asked κs a
  pack_head_asks = tt

  pack_head_says : (r : World.ResD pack-head'.signature κs) (x : Clauses.AtExit (Kinds'.ended_of 1 pack-head-kinds.ps pack-head-kinds.r) κs)
      → pack-head-reads.Learnt κs a r x
      → PackHeadSeen a.0 a.1.0.now r x.1.0.now
  pack_head_says r x h = h

module _ (κs : Lifetimes.Lfts 1) (a : World.ArgsD unpack-head'.signature κs) where
  unpack_head_asks : unpack-head-reads.Asked κs a
  unpack_head_asks = tt

  unpack_head_says : (r : World.ResD unpack-head'.signature κs) (x : Clauses.AtExit (Kinds'.ended_of 1 unpack-head-kinds.ps unpack-head-kinds.r) κs)
      → unpack-head-reads.Learnt κs a r x
      → UnpackHeadSeen a.0.now r
  unpack_head_says r x h = h

module _ (κs : Lifetimes.Lfts 3) (a : World.ArgsD open-tape'.signature κs) where
  open_tape_asks : open-tape-reads.Asked κs a
  open_tape_asks = tt

  open_tape-says : (r : World.ResD open-tape'.signature κs) (x : Clauses.AtExit (Kinds'.ended_of 3 open-tape-kinds.ps open-tape-kinds.r) κs)
      → open-tape-reads.Learnt κs a r x
      → OpenTapeSeen a.0.now a.1.0.now a.1.1.0.now r x.1.1.0.now
  open_tape-says r x h = h

module _ (κs : Lifetimes.Lfts 1) (a : World.ArgsD read-ticket'.signature κs) where
  read_ticket_asks : read-ticket-reads.Asked κs a
  read_ticket_asks = tt

  read_ticket_says : (r : World.ResD read-ticket'.signature κs) (x : Clauses.AtExit (Kinds'.ended_of 1 read-ticket-kinds.ps read-ticket-kinds.r) κs)
      → read-ticket-reads.Learnt κs a r x
      → ReadTicketSeen a.0.now a.1.0 r
  read_ticket_says r x h = h

module _ (κs : Lifetimes.Lfts 3) (a : World.ArgsD list-tape'.signature κs) where
  list_tape_asks : list-tape-reads.Asked κs a
  list_tape_asks = tt

  list_tape-says : (r : World.ResD list-tape'.signature κs) (x : Clauses.AtExit (Kinds'.ended_of 3 list-tape-kinds.ps list-tape-kinds.r) κs)
      → list-tape-reads.Learnt κs a r x
      → ListTapeSeen a.0.now a.1.0.now a.1.1.0.now r x.1.1.0.now
  list_tape-says r x h = h
