-- What comes of reading, by the contracts of `Reader::new` and `Reader::next`: a reader over the bytes that opening a tape wrote hands out the
-- tape's tickets in turn, and then stays at the end; and what it does over other bytes.
use Rattle.std.specs.Prelude.{◌≡◌, true, List, [], ◌∷◌, ◌++◌, ℕ, zero, suc, ◌*◌, ◌/◌, ◌≤◌, ◌<◌, length, take, drop}
use Rattle.std.specs.Borrow.{Bor}
use Rattle.calls.specs.Calls.{Reply, refused, done, is_refused}
use Rattle.acorn_model.specs.Machine.{key_length}
use Rattle.acorn_model.specs.RefusalCases.{string}
use Rattle.tape_model.specs.declared.Ticket.{Ticket}
use Rattle.tape_model.specs.declared.Head.{Head}
use Rattle.tape_model.specs.declared.Totals.{Totals}
use Rattle.tape_model.specs.Ticket.{ticket_length, pack_ticket, unpack_ticket, head_rule}
use Rattle.tape_model.specs.Tape.{ticket_limit, tape_of, is_tickets_length, unpack_tickets, plain_tickets, total_net, open_tape}
use Rattle.tape_model.specs.Reader.{Reading, ticket, at_end, reader_over, next_reply}
use Rattle.tape_model.specs.RefusalCases.{good_ticket, last_byte_c1}
use Rattle.tape_model.specs.Laws.{Valid, readings, reader_after}
use Rattle.reader.specs.declared.Reader.{Reader}
use Rattle.reader.specs.declared.ReaderReply.{ReaderReply}
use Rattle.reader.specs.Clauses.{reader_at, reader_of, Made, NextCalled}

-- ## Calls one after the other

-- `NextCalls r answers e`: calls of `next`, the first on r and each later one on the reader that the call before it handed back, gave these
-- answers, and the last handed back e. Of each call it is known what the contract says, and nothing else.
pub data NextCalls : Reader → List (Reply Reading) → Reader → Type 0 where
  none : {r : Reader} → NextCalls r [] r
  call : {r e : Reader} {answers : List (Reply Reading)} (h : ReaderReply) → NextCalled r h → NextCalls h.reader answers e
      → NextCalls r (next_reply h.answer ∷ answers) e

-- a reader was made over lent bytes, and calls on it gave these answers and led to the reader e
pub record ReaderList (bytes : Bor (List ℕ)) (answers : List (Reply Reading)) (e : Reader) : Type 0 where
  pub first : Reader
  pub made : Made bytes first
  pub calls : NextCalls first answers e

-- ## What is handed out

-- n answers: the tickets in turn, and then the last answer again and again
abbrev pub in_turn : List Ticket → Reply Reading → ℕ → List (Reply Reading)
in_turn tickets last zero = []
in_turn [] last (suc n) = last ∷ in_turn [] last n
in_turn (t ∷ ts) last (suc n) = done (ticket t) ∷ in_turn ts last n

-- a reader over these bytes hands out these tickets in turn, and then answers the last again and again, where it does not move any more
abbrev pub HandsOut : Bor (List ℕ) → List Ticket → Reply Reading → Type 0
HandsOut bytes tickets last = (answers : List (Reply Reading)) (e : Reader) → ReaderList bytes answers e
    → (answers ≡ in_turn tickets last (length answers)) × (reader_of e ≡ reader_at bytes.now (length (take (length answers) tickets)))

pub record ReadingLaws (bytes : Bor (List ℕ)) : Type 0 where
  -- every number of calls can be made
  pub callable : (n : ℕ) → (answers : List (Reply Reading)) × (e : Reader) × ReaderList bytes answers e × (length answers ≡ n)
  -- the reader holds the bytes that it was made over
  pub same : (answers : List (Reply Reading)) (e : Reader) → ReaderList bytes answers e → e.bytes ≡ bytes
  -- the answers are those of document 01's reader, and the reader handed back last stands for the one that it comes to
  pub as_defined : (answers : List (Reply Reading)) (e : Reader) → ReaderList bytes answers e
      → (answers ≡ readings (length answers) (reader_over bytes.now)) × (reader_of e ≡ reader_after (length answers) (reader_over bytes.now))
  -- over bytes that hold tickets: these, and then the end
  pub whole : (tickets : List Ticket) → plain_tickets bytes.now ≡ done tickets → HandsOut bytes tickets (done at_end)
  -- over the bytes that opening a tape wrote: the tape's tickets, and then the end
  pub tape : (key : List ℕ) (head : Head) (tickets : List Ticket) → length key ≡ key_length → head_rule head ≡ true → Valid tickets → length tickets ≤ ticket_limit
      → (out after : List ℕ) (o : Reply Totals) → ticket_length * length tickets ≤ length out
      → open_tape key (tape_of key head tickets) out ≡ record { answer = o; out = after }
      → bytes.now ≡ take (ticket_length * length tickets) after → HandsOut bytes tickets (done at_end)
  -- over the bytes that any opening wrote: as many tickets as it answered, of the total net that it answered, and then the end
  pub opened : (key tape out after : List ℕ) (n net : ℕ) → open_tape key tape out ≡ record { answer = done (record { tickets = n; net = net }); out = after }
      → bytes.now ≡ take (ticket_length * n) after
      → (tickets : List Ticket) × (length tickets ≡ n) × (total_net tickets ≡ net) × HandsOut bytes tickets (done at_end)
  -- over bytes of a wrong size: 2
  pub wrong_size : plain_tickets bytes.now ≡ refused 2 → HandsOut bytes [] (refused 2)
  -- over bytes in which a ticket behind others does not unpack: these, and then 8
  pub bad-ticket : (before : List Ticket) → is_tickets_length (length bytes.now) ≡ true → length before < length bytes.now / ticket_length
      → unpack_tickets (length before) bytes.now ≡ done before
      → is_refused (unpack_ticket (take ticket_length (drop (ticket_length * length before) bytes.now))) ≡ true
      → HandsOut bytes before (refused 8)
  -- over all other bytes: some tickets, and then 8
  pub stops : plain_tickets bytes.now ≡ refused 8 → (before : List Ticket) × HandsOut bytes before (refused 8)
  -- document 01's example behind a good ticket: that ticket, and then 8
  pub last_byte-C1 : bytes.now ≡ pack_ticket good_ticket ++ last_byte_c1 → HandsOut bytes (good_ticket ∷ []) (refused 8)
  -- 12 bytes: 2
  pub too_short : bytes.now ≡ string 12 → HandsOut bytes [] (refused 2)
