-- How a reader is held against document 01's reader: the equations that the contracts are.
use Rattle.std.specs.Prelude.{◌≡◌, List, ℕ}
use Rattle.std.specs.Borrow.{Bor}
use Rattle.tape_model.specs.Reader as model
use Rattle.tape_model.specs.Reader.{ReadOutcome, reader_over, read_next, next_reply}
use Rattle.reader.specs.declared.ReadAt.{ReadAt}
use Rattle.reader.specs.declared.Reader.{Reader}
use Rattle.reader.specs.declared.ReaderReply.{ReaderReply}

-- document 01's reader over these bytes, so many tickets on
abbrev pub reader_at : List ℕ → ℕ → model.Reader
reader_at string position = record { string = string; position = position }

-- what `read_at` gave comes to, over these bytes
unfoldable pub read_outcome : List ℕ → ReadAt → ReadOutcome
read_outcome string r = record { next = reader_at string r.position; answer = next_reply r.answer }

-- document 01's reader that a reader stands for: every value of the struct stands for one
unfoldable pub reader_of : Reader → model.Reader
reader_of r = reader_at r.bytes.now r.position

-- what a call's reply comes to
unfoldable pub reader_outcome : ReaderReply → ReadOutcome
reader_outcome h = record { next = reader_of h.reader; answer = next_reply h.answer }

-- the reader r was made over lent bytes: it holds them, and is fresh
pub record Made (bytes : Bor (List ℕ)) (r : Reader) : Type 0 where
  pub same : r.bytes ≡ bytes
  pub fresh : reader_of r ≡ reader_over bytes.now

-- a call of the reader r gave h: the reader handed on holds the same bytes, and what comes of the call is document 01's
pub record NextCalled (r : Reader) (h : ReaderReply) : Type 0 where
  pub same : h.reader.bytes ≡ r.bytes
  pub outcome : reader_outcome h ≡ read_next (reader_of r)
