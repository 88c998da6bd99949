-- What a call of document 01's reader comes to, case by case.
use mathlib.Core.Path.{◌≡◌, sym, ap, ◌∙◌}
use mathlib.Core.Bool.{Bool, true, false, not}
use mathlib.Core.List.{List}
use Prim.Native.Nat.{ℕ, ◌*◌, ◌/◌, ◌<◌, ◌≤◌}
use native.Mathlib.Omega.{arith}
use lib.ListN.{length, take, drop, length-drop}
use lib.Seq.{length-take-le}
use borrow.Author.Tests.{le-leb, lt-leb}
use Rattle.calls.specs.Calls.{Reply, refused, done}
use Rattle.tape_model.specs.declared.Ticket.{Ticket}
use Rattle.tape_model.specs.Ticket.{unpack_ticket}
use Rattle.tape_model.specs.Tape.{is_tickets_length}
use Rattle.tape_model.specs.Reader.{at_end, stays, handed_out, read_next}
use Rattle.tape_model.proofs.Unpacking.{refused_by_8}
use Rattle.reader.specs.Clauses.{reader_at}

-- r: whether the bytes are of a right size
module _ (s : List ℕ) (p : ℕ) (r : Bool) (sized : r ≡ is_tickets_length (length s)) where
  pub wrong_size : not r ≡ true → stays (reader_at s p) (refused 2) ≡ read_next (reader_at s p)
  unfolding read_next
  wrong_size wrong = rw (sym sized, wrong)

  module _ (right : not r ≡ false) where
    pub no_more : length s / 13 ≤ p → stays (reader_at s p) (done at_end) ≡ read_next (reader_at s p)
    unfolding read_next
    no_more h = rw (sym sized, right, le-leb (length s / 13) p h)

    -- what the w bytes before the reader unpack to
    module _ (w : ℕ) (here : p < length s / 13) (e : w ≡ 13) where
      pub unpacked : (t : Reply Ticket) → t ≡ unpack_ticket (take w (drop (13 * p) s)) → handed_out t (reader_at s p) ≡ read_next (reader_at s p)
      unfolding read_next
      unpacked t u =
          rw (sym sized, right, lt-leb (length s / 13) p here)
          (ap (λ (x : Reply Ticket). handed_out x (reader_at s p)) (u ∙ ap (λ (n : ℕ). unpack_ticket (take n (drop (13 * p) s))) e))

      pub not_unpacked : (n : ℕ) → refused n ≡ unpack_ticket (take w (drop (13 * p) s)) → stays (reader_at s p) (refused 8) ≡ read_next (reader_at s p)
      unfolding handed_out
      not_unpacked n u =
          let l = length-take-le w (drop (13 * p) s) (simp length-drop (omega arith)) ∙ e in
          ap (λ (m : ℕ). stays (reader_at s p) (refused m)) (sym (refused_by_8 _ n l u)) ∙ unpacked (refused n) u
