-- Opening a tape by a scratch: its answer is the scratch's, and the text that stands there is copied.
use mathlib.Core.Path.{◌≡◌, refl, sym, ap, ap₂, ◌∙◌}
use mathlib.Core.List.{List, ◌++◌}
use Prim.Native.Nat.{ℕ, zero, suc, ◌+◌, ◌-◌, ◌*◌, ◌≤◌}
use native.Mathlib.Omega.{arith}
use lib.ListN.{length, take, drop}
use lib.Seq.{take_at, take-length}
use Rattle.calls.specs.Calls.{Reply, refused, done, unless_refused, written_over, Result, result_of}
use Rattle.tape_model.specs.Ticket.{ticket_length}
use Rattle.tape_model.specs.declared.Totals.{Totals}
use Rattle.tape_model.specs.Tape.{unpack_tickets, tickets_in, total_net, empty_tape_length, ticket_count, plain_bytes, open_tape_refusal, open_tape}
use Rattle.tape_model.proofs.Opening.{TapeSize, text-length, plain-length}
use Rattle.tape_opening.specs.Clauses.{scratch_after, open_scratch, sealed_refusal}
use Rattle.tape_opening.proofs.Sizes.{tape_size, openable}

-- the answer where no number applies
abbrev totals : List ℕ → List ℕ → Totals
totals key tape = record { tickets = ticket_count tape; net = total_net (tickets_in (unpack_tickets (ticket_count tape) (plain_bytes key tape))) }

module _ (key tape : List ℕ) (sealed : sealed_refusal key tape ≡ 0) (scratch out : List ℕ) (room : length tape ≤ length scratch + empty_tape_length) (room-out : length tape ≤ length out + empty_tape_length) where
  text_size : TapeSize (length tape)
  text_size = tape_size key tape sealed

  text-is : ticket_length * ticket_count tape ≡ length tape - empty_tape_length
  text-is = text-length (length tape) text_size

  -- the same numbers apply, since there is room in both
  same_number : open_tape_refusal key tape scratch ≡ open_tape_refusal key tape out
  same_number = (openable key tape sealed scratch room).only_text ∙ sym (openable key tape sealed out room-out).only_text

  module _ (a : Reply Totals) (filled : List ℕ) (e : open_scratch key tape scratch ≡ record { answer = a; out = filled }) where
    told : ((open_tape key tape scratch).answer ≡ a) × (scratch_after (open_tape_refusal key tape scratch) (plain_bytes key tape) scratch ≡ filled)
    unfolding open_scratch
    told = (ap (λ (r : Result Totals). r.answer) e, ap (λ (r : Result Totals). r.out) e)

    pub not-copied : (n : ℕ) → a ≡ refused n → open_tape key tape out ≡ record { answer = a; out = out }
    unfolding open_tape result_of unless_refused
    not-copied n f = by (open_tape_refusal key tape out) (rw same_number at told.0)
      where
        by : (m : ℕ) → (result_of m (totals key tape) (plain_bytes key tape) scratch).answer ≡ a → result_of m (totals key tape) (plain_bytes key tape) out ≡ record { answer = a; out = out }
        by zero g = absurd (let z : ◌≡◌ {A = ℕ} 0 1 = cc in omega arith)
        by (suc m) g = ap (λ (b : Reply Totals). record { answer = b; out = out }) g

    pub copied_out : (k : Totals) → a ≡ done k → (piece after : List ℕ) → piece ≡ take (length tape - empty_tape_length) filled
        → after ≡ take (length piece) piece ++ drop (length piece) out → open_tape key tape out ≡ record { answer = a; out = after }
    unfolding open_tape result_of unless_refused scratch_after written_over
    copied_out k f piece after piece_is written = by (open_tape_refusal key tape out) refl (rw same_number at told.0) (rw same_number at told.1)
      where
        by : (m : ℕ) → open_tape_refusal key tape out ≡ m → (result_of m (totals key tape) (plain_bytes key tape) scratch).answer ≡ a → scratch_after m (plain_bytes key tape) scratch ≡ filled
            → result_of m (totals key tape) (plain_bytes key tape) out ≡ record { answer = a; out = after }
        by zero n g h =
            let long : length (plain_bytes key tape) ≡ length tape - empty_tape_length = plain-length key tape out n ∙ text-is in
            let plain-is : piece ≡ plain_bytes key tape = piece_is ∙ ap (take (length tape - empty_tape_length)) (sym h) ∙ take_at (plain_bytes key tape) (drop (length (plain_bytes key tape)) scratch) (length tape - empty_tape_length) long in
            ap₂ (λ (b : Reply Totals) (l : List ℕ). record { answer = b; out = l }) g
            (sym (written ∙ ap (λ (l : List ℕ). l ++ drop (length piece) out) (take-length piece) ∙ ap (λ (l : List ℕ). written_over l out) plain-is))
        by (suc m) n g h = absurd (let z : ◌≡◌ {A = ℕ} 0 1 = cc in omega arith)
