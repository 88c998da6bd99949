-- The sheet of a sealed tape, by what opening the tape answers.
use mathlib.Core.Path.{◌≡◌, refl, sym, ap, ◌∙◌}
use mathlib.Core.Bool.{Bool, true, false}
use mathlib.Core.List.{List}
use Prim.Native.Nat.{ℕ, zero, suc, ◌+◌, ◌*◌, ◌≤◌, ◌<◌}
use lib.Dec.{ltb}
use lib.ListN.{length, take, replicate}
use native.Mathlib.Omega.{arith}
use borrow.Author.Tests.{lt-ltb, le-ltb, ne_eqb}
use Rattle.calls.specs.Calls.{◌if◌else◌, Reply, refused, done, map_reply, unless_refused}
use Rattle.calls.proofs.Results.{refused_told}
use Rattle.tape_model.specs.declared.Ticket.{Ticket}
use Rattle.tape_model.specs.declared.Totals.{Totals}
use Rattle.acorn_model.specs.Machine.{key_length}
use Rattle.tape_model.specs.Ticket.{ticket_length}
use Rattle.tape_model.specs.Tape.{ticket_limit, empty_tape_length, plain_tickets, of_plain, plain_bytes, open_tape_refusal, open_tape}
use Rattle.tape_model.proofs.Opening.{was_accepted, front}
use Rattle.listing.proofs.Inputs.{long_number}
use Rattle.pay_sheet.specs.PaySheet.{contractors, Sheet, highest_rate, share, sheet_of, pay_sheet}
use Rattle.pay_sheet.proofs.Filled.{each-length}
use Rattle.print_pay_sheet.specs.Printed.{sheet_unless, tape_sheet}

module _ (key tape : List ℕ) (rate : ℕ) where
  abbrev number : ℕ
  number = open_tape_refusal key tape (replicate (length tape) 0)

  pub thirteen_first : highest_rate < rate → tape_sheet key tape rate ≡ refused 13
  unfolding tape_sheet
  thirteen_first h = ap (λ (b : Bool). refused 13 if b else sheet_unless number key tape rate) (lt-ltb highest_rate rate h)

  -- at a rate that is not too high: by the number that refuses the tape
  module _ (n : ℕ) (right : rate ≤ highest_rate) (e : number ≡ n) where
    by_number : tape_sheet key tape rate ≡ sheet_unless n key tape rate
    unfolding tape_sheet
    by_number = ap (λ (b : Bool). refused 13 if b else sheet_unless number key tape rate) (le-ltb highest_rate rate right) ∙ ap (λ (m : ℕ). sheet_unless m key tape rate) e

  -- a tape that is too long
  pub long_sheet : empty_tape_length + ticket_length * ticket_limit < length tape → tape_sheet key tape rate ≡ (refused 13 if ltb highest_rate rate else refused 2)
  unfolding tape_sheet unless_refused
  long_sheet h = ap (λ (m : ℕ). refused 13 if ltb highest_rate rate else sheet_unless m key tape rate) (long_number key tape (replicate (length tape) 0) h)

  pub too_long_sheet : rate ≤ highest_rate → empty_tape_length + ticket_length * ticket_limit < length tape → tape_sheet key tape rate ≡ refused 2
  unfolding unless_refused
  too_long_sheet right h = by_number 2 right (long_number key tape (replicate (length tape) 0) h)

  -- a key cut short
  pub short_sheet : rate ≤ highest_rate → length key < key_length → tape_sheet key tape rate ≡ refused 2
  unfolding open_tape_refusal unless_refused
  short_sheet right h = by_number 2 right (rw (ne_eqb (length key) key_length (λ e. omega arith)))

  -- opened into an output that is refused alike
  module _ (out after : List ℕ) (right : rate ≤ highest_rate) (alike : open_tape_refusal key tape out ≡ number) where
    pub refused_sheet : (n : ℕ) → open_tape key tape out ≡ record { answer = refused n; out = after } → tape_sheet key tape rate ≡ refused n
    unfolding open_tape unless_refused
    refused_sheet n e = let t = refused_told _ _ _ out n after e in by n (sym alike ∙ t.0) (λ z. t.1 (t.0 ∙ z))
      where
        by : (m : ℕ) → number ≡ m → (m ≡ 0 → ⊥) → tape_sheet key tape rate ≡ refused m
        by zero f z = absurd (z refl)
        by (suc m) f z = by_number (suc m) right f

    pub opened_sheet : (k : Totals) → open_tape key tape out ≡ record { answer = done k; out = after }
        → tape_sheet key tape rate ≡ pay_sheet (take (ticket_length * k.tickets) after) rate
    unfolding unless_refused
    opened_sheet k e =
        by_number 0 right (sym alike ∙ was_accepted key tape out k after e) ∙ ap (λ (plain : List ℕ). pay_sheet plain rate) (sym (front key tape out k after e))

-- ## Sixteen shares

abbrev pub Sixteen : Reply Sheet → Type 0
Sixteen (refused n) = Unit {0}
Sixteen (done sheet) = length sheet.shares ≡ contractors

pub sixteen : (key tape : List ℕ) (rate : ℕ) → Sixteen (tape_sheet key tape rate)
unfolding tape_sheet pay_sheet unless_refused of_plain map_reply sheet_of
sixteen key tape rate = by (ltb highest_rate rate) (ltb highest_rate rate) (open_tape_refusal key tape (replicate (length tape) 0)) (plain_tickets (plain_bytes key tape))
  where
    by : (b d : Bool) (n : ℕ) (r : Reply (List Ticket)) → Sixteen (refused 13 if b else unless_refused n (refused 13 if d else map_reply (sheet_of rate) r) (refused n))
    by true d n r = tt
    by false d (suc n) r = tt
    by false true zero r = tt
    by false false zero (refused n) = tt
    by false false zero (done ts) = each-length contractors (share ts rate)
