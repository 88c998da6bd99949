-- The answer of the call: its number, by the numbers of the two tapes and the lengths of the outputs; or what is written, by the partners found.
use mathlib.Core.Path.{◌≡◌, refl, sym, ap, ap₂, ◌∙◌}
use mathlib.Core.Bool.{Bool, true, false, ◌||◌}
use mathlib.Core.List.{List}
use Prim.Native.Nat.{ℕ, zero, suc, ◌-◌, ◌*◌, ◌≤◌}
use native.Mathlib.Omega.{arith}
use lib.Dec.{ltb}
use lib.ListN.{length, get_or, take, replicate, length-replicate}
use lib.Seq.{length-take-le}
use borrow.Author.Tests.{ltb-false}
use Rattle.std.proofs.lemmas.Bool.{or_parts}
use Rattle.calls.specs.Calls.{◌if◌else◌, Reply, refused, done, map_replies, written_over}
use Rattle.tape_model.specs.declared.Ticket.{Ticket}
use Rattle.pairing.specs.Pairing.{Pair, Paired, paired, tickets_to_pair, plain_paired, Outputs, pair_numbers, too_short, put, counts, put_unless_short, pair_tapes}
use Rattle.pairing.specs.Clauses.{unpaired, pairs_in, ToPair, Finds, outputs}
use Rattle.pairing.proofs.Leftovers.{room, first_sum, second_sum}

-- ## Numbers

-- a number that refuses the tapes refuses the call
pub refuses : (first second : List ℕ) (n : ℕ) → plain_paired first second ≡ refused n → (out : Outputs) → record { answer = refused n; out = out } ≡ pair_tapes first second out
unfolding pair_tapes
refuses first second n e out = sym (ap (λ (r : Reply Paired). put_unless_short r out) e)

pub both_done : (first second : List ℕ) (ts us : List Ticket) → tickets_to_pair first ≡ done ts → tickets_to_pair second ≡ done us → plain_paired first second ≡ done (paired ts us)
unfolding plain_paired map_replies
both_done first second ts us e f = ap₂ (map_replies paired) e f

-- ## The lists of partners

-- parts of so many zeros
part : (k : ℕ) → k ≤ 5000 → length {A = ℕ} (take k (replicate 5000 0)) ≡ k
part k h = length-take-le {A = ℕ} k (replicate 5000 0) (omega (arith, length-replicate {A = ℕ} 5000 0))

zeros : (k n j : ℕ) → ◌≡◌ {A = ℕ} (get_or (take k (replicate n 0)) j 0) 0
zeros zero n j = refl
zeros (suc k) zero j = refl
zeros (suc k) (suc n) zero = refl
zeros (suc k) (suc n) (suc j) = zeros k n j

pub scratch : (ts us : List Ticket) → length ts ≤ 5000 → length us ≤ 5000 → (partners taken : List ℕ) → (n m : ℕ) → n ≡ length ts → m ≡ length us
    → partners ≡ take n (replicate 5000 0) → taken ≡ take m (replicate 5000 0) → ToPair ts us partners taken
scratch ts us f s partners taken n m en em ep et =
    record {
      first-room = ap length ep ∙ part n (omega arith) ∙ en;
      second-room = ap length et ∙ part m (omega arith) ∙ em;
      clear = λ j. ap (λ (l : List ℕ). get_or l j 0) et ∙ zeros m 5000 j;
    }

-- ## Outputs

-- by the partners found on either tape, and how many pairs they are
module _ {ts us : List Ticket} {P T : List ℕ} {n : ℕ} (f : Finds ts us P T n) where
  abbrev found : Paired
  found = paired ts us

  -- what is left over is counted by what is paired
  pub first_counted : (n ≤ length P) × (length P - n ≡ length found.left_first)
  first_counted = let e = first_sum ts us in (omega (arith, f.first-room, f.count-is), omega (arith, f.first-room, f.count-is))

  pub second-counted : (n ≤ length T) × (length T - n ≡ length found.left_second)
  second-counted = let e = second_sum ts us in (omega (arith, f.second-room, f.count-is), omega (arith, f.second-room, f.count-is))

  numbers : length (pair_numbers found.pairs) ≡ 2 * n
  numbers = omega (arith, room found.pairs, f.count-is)

  module _ (out : Outputs) where
    abbrev short : Bool
    short = (ltb (length out.pairs) (2 * n) || ltb (length out.left_first) (length P - n)) || ltb (length out.left_second) (length T - n)

    short_is : short ≡ too_short found out
    short_is = rw (numbers, first_counted.1, second-counted.1) (grouped (ltb (length out.pairs) (2 * n)) _ _)
      where
        grouped : (a b c : Bool) → ((a || b) || c) ≡ (a || (b || c))
        grouped true b c = refl
        grouped false b c = refl

    pub six : (first second : List ℕ) → plain_paired first second ≡ done found → short ≡ true → record { answer = refused 6; out = out } ≡ pair_tapes first second out
    unfolding pair_tapes
    six first second pairs_of h =
        sym
        (ap (λ (r : Reply Paired). put_unless_short r out) pairs_of
        ∙ ap (λ (b : Bool). record { answer = refused 6; out = out } if b else record { answer = done (counts found); out = put found out }) (sym short_is ∙ h))

    module _ (h : short ≡ false) where
      rooms : (ltb (length out.pairs) (2 * n) ≡ false) × (ltb (length out.left_first) (length P - n) ≡ false) × (ltb (length out.left_second) (length T - n) ≡ false)
      rooms = let a = or_parts _ _ h in let b = or_parts _ _ a.0 in (b.0, b.1, a.1)

      pub pairs_room : length (pair_numbers (pairs_in 1 P)) ≤ length out.pairs
      pairs_room = omega (arith, ap (λ (l : List Pair). length (pair_numbers l)) f.pairs_are, numbers, ltb-false (length out.pairs) (2 * n) rooms.0)

      pub first-room : length (unpaired 1 P) ≤ length out.left_first
      first-room = omega (arith, ap length f.first-left, first_counted.1, ltb-false (length out.left_first) (length P - n) rooms.1)

      pub second-room : length (unpaired 1 T) ≤ length out.left_second
      second-room = omega (arith, ap length f.second-left, second-counted.1, ltb-false (length out.left_second) (length T - n) rooms.2)

      pub written : (first second : List ℕ) → plain_paired first second ≡ done found → (a b c : List ℕ) → a ≡ written_over (pair_numbers (pairs_in 1 P)) out.pairs → b ≡ written_over (unpaired 1 P) out.left_first
          → c ≡ written_over (unpaired 1 T) out.left_second
          → record { answer = done (record { pairs = n; left_first = length P - n; left_second = length T - n }); out = outputs a b c } ≡ pair_tapes first second out
      unfolding pair_tapes
      written first second pairs_of a b c ea eb ec =
          rw (ea, eb, ec, f.pairs_are, f.first-left, f.second-left, first_counted.1, second-counted.1, f.count-is)
          (sym
          (ap (λ (r : Reply Paired). put_unless_short r out) pairs_of
          ∙ ap (λ (b : Bool). record { answer = refused 6; out = out } if b else record { answer = done (counts found); out = put found out }) (sym short_is ∙ h)))
