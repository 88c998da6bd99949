-- The statements of specs/Trucks.antt, proved.
use mathlib.Core.Path.{◌≡◌, refl, sym, ap, ◌∙◌}
use mathlib.Core.List.{List}
use mathlib.Core.Logic.{◌↔◌}
use Prim.Native.Nat.{ℕ, ◌+◌, ◌≤◌}
use native.Mathlib.Omega.{arith}
use lib.Dec.{leb}
use Rattle.calls.specs.Calls.{Reply, refused, done, map_reply, map_replies}
use Rattle.tape_model.specs.declared.Ticket.{Ticket}
use Rattle.tape_model.specs.Tape.{plain_tickets, of_plain, of_two_plain}
use Rattle.tape_model.proofs.Plain.{two_or_more}
use Rattle.trucks.specs.Trucks.{NumberSet, truck_count, trucks_of_two, truck_set, plain_trucks, plain_trucks_of_two, plain_truck_set}
use Rattle.trucks.specs.Words.{held, set_bits, set_words}
use Rattle.trucks.proofs.Counting.{told}
use Rattle.trucks.proofs.Proved.{truck_laws, word_laws}
use Rattle.c_answers.specs.declared.HtTruckCount.{HtTruckCount}
use Rattle.c_answers.specs.declared.HtTruckCounts.{HtTruckCounts}
use Rattle.c_answers.specs.Answers.{count_numbers, counts_numbers}
use Rattle.haul_tape.specs.Clauses.{set_after}
use Rattle.haul_tape.specs.Trucks.{TruckAnswer, TrucksOfTwoAnswer, TruckAnswers, SetAnswer, TruckExports}

-- a refused tape has a number that is not 0
abbrev Numbered : Reply (List Ticket) → Type 0
Numbered r = (n : ℕ) → r ≡ refused n → 2 ≤ n

one : Reply (List Ticket) → HtTruckCount
one p = count_numbers (map_reply truck_count p)

both : Reply (List Ticket) → Reply (List Ticket) → HtTruckCounts
both p q = counts_numbers (map_replies trucks_of_two p q)

-- by what each tape holds
done_where : (p q : Reply (List Ticket)) → Numbered p → Numbered q → ((both p q).refused ≡ 0) ↔ (((one p).refused ≡ 0) × ((one q).refused ≡ 0))
unfolding one both count_numbers counts_numbers map_reply map_replies
done_where (refused n) (refused m) h g =
    (λ e. absurd (told (leb n m) (λ f. let z : n ≡ 0 = rw f at e in omega (arith, h n refl)) (λ f. let z : m ≡ 0 = rw f at e in omega (arith, g m refl))), λ e. absurd (omega (arith, h n refl, e.0)))
done_where (refused n) (done us) h g = (λ e. absurd (omega (arith, h n refl)), λ e. absurd (omega (arith, h n refl, e.0)))
done_where (done ts) (refused m) h g = (λ e. absurd (omega (arith, g m refl)), λ e. absurd (omega (arith, g m refl, e.1)))
done_where (done ts) (done us) h g = (λ e. (refl, refl), λ e. refl)

fit : (p q : Reply (List Ticket)) → ((one p).refused ≡ 0) × ((one q).refused ≡ 0) → Numbered p → Numbered q
    → ((both p q).either + (both p q).both ≡ (one p).trucks + (one q).trucks) × ((both p q).just_one + (both p q).both ≡ (both p q).either)
unfolding one both count_numbers counts_numbers map_reply map_replies
fit (refused n) q z h g = absurd (omega (arith, h n refl, z.0))
fit (done ts) (refused m) z h g = absurd (omega (arith, g m refl, z.1))
fit (done ts) (done us) z h g = (truck_laws.either_and-both ts us, truck_laws.just_one-and-both ts us)

answers : (first second : List ℕ) (a b : HtTruckCount) (r : HtTruckCounts) → a ≡ count_numbers (plain_trucks first) → b ≡ count_numbers (plain_trucks second)
    → r ≡ counts_numbers (plain_trucks_of_two first second) → TruckAnswers a b r
unfolding one both plain_trucks plain_trucks_of_two of_plain of_two_plain
answers first second a b r ea eb er =
    let p = plain_tickets first in
    let q = plain_tickets second in
    let where_done = done_where p q (two_or_more first) (two_or_more second) in
    record {
      done_where = rw (ea, eb, er) where_done;
      fit = λ e. rw (ea, eb, er) (fit p q (where_done.0 (ap (λ (x : HtTruckCounts). x.refused) (sym er) ∙ e)) (two_or_more first) (two_or_more second));
    }

-- the words that hold a tape's trucks
module _ (plain words : List ℕ) (r : HtTruckCount) (after : List ℕ) (seen : (r ≡ count_numbers (plain_trucks plain)) × (after ≡ set_after (plain_truck_set plain) words)) where
  -- where the bytes hold tickets, and where they are refused
  module _ (ts : List Ticket) (e : plain_tickets plain ≡ done ts) where
    hold : plain_truck_set plain ≡ done (truck_set ts)
    hold = (truck_laws.of_tickets plain ts e).1

    words_are : after ≡ set_words (truck_set ts)
    words_are = seen.1 ∙ ap (λ (q : Reply NumberSet). set_after q words) hold

    trucks-held : held after ≡ truck_set ts
    trucks-held = ap held words_are ∙ word_laws.held-words (truck_set ts) (λ k h. omega (arith, (truck_laws.trucks-only plain (truck_set ts) k hold h).1))

    bits_told : (r.refused ≡ 0) × (set_bits after ≡ r.trucks)
    unfolding count_numbers
    bits_told =
        let told-by = seen.0 ∙ ap count_numbers (truck_laws.of_words plain (truck_set ts) hold) in
        (ap (λ (x : HtTruckCount). x.refused) told-by, ap set_bits words_are ∙ sym (ap (λ (x : HtTruckCount). x.trucks) told-by))

  module _ (n : ℕ) (e : plain_tickets plain ≡ refused n) where
    refused_told : (r.refused ≡ n) × (r.trucks ≡ 0) × (after ≡ words)
    unfolding count_numbers
    refused_told =
        let told-by = seen.0 ∙ ap count_numbers ((truck_laws.number plain n).0.1 e) in
        (ap (λ (x : HtTruckCount). x.refused) told-by, ap (λ (x : HtTruckCount). x.trucks) told-by, seen.1 ∙ ap (λ (q : Reply NumberSet). set_after q words) ((truck_laws.number plain n).1.1 e))

  sets : SetAnswer plain words r after
  sets =
      record {
        trucks = λ z. trucks (plain_tickets plain) refl z;
        set-bits = λ z. bits (plain_tickets plain) refl z;
        left = λ h. left (plain_tickets plain) refl h;
      }
    where
      trucks : (q : Reply (List Ticket)) → plain_tickets plain ≡ q → r.refused ≡ 0 → (ts : List Ticket) × (plain_tickets plain ≡ done ts) × (held after ≡ truck_set ts)
      trucks (refused n) e z = absurd (omega (arith, two_or_more plain n e, (refused_told n e).0))
      trucks (done ts) e z = (ts, e, trucks-held ts e)

      bits : (q : Reply (List Ticket)) → plain_tickets plain ≡ q → r.refused ≡ 0 → set_bits after ≡ r.trucks
      bits (refused n) e z = absurd (omega (arith, two_or_more plain n e, (refused_told n e).0))
      bits (done ts) e z = (bits_told ts e).1

      left : (q : Reply (List Ticket)) → plain_tickets plain ≡ q → (r.refused ≡ 0 → ⊥) → (after ≡ words) × (r.trucks ≡ 0)
      left (refused n) e h = let t = refused_told n e in (t.2, t.1)
      left (done ts) e h = absurd (h (bits_told ts e).0)

answer : (plain : List ℕ) (a : HtTruckCount) → a ≡ count_numbers (plain_trucks plain) → TruckAnswer plain a
unfolding count_numbers
answer plain a e =
    record {
      counted = λ ts h. e ∙ ap count_numbers (truck_laws.of_tickets plain ts h).0;
      number = λ n h. e ∙ ap count_numbers ((truck_laws.number plain n).0.1 h);
    }

answer_of_two : (first second : List ℕ) (r : HtTruckCounts) → r ≡ counts_numbers (plain_trucks_of_two first second) → TrucksOfTwoAnswer first second r
unfolding counts_numbers
answer_of_two first second r e =
    record {
      counted = λ ts us h g. e ∙ ap counts_numbers (truck_laws.of_two_tapes first second ts us h g);
      two = λ h. e ∙ ap counts_numbers ((truck_laws.two first second).1 h);
      eight = λ h g. e ∙ ap counts_numbers ((truck_laws.eight first second).1 (h, g));
    }

pub truck_exports : TruckExports
truck_exports = record { one = answer; of_two = answer_of_two; answers = answers; sets = sets }
