-- For each ticket the next of its truck, and for each truck its first: how they are made from the end of the tape, and followed.
use mathlib.Core.Path.{◌≡◌, sym, ◌∙◌}
use mathlib.Core.Bool.{Bool, true, false}
use mathlib.Core.List.{List}
use Prim.Native.Nat.{ℕ, ◌+◌, ◌≤◌, ◌<◌}
use native.Mathlib.Omega.{arith}
use native.Mathlib.Decide.{dec_lt}
use lib.Dec.{leb}
use lib.ListN.{length, get_or}
use borrow.Author.Tests.{leb-true, leb-false}
use Rattle.tape_model.specs.declared.Ticket.{Ticket}
use Rattle.pairing.specs.Clauses.{truck_of, tipped_of, Linked, LinkedFrom, Seeks}

module _ (us : List Ticket) where
  -- ## Made from the end

  -- with no ticket yet, the end is the next place and the first of all
  pub link_none : (next cursors : List ℕ) → length next ≡ 5000 → length cursors ≡ 1024 → ((truck : ℕ) → truck < 1024 → get_or cursors truck 0 ≡ length us)
      → LinkedFrom us (length us) next cursors
  link_none next cursors en ec e =
      record {
        places = en;
        trucks = ec;
        linked = λ k h l. absurd (omega arith);
        first = λ t h. rw (e t h) (record { low = omega arith; high = omega arith; passed = λ k l m f. omega arith; here = λ l. absurd (omega arith) });
      }

  -- ## Followed

  module _ (start tipped : ℕ) where
    -- j is of the truck of `start`, and that truck's tickets before it are tipped too early
    pub record Sought (j : ℕ) : Type 0 where
      pub low : start ≤ j
      pub high : j ≤ length us
      pub same : (truck : ℕ) → (start < length us → truck_of us start ≡ truck) → j < length us → truck_of us j ≡ truck
      pub early : (truck : ℕ) → (start < length us → truck_of us start ≡ truck) → (k : ℕ) → start ≤ k → k < j → truck_of us k ≡ truck → tipped_of us k + 120 < tipped

    module _ {j : ℕ} (s : Sought j) (inside : j < length us) where
      pub seek_next : (next : List ℕ) → Linked us 0 next → (time : ℕ) (reached : Bool) → time ≡ tipped_of us j → reached ≡ leb tipped (time + 120) → reached ≡ false
          → (i : ℕ) → i ≡ get_or next j 0 → Sought i × (j < i)
      seek_next next links time reached et er not_yet i e =
          let f = links j (omega arith) inside in
          let late = leb-false tipped (time + 120) (sym er ∙ not_yet) in
          rw e (
            record {
              low = omega (arith, f.low, s.low);
              high = f.high;
              same = λ truck g h. f.here h ∙ s.same truck g inside;
              early = λ truck g k l m t. by truck g k l m t (omega (arith, et)) (dec_lt k j) (dec_lt j k);
            },
            omega (arith, f.low),
          )
        where
          by : (truck : ℕ) → (start < length us → truck_of us start ≡ truck) → (k : ℕ) → start ≤ k → k < get_or next j 0 → truck_of us k ≡ truck → tipped_of us j + 120 < tipped
              → Dec (k < j) → Dec (j < k) → tipped_of us k + 120 < tipped
          by truck g k l m t late (yes y) d = s.early truck g k l y t
          by truck g k l m t late (no y) (yes d) = absurd ((links j (omega arith) inside).passed k (omega arith) m (t ∙ sym (s.same truck g inside)))
          by truck g k l m t late (no y) (no d) = let e : k ≡ j = omega arith in rw e late

      pub seek_found : (time : ℕ) (reached : Bool) → time ≡ tipped_of us j → reached ≡ leb tipped (time + 120) → reached ≡ true → Seeks us start tipped j
      seek_found time reached et er is-so truck g =
          record {
            low = s.low;
            high = s.high;
            passed = s.early truck g;
            here = λ h. (s.same truck g inside, omega (arith, leb-true tipped (time + 120) (sym er ∙ is-so), et));
          }
