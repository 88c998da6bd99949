-- The numbers that a tape's sizes and head give, what an opening comes to by them, and what the sizes are where none of them applies.
use mathlib.Core.Path.{◌≡◌, refl}
use mathlib.Core.Bool.{Bool, true, false, not, ◌&&◌, ◌||◌}
use mathlib.Core.List.{List}
use Prim.Native.Nat.{ℕ, zero, suc, ◌+◌, ◌-◌, ◌*◌, ◌≤◌, ◌<◌}
use native.Mathlib.Omega.{arith}
use lib.Dec.{eqb}
use lib.ListN.{length, replicate}
use borrow.Author.Tests.{eq-eqb, ne_eqb, lt-ltb, le-ltb}
use Rattle.calls.specs.Calls.{◌if◌else◌, accepted, refused, unless_refused, reply_of, result_of, is_refused}
use Rattle.acorn_model.specs.Machine.{key_length}
use Rattle.tape_model.specs.Format.{in_ranges}
use Rattle.tape_model.specs.Ticket.{ticket_length, head_length, head_format, head_values_in, head_of, unpack_head}
use Rattle.acorn_model.specs.Message.{tag_matches}
use Rattle.tape_model.specs.Tape.{nonce_of, unpack_tickets, sealed_bytes, plain_bytes, ticket_limit, empty_tape_length, is_tape_length, head_bytes, ticket_count, open_tape_refusal, open_tape}
use Rattle.tape_model.proofs.Opening.{TapeSize, sizes_told, text-length}
use Rattle.tape_opening.specs.Clauses.{scratch_after, open_scratch, sealed_refusal}

-- ## The numbers

-- a head of the right length is refused by 3 or not at all
pub head_refused_by_3 : (head : List ℕ) (n : ℕ) → length head ≡ head_length → refused n ≡ unpack_head head → n ≡ 3
unfolding unpack_head unless_refused
head_refused_by_3 head n size e = by (in_ranges head_format (head_values_in head)) (rw (eq-eqb (length head) head_length size) at e)
  where
    by : (b : Bool) → refused n ≡ reply_of (3 if not b else accepted) (head_of (head_values_in head)) → n ≡ 3
    by false f = cc
    by true f = absurd (let z : ◌≡◌ {A = ℕ} 0 1 = cc in omega arith)

passed : (a b : Bool) → (2 if a else 3 if b else accepted) ≡ 0 → (a ≡ false) × (b ≡ false)
passed true b e = absurd (omega arith)
passed false true e = absurd (omega arith)
passed false false e = (refl, refl)

small : (a b : Bool) (n : ℕ) → (2 if a else 3 if b else accepted) ≡ n → n ≤ 3
small true b n e = omega (arith, e)
small false true n e = omega (arith, e)
small false false n e = omega (arith, e)

first : (a b : Bool) (n rest : ℕ) → (2 if a else 3 if b else accepted) ≡ suc n → (2 if a else 3 if b else rest) ≡ suc n
first true b n rest e = e
first false true n rest e = e
first false false n rest e = absurd (omega (arith, e))

-- the numbers that an opened tape's tag and tickets give, where no smaller one applies
unfoldable pub text_refusal : List ℕ → List ℕ → ℕ
text_refusal key tape =
    7 if not (tag_matches key (nonce_of (head_bytes tape)) (head_bytes tape) (sealed_bytes tape)) else
    8 if is_refused (unpack_tickets (ticket_count tape) (plain_bytes key tape)) else
    accepted

-- neither 2 nor 3 nor 6 applies: only the tag and the tickets can send the tape back
pub record Openable (key tape out : List ℕ) : Type 0 where
  pub key_size : length key ≡ key_length
  pub tape_size : TapeSize (length tape)
  pub room : length tape - empty_tape_length ≤ length out
  pub only_text : open_tape_refusal key tape out ≡ text_refusal key tape

module _ (key tape out : List ℕ) where
  pub refused-with : (n : ℕ) → open_tape_refusal key tape out ≡ suc n → open_tape key tape out ≡ record { answer = refused (suc n); out = out }
  unfolding open_tape result_of unless_refused
  refused-with n e = rw e

  -- the same into a scratch: it is all zeros where the number is 7 or 8
  pub refused_into : (n : ℕ) (cleared : Bool) → (eqb (suc n) 7 || eqb (suc n) 8) ≡ cleared → open_tape_refusal key tape out ≡ suc n
      → open_scratch key tape out ≡ record { answer = refused (suc n); out = replicate (length out) 0 if cleared else out }
  unfolding open_scratch scratch_after open_tape result_of unless_refused
  refused_into n cleared h e = rw (e, ne_eqb (suc n) 0 (λ w. omega arith), h)

  -- a number that key and tape give by their lengths and the head is the opening's
  module _ (n : ℕ) (number : sealed_refusal key tape ≡ n) (some : n ≡ 0 → ⊥) where
    applies : (m : ℕ) → sealed_refusal key tape ≡ suc m → open_tape_refusal key tape out ≡ suc m
    unfolding sealed_refusal open_tape_refusal
    applies m e = first _ _ m _ e

    low : n ≤ 3
    unfolding sealed_refusal
    low = small _ _ n number

    pub sent_back : open_tape key tape out ≡ record { answer = refused n; out = out }
    sent_back = by n number some
      where
        by : (m : ℕ) → sealed_refusal key tape ≡ m → (m ≡ 0 → ⊥) → open_tape key tape out ≡ record { answer = refused m; out = out }
        by zero e z = absurd (z refl)
        by (suc m) e z = refused-with m (applies m e)

    pub sent_back-at-once : open_scratch key tape out ≡ record { answer = refused n; out = out }
    sent_back-at-once = by n number some low
      where
        by : (m : ℕ) → sealed_refusal key tape ≡ m → (m ≡ 0 → ⊥) → m ≤ 3 → open_scratch key tape out ≡ record { answer = refused m; out = out }
        by zero e z l = absurd (z refl)
        by (suc m) e z l = refused_into m false (rw (ne_eqb (suc m) 7 (λ w. omega arith), ne_eqb (suc m) 8 (λ w. omega arith))) (applies m e)

-- ## Where key and tape have their sizes, and the head is in range

module _ (key tape : List ℕ) (sealed : sealed_refusal key tape ≡ 0) where
  told : (not (eqb (length key) key_length && is_tape_length (length tape)) ≡ false) × (is_refused (unpack_head (head_bytes tape)) ≡ false)
  unfolding sealed_refusal
  told = passed _ _ sealed

  sizes : (length key ≡ key_length) × TapeSize (length tape)
  sizes = sizes_told key (length tape) (is_tape_length (length tape)) refl told.0

  pub tape_size : TapeSize (length tape)
  tape_size = sizes.1

  pub text_limit : length tape ≤ ticket_length * ticket_limit + empty_tape_length
  text_limit = omega (arith, tape_size.few, text-length (length tape) tape_size)

  module _ (out : List ℕ) where
    module _ (short : length out + empty_tape_length < length tape) where
      no_room : open_tape_refusal key tape out ≡ 6
      unfolding open_tape_refusal
      no_room = rw (told.0, told.1, lt-ltb (length out) (ticket_length * ticket_count tape) (omega (arith, short, text-length (length tape) tape_size)))

      pub too_short : open_tape key tape out ≡ record { answer = refused 6; out = out }
      too_short = refused-with key tape out 5 no_room

      pub too_short_scratch : open_scratch key tape out ≡ record { answer = refused 6; out = out }
      too_short_scratch = refused_into key tape out 5 false refl no_room

    pub openable : length tape ≤ length out + empty_tape_length → Openable key tape out
    unfolding open_tape_refusal text_refusal
    openable room =
        record {
          key_size = sizes.0;
          tape_size = tape_size;
          room = omega (arith, room, tape_size.long);
          only_text = rw (told.0, told.1, le-ltb (length out) (ticket_length * ticket_count tape) (omega (arith, room, text-length (length tape) tape_size)));
        }
