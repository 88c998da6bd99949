-- The nonce of a head's bytes.
use mathlib.Core.Path.{◌≡◌, sym, ap, ◌∙◌}
use mathlib.Core.List.{List, ◌++◌}
use Prim.Native.Nat.{ℕ}
use lib.ListN.{length, take, drop, replicate}
use lib.Seq.{take-length}
use borrow.Author.Tests.{eq-eqb}
use Rattle.acorn_model.specs.Machine.{nonce_length}
use Rattle.tape_model.specs.Ticket.{head_length}
use Rattle.tape_model.specs.Tape.{nonce_of}
use Rattle.ticket.specs.Packing.{nonce_or_zeros}

module _ (head : List ℕ) (long : length head ≡ head_length) where
  pub nonce_is : nonce_or_zeros head ≡ nonce_of head
  unfolding nonce_or_zeros
  nonce_is = rw (eq-eqb (length head) head_length long)

  -- 9 bytes copied over 16 zeros
  pub nonce_filled : (nonce : List ℕ) → nonce ≡ take (length head) head ++ drop (length head) (replicate nonce_length 0) → nonce ≡ nonce_or_zeros head
  nonce_filled nonce e =
      e ∙ ap (λ (l : List ℕ). l ++ drop (length head) (replicate nonce_length 0)) (take-length head)
      ∙ ap (λ (n : ℕ). head ++ drop n (replicate nonce_length 0)) long ∙ sym nonce_is
