-- `open_rest`: a piece and what is behind it, by the laws of `Rest`.
use Prim.Native.Nat.{ℕ, ◌+◌, ◌-◌, ◌≤◌}
use mathlib.Core.Path.{◌≡◌, sym, ap, ◌∙◌}
use mathlib.Core.List.{List}
use native.Mathlib.Omega.{arith}
use lib.ListN.{length, take, drop, length-take, length-drop}
use Rattle.calls.specs.Calls.{◌if◌else◌, written_over, same_bytes}
use Rattle.acorn_model.specs.Stretches.{through, text_end, tag_bytes}
use Rattle.acorn_kernel.specs.Together.{state_of}
use Rattle.message.specs.Clauses.{rest_matches, rest_opened}
use Rattle.message.proofs.Rest.{all_left, matches_behind, next_state, piece_text, handed_over, tag_last, last_handed_over}
use Rattle.message.proofs.+open_rest.Goals as goal
use Rattle.message.proofs.+open_rest.Goals.{then-n-left, else-n-left}

pub returns-clause-value : goal.returns-clause-value
returns-clause-value t c =
    let a = c.args in
    let S = state_of a.s in
    let s = a.sealed.now in
    let tag_length : ℕ = length s - a.left in
    let n = c.min-n.result in
    let within : n + tag_length ≤ length s = omega (arith, c.requires.0, c.min-n.ensures) in
    let next = next_state S tag_length s n within _ _ _ (omega arith) c.decrypt-next.ensures in
    elim c.if-n-left.branch [
      | then-n-left w ↦
          let part = take (length s - n) (drop n s) in
          let left : length part - (a.left - n) ≡ tag_length = simp (length-take, length-drop) (omega (arith, c.requires.0, c.min-n.ensures)) in
          w.good-is ∙ w.open_rest-good.ensures.value ∙ (λ i. rest_matches (next i) (left i) (all_left S tag_length s n within i)) ∙ sym (matches_behind S tag_length s n within)
      | else-n-left w ↦
          let last : n + tag_length ≡ length s = omega (arith, c.requires.0, c.min-n.ensures, w.if-n-left.false) in
          let rest : length s - n ≡ tag_length = omega (arith, last) in
          w.good-is ∙ w.tag_is-good.ensures ∙ (λ i. same_bytes (all_left S tag_length s n within i) (tag_bytes (rest i) (through text_end (next i)))) ∙ sym (tag_last S tag_length s n within last)
    ]

pub returns-clause-out_after : goal.returns-clause-out_after
returns-clause-out_after t c =
    let a = c.args in
    let S = state_of a.s in
    let s = a.sealed.now in
    let out = a.out.now in
    let tag_length : ℕ = length s - a.left in
    let n = c.min-n.result in
    let within : n + tag_length ≤ length s = omega (arith, c.requires.0, c.min-n.ensures) in
    let next = next_state S tag_length s n within _ _ _ (omega arith) c.decrypt-next.ensures in
    let text = piece_text S tag_length s n within _ _ _ (omega arith) c.decrypt-next.ensures in
    elim c.if-n-left.branch [
      | then-n-left w ↦
          let part = take (length s - n) (drop n s) in
          let left : length part - (a.left - n) ≡ tag_length = simp (length-take, length-drop) (omega (arith, c.requires.0, c.min-n.ensures)) in
          let matched = w.open_rest-good.ensures.value ∙ (λ i. rest_matches (next i) (left i) (all_left S tag_length s n within i)) in
          let behind = w.open_rest-good.ensures.out_after ∙ (λ i. rest_opened (next i) (left i) (all_left S tag_length s n within i) (take (length out - n) (drop n out))) in
          handed_over S tag_length s n within out _ (omega (arith, c.requires.1)) _ _ _ _ w.out-is (w.good-is ∙ matched) behind text c.hand_over.ensures.out_after
      | else-n-left w ↦
          let last : n + tag_length ≡ length s = omega (arith, c.requires.0, c.min-n.ensures, w.if-n-left.false) in
          let rest : length s - n ≡ tag_length = omega (arith, last) in
          let matched = w.good-is ∙ w.tag_is-good.ensures ∙ (λ i. same_bytes (all_left S tag_length s n within i) (tag_bytes (rest i) (through text_end (next i)))) ∙ sym (tag_last S tag_length s n within last) in
          last_handed_over S tag_length s n within last _ _ out _ matched text
          (c.hand_over.ensures.out_after ∙ ap (λ (l : List ℕ). written_over (take n c.decrypt-next.new.out) l if c.if-n-left.good else l) w.out-is)
    ]
