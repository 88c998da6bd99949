-- `acorn::write_tag` meets its contract. Final runs up to the tag; the loop writes the ks of the rest.
use mathlib.Core.Path.{◌≡◌, ap, ◌∙◌}
use Prim.Native.Nat.{◌+◌, ◌*◌, ◌-◌}
use native.Mathlib.Omega.{arith}
use borrow.Author.Rules.{rules}
use Rattle.acorn_model.specs.Stretches.{keystream, final}
use Rattle.acorn_kernel.specs.Together.{state_of}
use Rattle.acorn.proofs.StretchRuns.{state_none, state_at, written_none, written_more, written_at}
use Rattle.acorn.proofs.FixedRuns.{final_takes, final_more, final_ks, tag_all, tag_refused}
use Rattle.acorn.proofs.write_tag.Goals as goal

pub returns-then-out-lt-TAG_BYTES : goal.returns-then-out-lt-TAG_BYTES
returns-then-out-lt-TAG_BYTES c = tag_refused (state_of c.args.s) c.args.out.now (omega arith)

pub loop-k-init : goal.loop-k-init
loop-k-init c = record { state = state_none _ _; output = written_none _ _ }

pub loop-k-preserved : goal.loop-k-preserved
loop-k-preserved c =
    let T = state_of c.run_steps-t.result in
    let v = c.loop-k in
    let controls = c.controls_at in
    let steps = c.together_word-ks in
    let bits = controls.result.bits in
    let step = 1051520 + 32 * v.k in
    record {
      state = state_at _ _ _ (omega arith) (final_more T (state_of v.t) (state_of steps.result.state) step (32 * v.k) steps.result.ks bits.ca bits.cb (omega arith)
          controls.ensures.ca_is controls.ensures.cb_is v.invariant.state steps.ensures);
      output = written_at _ _ _ (omega arith) (written_more (keystream final T) c.args.out.now v.out c.store_word.new.dst (4 * v.k) 4 steps.result.ks (omega arith) v.invariant.output
          (λ q l. final_ks T (state_of v.t) (state_of steps.result.state) step (32 * v.k) steps.result.ks bits.ca bits.cb (omega arith)
          controls.ensures.ca_is controls.ensures.cb_is v.invariant.state steps.ensures q (omega arith) ∙ ap (keystream final T) (omega arith)) c.store_word.ensures);
    }

pub returns : goal.returns
returns c =
    let S = state_of c.args.s in
    let reached = c.run_steps-t.ensures final 0 S (λ n x l h d p i g. let none : x ≡ 0 = search rules in final_takes n (0 + (n - 1050880) + i) x l none i) (state_none _ _) in
    tag_all S (state_of c.run_steps-t.result) c.args.out.now c.loop-k.out (state_at _ _ _ (omega arith) reached) (omega arith) (written_at _ _ _ (omega arith) c.loop-k.invariant.output)
