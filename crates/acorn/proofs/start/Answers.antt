-- `acorn::start` meets its contract.
use mathlib.Core.Path.{◌≡◌, sym, ◌∙◌}
use Prim.Native.Nat.{ℕ, ◌+◌, ◌-◌, ◌*◌, ◌/◌, ◌<◌}
use native.Mathlib.Omega.{arith}
use borrow.Author.Rules.{rules}
use mathlib.Core.Logic.{⊎_elim}
use Rattle.acorn_model.specs.Bits.{bit, bits_in}
use Rattle.acorn_model.specs.Stretches.{zeros, start, start_bit}
use Rattle.acorn.proofs.StretchRuns.{state_none, state_all}
use Rattle.acorn.proofs.FixedRuns.{start_key, start_nonce, start_takes, start_all, start_key_size, start_nonce_size}
use Rattle.acorn.proofs.start.Goals as goal

pub returns-then-key-ne-KEY_LENGTH : goal.returns-then-key-ne-KEY_LENGTH
returns-then-key-ne-KEY_LENGTH c =
    let a = c.args in
    c.zeros.ensures ∙ ⊎_elim (λ h. start_key_size a.key.now a.nonce.now h) (λ h. start_nonce_size a.key.now a.nonce.now h.0 h.1) c.then-key-ne-KEY_LENGTH.either

pub returns : goal.returns
returns c =
    let key = c.args.key.now in
    let nonce = c.args.nonce.now in
    let row = start key nonce in
    state_all row zeros _ 1792 (omega arith)
    (c.run_steps.ensures row 256 zeros
    (λ n x l h d p.
    let loaded : (j : ℕ) → j < 32 → bit x j ≡ start_bit key nonce (n + j) = search rules in
    start_takes key nonce 256 n x l h loaded)
    (c.run_steps-with_nonce.ensures row 128 zeros
    (λ n x l h d p.
    let loaded : (j : ℕ) → j < 32 → bit x j ≡ bits_in nonce (8 * ((n - 128) / 8) + j) = search rules in
    start_takes key nonce 128 n x l (omega arith) (λ i g. loaded i g ∙ sym (start_nonce key nonce n i (omega arith) g l h)))
    (c.run_steps-keyed.ensures row 0 zeros
    (λ n x l h d p.
    let loaded : (j : ℕ) → j < 32 → bit x j ≡ bits_in key (8 * (n / 8) + j) = search rules in
    start_takes key nonce 0 n x l (omega arith) (λ i g. loaded i g ∙ sym (start_key key nonce n i (omega arith) g h)))
    (c.zeros-2.ensures ∙ state_none _ _))))
    ∙ start_all key nonce c.if-key-ne-KEY_LENGTH.false c.if-nonce-ne-NONCE_LENGTH.false
