-- `open_tag` is whole opening, refusals included.
use mathlib.Core.Path.{◌≡◌, ap, ◌∙◌}
use Prim.Native.Nat.{ℕ, ◌-◌}
use Rattle.std.proofs.Common.{Err, rules}
use lib.ListN.{length}
use native.Mathlib.Omega.{arith}
use Rattle.calls.specs.Calls.{as_reply}
use Rattle.acorn_kernel.specs.Together.{state_of}
use Rattle.message.specs.Clauses.{rest_matches, rest_opened}
use Rattle.message.proofs.Opening.{sent_back, let_through, openable, opened-by-rest, refused_by-tag}
use Rattle.message.proofs.open_tag.Goals as goal

pub returns-in_err-check_opening : goal.returns-in_err-check_opening
unfolding as_reply
returns-in_err-check_opening c =
    let a = c.args in
    let e = c.in_err-check_opening.field-0.0 in
    let passed_on : c.from_residual.result ≡ Err e = search rules in
    rw passed_on (sent_back a.tag_length a.key.now a.nonce.now a.«data».now a.sealed.now a.out.now e c.in_err-check_opening.ensures)

pub after_data-requires : goal.after_data-requires
after_data-requires c =
    let a = c.args in
    let o = openable a.tag_length a.key.now a.nonce.now a.«data».now a.sealed.now a.out.now (let_through _ _ _ _ _ _ c.in_ok-check_opening.ensures) in
    (o.key_size, o.nonce_size)

pub open_all-requires : goal.open_all-requires
open_all-requires c =
    let a = c.args in
    let o = openable a.tag_length a.key.now a.nonce.now a.«data».now a.sealed.now a.out.now (let_through _ _ _ _ _ _ c.in_ok-check_opening.ensures) in
    (omega arith, o.room)

pub overflow_sub-left : goal.overflow_sub-left
overflow_sub-left c =
    let a = c.args in
    (openable a.tag_length a.key.now a.nonce.now a.«data».now a.sealed.now a.out.now (let_through _ _ _ _ _ _ c.in_ok-check_opening.ensures)).tag_there

pub returns-then-open_all : goal.returns-then-open_all
unfolding as_reply
returns-then-open_all c =
    let a = c.args in
    let s = a.sealed.now in
    let only-tag = let_through a.tag_length a.key.now a.nonce.now a.«data».now s a.out.now c.in_ok-check_opening.ensures in
    let n : length s - (length s - a.tag_length) ≡ a.tag_length = omega (arith, (openable _ _ _ _ _ _ only-tag).tag_there) in
    opened-by-rest a.tag_length a.key.now a.nonce.now a.«data».now s a.out.now only-tag _ _ _ c.after_data.ensures
    (c.open_all.ensures.value ∙ ap (λ (k : ℕ). rest_matches (state_of c.after_data.result) k s) n) (c.open_all.ensures.out_after ∙ ap (λ (k : ℕ). rest_opened (state_of c.after_data.result) k s a.out.now) n) c.if-open_all.true

pub returns-else-open_all : goal.returns-else-open_all
unfolding as_reply
returns-else-open_all c =
    let a = c.args in
    let s = a.sealed.now in
    let only-tag = let_through a.tag_length a.key.now a.nonce.now a.«data».now s a.out.now c.in_ok-check_opening.ensures in
    let n : length s - (length s - a.tag_length) ≡ a.tag_length = omega (arith, (openable _ _ _ _ _ _ only-tag).tag_there) in
    refused_by-tag a.tag_length a.key.now a.nonce.now a.«data».now s a.out.now only-tag _ _ _ c.after_data.ensures
    (c.open_all.ensures.value ∙ ap (λ (k : ℕ). rest_matches (state_of c.after_data.result) k s) n) (c.open_all.ensures.out_after ∙ ap (λ (k : ℕ). rest_opened (state_of c.after_data.result) k s a.out.now) n) c.if-open_all.false
