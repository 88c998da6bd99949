-- `seal_tag` is whole sealing, refusals included.
use Rattle.std.proofs.Common.{◌≡◌, Err}
use native.Mathlib.Omega.{arith}
use Rattle.calls.specs.Calls.{as_reply}
use Rattle.message.proofs.Sealing.{sent_back, let_through, sealed-by_parts}
use borrow.Author.Rules.{rules}
use Rattle.message.proofs.seal_tag.Goals as goal

pub returns-in_err-check_sealing : goal.returns-in_err-check_sealing
unfolding as_reply
returns-in_err-check_sealing c =
    let a = c.args in
    let e = c.in_err-check_sealing.field-0.0 in
    let passed_on : c.from_residual.result ≡ Err e = search rules in
    rw passed_on (sent_back a.tag_length a.key.now a.nonce.now a.«data».now a.text.now a.out.now e c.in_err-check_sealing.ensures)

pub after_data-requires : goal.after_data-requires
after_data-requires c = let a = c.args in let w = (let_through a.tag_length a.key.now a.nonce.now a.«data».now a.text.now a.out.now c.in_ok-check_sealing.ensures).0 in (w.key_size, w.nonce_size)

pub slice_bounds-write_tag_bytes-count : goal.slice_bounds-write_tag_bytes-count
slice_bounds-write_tag_bytes-count c = let a = c.args in let room = (let_through a.tag_length a.key.now a.nonce.now a.«data».now a.text.now a.out.now c.in_ok-check_sealing.ensures).1 in search rules

pub slice_bounds-write_tag_bytes-start : goal.slice_bounds-write_tag_bytes-start
slice_bounds-write_tag_bytes-start c = let a = c.args in let room = (let_through a.tag_length a.key.now a.nonce.now a.«data».now a.text.now a.out.now c.in_ok-check_sealing.ensures).1 in search rules

pub overflow_add-result : goal.overflow_add-result
overflow_add-result c = let a = c.args in let w = (let_through a.tag_length a.key.now a.nonce.now a.«data».now a.text.now a.out.now c.in_ok-check_sealing.ensures).0 in omega (arith, w.text_limit, w.tag-most)

pub returns : goal.returns
unfolding as_reply
returns c =
    let a = c.args in
    sealed-by_parts a.tag_length a.key.now a.nonce.now a.«data».now a.text.now a.out.now _ _ _ _ _
    c.in_ok-check_sealing.ensures c.after_data.ensures c.seal_text-s.ensures c.end_text.ensures c.write_tag_bytes.ensures
