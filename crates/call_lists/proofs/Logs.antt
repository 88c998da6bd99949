-- What lists of the machine's calls amount to: a list after a list, and what one accepted call adds.
use mathlib.Core.Path.{◌≡◌, refl, sym, ap, ◌∙◌}
use mathlib.Core.Bool.{Bool, true, false}
use mathlib.Core.List.{List, [], ◌∷◌, ◌++◌, append-nil, append_assoc}
use Prim.Native.Nat.{ℕ}
use lib.Dec.{eqb}
use lib.ListN.{length, take}
use lib.Seq.{take-append_seam}
use borrow.Author.Tests.{ne_eqb}
use Rattle.calls.specs.Calls.{◌if◌else◌, Reply, refused, done, Work, written_over, same_bytes}
use Rattle.acorn_model.specs.Stretches.{text_out, tag_bytes}
use Rattle.calls.specs.Lists.{Entry}
use Rattle.acorn_model.specs.Machine.{Machine, Call, begin, data_call, seal_text, check_text, seal_close, check_close, data_ended, text_ended, closed, answered, wrote, verdict, work}
use Rattle.acorn_model.specs.Lists.{begin_of, data_of, text_of, tags_of, verdict_of, Log, nothing, logged, join_logs, log_of}

-- ## A list after a list

pub followed_by-nothing : (a : Log) → join_logs a nothing ≡ a
unfolding join_logs nothing
followed_by-nothing a = simp append-nil

followed_assoc : (a b c : Log) → join_logs (join_logs a b) c ≡ join_logs a (join_logs b c)
unfolding join_logs
followed_assoc a b c = simp append_assoc

pub log_append : (es fs : List (Entry Call Work)) → log_of (es ++ fs) ≡ join_logs (log_of es) (log_of fs)
unfolding log_of
log_append [] fs = unfold join_logs nothing in refl
log_append (e ∷ es) fs = ap (join_logs (logged e)) (log_append es fs) ∙ sym (followed_assoc (logged e) (log_of es) (log_of fs))

pub log_last : (es : List (Entry Call Work)) (e : Entry Call Work) → log_of (es ++ (e ∷ [])) ≡ join_logs (log_of es) (logged e)
unfolding log_of
log_last es e = log_append es (e ∷ []) ∙ ap (join_logs (log_of es)) (followed_by-nothing (logged e))

-- ## A refused call

if_none : {A : Type 0} (b : Bool) → ◌≡◌ {A = List A} ([] if b else []) []
if_none true = refl
if_none false = refl

-- it adds nothing, unless 7 closed its session
pub refused_adds : (c : Call) (n : ℕ) (out : List ℕ) → (n ≡ 7 → ⊥) → logged (record { call = c; answer = refused n; out = out }) ≡ nothing
unfolding logged nothing tags_of verdict_of
refused_adds (begin key nonce k) n out h = rw (if_none (eqb n 7))
refused_adds (data_call piece) n out h = rw (if_none (eqb n 7))
refused_adds (seal_text piece o) n out h = rw (if_none (eqb n 7))
refused_adds (check_text piece) n out h = rw (if_none (eqb n 7))
refused_adds (seal_close o) n out h = rw (if_none (eqb n 7))
refused_adds (check_close tag) n out h = rw (ne_eqb n 7 h)

-- ## A call that does its work: an accepted one, or a close with 7

-- good or 7, after so many steps
abbrev pub good_or7 : Bool → ℕ → Reply Work
good_or7 true steps = done (record { bytes = 0; steps = steps })
good_or7 false steps = refused 7

-- what such a call of the machine m adds
abbrev pub added : Machine → Call → Log
added m (begin key nonce k) = record { begins = record { key = key; nonce = nonce; tag_length = k } ∷ []; «data» = []; text = []; written = []; tags = []; verdicts = [] }
added m (data_call piece) = record { begins = []; «data» = piece; text = []; written = []; tags = []; verdicts = [] }
added m (seal_text piece out) = record { begins = []; «data» = []; text = piece; written = text_out false piece (data_ended m).state; tags = []; verdicts = [] }
added m (check_text piece) = record { begins = []; «data» = []; text = piece; written = []; tags = []; verdicts = [] }
added m (seal_close out) = record { begins = []; «data» = []; text = []; written = tag_bytes m.tag_length (text_ended m).state; tags = []; verdicts = [] }
added m (check_close tag) = record {
  begins = [];
  «data» = [];
  text = [];
  written = [];
  tags = tag ∷ [];
  verdicts = good_or7 (same_bytes tag (tag_bytes m.tag_length (text_ended m).state)) (closed m).counts.steps ∷ [];
}

-- the bytes at the start of an output are those that were written
pub take_over : (written out : List ℕ) → take (length written) (written_over written out) ≡ written
unfolding written_over
take_over written out = take-append_seam written _

judged-adds : (b : Bool) (m : Machine) (tag : List ℕ) → logged (record { call = check_close tag; answer = verdict b m; out = [] })
    ≡ record { begins = []; «data» = []; text = []; written = []; tags = tag ∷ []; verdicts = good_or7 b m.counts.steps ∷ [] }
unfolding logged begin_of data_of text_of tags_of verdict_of verdict answered
judged-adds true m tag = refl
judged-adds false m tag = refl

pub work-adds : (m : Machine) (c : Call) → logged (record { call = c; answer = (work m c).answer; out = (work m c).out }) ≡ added m c
unfolding logged begin_of data_of text_of tags_of verdict_of work wrote answered
work-adds m (begin key nonce k) = refl
work-adds m (data_call piece) = refl
work-adds m (seal_text piece out) = rw take_over
work-adds m (check_text piece) = refl
work-adds m (seal_close out) = rw take_over
work-adds m (check_close tag) = judged-adds _ _ tag
