-- Document 01 on lists of calls: what a list amounts to, read off its calls, their answers and their outputs alone.
use Rattle.std.specs.Prelude.{List, [], ◌∷◌, ◌++◌, ◌≡◌, ℕ, eqb}
use Rattle.acorn_model.specs.declared.Kind.{Kind}
use Rattle.acorn_model.specs.declared.Kind.TheVariants.{Sealing, Checking}
use Rattle.acorn_model.specs.declared.Phase.TheVariants.{Closed}
use Rattle.calls.specs.Calls.{◌if◌else◌, Reply, refused, done, Work}
use Rattle.calls.specs.Lists.{Entry, if_accepted, written_by}
use Rattle.acorn_model.specs.Machine.{Machine, Call, begin, data_call, seal_text, check_text, seal_close, check_close}

-- ## What one call brings, by its arguments

-- the arguments of a begin
pub record Arguments : Type 0 where
  pub key : List ℕ
  pub nonce : List ℕ
  pub tag_length : ℕ

unfoldable pub begin_of : Call → List Arguments
begin_of (begin key nonce n) = record { key = key; nonce = nonce; tag_length = n } ∷ []
begin_of (data_call piece) = []
begin_of (seal_text piece out) = []
begin_of (check_text piece) = []
begin_of (seal_close out) = []
begin_of (check_close tag) = []

unfoldable pub data_of : Call → List ℕ
data_of (begin key nonce n) = []
data_of (data_call piece) = piece
data_of (seal_text piece out) = []
data_of (check_text piece) = []
data_of (seal_close out) = []
data_of (check_close tag) = []

-- (ciphertext, where it is taken by a checking session)
unfoldable pub text_of : Call → List ℕ
text_of (begin key nonce n) = []
text_of (data_call piece) = []
text_of (seal_text piece out) = piece
text_of (check_text piece) = piece
text_of (seal_close out) = []
text_of (check_close tag) = []

unfoldable pub tags_of : Call → List (List ℕ)
tags_of (begin key nonce n) = []
tags_of (data_call piece) = []
tags_of (seal_text piece out) = []
tags_of (check_text piece) = []
tags_of (seal_close out) = []
tags_of (check_close tag) = tag ∷ []

-- ## What of it counts, by the answer

-- of a call that was accepted, or that closed its session with 7
abbrev pub if_accepted_or7 : {A : Type 0} → Reply Work → List A → List A
if_accepted_or7 (refused n) l = l if eqb n 7 else []
if_accepted_or7 (done w) l = l

-- good or 7: the answer of a checking close that closed its session
unfoldable pub verdict_of : Call → Reply Work → List (Reply Work)
verdict_of (begin key nonce n) a = []
verdict_of (data_call piece) a = []
verdict_of (seal_text piece out) a = []
verdict_of (check_text piece) a = []
verdict_of (seal_close out) a = []
verdict_of (check_close tag) a = if_accepted_or7 a (a ∷ [])

-- ## What a list amounts to

pub record Log : Type 0 where
  -- the arguments of the accepted begins
  pub begins : List Arguments
  -- data and text taken, and the bytes written, each joined in call order
  pub «data» : List ℕ
  pub text : List ℕ
  pub written : List ℕ
  -- of the checking closes that closed the session: the tags given, and good or 7
  pub tags : List (List ℕ)
  pub verdicts : List (Reply Work)

unfoldable pub nothing : Log
nothing = record { begins = []; «data» = []; text = []; written = []; tags = []; verdicts = [] }

unfoldable pub logged : Entry Call Work → Log
logged e =
    record {
      begins = if_accepted e.answer (begin_of e.call);
      «data» = if_accepted e.answer (data_of e.call);
      text = if_accepted e.answer (text_of e.call);
      written = written_by e.answer e.out;
      tags = if_accepted_or7 e.answer (tags_of e.call);
      verdicts = verdict_of e.call e.answer;
    }

unfoldable pub join_logs : Log → Log → Log
join_logs a b =
    record {
      begins = a.begins ++ b.begins;
      «data» = a.«data» ++ b.«data»;
      text = a.text ++ b.text;
      written = a.written ++ b.written;
      tags = a.tags ++ b.tags;
      verdicts = a.verdicts ++ b.verdicts;
    }

unfoldable pub log_of : List (Entry Call Work) → Log
log_of [] = nothing
log_of (e ∷ es) = join_logs (logged e) (log_of es)

-- ## Ended lists

-- a session has ended when its phase is closed
abbrev pub Ended : Machine → Type 0
Ended m = m.phase ≡ Closed

-- the tags count in checking only
abbrev pub SameTags : Kind → Log → Log → Type 0
SameTags Sealing a b = Unit {0}
SameTags Checking a b = a.tags ≡ b.tags

-- two lists of one kind are alike in begin, data and text and, checking, in the tag given
pub record Alike (kind : Kind) (a b : Log) : Type 0 where
  pub begins : a.begins ≡ b.begins
  pub «data» : a.«data» ≡ b.«data»
  pub text : a.text ≡ b.text
  pub tags : SameTags kind a b
