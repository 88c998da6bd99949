-- Every call that does its work, an accepted one or a close with 7, keeps what `Reached` says.
use mathlib.Core.Path.{◌≡◌, refl, sym, ap, ap₂, ◌∙◌, subst₂}
use mathlib.Core.Bool.{Bool, true, false, ◌||◌, and-eq-true_iff, false≢true}
use mathlib.Core.List.{List, [], ◌∷◌, ◌++◌, append-nil}
use Prim.Native.Nat.{ℕ, ◌+◌, ◌≤◌}
use native.Mathlib.Omega.{arith}
use lib.Dec.{ltb}
use lib.ListN.{length, length-append}
use borrow.Author.Tests.{ltb-false}
use Rattle.acorn_model.specs.declared.Kind.{Kind}
use Rattle.acorn_model.specs.declared.Kind.TheVariants.{Sealing, Checking}
use Rattle.acorn_model.specs.declared.Phase.{Phase}
use Rattle.acorn_model.specs.declared.Phase.TheVariants.{Fresh, Data, Text, Closed}
use Rattle.acorn_model.specs.Bits.{Bits}
use Rattle.calls.specs.Calls.{◌if◌else◌, Reply, Work}
use Rattle.acorn_model.specs.Stretches.{through, data_piece, data_end, text_piece, text_end, final, full_tag_length, tag_bytes}
use Rattle.acorn_model.specs.Machine.{Counts, Machine, Call, begin, data_call, seal_text, check_text, seal_close, check_close, is_sealing, is_checking, is_fresh, is_data, is_text, tag_length_right, phase_allows, fixes_right, byte_limit, over_limit, run_through, enter, cleared, count_data, count_text, begun, data_taken, data_ended, text_taken, text_ended, closed, wrote, work}
use Rattle.acorn_model.specs.Lists.{Log, nothing, join_logs}
use Rattle.acorn_model.proofs.Pieces.{data_piece_none, data_piece-append, text_piece_none}
use Rattle.call_lists.specs.MachineLists.{fixed_length, phase_steps, ended_steps}
use Rattle.acorn_model.proofs.Refusals.{length-told, Passed}
use Rattle.call_lists.proofs.Logs.{added}
use Rattle.call_lists.proofs.ByKind.{state_append, piece_out, close_out, right_tag, written_none, written-append, tag_of_state, written_all}
use Rattle.call_lists.proofs.Reached.{InData, InText, Judged, Reached, in_phase}

only-fresh : (p : Phase) → is_fresh p ≡ true → p ≡ Fresh
only-fresh Fresh e = refl
only-fresh Data e = absurd (false≢true e)
only-fresh Text e = absurd (false≢true e)
only-fresh Closed e = absurd (false≢true e)

only-data : (p : Phase) → is_data p ≡ true → p ≡ Data
only-data Fresh e = absurd (false≢true e)
only-data Data e = refl
only-data Text e = absurd (false≢true e)
only-data Closed e = absurd (false≢true e)

-- ## Begin and data

module _ (m : Machine) (log : Log) (r : Reached m log) where
  begin_kept : (key nonce : List ℕ) (n : ℕ) → is_fresh m.phase ≡ true → tag_length_right n ≡ true
      → Reached (begun key nonce n m) (join_logs log (added m (begin key nonce n)))
  unfolding begun enter run_through cleared join_logs nothing
  begin_kept key nonce n h range =
      let p : m.phase ≡ Fresh = only-fresh m.phase h in
      let e : log ≡ nothing = in_phase m log Fresh p r in
      let base : phase_steps m.phase ≡ 0 = ap phase_steps p in
      simp append-nil (record {
        tag_length = rw e refl;
        tag_least = (length-told n range).0;
        tag_most = (length-told n range).1;
        data_bytes = r.data_bytes;
        text_bytes = r.text_bytes;
        data_fits = r.data_fits;
        text_fits = r.text_fits;
        steps = omega arith;
        means = rw e (record {
          arguments = record { key = key; nonce = nonce; tag_length = n };
          begins = refl;
          state = sym (data_piece_none _);
          text = refl;
          written = refl;
          tags = refl;
          verdicts = refl;
        });
      })

  data-kept : (piece : List ℕ) → is_data m.phase ≡ true → length log.«data» + length piece ≤ byte_limit
      → Reached (data_taken piece m) (join_logs log (added m (data_call piece)))
  unfolding data_taken count_data run_through join_logs
  data-kept piece h l =
      let p : m.phase ≡ Data = only-data m.phase h in
      let i : InData m.state log = in_phase m log Data p r in
      let len : length (log.«data» ++ piece) ≡ length log.«data» + length piece = length-append log.«data» piece in
      simp append-nil (record {
        tag_length = r.tag_length;
        tag_least = r.tag_least;
        tag_most = r.tag_most;
        data_bytes = omega arith;
        text_bytes = r.text_bytes;
        data_fits = omega arith;
        text_fits = r.text_fits;
        steps = omega arith;
        means = rw p (record {
          arguments = i.arguments;
          begins = i.begins;
          state = ap (through (data_piece piece)) i.state ∙ sym (data_piece-append log.«data» piece _);
          text = i.text;
          written = i.written;
          tags = i.tags;
          verdicts = i.verdicts;
        });
      })

-- ## Text and close

module _ (log : Log) (kind : Kind) (tag_length : ℕ) (S : Bits) (counts : Counts) where
  -- with its data ended, a machine in data is one in text that has taken no text
  data-ended : (p : Phase) → (is_data p || is_text p) ≡ true
      → let m : Machine = record { kind = kind; phase = p; tag_length = tag_length; state = S; counts = counts } in Reached m log → Reached (enter Text (data_ended m)) log
  unfolding data_ended enter run_through
  data-ended Fresh h r = absurd (false≢true h)
  data-ended Data h r =
      let i : InData S log = r.means in
      record {
        tag_length = r.tag_length;
        tag_least = r.tag_least;
        tag_most = r.tag_most;
        data_bytes = r.data_bytes;
        text_bytes = r.text_bytes;
        data_fits = r.data_fits;
        text_fits = r.text_fits;
        steps = omega arith;
        means = record {
          arguments = i.arguments;
          begins = i.begins;
          state = rw i.text (ap (through data_end) i.state ∙ sym (text_piece_none (is_checking kind) _));
          written = rw i.text (i.written ∙ sym (written_none kind i.arguments log.«data»));
          tags = i.tags;
          verdicts = i.verdicts;
        };
      }
  data-ended Text h r = r
  data-ended Closed h r = absurd (false≢true h)

-- what a piece of text and a close in the state S add
abbrev text_added : Kind → List ℕ → Bits → Log
text_added kind piece S = record { begins = []; «data» = []; text = piece; written = piece_out kind piece S; tags = []; verdicts = [] }

abbrev close_added : Kind → ℕ → Bits → List (List ℕ) → List (Reply Work) → Log
close_added kind n S tags verdicts =
    record { begins = []; «data» = []; text = []; written = close_out kind (tag_bytes n (through text_end S)); tags = tags; verdicts = verdicts }

-- a machine m whose data has ended
module _ (m : Machine) (log : Log) (r : Reached (enter Text m) log) where
  abbrev in_text : InText m.kind m.state log
  in_text = unfold enter in r.means

  text-kept : (piece : List ℕ) → length log.text + length piece ≤ byte_limit
      → Reached (enter Text (count_text (length piece) (run_through (text_piece (is_checking m.kind) piece) m)))
      (join_logs log (text_added m.kind piece m.state))
  unfolding enter count_text run_through join_logs
  text-kept piece l =
      let i = in_text in
      let len : length (log.text ++ piece) ≡ length log.text + length piece = length-append log.text piece in
      simp append-nil (record {
        tag_length = r.tag_length;
        tag_least = r.tag_least;
        tag_most = r.tag_most;
        data_bytes = r.data_bytes;
        text_bytes = omega arith;
        data_fits = r.data_fits;
        text_fits = omega arith;
        steps = omega arith;
        means = record {
          arguments = i.arguments;
          begins = i.begins;
          state = ap (through (text_piece (is_checking m.kind) piece)) i.state ∙ sym (state_append m.kind i.arguments log.«data» log.text piece);
          written =
              ap₂ (λ (w : List ℕ) (S : Bits). w ++ piece_out m.kind piece S) i.written i.state
              ∙ sym (written-append m.kind i.arguments log.«data» log.text piece);
          tags = i.tags;
          verdicts = i.verdicts;
        };
      })

  -- the length that was fixed is that of the one begin
  begun-length : m.tag_length ≡ in_text.arguments.tag_length
  begun-length = unfold enter in r.tag_length ∙ ap fixed_length in_text.begins

  tag_right : tag_bytes m.tag_length (through text_end m.state) ≡ right_tag m.kind in_text.arguments log.«data» log.text
  tag_right =
      let fits : in_text.arguments.tag_length ≤ full_tag_length = unfold enter in omega (arith, r.tag_most, begun-length) in
      ap₂ (λ (n : ℕ) (S : Bits). tag_bytes n (through text_end S)) begun-length in_text.state
      ∙ tag_of_state m.kind in_text.arguments log.«data» log.text fits

  close_kept : (tags : List (List ℕ)) (verdicts : List (Reply Work))
      → Judged m.kind (tag_bytes m.tag_length (through text_end m.state)) (run_through final (run_through text_end m)).counts.steps tags verdicts
      → Reached (enter Closed (cleared (run_through final (run_through text_end m))))
      (join_logs log (close_added m.kind m.tag_length m.state tags verdicts))
  unfolding enter cleared run_through join_logs
  close_kept tags verdicts j =
      let i = in_text in
      let count : (run_through final (run_through text_end m)).counts.steps ≡ ended_steps log = omega arith in
      simp append-nil (record {
        tag_length = r.tag_length;
        tag_least = r.tag_least;
        tag_most = r.tag_most;
        data_bytes = r.data_bytes;
        text_bytes = r.text_bytes;
        data_fits = r.data_fits;
        text_fits = r.text_fits;
        steps = count;
        means = record {
          arguments = i.arguments;
          begins = i.begins;
          written =
              ap₂ (λ (w T : List ℕ). w ++ close_out m.kind T) i.written tag_right
              ∙ sym (written_all m.kind i.arguments log.«data» log.text);
          judged = rw (← tag_right, ← count, i.tags, i.verdicts) j;
        };
      })

-- the data end leaves the kind
pub ended_kind : (m : Machine) → (data_ended m).kind ≡ m.kind
unfolding data_ended run_through
ended_kind m = either (is_data m.phase)
  where
    either : (b : Bool) → (run_through data_end m if b else m).kind ≡ m.kind
    either true = refl
    either false = refl

-- and the tag's length
pub ended_length : (m : Machine) → (data_ended m).tag_length ≡ m.tag_length
unfolding data_ended run_through
ended_length m = either (is_data m.phase)
  where
    either : (b : Bool) → (run_through data_end m if b else m).tag_length ≡ m.tag_length
    either true = refl
    either false = refl

-- ## Every call that does its work

seals : (kind : Kind) → is_sealing kind ≡ true → kind ≡ Sealing
seals Sealing e = refl
seals Checking e = absurd (false≢true e)

checks : (kind : Kind) → is_checking kind ≡ true → kind ≡ Checking
checks Sealing e = absurd (false≢true e)
checks Checking e = refl

module _ (m : Machine) (log : Log) (r : Reached m log) (h : (is_data m.phase || is_text m.phase) ≡ true) where
  abbrev ended : Reached (enter Text (data_ended m)) log
  ended = data-ended log m.kind m.tag_length m.state m.counts m.phase h r

  text-call : (kind : Kind) (piece : List ℕ) → m.kind ≡ kind → length log.text + length piece ≤ byte_limit
      → Reached (text_taken piece m) (join_logs log (text_added kind piece (data_ended m).state))
  unfolding text_taken data_ended
  text-call kind piece k l = rw (← k) (rw (ended_kind m) at (text-kept (data_ended m) log ended piece l))

  close_call : (kind : Kind) (tags : List (List ℕ)) (verdicts : List (Reply Work)) → m.kind ≡ kind
      → Judged kind (tag_bytes m.tag_length (text_ended m).state) (closed m).counts.steps tags verdicts
      → Reached (closed m) (join_logs log (close_added kind m.tag_length (data_ended m).state tags verdicts))
  unfolding closed text_ended enter cleared run_through
  close_call kind tags verdicts k j =
      let e : (data_ended m).kind ≡ kind = ended_kind m ∙ k in
      let f : (data_ended m).tag_length ≡ m.tag_length = ended_length m in
      subst₂ (λ (x : Kind) (n : ℕ). Reached (closed m) (join_logs log (close_added x n (data_ended m).state tags verdicts))) e f
      (close_kept (data_ended m) log ended tags verdicts
      (subst₂ (λ (x : Kind) (n : ℕ). Judged x (tag_bytes n (text_ended m).state) (closed m).counts.steps tags verdicts) (sym e) (sym f) j))

below_limit : (count taken more : ℕ) → count ≡ taken → ltb byte_limit (count + more) ≡ false → taken + more ≤ byte_limit
below_limit count taken more e h = omega (arith, ltb-false byte_limit (count + more) h)

pub work-kept : (m : Machine) (c : Call) (log : Log) → Passed m c → Reached m log → Reached (work m c).next (join_logs log (added m c))
unfolding work wrote phase_allows fixes_right over_limit
work-kept m (begin key nonce n) log p r = begin_kept m log r key nonce n p.phase p.fixes
work-kept m (data_call piece) log p r = data-kept m log r piece p.phase (below_limit _ _ _ r.data_bytes p.limit)
work-kept m (seal_text piece out) log p r =
    let o = (and-eq-true_iff (is_sealing m.kind) _).0 p.phase in
    text-call m log r o.1 Sealing piece (seals m.kind o.0) (below_limit _ _ _ r.text_bytes p.limit)
work-kept m (check_text piece) log p r =
    let o = (and-eq-true_iff (is_checking m.kind) _).0 p.phase in
    text-call m log r o.1 Checking piece (checks m.kind o.0) (below_limit _ _ _ r.text_bytes p.limit)
work-kept m (seal_close out) log p r =
    let o = (and-eq-true_iff (is_sealing m.kind) _).0 p.phase in
    unfold text_ended run_through in close_call m log r o.1 Sealing [] [] (seals m.kind o.0) (refl, refl)
work-kept m (check_close tag) log p r =
    let o = (and-eq-true_iff (is_checking m.kind) _).0 p.phase in
    unfold text_ended run_through in close_call m log r o.1 Checking (tag ∷ []) _ (checks m.kind o.0) (tag, refl, refl)
