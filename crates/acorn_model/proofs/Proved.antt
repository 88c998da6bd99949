-- The statements of specs/Laws.antt, proved.
use mathlib.Core.Path.{◌≡◌, refl, sym, ap, ◌∙◌}
use mathlib.Core.Bool.{Bool, true, false}
use mathlib.Core.List.{List}
use Prim.Native.Nat.{ℕ, ◌-◌, ◌≤◌}
use native.Mathlib.Omega.{arith}
use lib.ListN.{drop}
use Rattle.acorn_model.specs.Bits.{Bits}
use Rattle.acorn_model.specs.Stretches.{full_tag_length, data_end, after_data, before_final, last_bytes, tag_bytes, joined}
use Rattle.acorn_model.specs.Paper.{ciphertext, tag_of_length, decrypted, new_tag_of_length}
use Rattle.calls.specs.Calls.{◌if◌else◌, refused, done, Work, Outcome, unless_refused, refused_with, written_over, same_bytes}
use Rattle.acorn_model.specs.Machine.{Machine, Call, begin, data_call, seal_text, check_text, seal_close, check_close, output_of, is_data, fixes_right, sizes_right, over_limit, output_short, refusal, run_through, enter, cleared, count_data, count_text, begun, data_taken, data_ended, text_taken, text_ended, closed, answered, wrote, verdict, work, call}
use Rattle.acorn_model.specs.Laws.{PaperComputed, ShortTags, OpeningExact, StretchesAgree, MessageLaws, EveryLength, PieceLaws, TagLengthLaws, SentBack, SentBackLaws}
use Rattle.acorn_model.proofs.Agree.{ciphertext_agrees, tag_agrees, decrypted_agrees, new_tag_agrees}
use Rattle.acorn_model.proofs.Pieces.{message_out, message_tag, data_in_pieces, text_in_pieces}
use Rattle.acorn_model.proofs.Inverse.{decrypted-ciphertext, opens_with_tag, opens_exactly}
use Rattle.acorn_model.proofs.Relation.{sealing_by_paper, sealing_only, opening_by_paper, opening_only}
use Rattle.acorn_model.proofs.Outputs.{tag_bytes-drop, tag_bytes-length, tag-length, new_tag-length}
use Rattle.acorn_model.proofs.Refusals.{passed, works}
use Rattle.calls.proofs.Refusals.{by_number}
use Rattle.acorn_model.proofs.Whole.{opened_exactly}
use Rattle.acorn_model.proofs.Messages.{seals, opens, opens-sealed, seal_tag_under, seal_tag_over, open_tag_under, open_tag_over, open_under, seal_no_room, seal_long_data, seal_long_text, open_long_data, open_long_text, seal_refused, open_refused, sevens_alike}

module _ (tag_length : ℕ) (key nonce «data» : List ℕ) where
  module _ (fits : tag_length ≤ full_tag_length) where
    pub paper_computed : PaperComputed tag_length key nonce «data»
    paper_computed =
        record {
          sealing = sealing_by_paper tag_length fits key nonce «data»;
          sealing_only = sealing_only tag_length fits key nonce «data»;
          opening = opening_by_paper tag_length fits key nonce «data»;
          opening_only = opening_only tag_length fits key nonce «data»;
        }

    -- a tag is the last bytes of the full one, and so is the paper's
    last : (S : Bits) (short full : List ℕ) → tag_bytes tag_length S ≡ short → tag_bytes full_tag_length S ≡ full → short ≡ drop (full_tag_length - tag_length) full
    last S short full e f =
        sym e ∙ tag_bytes-drop tag_length S ∙ ap (drop (full_tag_length - tag_length)) (sym (tag_bytes-drop full_tag_length S) ∙ f)

    pub short_tags : ShortTags tag_length key nonce «data»
    short_tags =
        record {
          sealing = λ text. last (before_final false text (after_data key nonce «data»)) _ _ (tag_agrees key nonce «data» tag_length fits text)
              (tag_agrees key nonce «data» full_tag_length (omega arith) text);
          opening = λ cipher. last (before_final true cipher (after_data key nonce «data»)) _ _ (new_tag_agrees key nonce «data» tag_length fits cipher)
              (new_tag_agrees key nonce «data» full_tag_length (omega arith) cipher);
          sealing_length = tag-length key nonce «data» tag_length;
          opening_length = new_tag-length key nonce «data» tag_length;
        }

    pub opening_exact : OpeningExact tag_length key nonce «data»
    opening_exact =
        record {
          decrypts = decrypted-ciphertext key nonce «data»;
          with_tag = opens_with_tag key nonce «data» tag_length fits;
          exactly = opens_exactly key nonce «data» tag_length fits;
          whole = opened_exactly tag_length key nonce «data» fits;
        }

    pub stretches_agree : StretchesAgree tag_length key nonce «data»
    stretches_agree =
        record {
          sealing = λ text. (ciphertext_agrees key nonce «data» text, tag_agrees key nonce «data» tag_length fits text);
          opening = λ cipher. (decrypted_agrees key nonce «data» cipher, new_tag_agrees key nonce «data» tag_length fits cipher);
          sealing_pieces = λ ds ts e. (
            message_out key nonce ds false ts ∙ ciphertext_agrees key nonce (joined ds) (joined ts) ∙ ap (λ (d : List ℕ). ciphertext key nonce d (joined ts)) e,
            ap (last_bytes tag_length) (message_tag key nonce ds false ts) ∙ tag_agrees key nonce (joined ds) tag_length fits (joined ts)
                ∙ ap (λ (d : List ℕ). tag_of_length tag_length key nonce d (joined ts)) e,
          );
          opening_pieces = λ ds ts e. (
            message_out key nonce ds true ts ∙ decrypted_agrees key nonce (joined ds) (joined ts) ∙ ap (λ (d : List ℕ). decrypted key nonce d (joined ts)) e,
            ap (last_bytes tag_length) (message_tag key nonce ds true ts) ∙ new_tag_agrees key nonce (joined ds) tag_length fits (joined ts)
                ∙ ap (λ (d : List ℕ). new_tag_of_length tag_length key nonce d (joined ts)) e,
          );
        }

  pub message_laws : MessageLaws tag_length key nonce «data»
  message_laws =
      record {
        seals = seals tag_length key nonce «data»;
        opens_exactly = opens tag_length key nonce «data»;
        opens-sealed = opens-sealed tag_length key nonce «data»;
        seal_tag_under = seal_tag_under tag_length key nonce «data»;
        seal_tag_over = seal_tag_over tag_length key nonce «data»;
        open_tag_under = open_tag_under tag_length key nonce «data»;
        open_tag_over = open_tag_over tag_length key nonce «data»;
        open_under = open_under tag_length key nonce «data»;
        seal_no_room = seal_no_room tag_length key nonce «data»;
        seal_long_data = seal_long_data tag_length key nonce «data»;
        seal_long_text = seal_long_text tag_length key nonce «data»;
        open_long_data = open_long_data tag_length key nonce «data»;
        open_long_text = open_long_text tag_length key nonce «data»;
        seal_refused = seal_refused tag_length key nonce «data»;
        open_refused = open_refused tag_length key nonce «data»;
        sevens_alike = sevens_alike tag_length key nonce «data»;
      }

pub every_length : EveryLength
every_length =
    record {
      computed = λ n least most key nonce d. paper_computed n key nonce d most;
      last-bytes = λ n least most key nonce d. short_tags n key nonce d most;
      opening = λ n least most key nonce d. opening_exact n key nonce d most;
      stretches = λ n least most key nonce d. stretches_agree n key nonce d most;
      messages = message_laws;
    }

pub piece_laws : (m : Machine) → PieceLaws m
piece_laws m = record { of_data = data_in_pieces m; of_text = text_in_pieces m }

-- ## The tag's length

-- the data end leaves it
ended_length : (m : Machine) → (data_ended m).tag_length ≡ m.tag_length
unfolding data_ended run_through
ended_length m = either (is_data m.phase)
  where
    either : (b : Bool) → (run_through data_end m if b else m).tag_length ≡ m.tag_length
    either true = refl
    either false = refl

-- a call leaves it where its work does
kept : (m : Machine) (c : Call) → (work m c).next.tag_length ≡ m.tag_length → (call m c).next.tag_length ≡ m.tag_length
unfolding call refused_with
kept m c e = by_number (λ (o : Outcome Machine Work). o.next.tag_length ≡ m.tag_length) (refusal m c) (work m c) (refused_with (refusal m c) m (output_of c)) (λ _. e) (λ _. refl)

good_or_7 : (b : Bool) (m : Machine) → verdict b m ≡ (done (record { bytes = 0; steps = m.counts.steps }) if b else refused 7)
unfolding verdict answered
good_or_7 true m = refl
good_or_7 false m = refl

pub tag-length-laws : (m : Machine) → TagLengthLaws m
unfolding refusal fixes_right sizes_right over_limit output_short work wrote answered begun data_taken text_taken text_ended closed enter cleared count_data count_text run_through
tag-length-laws m =
    record {
      fixed = λ key nonce n e. ap (λ (o : Outcome Machine Work). o.next.tag_length) (works m (begin key nonce n) (passed m (begin key nonce n) e));
      kept-by-data = λ piece. kept m (data_call piece) refl;
      kept-by_sealing = λ piece out. kept m (seal_text piece out) (ended_length m);
      kept-by_checking = λ piece. kept m (check_text piece) (ended_length m);
      kept-by_seal_close = λ out. kept m (seal_close out) (ended_length m);
      kept-by_check_close = λ tag. kept m (check_close tag) (ended_length m);
      begins = λ key nonce n a. rw a;
      room = λ out a. rw a;
      given = λ tag a. rw a;
      written = λ out fits e.
          let worked = works m (seal_close out) (passed m (seal_close out) e) in (
            ap (λ (o : Outcome Machine Work). o.answer) worked
                ∙ ap (λ (k : ℕ). done (record { bytes = k; steps = (closed m).counts.steps })) (tag_bytes-length m.tag_length fits (text_ended m).state),
            ap (λ (o : Outcome Machine Work). o.out) worked ∙ ap (λ (t : List ℕ). written_over t out) (tag_bytes-drop m.tag_length (text_ended m).state),
          );
      judged = λ tag e.
          ap (λ (o : Outcome Machine Work). o.answer) (works m (check_close tag) (passed m (check_close tag) e))
          ∙ good_or_7 _ (closed m)
          ∙ ap (λ (t : List ℕ). done (record { bytes = 0; steps = (closed m).counts.steps }) if same_bytes tag t else refused 7) (tag_bytes-drop m.tag_length (text_ended m).state);
    }

-- ## A call that is sent back

sent_back : (m : Machine) (c : Call) → SentBack m c (output_of c)
unfolding call unless_refused refused_with
sent_back m c n e = rw e

pub sent_back-laws : (m : Machine) → SentBackLaws m
unfolding output_of
sent_back-laws m =
    record {
      of_begin = λ key nonce n. sent_back m (begin key nonce n);
      of_data = λ piece. sent_back m (data_call piece);
      of_seal_text = λ piece out. sent_back m (seal_text piece out);
      of_check_text = λ piece. sent_back m (check_text piece);
      of_seal_close = λ out. sent_back m (seal_close out);
      of_check_close = λ tag. sent_back m (check_close tag);
    }
