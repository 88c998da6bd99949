-- The sessions' lists of specs/Examples.antt: what comes of them is computed as far as phases, counts, sizes and answers go, and no step of the
-- cipher is run.
use mathlib.Core.Path.{◌≡◌, refl, sym, ap, ◌∙◌, subst₂}
use mathlib.Core.Bool.{Bool, true, false, not, true≢false}
use mathlib.Core.List.{List, [], ◌∷◌, ◌++◌, append_assoc}
use Prim.Native.Nat.{ℕ, zero, suc, ◌+◌, ◌≤◌, ◌<◌}
use native.Mathlib.Omega.{arith}
use lib.Dec.{ltb}
use lib.ListN.{length, length-append, length-replicate, get_or, replicate}
use borrow.Author.Tests.{le-ltb, eq-eqb}
use Rattle.std.proofs.lemmas.List.{get_or-replicate}
use Rattle.acorn_model.specs.declared.Kind.{Kind}
use Rattle.acorn_model.specs.declared.Kind.TheVariants.{Sealing, Checking}
use Rattle.calls.specs.Calls.{AreBytes, ◌if◌else◌, Reply, refused, done, Work, Outcome, accepted, same_bytes, unless_refused, refused_with}
use Rattle.acorn_model.specs.Stretches.{tag_of, tag_bytes}
use Rattle.acorn_model.specs.Bits.{bytes}
use Rattle.acorn_model.specs.Paper.{new_tag_of_length}
use Rattle.calls.specs.Lists.{Entry, entries, handed_on}
use Rattle.acorn_model.specs.Machine.{Machine, Call, begin, data_call, check_text, check_close, fresh, call, byte_limit, key_and_nonce_right, output_of, phase_allows, fixes_right, sizes_right, over_limit, output_short, refusal, run_through, enter, cleared, count_data, count_text, begun, data_taken, data_ended, text_taken, text_ended, closed, answered, wrote, verdict, work}
use Rattle.acorn_model.specs.Laws.{WithinLimits}
use Rattle.acorn_model.specs.Lists.{Ended, Alike, begin_of, data_of, text_of, tags_of, verdict_of, logged, join_logs, nothing, log_of}
use Rattle.calls.proofs.SameBytes.{same-bytes-refl, same-bytes-true}
use Rattle.acorn_model.proofs.Outputs.{new_tag-length}
use Rattle.acorn_model.proofs.Proved.{stretches_agree}
use Rattle.acorn_model.proofs.Refusals.{length_right, Passed, works}
use Rattle.demands.specs.Examples.{SomeSession, Finish, Answers, EndAlike, sealing_calls, checking_calls, refused_calls, sixteen_given, cut_calls, cut_checking_calls, cut_data_calls, SessionExamples}
use Rattle.demands.proofs.Sessions.{session_demand}
use Rattle.demands.proofs.Exist.{sessions_exist}
use Rattle.demands.proofs.AllPass.{AllPass, all_same}

abbrev Passing : Kind → List Call → Type 0
Passing kind cs = AllPass call work (λ m. Unit {0}) Passed (λ m c _ p. works m c p) (λ m c _. tt) (fresh kind) cs

module _ (kind : Kind) (cs : List Call) (P : List (Entry Call Work) → Machine → Type 0) where
  -- what holds of the machine's list holds of a session's
  on_session : P (entries call (fresh kind) cs) (handed_on call (fresh kind) cs) → SomeSession kind cs P
  on_session h =
      let x = sessions_exist kind cs in
      let e = (session_demand.lists kind x.0 x.1 x.2).as_machine in (
        x.0,
        x.1,
        x.2,
        x.3,
        subst₂ P (sym (e.0 ∙ ap (entries call (fresh kind)) x.3)) (sym (e.1 ∙ ap (handed_on call (fresh kind)) x.3)) h,
      )

  -- where every call passes, the machine's list is what the work comes to
  on_working : Passing kind cs → P (entries work (fresh kind) cs) (handed_on work (fresh kind) cs) → SomeSession kind cs P
  on_working p h =
      let e = all_same call work (λ m. Unit {0}) Passed (λ m c _ q. works m c q) (λ m c _. tt) (fresh kind) cs tt p in
      on_session (subst₂ P (sym e.0) (sym e.1) h)

right_sizes : (tag_length : ℕ) (key nonce «data» text : List ℕ) → WithinLimits tag_length key nonce «data» text → key_and_nonce_right key nonce ≡ true
right_sizes tag_length key nonce «data» text l = rw (l.key_size, l.nonce_size)

below : (n : ℕ) → n ≤ byte_limit → ltb byte_limit (0 + n) ≡ false
below n h = le-ltb byte_limit (0 + n) (omega arith)

module _ (tag_length : ℕ) (key nonce «data» text : List ℕ) (l : WithinLimits tag_length key nonce «data» text) where
  sealing_passes : (out tag_out : List ℕ) → length text ≤ length out → tag_length ≤ length tag_out → Passing Sealing (sealing_calls tag_length key nonce «data» text out tag_out)
  unfolding fresh work wrote begun data_taken data_ended text_taken enter run_through cleared count_data count_text phase_allows fixes_right sizes_right over_limit output_short
  sealing_passes out tag_out h k = (
    record { phase = refl; fixes = length_right tag_length l.tag-least l.tag-most; sizes = right_sizes tag_length key nonce «data» text l; limit = refl; output = refl },
    (
      record { phase = refl; fixes = refl; sizes = refl; limit = below (length «data») l.data_limit; output = refl },
      (
        record { phase = refl; fixes = refl; sizes = refl; limit = below (length text) l.text_limit; output = le-ltb (length out) (length text) h },
        (
          record { phase = refl; fixes = refl; sizes = refl; limit = refl; output = le-ltb (length tag_out) tag_length k },
          tt,
        ),
      ),
    ),
  )

  sealing : (out tag_out : List ℕ) → length text ≤ length out → tag_length ≤ length tag_out → SomeSession Sealing (sealing_calls tag_length key nonce «data» text out tag_out) Finish
  unfolding entries handed_on work wrote answered closed enter
  sealing out tag_out h k = on_working Sealing (sealing_calls tag_length key nonce «data» text out tag_out) Finish (sealing_passes out tag_out h k) (((_, refl), ((_, refl), ((_, refl), ((_, refl), tt)))), refl)

  checking_passes : (tag : List ℕ) → length tag ≡ tag_length → Passing Checking (checking_calls tag_length key nonce «data» text tag)
  unfolding fresh work wrote begun data_taken data_ended text_taken enter run_through cleared count_data count_text phase_allows fixes_right sizes_right over_limit output_short
  checking_passes tag k = (
    record { phase = refl; fixes = length_right tag_length l.tag-least l.tag-most; sizes = right_sizes tag_length key nonce «data» text l; limit = refl; output = refl },
    (
      record { phase = refl; fixes = refl; sizes = refl; limit = below (length «data») l.data_limit; output = refl },
      (
        record { phase = refl; fixes = refl; sizes = refl; limit = below (length text) l.text_limit; output = refl },
        (
          record { phase = refl; fixes = refl; sizes = eq-eqb (length tag) tag_length k; limit = refl; output = refl },
          tt,
        ),
      ),
    ),
  )

  -- the machine before its close, whose tag is the paper's
  abbrev before : Machine
  before = handed_on work (fresh Checking) (begin key nonce tag_length ∷ data_call «data» ∷ check_text text ∷ [])

  own_tag : tag_bytes before.tag_length (text_ended before).state ≡ new_tag_of_length tag_length key nonce «data» text
  unfolding handed_on fresh work wrote begun data_taken data_ended text_taken text_ended enter run_through cleared count_data count_text
  own_tag = ((stretches_agree tag_length key nonce «data» l.tag-most).opening text).1

  -- what the close answers, by whether the tag is the right one
  judged : (tag : List ℕ) (b : Bool) → same_bytes tag (new_tag_of_length tag_length key nonce «data» text) ≡ b → (work before (check_close tag)).answer ≡ verdict b (closed before)
  unfolding work
  judged tag b e = ap (λ (c : Bool). verdict c (closed before)) (ap (same_bytes tag) own_tag ∙ e)

  good : SomeSession Checking (checking_calls tag_length key nonce «data» text (new_tag_of_length tag_length key nonce «data» text)) Finish
  unfolding entries handed_on work wrote answered verdict closed enter
  good =
      let T = new_tag_of_length tag_length key nonce «data» text in
      on_working Checking (checking_calls tag_length key nonce «data» text T) Finish (checking_passes T (new_tag-length key nonce «data» tag_length text))
      (((_, refl), ((_, refl), ((_, refl), ((_, judged T true (same-bytes-refl T)), tt)))), refl)

  seven : (tag : List ℕ) → length tag ≡ tag_length → (tag ≡ new_tag_of_length tag_length key nonce «data» text → ⊥)
      → SomeSession Checking (checking_calls tag_length key nonce «data» text tag) (λ es m. ((log_of es).verdicts ≡ (refused 7 ∷ [])) × Ended m)
  unfolding entries handed_on work wrote answered verdict closed enter log_of logged join_logs nothing verdict_of
  seven tag k n =
      let e : (work before (check_close tag)).answer ≡ refused 7 = judged tag false (differ (same_bytes tag (new_tag_of_length tag_length key nonce «data» text)) refl) in
      on_working Checking (checking_calls tag_length key nonce «data» text tag) (λ es m. ((log_of es).verdicts ≡ (refused 7 ∷ [])) × Ended m) (checking_passes tag k)
      (ap (λ (a : Reply Work). verdict_of (check_close tag) a ++ []) e, refl)
    where
      differ : (b : Bool) → same_bytes tag (new_tag_of_length tag_length key nonce «data» text) ≡ b → same_bytes tag (new_tag_of_length tag_length key nonce «data» text) ≡ false
      differ true e = absurd (n (same-bytes-true tag (new_tag_of_length tag_length key nonce «data» text) e))
      differ false e = e

-- ## Refusals, and two cuts

abbrev their_answers : List (Reply Work)
their_answers = refused 1 ∷ refused 9 ∷ refused 9 ∷ refused 2 ∷ done (record { bytes = 0; steps = 1792 }) ∷ refused 5 ∷ refused 6 ∷ done (record { bytes = 8; steps = 3072 }) ∷ []

refusals : SomeSession Sealing refused_calls (Answers their_answers)
unfolding entries fresh call refusal unless_refused refused_with phase_allows fixes_right sizes_right over_limit output_short work wrote answered begun data_ended text_ended closed enter run_through cleared tag_of bytes
refusals = on_session Sealing refused_calls (Answers their_answers) refl

sixteen : SomeSession Checking sixteen_given (Answers (done (record { bytes = 0; steps = 1792 }) ∷ refused 2 ∷ []))
unfolding entries fresh call refusal unless_refused refused_with phase_allows fixes_right sizes_right over_limit output_short work wrote answered begun enter run_through cleared
sixteen = on_session Checking sixteen_given (Answers (done (record { bytes = 0; steps = 1792 }) ∷ refused 2 ∷ [])) refl

module _ (tag_length : ℕ) (key nonce «data» first second out first_out second_out tag_out : List ℕ) (l : WithinLimits tag_length key nonce «data» (first ++ second))
    (room : length (first ++ second) ≤ length out) (room₁ : length first ≤ length first_out) (room₂ : length second ≤ length second_out) (room_tag : tag_length ≤ length tag_out) where
  abbrev in_one : List Call
  in_one = sealing_calls tag_length key nonce «data» (first ++ second) out tag_out

  abbrev in_two : List Call
  in_two = cut_calls tag_length key nonce «data» first second first_out second_out tag_out

  cut_passes : Passing Sealing in_two
  unfolding fresh work wrote begun data_taken data_ended text_taken enter run_through cleared count_data count_text phase_allows fixes_right sizes_right over_limit output_short
  cut_passes = (
    record { phase = refl; fixes = length_right tag_length l.tag-least l.tag-most; sizes = right_sizes tag_length key nonce «data» (first ++ second) l; limit = refl; output = refl },
    (
      record { phase = refl; fixes = refl; sizes = refl; limit = below (length «data») l.data_limit; output = refl },
      (
        record { phase = refl; fixes = refl; sizes = refl; limit = below (length first) (omega (arith, l.text_limit, length-append first second)); output = le-ltb (length first_out) (length first) room₁ },
        (
          record {
            phase = refl;
            fixes = refl;
            sizes = refl;
            limit = le-ltb byte_limit (0 + length first + length second) (omega (arith, l.text_limit, length-append first second));
            output = le-ltb (length second_out) (length second) room₂;
          },
          (
            record { phase = refl; fixes = refl; sizes = refl; limit = refl; output = le-ltb (length tag_out) tag_length room_tag },
            tt,
          ),
        ),
      ),
    ),
  )

  cuts : SomeSession Sealing in_one (λ es m. Ended m × SomeSession Sealing in_two (EndAlike Sealing es))
  unfolding entries handed_on work wrote answered closed enter log_of logged join_logs nothing begin_of data_of text_of tags_of verdict_of
  cuts =
      on_working Sealing in_one (λ es m. Ended m × SomeSession Sealing in_two (EndAlike Sealing es)) (sealing_passes tag_length key nonce «data» (first ++ second) l out tag_out room room_tag) (
        refl,
        on_working Sealing in_two (EndAlike Sealing (entries work (fresh Sealing) in_one)) cut_passes
            (refl, record { begins = refl; «data» = refl; text = append_assoc first second []; tags = tt }),
      )

module _ (tag_length : ℕ) (key nonce «data» first second tag : List ℕ) (l : WithinLimits tag_length key nonce «data» (first ++ second)) (k : length tag ≡ tag_length) where
  abbrev check_one : List Call
  check_one = checking_calls tag_length key nonce «data» (first ++ second) tag

  abbrev check_two : List Call
  check_two = cut_checking_calls tag_length key nonce «data» first second tag

  -- the calls before the close
  abbrev firsts_one : List Call
  firsts_one = begin key nonce tag_length ∷ data_call «data» ∷ check_text (first ++ second) ∷ []

  abbrev firsts_two : List Call
  firsts_two = begin key nonce tag_length ∷ data_call «data» ∷ check_text first ∷ check_text second ∷ []

  cut-checks : Passing Checking check_two
  unfolding fresh work wrote begun data_taken data_ended text_taken enter run_through cleared count_data count_text phase_allows fixes_right sizes_right over_limit output_short
  cut-checks = (
    record { phase = refl; fixes = length_right tag_length l.tag-least l.tag-most; sizes = right_sizes tag_length key nonce «data» (first ++ second) l; limit = refl; output = refl },
    (
      record { phase = refl; fixes = refl; sizes = refl; limit = below (length «data») l.data_limit; output = refl },
      (
        record { phase = refl; fixes = refl; sizes = refl; limit = below (length first) (omega (arith, l.text_limit, length-append first second)); output = refl },
        (
          record {
            phase = refl;
            fixes = refl;
            sizes = refl;
            limit = le-ltb byte_limit (0 + length first + length second) (omega (arith, l.text_limit, length-append first second));
            output = refl;
          },
          (
            record { phase = refl; fixes = refl; sizes = eq-eqb (length tag) tag_length k; limit = refl; output = refl },
            tt,
          ),
        ),
      ),
    ),
  )

  -- the close of a list, whose answer goes by the tag
  abbrev closing : Bool → Machine → List (Entry Call Work)
  closing b m = record { call = check_close tag; answer = verdict b m; out = [] } ∷ []

  alike : (b b' : Bool) (m m' : Machine)
      → Alike Checking (log_of (entries work (fresh Checking) firsts_one ++ closing b m)) (log_of (entries work (fresh Checking) firsts_two ++ closing b' m'))
  unfolding entries work wrote answered verdict log_of logged join_logs nothing begin_of data_of text_of tags_of verdict_of
  alike true true m m' = record { begins = refl; «data» = refl; text = append_assoc first second []; tags = refl }
  alike true false m m' = record { begins = refl; «data» = refl; text = append_assoc first second []; tags = refl }
  alike false true m m' = record { begins = refl; «data» = refl; text = append_assoc first second []; tags = refl }
  alike false false m m' = record { begins = refl; «data» = refl; text = append_assoc first second []; tags = refl }

  checking_cuts : SomeSession Checking check_one (λ es m. Ended m × SomeSession Checking check_two (EndAlike Checking es))
  unfolding entries handed_on work closed enter
  checking_cuts =
      let m = handed_on work (fresh Checking) firsts_one in
      let m' = handed_on work (fresh Checking) firsts_two in
      on_working Checking check_one (λ es m. Ended m × SomeSession Checking check_two (EndAlike Checking es)) (checking_passes tag_length key nonce «data» (first ++ second) l tag k) (
        refl,
        on_working Checking check_two (EndAlike Checking (entries work (fresh Checking) check_one)) cut-checks (
          refl,
          alike (same_bytes tag (tag_bytes m.tag_length (text_ended m).state)) (same_bytes tag (tag_bytes m'.tag_length (text_ended m').state)) (closed m) (closed m'),
        ),
      )

-- ## Data in pieces, with a refused call

-- a call's work where kind and phase allow it, else 1
work_or1 : Machine → Call → Outcome Machine Work
work_or1 m c = unless_refused (1 if not (phase_allows m.kind m.phase c) else accepted) (work m c) (refused_with 1 m (output_of c))

module _ (tag_length : ℕ) (key nonce first second text out tag_out : List ℕ) (l : WithinLimits tag_length key nonce (first ++ second) text)
    (room : length text ≤ length out) (room_tag : tag_length ≤ length tag_out) where
  abbrev data_one : List Call
  data_one = sealing_calls tag_length key nonce (first ++ second) text out tag_out

  abbrev data_two : List Call
  data_two = cut_data_calls tag_length key nonce first second text out tag_out

  two_pass : AllPass call work_or1 (λ m. Unit {0}) (λ m c. call m c ≡ work_or1 m c) (λ m c _ p. p) (λ m c _. tt) (fresh Sealing) data_two
  unfolding work_or1 fresh call refusal unless_refused refused_with output_of work wrote begun data_taken data_ended text_taken enter run_through cleared count_data count_text phase_allows fixes_right sizes_right over_limit output_short
  two_pass =
      let fixes = length_right tag_length l.tag-least l.tag-most in
      let sizes = right_sizes tag_length key nonce (first ++ second) text l in
      let Within-first = below (length first) (omega (arith, l.data_limit, length-append first second)) in
      let within_both = le-ltb byte_limit (0 + length first + 0 + length second) (omega (arith, l.data_limit, length-append first second)) in
      let within_empty = le-ltb byte_limit (0 + length first + 0) (omega (arith, l.data_limit, length-append first second)) in
      let text-fits = below (length text) l.text_limit in
      let text-room = le-ltb (length out) (length text) room in
      let tag-room = le-ltb (length tag_out) tag_length room_tag in
      (rw (fixes, sizes), (rw Within-first, (rw within_empty, (refl, (rw within_both, (rw (text-fits, text-room), (rw tag-room, tt)))))))

  data_cuts : SomeSession Sealing data_one (λ es m. Ended m × SomeSession Sealing data_two (EndAlike Sealing es))
  unfolding work_or1 fresh unless_refused refused_with output_of phase_allows entries handed_on work wrote answered begun data_taken data_ended text_taken closed enter run_through cleared count_data count_text log_of logged join_logs nothing begin_of data_of text_of tags_of verdict_of
  data_cuts =
      let e = all_same call work_or1 (λ m. Unit {0}) (λ m c. call m c ≡ work_or1 m c) (λ m c _ p. p) (λ m c _. tt) (fresh Sealing) data_two tt two_pass in
      on_working Sealing data_one (λ es m. Ended m × SomeSession Sealing data_two (EndAlike Sealing es)) (sealing_passes tag_length key nonce (first ++ second) text l out tag_out room room_tag) (
        refl,
        on_session Sealing data_two (EndAlike Sealing (entries work (fresh Sealing) data_one))
            (subst₂ (EndAlike Sealing (entries work (fresh Sealing) data_one)) (sym e.0) (sym e.1)
            (refl, record { begins = refl; «data» = append_assoc first second []; text = refl; tags = tt })),
      )

-- ## Sizes and tags that there are

all_bytes : (n x : ℕ) → x < 256 → AreBytes (replicate n x)
all_bytes zero x h p = omega arith
all_bytes (suc n) x h zero = h
all_bytes (suc n) x h (suc p) = all_bytes n x h p

-- one of two tags is another than T
another : (n : ℕ) → 0 < n → (T : List ℕ) → (tag : List ℕ) × AreBytes tag × (length tag ≡ n) × (tag ≡ T → ⊥)
another n h T = by (same_bytes (replicate n 0) T) refl
  where
    by : (b : Bool) → same_bytes (replicate n 0) T ≡ b → (tag : List ℕ) × AreBytes tag × (length tag ≡ n) × (tag ≡ T → ⊥)
    by true e = (
      replicate n 1,
      all_bytes n 1 (omega arith),
      length-replicate n 1,
      λ (f : replicate n 1 ≡ T).
          let z : ◌≡◌ {A = ℕ} 1 0 = sym (get_or-replicate n 0 1 0 h) ∙ ap (λ (l : List ℕ). get_or l 0 0) (f ∙ sym (same-bytes-true (replicate n 0) T e)) ∙ get_or-replicate n 0 0 0 h in
          omega arith,
    )
    by false e = (
      replicate n 0,
      all_bytes n 0 (omega arith),
      length-replicate n 0,
      λ f. true≢false (sym (same-bytes-refl T) ∙ ap (λ (l : List ℕ). same_bytes l T) (sym f) ∙ e),
    )

pub session_examples : SessionExamples
session_examples = record {
  sealing = λ n key nonce «data» text out tag_out l. sealing n key nonce «data» text l out tag_out;
  good = good;
  seven = λ n key nonce «data» cipher tag l. seven n key nonce «data» cipher l tag;
  refusals = refusals;
  sixteen = sixteen;
  cuts = cuts;
  checking_cuts = checking_cuts;
  data_cuts = data_cuts;
  sizes = λ n least most. record { tag-least = least; tag-most = most; key_size = refl; nonce_size = refl; data_limit = omega arith; text_limit = omega arith };
  another = another;
}
