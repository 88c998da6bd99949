-- A call's whole outcome, from what its tests came to and the session after it.
use Rattle.std.proofs.Common.{◌≡◌, ℕ, suc, Bool, true, false, List, [], length, refl, sym, ap, ◌∙◌, ap₂}
use Rattle.acorn_model.specs.Stretches.{tag_bytes}
use Rattle.calls.specs.declared.Refusal.{Refusal}
use Rattle.calls.specs.declared.Refusal.TheVariants.{WrongPhase, WrongLength, OverLimit, OutputTooShort, WrongTag, TagLength}
use Rattle.calls.specs.Refusals.{refusal_number}
use Rattle.calls.specs.Calls.{refused, done, answer_reply, written_over, same_bytes, unless_refused, refused_with}
use Rattle.acorn_model.specs.Machine.{Machine, Call, check_close, output_of, phase_allows, fixes_right, sizes_right, over_limit, output_short, refusal, text_ended, closed, answered, wrote, verdict, work, call}
use Rattle.acorn_model.proofs.Refusals.{Passed, never_7, works}
use Rattle.session.specs.declared.Session.{Session}
use Rattle.session.specs.declared.Reply.{Reply as SessionReply}
use Rattle.session.specs.Clauses.{machine_of, session_outcome, wrapped_machine, wrapped_outcome, Called, refused_reply, done_reply}
use Rattle.session.proofs.Wrapping.{judged, wrote-wrapped, judged-wrapped, refused_stays}

-- ## A number applies

module _ (s : Session) (c : Call) where
  -- a refused call hands the session on as it was
  refuses : (n : ℕ) → refusal (machine_of s) c ≡ suc n → (e : Refusal) → refusal_number e ≡ suc n → (r : SessionReply) → r ≡ refused_reply e s → Called s c r (output_of c)
  unfolding session_outcome answer_reply call unless_refused refused_with
  refuses n applies e number r reply =
      ap (λ (x : SessionReply). session_outcome x (output_of c)) reply ∙ ap (λ (k : ℕ). record { next = machine_of s; answer = refused k; out = output_of c }) number
      ∙ sym (refused_stays (suc n) (output_of c) (machine_of s) (λ z. never_7 (machine_of s) c (applies ∙ z))) ∙ ap wrapped_outcome (rw applies)

  module _ (r : SessionReply) where
    pub refused_1 : r ≡ refused_reply WrongPhase s → phase_allows (machine_of s).kind (machine_of s).phase c ≡ false → Called s c r (output_of c)
    unfolding refusal
    refused_1 reply a = refuses 0 (rw a) WrongPhase refl r reply

    pub refused_9 : r ≡ refused_reply TagLength s → phase_allows (machine_of s).kind (machine_of s).phase c ≡ true → fixes_right c ≡ false → Called s c r (output_of c)
    unfolding refusal
    refused_9 reply a f = refuses 8 (rw (a, f)) TagLength refl r reply

    pub refused_2 : r ≡ refused_reply WrongLength s → phase_allows (machine_of s).kind (machine_of s).phase c ≡ true → fixes_right c ≡ true
        → sizes_right (machine_of s).tag_length c ≡ false → Called s c r (output_of c)
    unfolding refusal
    refused_2 reply a f z = refuses 1 (rw (a, f, z)) WrongLength refl r reply

    pub refused_5 : r ≡ refused_reply OverLimit s → phase_allows (machine_of s).kind (machine_of s).phase c ≡ true → fixes_right c ≡ true
        → sizes_right (machine_of s).tag_length c ≡ true → over_limit (machine_of s).counts c ≡ true → Called s c r (output_of c)
    unfolding refusal
    refused_5 reply a f z l = refuses 4 (rw (a, f, z, l)) OverLimit refl r reply

    pub refused_6 : r ≡ refused_reply OutputTooShort s → phase_allows (machine_of s).kind (machine_of s).phase c ≡ true → fixes_right c ≡ true
        → sizes_right (machine_of s).tag_length c ≡ true → over_limit (machine_of s).counts c ≡ false → output_short (machine_of s).tag_length c ≡ true → Called s c r (output_of c)
    unfolding refusal
    refused_6 reply a f z l o = refuses 5 (rw (a, f, z, l, o)) OutputTooShort refl r reply

-- ## No number applies

module _ (s : Session) {c : Call} (p : Passed (machine_of s) c) where
  worked : wrapped_outcome (work (machine_of s) c) ≡ wrapped_outcome (call (machine_of s) c)
  worked = ap wrapped_outcome (sym (works (machine_of s) c p))

  -- an accepted call led to the session z and wrote
  pub writes : (written out : List ℕ) (m : Machine) → work (machine_of s) c ≡ wrote written m out
      → (z : Session) → machine_of z ≡ wrapped_machine m → (bytes : ℕ) → bytes ≡ length written → (out' : List ℕ) → out' ≡ written_over written out
      → (r : SessionReply) → r ≡ done_reply bytes z → Called s c r out'
  writes written out m w z led bytes b out' o r reply =
      ap (λ (x : SessionReply). session_outcome x out') reply ∙ same ∙ sym (wrote-wrapped written out m) ∙ ap wrapped_outcome (sym w) ∙ worked
    where
      same : session_outcome (done_reply bytes z) out' ≡ wrote written (wrapped_machine m) out
      same = unfold session_outcome answer_reply wrote answered machine_of in
          λ i. record { next = led i; answer = done (record { bytes = b i; steps = (led i).counts.steps }); out = o i }

-- an accepted checking close led to the session z, and the tag is right or wrong
module _ (s : Session) {tag : List ℕ} (p : Passed (machine_of s) (check_close tag)) (z : Session) (led : machine_of z ≡ wrapped_machine (closed (machine_of s))) where
  judges : (good : Bool) → good ≡ same_bytes tag (tag_bytes (machine_of s).tag_length (text_ended (machine_of s)).state) → (r : SessionReply) → session_outcome r [] ≡ judged good (machine_of z) → Called s (check_close tag) r []
  unfolding work
  judges good g r o = o ∙ ap₂ judged g led ∙ sym (judged-wrapped _ (closed (machine_of s))) ∙ worked s p

  pub right-tag : true ≡ same_bytes tag (tag_bytes (machine_of s).tag_length (text_ended (machine_of s)).state) → (r : SessionReply) → r ≡ done_reply 0 z → Called s (check_close tag) r []
  unfolding session_outcome answer_reply verdict answered machine_of
  right-tag g r reply = judges true g r (ap (λ (x : SessionReply). session_outcome x []) reply)

  pub wrong_tag : false ≡ same_bytes tag (tag_bytes (machine_of s).tag_length (text_ended (machine_of s)).state) → (r : SessionReply) → r ≡ refused_reply WrongTag z → Called s (check_close tag) r []
  unfolding session_outcome answer_reply verdict
  wrong_tag g r reply = judges false g r (ap (λ (x : SessionReply). session_outcome x []) reply)
