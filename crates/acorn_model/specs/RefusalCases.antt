-- Document 01, "What sends a call back", on sessions and whole messages: a table of cases. They are its examples, its limits from both sides, and
-- calls to which several numbers apply.
use Rattle.std.specs.Prelude.{◌≡◌, List, [], ◌∷◌, ℕ, replicate}
use Rattle.acorn_model.specs.declared.Kind.{Kind}
use Rattle.acorn_model.specs.declared.Kind.TheVariants.{Sealing, Checking}
use Rattle.acorn_model.specs.declared.Phase.{Phase}
use Rattle.acorn_model.specs.declared.Phase.TheVariants.{Fresh, Data, Text, Closed}
use Rattle.acorn_model.specs.Stretches.{full_tag_length, zeros}
use Rattle.calls.specs.Calls.{accepted}
use Rattle.acorn_model.specs.Machine.{Machine, zero_counts, with_data_bytes, with_text_bytes, Call, begin, data_call, seal_text, check_text, seal_close, check_close, refusal}
use Rattle.acorn_model.specs.Message.{seal_refusal, open_refusal}

-- a string of so many bytes
abbrev pub string : ℕ → List ℕ
string n = replicate n 0

-- a machine with this tag length, of this kind and phase, that has taken so many bytes of data and of text
abbrev pub machine_with : ℕ → Kind → Phase → ℕ → ℕ → Machine
machine_with tag_length kind phase data_bytes text_bytes =
    record { kind = kind; phase = phase; tag_length = tag_length; state = zeros; counts = with_data_bytes data_bytes (with_text_bytes text_bytes zero_counts) }

-- a call of such a machine; whole sealing and whole opening, with the lengths of tag, key, nonce, data, text or sealed bytes, and output; and the number
pub data RefusalCase : Type 0 where
  calls_with : (tag_length : ℕ) (kind : Kind) (phase : Phase) (data_bytes text_bytes : ℕ) (call : Call) (number : ℕ) → RefusalCase
  seals_with : (tag_length key nonce «data» text out number : ℕ) → RefusalCase
  opens_with : (tag_length key nonce «data» sealed_bytes out number : ℕ) → RefusalCase

abbrev pub Gets : RefusalCase → Type 0
Gets (calls_with tag_length kind phase data_bytes text_bytes call number) = refusal (machine_with tag_length kind phase data_bytes text_bytes) call ≡ number
Gets (seals_with tag_length key nonce «data» text out number) =
    seal_refusal tag_length (string key) (string nonce) (string «data») (string text) (string out) ≡ number
Gets (opens_with tag_length key nonce «data» sealed_bytes out number) =
    open_refusal tag_length (string key) (string nonce) (string «data») (string sealed_bytes) (string out) ≡ number

-- with the full tag
abbrev pub calls : Kind → Phase → ℕ → ℕ → Call → ℕ → RefusalCase
calls kind phase data_bytes text_bytes call number = calls_with full_tag_length kind phase data_bytes text_bytes call number

abbrev pub seals : (key nonce «data» text out number : ℕ) → RefusalCase
seals key nonce «data» text out number = seals_with full_tag_length key nonce «data» text out number

abbrev pub opens : (key nonce «data» sealed_bytes out number : ℕ) → RefusalCase
opens key nonce «data» sealed_bytes out number = opens_with full_tag_length key nonce «data» sealed_bytes out number

abbrev pub AllGet : List RefusalCase → Type 0
AllGet [] = Unit {0}
AllGet (c ∷ cs) = Gets c × AllGet cs

abbrev pub cipher_refusal_cases : List RefusalCase
cipher_refusal_cases =
    -- 1: each call outside its phases, and of the other kind
    calls Sealing Data 0 0 (begin (string 16) (string 16) full_tag_length) 1
    ∷ calls Sealing Text 0 0 (begin (string 16) (string 16) full_tag_length) 1
    ∷ calls Checking Closed 0 0 (begin (string 16) (string 16) full_tag_length) 1
    ∷ calls Sealing Fresh 0 0 (data_call []) 1
    ∷ calls Sealing Text 0 0 (data_call []) 1
    ∷ calls Checking Closed 0 0 (data_call []) 1
    ∷ calls Sealing Fresh 0 0 (seal_text [] []) 1
    ∷ calls Sealing Closed 0 0 (seal_text [] []) 1
    ∷ calls Checking Data 0 0 (seal_text [] []) 1
    ∷ calls Checking Fresh 0 0 (check_text []) 1
    ∷ calls Checking Closed 0 0 (check_text []) 1
    ∷ calls Sealing Data 0 0 (check_text []) 1
    ∷ calls Sealing Fresh 0 0 (seal_close (string 16)) 1
    ∷ calls Sealing Closed 0 0 (seal_close (string 16)) 1
    ∷ calls Checking Text 0 0 (seal_close (string 16)) 1
    ∷ calls Checking Fresh 0 0 (check_close (string 16)) 1
    ∷ calls Checking Closed 0 0 (check_close (string 16)) 1
    ∷ calls Sealing Text 0 0 (check_close (string 16)) 1
    -- each call in its phases
    ∷ calls Sealing Fresh 0 0 (begin (string 16) (string 16) full_tag_length) accepted
    ∷ calls Checking Fresh 0 0 (begin (string 16) (string 16) full_tag_length) accepted
    ∷ calls Sealing Data 0 0 (data_call []) accepted
    ∷ calls Checking Data 0 0 (data_call []) accepted
    ∷ calls Sealing Data 0 0 (seal_text [] []) accepted
    ∷ calls Sealing Text 0 0 (seal_text [] []) accepted
    ∷ calls Checking Data 0 0 (check_text []) accepted
    ∷ calls Checking Text 0 0 (check_text []) accepted
    ∷ calls Sealing Data 0 0 (seal_close (string 16)) accepted
    ∷ calls Sealing Text 0 0 (seal_close (string 16)) accepted
    ∷ calls Checking Data 0 0 (check_close (string 16)) accepted
    ∷ calls Checking Text 0 0 (check_close (string 16)) accepted
    -- 2
    ∷ calls Sealing Fresh 0 0 (begin (string 15) (string 16) full_tag_length) 2
    ∷ calls Sealing Fresh 0 0 (begin (string 16) (string 17) full_tag_length) 2
    ∷ calls Checking Text 0 0 (check_close (string 15)) 2
    ∷ seals 15 16 0 0 16 2
    ∷ seals 16 17 0 0 16 2
    ∷ opens 17 16 0 16 0 2
    ∷ opens 16 15 0 16 0 2
    ∷ opens 16 16 0 15 0 2
    -- 5: data and text, each counted by itself, over all the pieces
    ∷ calls Sealing Data 65535 0 (data_call (string 1)) accepted
    ∷ calls Checking Data 65536 0 (data_call []) accepted
    ∷ calls Checking Data 65536 0 (data_call (string 1)) 5
    ∷ calls Sealing Text 65536 65535 (seal_text (string 1) (string 1)) accepted
    ∷ calls Sealing Text 0 65536 (seal_text (string 1) (string 1)) 5
    ∷ calls Checking Text 65536 65535 (check_text (string 1)) accepted
    ∷ calls Checking Text 0 65536 (check_text (string 1)) 5
    -- 6
    ∷ calls Sealing Text 0 0 (seal_text (string 2) (string 1)) 6
    ∷ calls Sealing Text 0 0 (seal_text (string 2) (string 2)) accepted
    ∷ calls Sealing Text 0 0 (seal_close (string 15)) 6
    ∷ seals 16 16 0 1 16 6
    ∷ seals 16 16 0 1 17 accepted
    ∷ opens 16 16 0 18 1 6
    -- several numbers apply: the first is given
    ∷ calls Sealing Data 0 0 (begin [] [] full_tag_length) 1
    ∷ calls Sealing Text 0 0 (check_close []) 1
    ∷ calls Sealing Fresh 0 65536 (seal_text (string 1) []) 1
    ∷ calls Sealing Fresh 0 0 (seal_close []) 1
    ∷ calls Sealing Data 0 65536 (seal_text (string 1) []) 5
    ∷ seals 15 16 65537 0 0 2
    ∷ opens 15 16 65537 16 0 2
    ∷ []

-- document 02, P4: shorter tags
abbrev pub tag_length_cases : List RefusalCase
tag_length_cases =
    -- 9: 8 and 16 are the ends of the range, whatever length the machine held before
    calls Sealing Fresh 0 0 (begin (string 16) (string 16) 7) 9
    ∷ calls Sealing Fresh 0 0 (begin (string 16) (string 16) 8) accepted
    ∷ calls Checking Fresh 0 0 (begin (string 16) (string 16) 12) accepted
    ∷ calls Checking Fresh 0 0 (begin (string 16) (string 16) 16) accepted
    ∷ calls Checking Fresh 0 0 (begin (string 16) (string 16) 17) 9
    ∷ calls_with 8 Sealing Fresh 0 0 (begin (string 16) (string 16) 0) 9
    ∷ seals_with 7 16 16 0 0 16 9
    ∷ seals_with 17 16 16 0 0 17 9
    ∷ opens_with 7 16 16 0 16 16 9
    ∷ opens_with 17 16 16 0 17 16 9
    -- 1 before 9, and 9 before 2, 5 and 6
    ∷ calls Sealing Data 0 0 (begin (string 16) (string 16) 7) 1
    ∷ calls Sealing Fresh 0 0 (begin (string 15) (string 16) 7) 9
    ∷ calls Sealing Fresh 0 0 (begin (string 16) [] 17) 9
    ∷ calls Sealing Fresh 0 0 (begin (string 15) (string 16) 8) 2
    ∷ seals_with 7 15 16 65537 0 0 9
    ∷ opens_with 17 16 15 0 0 0 9
    ∷ seals_with 8 15 16 65537 0 0 2
    -- 2: a tag of another length than the one fixed; sealed bytes shorter than it
    ∷ calls_with 8 Checking Text 0 0 (check_close (string 8)) accepted
    ∷ calls_with 8 Checking Text 0 0 (check_close (string 16)) 2
    ∷ calls_with 8 Checking Text 0 0 (check_close (string 7)) 2
    ∷ calls Checking Text 0 0 (check_close (string 8)) 2
    ∷ opens_with 8 16 16 0 7 0 2
    ∷ opens_with 12 16 16 0 11 0 2
    -- 5: of sealed bytes those before the tag are counted
    ∷ opens_with 8 16 16 0 65545 65537 5
    -- 6: as many bytes as are fixed
    ∷ calls_with 8 Sealing Text 0 0 (seal_close (string 8)) accepted
    ∷ calls_with 8 Sealing Text 0 0 (seal_close (string 7)) 6
    ∷ calls_with 12 Sealing Data 0 0 (seal_close (string 11)) 6
    ∷ seals_with 8 16 16 0 1 9 accepted
    ∷ seals_with 8 16 16 0 1 8 6
    ∷ opens_with 8 16 16 0 10 1 6
    ∷ []
