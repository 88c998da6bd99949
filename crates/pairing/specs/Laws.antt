-- What is shown of the definitions of `Pairing`: the statements, to be read without their proofs.
use Rattle.std.specs.Prelude.{◌≡◌, true, false, ◌&&◌, ◌||◌, List, [], ◌∷◌, ◌↔◌, ◌⊎◌, ℕ, suc, ◌+◌, ◌*◌, ◌/◌, ◌≤◌, ◌<◌, length}
use Rattle.calls.specs.Calls.{is_refused, refused, done}
use Rattle.tape_model.specs.declared.Ticket.{Ticket}
use Rattle.tape_model.specs.Ticket.{ticket_length}
use Rattle.tape_model.specs.Tape.{ticket_limit, pack_tickets, is_tickets_length, plain_tickets}
use Rattle.tape_model.specs.Laws.{Valid}
use Rattle.trucks.specs.Words.{one}
use Rattle.trucks.specs.Laws.{occurrences}
use Rattle.forms.specs.Laws.{AlikeButForms}
use Rattle.pairing.specs.Pairing.{at, is_position, fits, Pair, firsts, seconds, KeepsRules, Paired, paired, times_fall, plain_paired, Outputs, pair_numbers, too_short, put, Counts, counts, pair_tapes}

-- ## Words of the statements

-- strictly rising, and none below k
abbrev pub RisingFrom : ℕ → List ℕ → Type 0
RisingFrom k [] = Unit
RisingFrom k (x ∷ l) = (k ≤ x) × RisingFrom (suc x) l

-- what a pair must be
pub record Fits (ts us : List Ticket) (p q : ℕ) : Type 0 where
  pub first-low : 1 ≤ p
  pub first-high : p ≤ length ts
  pub second-low : 1 ≤ q
  pub second-high : q ≤ length us
  pub truck : (at ts p).truck ≡ (at us q).truck
  pub first_late : (at ts p).tipped ≤ (at us q).tipped + 120
  pub second_late : (at us q).tipped ≤ (at ts p).tipped + 120

-- p and q are a pair
abbrev pub Partners : List Pair → ℕ → ℕ → Type 0
Partners [] p q = ⊥
Partners (x ∷ pairs) p q = ((x.first ≡ p) × (x.second ≡ q)) ⊎ Partners pairs p q

-- q is free when p's turn comes: no position before p has it as its partner
abbrev pub FreeFor : List Pair → ℕ → ℕ → Type 0
FreeFor pairs p q = (earlier : ℕ) → earlier < p → Partners pairs earlier q → ⊥

-- the pairing that document 02 names: in tape order, a ticket of the first tape has the earliest partner of the second that is free in its turn
pub record TakesFirstFree (ts us : List Ticket) (pairs : List Pair) : Type 0 where
  pub in_order : RisingFrom 1 (firsts pairs)
  pub fitting : (p q : ℕ) → Partners pairs p q → fits ts us p q ≡ true
  pub free : (p q : ℕ) → Partners pairs p q → FreeFor pairs p q
  pub comes_first : (p q r : ℕ) → Partners pairs p q → fits ts us p r ≡ true → FreeFor pairs p r → q ≤ r
  -- for a position that has no partner none was free that fits
  pub without : (p : ℕ) → ((q : ℕ) → Partners pairs p q → ⊥) → (q : ℕ) → fits ts us p q ≡ true → FreeFor pairs p q → ⊥

-- a ticket later on the tape has the same truck and is tipped earlier
pub record Falls (ts : List Ticket) : Type 0 where
  pub earlier : ℕ
  pub later : ℕ
  pub on-tape : (1 ≤ earlier) × (earlier < later) × (later ≤ length ts)
  pub same_truck : (at ts earlier).truck ≡ (at ts later).truck
  pub fall : (at ts later).tipped < (at ts earlier).tipped

-- ## The pairing

pub record PairedLaws (ts us : List Ticket) : Type 0 where
  pub keeps_rules : KeepsRules ts us (paired ts us).pairs
  -- where no times fall, no pairing that keeps the rules has more pairs
  pub none_has_more : times_fall ts ≡ false → times_fall us ≡ false → (pairs : List Pair) → KeepsRules ts us pairs → length pairs ≤ length (paired ts us).pairs
  -- a list of pairs is the one that document 02 names exactly where it is this one
  pub the_one : (pairs : List Pair) → TakesFirstFree ts us pairs ↔ (pairs ≡ (paired ts us).pairs)
  -- every position of either tape is in a pair or left over, and just once; no other number is
  pub each_of_first : (p : ℕ) → occurrences p (firsts (paired ts us).pairs) + occurrences p (paired ts us).left_first ≡ one (is_position ts p)
  pub each_of_second : (q : ℕ) → occurrences q (seconds (paired ts us).pairs) + occurrences q (paired ts us).left_second ≡ one (is_position us q)
  -- pairs stand in the first tape's order, what is left over in its own tape's
  pub pairs_order : RisingFrom 1 (firsts (paired ts us).pairs)
  pub first_order : RisingFrom 1 (paired ts us).left_first
  pub second_order : RisingFrom 1 (paired ts us).left_second
  -- pairs plus leftovers are the tickets of that side
  pub first_sum : length (paired ts us).pairs + length (paired ts us).left_first ≡ length ts
  pub second_sum : length (paired ts us).pairs + length (paired ts us).left_second ≡ length us
  -- exchanging the tapes gives the same pairs, their sides exchanged; and, where no times fall, as many
  pub mirrored : (p q : ℕ) → Partners (paired us ts).pairs q p ↔ Partners (paired ts us).pairs p q
  pub exchanged : times_fall ts ≡ false → times_fall us ≡ false → length (paired us ts).pairs ≡ length (paired ts us).pairs

pub record TimesLaws : Type 0 where
  -- 12 is for a ticket with a later one of its truck that is tipped earlier
  pub falls : (ts : List Ticket) → (times_fall ts ≡ true) ↔ Falls ts
  -- the form of a ticket does not matter
  pub forms : (ts ts' us us' : List Ticket) → AlikeButForms ts ts' → AlikeButForms us us' → (times_fall ts ≡ times_fall ts') × (paired ts us ≡ paired ts' us')

-- ## Opened tapes

pub record PlainPairedLaws (first second : List ℕ) : Type 0 where
  pub answered : (ts us : List Ticket) → plain_tickets first ≡ done ts → plain_tickets second ≡ done us → times_fall ts ≡ false → times_fall us ≡ false
      → plain_paired first second ≡ done (paired ts us)
  -- and nothing else is
  pub held : (found : Paired) → plain_paired first second ≡ done found
      → (ts : List Ticket) × (us : List Ticket) × (plain_tickets first ≡ done ts) × (plain_tickets second ≡ done us) × (times_fall ts ≡ false) × (times_fall us ≡ false)
      × (found ≡ paired ts us)
  -- 2 exactly where a length is wrong; 8 where both are right and a ticket does not unpack; 12 where all do and the times of a truck fall on either tape
  pub two : (plain_paired first second ≡ refused 2) ↔ ((is_tickets_length (length first) && is_tickets_length (length second)) ≡ false)
  pub eight : (plain_paired first second ≡ refused 8)
      ↔ (((is_tickets_length (length first) && is_tickets_length (length second)) ≡ true)
      × ((is_refused (plain_tickets first) || is_refused (plain_tickets second)) ≡ true))
  pub twelve : (plain_paired first second ≡ refused 12)
      ↔ ((ts : List Ticket) × (us : List Ticket) × (plain_tickets first ≡ done ts) × (plain_tickets second ≡ done us) × ((times_fall ts || times_fall us) ≡ true))
  pub no_other : (n : ℕ) → plain_paired first second ≡ refused n → (n ≡ 2) ⊎ ((n ≡ 8) ⊎ (n ≡ 12))
  -- no pairing that keeps the rules has more pairs than the one answered
  pub none_has_more : (found : Paired) → plain_paired first second ≡ done found → (ts us : List Ticket) → plain_tickets first ≡ done ts → plain_tickets second ≡ done us
      → (pairs : List Pair) → KeepsRules ts us pairs → length pairs ≤ length found.pairs
  -- exchanging the tapes gives the same number, or as many pairs
  pub exchanged_refused : (n : ℕ) → plain_paired first second ≡ refused n → plain_paired second first ≡ refused n
  pub exchanged : (found : Paired) → plain_paired first second ≡ done found
      → (other : Paired) × (plain_paired second first ≡ done other) × (length other.pairs ≡ length found.pairs)

-- ## The call

pub record CallLaws (first second : List ℕ) (out : Outputs) : Type 0 where
  -- 6 exactly where tickets were paired and an output is too short; any other number exactly where the tapes are refused with it
  pub six : ((pair_tapes first second out).answer ≡ refused 6) ↔ ((found : Paired) × (plain_paired first second ≡ done found) × (too_short found out ≡ true))
  pub number : (n : ℕ) → (n ≡ 6 → ⊥) → ((pair_tapes first second out).answer ≡ refused n) ↔ (plain_paired first second ≡ refused n)
  -- refused, it leaves every output as it was
  pub unchanged : (n : ℕ) → (pair_tapes first second out).answer ≡ refused n → (pair_tapes first second out).out ≡ out
  -- done, it answers how many, and has written them; an output keeps its length
  pub written : (found : Paired) → plain_paired first second ≡ done found → too_short found out ≡ false
      → ((pair_tapes first second out).answer ≡ done (counts found)) × ((pair_tapes first second out).out ≡ put found out)
  -- and only so is it done; pairs plus leftovers are the tickets of each tape
  pub given : (c : Counts) → (pair_tapes first second out).answer ≡ done c → (found : Paired) × (plain_paired first second ≡ done found) × (too_short found out ≡ false)
      × (c ≡ counts found) × ((pair_tapes first second out).out ≡ put found out)
  pub sums : (c : Counts) → (pair_tapes first second out).answer ≡ done c
      → (c.pairs + c.left_first ≡ length first / ticket_length) × (c.pairs + c.left_second ≡ length second / ticket_length)
  pub kept-length : (length (pair_tapes first second out).out.pairs ≡ length out.pairs)
      × (length (pair_tapes first second out).out.left_first ≡ length out.left_first)
      × (length (pair_tapes first second out).out.left_second ≡ length out.left_second)

pub record PairingLaws : Type 0 where
  pub pairings : (ts us : List Ticket) → PairedLaws ts us
  pub times : TimesLaws
  pub opened : (first second : List ℕ) → PlainPairedLaws first second
  -- so for the plain bytes of at most 5,000 valid tickets each, of either form
  pub packed : (ts us : List Ticket) → Valid ts → Valid us → length ts ≤ ticket_limit → length us ≤ ticket_limit → times_fall ts ≡ false → times_fall us ≡ false
      → plain_paired (pack_tickets ts) (pack_tickets us) ≡ done (paired ts us)
  pub calls : (first second : List ℕ) (out : Outputs) → CallLaws first second out
  -- what the definitions test
  pub fitting : (ts us : List Ticket) (p q : ℕ) → (fits ts us p q ≡ true) ↔ Fits ts us p q
  pub short : (found : Paired) (out : Outputs) → (too_short found out ≡ true)
      ↔ ((length out.pairs < 2 * length found.pairs)
      ⊎ ((length out.left_first < length found.left_first) ⊎ (length out.left_second < length found.left_second)))
  -- outputs that are always long enough: two numbers for each ticket of the shorter tape, and one for each ticket of either
  pub enough : (ts us : List Ticket) (out : Outputs) → (2 * length ts ≤ length out.pairs) ⊎ (2 * length us ≤ length out.pairs) → length ts ≤ length out.left_first
      → length us ≤ length out.left_second → too_short (paired ts us) out ≡ false
  -- two numbers a pair
  pub room : (pairs : List Pair) → length (pair_numbers pairs) ≡ 2 * length pairs
