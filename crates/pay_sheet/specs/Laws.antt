-- What is shown of the definitions of `PaySheet`: the statements, to be read without their proofs.
use Rattle.std.specs.Prelude.{◌≡◌, true, false, List, [], ◌∷◌, ◌++◌, ◌↔◌, ◌⊎◌, ℕ, ◌+◌, ◌*◌, ◌/◌, ◌^◌, ◌≤◌, ◌<◌, length, get_or, take}
use Rattle.calls.specs.Calls.{refused, done}
use Rattle.tape_model.specs.declared.Ticket.{Ticket}
use Rattle.tape_model.specs.declared.Head.{Head}
use Rattle.tape_model.specs.declared.Totals.{Totals}
use Rattle.tape_model.specs.Ticket.{ticket_length, net}
use Rattle.tape_model.specs.Tape.{ticket_limit, pack_tickets, is_tickets_length, plain_tickets, total_net}
use Rattle.tape_model.specs.Laws.{Valid, OpensAs}
use Rattle.forms.specs.Laws.{AlikeButForms}
use Rattle.pay_sheet.specs.PaySheet.{contractors, contractor_of, net_of, sum_to, comes_before, pay, exact_share, whole_cents, remainder, cents_left, share, Sheet, sheet_of, highest_rate, pay_sheet}

-- ## Words of the statements

-- every ticket's truck has a contractor
abbrev pub HaveContractors : List Ticket → Type 0
HaveContractors [] = Unit
HaveContractors (t ∷ ts) = (contractor_of t.truck < contractors) × HaveContractors ts

-- each ticket is another contractor's, or has no net
abbrev pub NothingHauled : List Ticket → ℕ → Type 0
NothingHauled [] c = Unit
NothingHauled (t ∷ ts) c = ((contractor_of t.truck ≡ c → ⊥) ⊎ (net t ≡ 0)) × NothingHauled ts c

module _ (tickets : List Ticket) (rate : ℕ) where
  -- c has the larger remainder, or the same and the lower number
  abbrev pub ComesBefore : ℕ → ℕ → Type 0
  ComesBefore c d = (remainder tickets rate d < remainder tickets rate c) ⊎ ((remainder tickets rate c ≡ remainder tickets rate d) × (c < d))

  -- shares as document 02 asks for them: they add up to the pay, and each is the exact share rounded down, or that and one of the cents left, which
  -- go to those that come before the others
  pub record PaidOut (shares : ℕ → ℕ) : Type 0 where
    pub adds-up : sum_to contractors shares ≡ pay tickets rate
    pub whole_or_one_more : (c : ℕ) → c < contractors → (shares c ≡ whole_cents tickets rate c) ⊎ (shares c ≡ whole_cents tickets rate c + 1)
    pub in_order : (c d : ℕ) → c < contractors → d < contractors → shares c ≡ whole_cents tickets rate c + 1 → shares d ≡ whole_cents tickets rate d → ComesBefore c d

  -- ## Shares

  pub record ShareLaws : Type 0 where
    -- the contractors' nets are the tape's, and so are their exact shares, at one rate for all
    pub nets : sum_to contractors (net_of tickets) ≡ total_net tickets
    pub exact_shares : sum_to contractors (exact_share tickets rate) ≡ total_net tickets * rate
    -- who comes before whom
    pub order : (c d : ℕ) → (comes_before (remainder tickets rate) c d ≡ true) ↔ ComesBefore c d
    -- the shares are those that document 02 asks for, and the only such
    pub paid_out : PaidOut (share tickets rate)
    pub the_only : (shares : ℕ → ℕ) → PaidOut shares → (c : ℕ) → c < contractors → shares c ≡ share tickets rate c
    -- no share is a full cent, 1,000 thousandths, from the exact one, neither above it nor below
    pub not-above : (c : ℕ) → 1000 * share tickets rate c < exact_share tickets rate c + 1000
    pub not-below : (c : ℕ) → exact_share tickets rate c < 1000 * share tickets rate c + 1000
    -- whole cents and the cents left are the pay; fewer are left than there are contractors
    pub left : sum_to contractors (whole_cents tickets rate) + cents_left tickets rate ≡ pay tickets rate
    pub few_left : cents_left tickets rate < contractors
    -- a contractor that hauled nothing gets nothing; a contractor that gets a cent more has a remainder
    pub nothing : (c : ℕ) → net_of tickets c ≡ 0 → share tickets rate c ≡ 0
    pub more_has_remainder : (c : ℕ) → share tickets rate c ≡ whole_cents tickets rate c + 1 → 0 < remainder tickets rate c
    -- who hauled more gets no less; who hauled as much, at most a cent less
    pub more_for_more : (c d : ℕ) → c < contractors → d < contractors → net_of tickets c < net_of tickets d → share tickets rate c ≤ share tickets rate d
    pub alike : (c d : ℕ) → net_of tickets c ≡ net_of tickets d → share tickets rate c ≤ share tickets rate d + 1

-- ## Contractors and nets

pub record NetLaws : Type 0 where
  -- contractor c has the truck numbers 64 c to 64 c + 63 (there is no truck 0), and those up to 1,023 have one of the sixteen
  pub block : (truck c : ℕ) → (contractor_of truck ≡ c) ↔ ((64 * c ≤ truck) × (truck < 64 * c + 64))
  pub sixteen : (truck : ℕ) → (contractor_of truck < contractors) ↔ (truck ≤ 1023)
  -- of tickets together a contractor has the sum, of one its own net, or nothing
  pub joined : (ts us : List Ticket) (c : ℕ) → net_of (ts ++ us) c ≡ net_of ts c + net_of us c
  pub its_own : (t : Ticket) → net_of (t ∷ []) (contractor_of t.truck) ≡ net t
  pub not_its_own : (t : Ticket) (c : ℕ) → (contractor_of t.truck ≡ c → ⊥) → net_of (t ∷ []) c ≡ 0
  -- who has no ticket, or only trips back empty, has hauled nothing
  pub nothing_hauled : (ts : List Ticket) (c : ℕ) → NothingHauled ts c → net_of ts c ≡ 0

-- ## Sheets of tickets

pub record SheetLaws (rate : ℕ) : Type 0 where
  -- only net and contractor count: neither forms nor the order of the tickets, nor trips back empty
  pub same_nets : (ts us : List Ticket) → total_net ts ≡ total_net us → ((c : ℕ) → net_of ts c ≡ net_of us c) → sheet_of rate ts ≡ sheet_of rate us
  pub forms : (ts us : List Ticket) → AlikeButForms ts us → sheet_of rate ts ≡ sheet_of rate us
  pub swapped : (ts us : List Ticket) (t u : Ticket) → sheet_of rate (ts ++ t ∷ u ∷ us) ≡ sheet_of rate (ts ++ u ∷ t ∷ us)
  pub empty-trip : (ts us : List Ticket) (t : Ticket) → net t ≡ 0 → sheet_of rate (ts ++ t ∷ us) ≡ sheet_of rate (ts ++ us)
  -- the shares on the sheet are sixteen, each contractor's at its place
  pub sixteen : (ts : List Ticket) → length (sheet_of rate ts).shares ≡ contractors
  pub at_place : (ts : List Ticket) (c : ℕ) → c < contractors → get_or (sheet_of rate ts).shares c 0 ≡ share ts rate c

-- ## Opened tapes

pub record PlainSheetLaws (plain : List ℕ) (rate : ℕ) : Type 0 where
  pub answered : (ts : List Ticket) → rate ≤ highest_rate → plain_tickets plain ≡ done ts → pay_sheet plain rate ≡ done (sheet_of rate ts)
  -- and nothing else is
  pub held : (sheet : Sheet) → pay_sheet plain rate ≡ done sheet
      → (rate ≤ highest_rate) × ((ts : List Ticket) × (plain_tickets plain ≡ done ts) × (sheet ≡ sheet_of rate ts))
  -- all that is said of shares above holds of the tickets of an opened tape
  pub shares : (ts : List Ticket) → plain_tickets plain ≡ done ts → ShareLaws ts rate
  -- so the shares that are answered add up to the pay that is answered
  pub adds-up : (sheet : Sheet) → pay_sheet plain rate ≡ done sheet → sum_to contractors (λ c. get_or sheet.shares c 0) ≡ sheet.pay
  -- 13 exactly for a rate above 1,000,000, whatever the tape; else the number that the plain bytes have: 2 for a wrong length, then 8; and no other
  pub thirteen : (pay_sheet plain rate ≡ refused 13) ↔ (highest_rate < rate)
  pub two : (pay_sheet plain rate ≡ refused 2) ↔ ((rate ≤ highest_rate) × (is_tickets_length (length plain) ≡ false))
  pub eight : (pay_sheet plain rate ≡ refused 8) ↔ ((rate ≤ highest_rate) × (plain_tickets plain ≡ refused 8))
  pub no_other : (n : ℕ) → pay_sheet plain rate ≡ refused n → (n ≡ 13) ⊎ ((n ≡ 2) ⊎ (n ≡ 8))
  -- the products are below 2 ^ 64, and so is all that is computed of them: the net of a tape is at most 5,000 times 1,048,575 kilograms
  pub weight : (ts : List Ticket) → plain_tickets plain ≡ done ts → total_net ts ≤ ticket_limit * 1048575
  pub fits : (ts : List Ticket) → plain_tickets plain ≡ done ts → rate ≤ highest_rate → total_net ts * rate < 2 ^ 64
  pub fits_each : (ts : List Ticket) (c : ℕ) → plain_tickets plain ≡ done ts → rate ≤ highest_rate → exact_share ts rate c < 2 ^ 64

pub record PaySheetLaws : Type 0 where
  pub nets : NetLaws
  pub shares : (tickets : List Ticket) (rate : ℕ) → HaveContractors tickets → ShareLaws tickets rate
  pub sheets : (rate : ℕ) → SheetLaws rate
  pub opened : (plain : List ℕ) (rate : ℕ) → PlainSheetLaws plain rate
  -- valid tickets have contractors; those of a tape that was opened are paid for, by the net that opening answered, and at most 5,000, packed, are
  pub valid : (tickets : List Ticket) → Valid tickets → HaveContractors tickets
  pub of_opened : (key tape out : List ℕ) (totals : Totals) (after : List ℕ) (head : Head) (tickets : List Ticket) (rate : ℕ)
      → OpensAs key tape out totals after head tickets → rate ≤ highest_rate
      → (pay_sheet (take (ticket_length * totals.tickets) after) rate ≡ done (sheet_of rate tickets)) × (pay tickets rate ≡ totals.net * rate / 1000)
  pub packed : (tickets : List Ticket) (rate : ℕ) → Valid tickets → length tickets ≤ ticket_limit → rate ≤ highest_rate
      → pay_sheet (pack_tickets tickets) rate ≡ done (sheet_of rate tickets)
