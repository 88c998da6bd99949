-- Document 02, P8: the pay of an opened tape, and what each contractor gets of it.
use Rattle.std.specs.Prelude.{Bool, ◌&&◌, ◌||◌, List, [], ◌∷◌, ◌++◌, ℕ, zero, suc, ◌+◌, ◌-◌, ◌*◌, ◌/◌, ◌%◌, eqb, ltb}
use Rattle.calls.specs.Calls.{◌if◌else◌, Reply, refused}
use Rattle.tape_model.specs.declared.Ticket.{Ticket}
use Rattle.tape_model.specs.Ticket.{net}
use Rattle.tape_model.specs.Tape.{total_net, of_plain}
use Rattle.trucks.specs.Words.{one, count}

-- ## Contractors

-- contractors are numbered 0 to 15
abbrev pub contractors : ℕ
contractors = 16

-- a contractor has 64 truck numbers in a row
abbrev pub contractor_of : ℕ → ℕ
contractor_of truck = truck / 64

-- the net kilograms of a contractor's trucks
unfoldable pub net_of : List Ticket → ℕ → ℕ
net_of [] c = 0
net_of (t ∷ ts) c = (net t if eqb (contractor_of t.truck) c else 0) + net_of ts c

-- a number for each contractor: f 0 + f 1 + .. + f (n - 1), and the list of them
unfoldable pub sum_to : ℕ → (ℕ → ℕ) → ℕ
sum_to zero f = 0
sum_to (suc n) f = sum_to n f + f n

unfoldable pub each : ℕ → (ℕ → ℕ) → List ℕ
each zero f = []
each (suc n) f = each n f ++ (f n ∷ [])

-- ## Who comes first

-- d comes before c: its remainder is larger, or they are equal and d is the lower number
unfoldable pub comes_before : (ℕ → ℕ) → ℕ → ℕ → Bool
comes_before rest d c = ltb (rest c) (rest d) || (eqb (rest d) (rest c) && ltb d c)

-- how many contractors come before c
unfoldable pub rank : (ℕ → ℕ) → ℕ → ℕ
rank rest c = count contractors (λ d. comes_before rest d c)

-- ## Pay and shares, in cents, at a rate in cents per tonne of 1,000 kilograms

module _ (tickets : List Ticket) (rate : ℕ) where
  -- of all tickets together, and then rounded down
  unfoldable pub pay : ℕ
  pay = total_net tickets * rate / 1000

  -- a contractor's exact share, in thousandths of a cent
  unfoldable pub exact_share : ℕ → ℕ
  exact_share c = net_of tickets c * rate

  -- its whole cents, and the thousandths that these leave
  unfoldable pub whole_cents : ℕ → ℕ
  whole_cents c = exact_share c / 1000

  unfoldable pub remainder : ℕ → ℕ
  remainder c = exact_share c % 1000

  -- the cents of the pay that are left
  unfoldable pub cents_left : ℕ
  cents_left = pay - sum_to contractors whole_cents

  -- they go one each to those that come first
  unfoldable pub share : ℕ → ℕ
  share c = whole_cents c + one (ltb (rank remainder c) cents_left)

-- ## The pay sheet

-- the tape's pay, and a share for each contractor
pub record Sheet : Type 0 where
  pub pay : ℕ
  pub shares : List ℕ

unfoldable pub sheet_of : ℕ → List Ticket → Sheet
sheet_of rate tickets = record { pay = pay tickets rate; shares = each contractors (share tickets rate) }

-- of an opened tape: 13 for a rate above the highest, then 2 and 8 as of every opened tape
abbrev pub highest_rate : ℕ
highest_rate = 1000000

unfoldable pub pay_sheet : List ℕ → ℕ → Reply Sheet
pay_sheet plain rate = refused 13 if ltb highest_rate rate else of_plain (sheet_of rate) plain
