-- The net kilograms of each contractor, ticket by ticket.
use mathlib.Core.Path.{◌≡◌, refl, sym, ap, ◌∙◌, fun_ext}
use mathlib.Core.Bool.{true}
use mathlib.Core.List.{List, [], ◌∷◌}
use Prim.Native.Nat.{ℕ, zero, suc, ◌+◌, ◌≤◌, ◌<◌}
use native.Mathlib.Omega.{arith}
use native.Mathlib.Decide.{ℕ_discrete}
use lib.Dec.{eqb}
use lib.ListN.{length, set, replicate, get_or-replicate}
use lib.Seq.{ext_get_or, get_or-set_same, get_or-set_other}
use Rattle.calls.specs.Calls.{◌if◌else◌, Reply, done, map_reply}
use Rattle.calls.proofs.Choices.{if_equal, if_unequal}
use Rattle.tape_model.specs.declared.Ticket.{Ticket}
use Rattle.tape_model.specs.Ticket.{ticket_rule, net, unpack_ticket}
use Rattle.tape_model.specs.Tape.{total_net}
use Rattle.tape_model.proofs.Tickets.{as_form_2, unpacked_valid}
use Rattle.pay_sheet.specs.PaySheet.{contractors, contractor_of, net_of, sum_to, each}
use Rattle.pay_sheet.specs.Clauses.{at, nets_of}
use Rattle.pay_sheet.specs.Laws.{HaveContractors}
use Rattle.pay_sheet.proofs.Sums.{sum_eq, sum_add, sum_none}
use Rattle.pay_sheet.proofs.Filled.{each-length, each_at, each_same}

-- ## One number among the contractors

-- x for contractor k, and 0 for every other
abbrev pub one_at : ℕ → ℕ → ℕ → ℕ
one_at k x c = x if eqb k c else 0

sum_before : (n k x : ℕ) → n ≤ k → sum_to n (one_at k x) ≡ 0
unfolding sum_to
sum_before zero k x h = refl
sum_before (suc n) k x h = omega (arith, sum_before n k x (omega arith), if_unequal k {n = n} {b = 0} {c = 0} x (λ e. omega arith) refl)

pub sum_one : (n k x : ℕ) → k < n → sum_to n (one_at k x) ≡ x
unfolding sum_to
sum_one zero k x h = absurd (omega arith)
sum_one (suc n) k x h = elim (ℕ_discrete k n) [
  | yes e ↦ omega (arith, sum_before n k x (omega arith), if_equal k {n = n} {a = x} {c = x} 0 e refl)
  | no w ↦ omega (arith, sum_one n k x (omega arith), if_unequal k {n = n} {b = 0} {c = 0} x w refl)
]

-- the contractors' nets are the tape's
pub nets_add_up : (ts : List Ticket) → HaveContractors ts → sum_to contractors (net_of ts) ≡ total_net ts
unfolding net_of total_net
nets_add_up [] h = sum_none contractors
nets_add_up (t ∷ ts) h =
    sum_add contractors (one_at (contractor_of t.truck) (net t)) (net_of ts)
    ∙ omega (arith, sum_one contractors (contractor_of t.truck) (net t) h.0, nets_add_up ts h.1)

-- ## In the loop

-- the nets taken in, and those of the tickets that are left
abbrev pub nets_after : List ℕ → List Ticket → List ℕ
nets_after nets ts = each contractors (λ c. at nets c + net_of ts c)

pub none_before : (r : Reply (List Ticket)) → map_reply (nets_after (replicate contractors 0)) r ≡ map_reply nets_of r
none_before r =
    ap (λ (f : List Ticket → List ℕ). map_reply f r)
    (fun_ext (λ ts. each_same contractors (λ c. at (replicate contractors 0) c + net_of ts c) (net_of ts) (λ c h. omega (arith, get_or-replicate {A = ℕ} contractors c 0 0 h))))

pub none_yet : sum_to contractors (at (replicate contractors 0)) ≡ 0
none_yet = sum_eq contractors (at (replicate contractors 0)) (λ c. 0) (λ c h. get_or-replicate {A = ℕ} contractors c 0 0 h) ∙ sum_none contractors

pub none_behind : (nets : List ℕ) → length nets ≡ contractors → nets ≡ nets_after nets []
unfolding net_of
none_behind nets sixteen =
    ext_get_or 0 nets (nets_after nets []) (sixteen ∙ sym (each-length contractors (λ c. at nets c + 0)))
    (λ i h. omega (arith, each_at contractors (λ c. at nets c + 0) i (omega arith)))

-- x more for contractor k
module _ (nets : List ℕ) (k x : ℕ) (sixteen : length nets ≡ contractors) (here : k < contractors) where
  abbrev pub more : List ℕ
  more = set nets k (at nets k + x)

  more_at : (c : ℕ) → at more c ≡ at nets c + one_at k x c
  more_at c = elim (ℕ_discrete k c) [
    | yes e ↦ omega (arith, ap (at more) (sym e), get_or-set_same nets k (at nets k + x) 0 (omega arith), ap (at nets) e, if_equal k {n = c} {a = x} {c = x} 0 e refl)
    | no w ↦ omega (arith, get_or-set_other nets k c (at nets k + x) 0 (λ e. w (sym e)), if_unequal k {n = c} {b = 0} {c = 0} x w refl)
  ]

  pub more_sum : sum_to contractors (at more) ≡ sum_to contractors (at nets) + x
  more_sum =
      sum_eq contractors (at more) (λ c. at nets c + one_at k x c) (λ c h. more_at c)
      ∙ sum_add contractors (at nets) (one_at k x)
      ∙ ap (λ (n : ℕ). sum_to contractors (at nets) + n) (sum_one contractors k x here)

  pub one_more : (t : Ticket) → contractor_of t.truck ≡ k → x ≡ net t → (ts : List Ticket) → nets_after nets (t ∷ ts) ≡ nets_after more ts
  unfolding net_of
  one_more t e f ts =
      each_same contractors (λ c. at nets c + (one_at (contractor_of t.truck) (net t) c + net_of ts c)) (λ c. at more c + net_of ts c)
      (λ c h. omega (arith, more_at c, ap (λ (j : ℕ). one_at j (net t) c) e, ap (λ (y : ℕ). one_at k y c) f))

-- ## Ranges

pub valid-net : (t : Ticket) → ticket_rule t ≡ true → net t ≤ 1048575
unfolding net
valid-net t h = omega (arith, (as_form_2 t h).1.1.1.1.1.1.1.0)

pub net_range : (s : List ℕ) (t : Ticket) → unpack_ticket s ≡ done t → net t ≤ 1048575
net_range s t e = valid-net t (unpacked_valid s t e)
