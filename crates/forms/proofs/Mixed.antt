-- Tapes that hold both forms: `MixedTapeLaws`, proved. What does not look at the form is the same of tickets that are put into form 1.
use mathlib.Core.Path.{◌≡◌, refl, sym, ap, ap₂, ◌∙◌}
use mathlib.Core.Bool.{true}
use mathlib.Core.List.{List, [], ◌∷◌, ◌++◌, map}
use Prim.Native.Nat.{ℕ, suc, ◌+◌, ◌≤◌}
use native.Mathlib.Omega.{arith}
use lib.ListN.{length}
use Rattle.calls.specs.Calls.{Reply, refused, done}
use Rattle.acorn_model.specs.Machine.{key_length}
use Rattle.tape_model.specs.declared.Ticket.{Ticket}
use Rattle.tape_model.specs.declared.Head.{Head}
use Rattle.tape_model.specs.declared.Totals.{Totals}
use Rattle.tape_model.specs.Ticket.{in_form, net, head_rule}
use Rattle.tape_model.specs.Tape.{ticket_limit, tape_of, total_net, totals_of}
use Rattle.tape_model.specs.Listing.{head_line, ticket_line, ticket_lines, line_of_totals, total_line, listed, printed}
use Rattle.tape_model.specs.Laws.{Valid}
use Rattle.tape_model.proofs.Tapes.{tapes_come_back}
use Rattle.trucks.specs.Trucks.{truck_numbers}
use Rattle.forms.specs.Laws.{AlikeButForms, MixedTapeLaws}
use Rattle.forms.proofs.Moving.{rule_2}

abbrev plain : List Ticket → List Ticket
plain = map (in_form 1)

-- a function that is the same of tickets put into form 1 is the same of tickets alike
by-plain : {A : Type 0} (f : List Ticket → A) → ((ts : List Ticket) → f (plain ts) ≡ f ts) → (ts us : List Ticket) → AlikeButForms ts us → f ts ≡ f us
by-plain f same ts us e = sym (same ts) ∙ ap f e ∙ same us

lines : (position : ℕ) (ts : List Ticket) → ticket_lines position (plain ts) ≡ ticket_lines position ts
unfolding ticket_lines ticket_line net
lines position [] = refl
lines position (t ∷ ts) = ap (λ (l : List ℕ). ticket_line position t ++ l) (lines (position + 1) ts)

count : (ts : List Ticket) → length (plain ts) ≡ length ts
count [] = refl
count (t ∷ ts) = ap suc (count ts)

total : (ts : List Ticket) → total_net (plain ts) ≡ total_net ts
unfolding total_net net
total [] = refl
total (t ∷ ts) = ap (λ (n : ℕ). net t + n) (total ts)

totals : (ts : List Ticket) → totals_of (plain ts) ≡ totals_of ts
totals ts = λ i. record { tickets = count ts i; net = total ts i }

trucks : (ts : List Ticket) → truck_numbers (plain ts) ≡ truck_numbers ts
unfolding truck_numbers
trucks [] = refl
trucks (t ∷ ts) = ap (λ (l : List ℕ). t.truck ∷ l) (trucks ts)

-- head, lines and totals
text : (head : Head) (ts us : List Ticket) → AlikeButForms ts us
    → (head_line head ++ ticket_lines 1 ts ++ line_of_totals (length ts) (total_net ts)) ≡ (head_line head ++ ticket_lines 1 us ++ line_of_totals (length us) (total_net us))
text head ts us e =
    ap₂ (λ (l : List ℕ) (m : Totals). head_line head ++ l ++ line_of_totals m.tickets m.net) (by-plain (ticket_lines 1) (lines 1) ts us e) (by-plain totals_of totals ts us e)

listing : (head : Reply Head) (ts us : List Ticket) → AlikeButForms ts us → listed head ts ≡ listed head us
unfolding listed total_line
listing (refused n) ts us e = refl
listing (done head) ts us e = text head ts us e

prints : (key : List ℕ) (head : Head) (ts us : List Ticket) → length key ≡ key_length → head_rule head ≡ true → Valid ts → Valid us → length ts ≤ ticket_limit
    → AlikeButForms ts us → printed (key ++ tape_of key head ts) ≡ printed (key ++ tape_of key head us)
prints key head ts us k h v w few e =
    let same : length us ≡ length ts = sym (by-plain length count ts us e) in
    (tapes_come_back key head ts k h v few).lists ∙ text head ts us e ∙ sym (tapes_come_back key head us k h w (omega (arith, same, few))).lists

all_valid : (ts : List Ticket) → Valid ts → Valid (map (in_form 2) ts)
all_valid [] v = tt
all_valid (t ∷ ts) v = (rule_2 t v.0, all_valid ts v.1)

all_alike : (ts : List Ticket) → AlikeButForms ts (map (in_form 2) ts)
all_alike [] = refl
all_alike (t ∷ ts) = ap (λ (l : List Ticket). in_form 1 t ∷ l) (all_alike ts)

pub mixed-tape-laws : MixedTapeLaws
mixed-tape-laws =
    record {
      all_to_form_2 = λ ts v. (all_valid ts v, all_alike ts);
      lines = λ position. by-plain (ticket_lines position) (lines position);
      listing = listing;
      prints = prints;
      totals = by-plain totals_of totals;
      trucks = by-plain truck_numbers trucks;
    }
