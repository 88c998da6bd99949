-- `find_pairs` finds what `paired` gives: the state of the search holds before each ticket of the first tape.
use mathlib.Core.Path.{◌≡◌, refl, ◌∙◌}
use mathlib.Core.Bool.{Bool}
use mathlib.Core.List.{List}
use Prim.Native.Nat.{ℕ, ◌<◌}
use native.Mathlib.Omega.{arith}
use lib.ListN.{length, get_or, get_or-replicate}
use Rattle.pairing.specs.Clauses.{tickets_of, truck_of, tipped_of, Linked, Seeks, not_late}
use Rattle.pairing.proofs.Held.{Accepted, size, order, truck_small}
use Rattle.pairing.proofs.Links.{link_none}
use Rattle.pairing.proofs.Search.{Search, search_start, search_few, Turn, found-again, left-again, found-high}
use Rattle.pairing.proofs.find_pairs.Goals as goal
use Rattle.pairing.proofs.find_pairs.Goals.{then-not_late, else-not_late}

-- what is known when the ticket that was found has been looked at
turn : (first second : List ℕ) {partners taken cursors next : List ℕ} {count i truck tipped r : ℕ} {good : Bool}
    → Accepted first → Accepted second → Search (tickets_of first) (tickets_of second) partners taken cursors count i → i < length (tickets_of first)
    → Linked (tickets_of second) 0 next → (truck ≡ truck_of (tickets_of first) i) × (tipped ≡ tipped_of (tickets_of first) i) × (truck < 1024)
    → Seeks (tickets_of second) (get_or cursors truck 0) tipped r → good ≡ not_late (tickets_of second) r tipped
    → Turn (tickets_of first) (tickets_of second) next partners taken cursors count i truck tipped (get_or cursors truck 0) r good
turn first second a b s there linked t seeks good =
    record {
      search = s;
      there = there;
      first_few = (size first a).1;
      second_few = (size second b).1;
      first_order = order first a;
      second_order = order second b;
      linked = linked;
      truck_is = t.0;
      tipped_is = t.1;
      small = t.2;
      start_is = refl;
      seeks = seeks;
      good_is = good;
    }

pub link-requires : goal.link-requires
link-requires c = link_none _ _ _ refl refl (λ t h. get_or-replicate 1024 t c.len.result 0 h ∙ c.len.ensures.0)

pub loop-i-init : goal.loop-i-init
loop-i-init c =
    search_start _ _ _ _ c.link.new.next _ c.requires.first-room c.requires.second-room c.requires.clear (truck_small _ c.args.second.accepted) c.link.ensures

pub overflow_cast-taken : goal.overflow_cast-taken
overflow_cast-taken c = omega (arith, size _ c.args.first.accepted)

pub overflow_add-found : goal.overflow_add-found
overflow_add-found c = omega (arith, size _ c.args.first.accepted, search_few _ _ c.loop-i.invariant)

pub overflow_cast-cursors-else-not_late : goal.overflow_cast-cursors-else-not_late
overflow_cast-cursors-else-not_late c =
    let there : c.loop-i.i < length (tickets_of c.args.first.plain.now) = omega arith in
    let t = turn _ _ c.args.first.accepted c.args.second.accepted c.loop-i.invariant there c.link.ensures.linked c.tipping_at-t.ensures c.seek-j.ensures c.not_late.ensures in
    omega (arith, t.second_few, found-high t)

pub loop-i-preserved : goal.loop-i-preserved
loop-i-preserved c =
    let there : c.loop-i.i < length (tickets_of c.args.first.plain.now) = omega arith in
    let t = turn _ _ c.args.first.accepted c.args.second.accepted c.loop-i.invariant there c.link.ensures.linked c.tipping_at-t.ensures c.seek-j.ensures c.not_late.ensures in
    let o = c.if-not_late in
    elim o.branch [
      | then-not_late w ↦ found-again t w.if-not_late.true _ _ refl refl o.partners o.taken o.cursors o.found w.partners-is w.taken-is w.cursors-is w.found-is
      | else-not_late w ↦ left-again t w.if-not_late.false _ refl o.partners o.taken o.cursors o.found w.partners-is w.taken-is w.cursors-is w.found-is
    ]
