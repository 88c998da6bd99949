-- The place in which two strings part: where the bytes before it agree and those at it differ; none where one string ends first.
use mathlib.Core.Path.{◌≡◌, refl, sym, ap, ◌∙◌, subst}
use mathlib.Core.Bool.{Bool, true, false, false≢true}
use mathlib.Core.List.{List, [], ◌∷◌, ◌++◌, append_assoc}
use mathlib.Core.Logic.{◌⊎◌, inl, inr, ⊎_elim}
use Prim.Native.Nat.{ℕ, zero, suc, ◌+◌, ◌≤◌, ◌<◌}
use native.Mathlib.Omega.{arith}
use lib.Dec.{eqb, eqb-zero-suc, eqb-suc-zero, eqb-suc-suc}
use lib.ListN.{length, get_or, take, get_or-append, length-append}
use lib.Seq.{get_or-take, length-take-le}
use borrow.Author.Tests.{eq-eqb, ne_eqb, eqb-true, eqb-false}
use Rattle.calls.specs.Calls.{◌if◌else◌}
use Rattle.receptions.specs.Receptions.{PartingReply, refused_at, not_parted, one_place_later, parting}
use Rattle.receptions.specs.Laws.{AgreeBefore, FirstDifferenceAt}

-- ## Answers

abbrev pub is_not_parted : PartingReply → Bool
is_not_parted (refused_at n k) = false
is_not_parted not_parted = true

abbrev number_in : PartingReply → ℕ
number_in (refused_at n k) = n
number_in not_parted = 0

abbrev pub place_in : PartingReply → ℕ
place_in (refused_at n k) = k
place_in not_parted = 0

-- ## From the bytes to the answer

-- strings that agree up to a place do so behind their first bytes, and part one place later than what is behind these
agree-behind : (n x y : ℕ) (a b : List ℕ) → AgreeBefore (suc n) (x ∷ a) (y ∷ b) → AgreeBefore n a b
agree-behind n x y a b h k l = h (suc k) (omega arith)

behind : (n x y : ℕ) (a b : List ℕ) → AgreeBefore (suc n) (x ∷ a) (y ∷ b) → parting (x ∷ a) (y ∷ b) ≡ one_place_later (parting a b)
unfolding parting
behind n x y a b h = rw (eq-eqb x y (h 0 (omega arith))) refl

-- Strings of n bytes or more that are gone through together: of the first n of each, these bytes, `agreed` of them, come before what is left.
pub record SameBefore (n agreed : ℕ) (a b left_a left_b : List ℕ) : Type 0 where
  pub bytes : List ℕ
  pub size : length bytes ≡ agreed
  pub in_a : take n a ≡ bytes ++ left_a
  pub in_b : take n b ≡ bytes ++ left_b

-- the same bytes come off what is left of both
pub same_more : {n i : ℕ} {a b left_a left_b : List ℕ} → SameBefore n i a b left_a left_b → (x y next_a next_b : List ℕ) → left_a ≡ x ++ next_a → left_b ≡ y ++ next_b
    → x ≡ y → SameBefore n (i + length x) a b next_a next_b
same_more p x y next_a next_b e f g =
    record {
      bytes = p.bytes ++ x;
      size = length-append p.bytes x ∙ ap (λ (k : ℕ). k + length x) p.size;
      in_a = p.in_a ∙ ap (λ (l : List ℕ). p.bytes ++ l) e ∙ sym (append_assoc p.bytes x next_a);
      in_b = p.in_b ∙ ap (λ (l : List ℕ). p.bytes ++ l) (f ∙ ap (λ (l : List ℕ). l ++ next_b) (sym g)) ∙ sym (append_assoc p.bytes x next_b);
    }

pub length-left : {n i : ℕ} {a b left_a left_b : List ℕ} → SameBefore n i a b left_a left_b → n ≤ length a → i + length left_a ≡ n
length-left {n} {left_a = left_a} p h = omega (arith, length-take-le n _ h, ap length p.in_a, length-append p.bytes left_a, p.size)

-- and so far they agree
pub agree : {n i : ℕ} {a b left_a left_b : List ℕ} → SameBefore n i a b left_a left_b → n ≤ length a → (i ≤ n) × AgreeBefore i a b
agree {n} {i} {a} {b} {left_a} {left_b} p h =
    let within : i ≤ n = omega (arith, length-left p h) in
    (within, λ k l. at a left_a p.in_a k (omega arith) (omega (arith, p.size)) ∙ sym (at b left_b p.in_b k (omega arith) (omega (arith, p.size))))
  where
    at : (c left : List ℕ) → take n c ≡ p.bytes ++ left → (k : ℕ) → k < n → k < length p.bytes → get_or c k 0 ≡ get_or p.bytes k 0
    at c left e k l m = sym (get_or-take n c k 0 l) ∙ ap (λ (x : List ℕ). get_or x k 0) e ∙ get_or-append p.bytes left 0 k m

pub at_place : (k : ℕ) (a b : List ℕ) → FirstDifferenceAt a b k → parting a b ≡ refused_at 10 k
unfolding parting
at_place k [] b p = absurd (omega (arith, p.in_first))
at_place k (x ∷ a) [] p = absurd (omega (arith, p.in_second))
at_place zero (x ∷ a) (y ∷ b) p = rw (ne_eqb x y p.differ) refl
at_place (suc k) (x ∷ a) (y ∷ b) p =
    behind k x y a b p.before
    ∙ ap one_place_later
    (at_place k a b (record { in_first = omega (arith, p.in_first); in_second = omega (arith, p.in_second); before = agree-behind k x y a b p.before; differ = p.differ }))

-- where one string ends at n, and they agree before it, they do not part
pub no_place : (n : ℕ) (a b : List ℕ) → AgreeBefore n a b → (length a ≤ n) ⊎ (length b ≤ n) → parting a b ≡ not_parted
unfolding parting
no_place n [] b h e = refl
no_place n (x ∷ a) [] h e = refl
no_place zero (x ∷ a) (y ∷ b) h e = absurd (⊎_elim (λ p. omega (arith, p)) (λ p. omega (arith, p)) e)
no_place (suc n) (x ∷ a) (y ∷ b) h e =
    behind n x y a b h ∙ ap one_place_later (no_place n a b (agree-behind n x y a b h) (⊎_elim (λ p. inl (omega (arith, p))) (λ p. inr (omega (arith, p))) e))

-- ## From the answer to the bytes

-- an answer one place later, and the one before it
earlier : (r : PartingReply) (n k : ℕ) → one_place_later r ≡ refused_at n k → (j : ℕ) × (r ≡ refused_at n j) × (suc j ≡ k)
earlier (refused_at m j) n k e = (j, ap (λ (i : ℕ). refused_at i j) (ap number_in e), ap place_in e)
earlier not_parted n k e = absurd (false≢true (sym (ap is_not_parted e)))

told : (b : Bool) {A : Type 0} → (b ≡ true → A) → (b ≡ false → A) → A
told true f g = f refl
told false f g = g refl

pub found : (a b : List ℕ) (n k : ℕ) → parting a b ≡ refused_at n k → (n ≡ 10) × FirstDifferenceAt a b k
unfolding parting
found [] b n k e = absurd (false≢true (sym (ap is_not_parted e)))
found (x ∷ a) [] n k e = absurd (false≢true (sym (ap is_not_parted e)))
found (x ∷ a) (y ∷ b) n k e =
    told (eqb x y)
    (λ q.
    let p = earlier (parting a b) n k (rw q at e) in
    let rest = found a b n p.0 p.1 in (rest.0, subst (FirstDifferenceAt (x ∷ a) (y ∷ b)) p.2 (one_later x y a b p.0 (eqb-true x y q) rest.1)))
    (λ q. let here = rw q at e in (sym (ap number_in here), subst (FirstDifferenceAt (x ∷ a) (y ∷ b)) (ap place_in here) (at_once x y a b (eqb-false x y q))))
  where
    at_once : (x y : ℕ) (a b : List ℕ) → (x ≡ y → ⊥) → FirstDifferenceAt (x ∷ a) (y ∷ b) 0
    at_once x y a b d = record { in_first = omega arith; in_second = omega arith; before = λ k l. absurd (omega arith); differ = d }

    one_later : (x y : ℕ) (a b : List ℕ) (j : ℕ) → x ≡ y → FirstDifferenceAt a b j → FirstDifferenceAt (x ∷ a) (y ∷ b) (suc j)
    one_later x y a b j q p =
        record { in_first = omega (arith, p.in_first); in_second = omega (arith, p.in_second); before = before; differ = p.differ }
      where
        before : AgreeBefore (suc j) (x ∷ a) (y ∷ b)
        before zero l = q
        before (suc k) l = p.before k (omega arith)

-- ## Either mast may be called the first

pub eqb-sym : (x y : ℕ) → eqb x y ≡ eqb y x
eqb-sym zero zero = refl
eqb-sym zero (suc y) = eqb-zero-suc y ∙ sym (eqb-suc-zero y)
eqb-sym (suc x) zero = eqb-suc-zero x ∙ sym (eqb-zero-suc x)
eqb-sym (suc x) (suc y) = eqb-suc-suc x y ∙ eqb-sym x y ∙ sym (eqb-suc-suc y x)

pub parting-exchanged : (a b : List ℕ) → parting a b ≡ parting b a
unfolding parting
parting-exchanged [] [] = refl
parting-exchanged [] (y ∷ b) = refl
parting-exchanged (x ∷ a) [] = refl
parting-exchanged (x ∷ a) (y ∷ b) =
    ap (λ (t : Bool). one_place_later (parting a b) if t else refused_at 10 0) (eqb-sym x y)
    ∙ ap (λ (r : PartingReply). one_place_later r if eqb y x else refused_at 10 0) (parting-exchanged a b)
