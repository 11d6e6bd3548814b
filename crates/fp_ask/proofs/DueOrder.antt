-- The order in which dialogues are due.
use Rattle.std.proofs.Common.{◌≡◌, ℕ, ◌<◌, ◌≤◌, ◌+◌, true, false, cond, eqb, ◌&&◌, ◌||◌, nat_le, nat_lt, Option, Some, None, List, [], ◌∷◌, length, map, refl, sym, ◌∙◌, ap, subst, arith, ◌⊎◌, ⊎_elim, inl, inr}
use Rattle.std.specs.FinMap as fin
use Rattle.std.proofs.lemmas.Bool.{cases_Bool, cond_both, eq-eqb, eqb-true, ne_eqb}
use Rattle.std.proofs.lemmas.Bool.Decides.{nat_tests}
use Rattle.fp_book.proofs.Sums.{amount, removed}
use Rattle.fp_book.specs.Totals.{sum_of}
use Rattle.fp_row.specs.declared.row.Row.{Row}
use Rattle.fp_service.specs.Dialogue.{next_due}
use Rattle.fp_ask.specs.Solo.{Due, Dialogue, comes_first, due_at, found, placed}
use Rattle.fp_ask.specs.Tied.{Rows, times}
use Rattle.fp_ask.proofs.Resting.{not_found}
use Rattle.fp_ask.proofs.Dialogues.{by_number, count, count-cons, count_own, none_if, swapped, times-cons, unit}

-- the earlier deadline comes first, and the smaller identifier among equals
abbrev pub Lt : (ℕ → ℕ) → ℕ → ℕ → Type 0
Lt key x y = (key x ≤ key y) × (key x ≡ key y → x < y)

-- a number comes before all of a list
abbrev pub Above : (ℕ → ℕ) → ℕ → List ℕ → Type 0
Above key x [] = Unit {0}
Above key x (y ∷ ys) = Lt key x y × Above key x ys

-- a list is in that order
abbrev pub Ascends : (ℕ → ℕ) → List ℕ → Type 0
Ascends key [] = Unit {0}
Ascends key (x ∷ xs) = Above key x xs × Ascends key xs

-- no two come before each other,
not_both : (key : ℕ → ℕ) (x y : ℕ) → Lt key x y → Lt key y x → ⊥
not_both key x y a b = let same : key x ≡ key y = omega (arith, a.0, b.0) in absurd (omega (arith, a.1 same, b.1 (sym same)))

-- and none comes before itself
lt_apart : (key : ℕ → ℕ) (x y : ℕ) → Lt key x y → eqb y x ≡ false
lt_apart key x y a = ne_eqb y x (λ same. absurd (let less = a.1 (ap key (sym same)) in omega (arith, less, same)))

-- what comes before a list comes before each number in it,
above_in : (key : ℕ → ℕ) (y x : ℕ) (ys : List ℕ) → Above key y ys → 0 < count x ys → Lt key y x
above_in key y x [] a h = absurd (omega (arith, h))
above_in key y x (z ∷ zs) a h = ⊎_elim
    (λ e. subst (λ n. Lt key y n) (eqb-true z x e) a.0)
    (λ e. above_in key y x zs a.1 (omega (arith, h, ap unit e, count-cons x z zs)))
    (cases_Bool (eqb z x))

-- and is not in it
none_above : (key : ℕ → ℕ) (x : ℕ) (xs : List ℕ) → Above key x xs → count x xs ≡ 0
none_above key x [] a = refl
none_above key x (y ∷ ys) a = omega (arith, count-cons x y ys, ap unit (lt_apart key x y a.0), none_above key x ys a.1)

-- two lists that ascend and have the same members are one
pub same_list : (key : ℕ → ℕ) (xs ys : List ℕ) → Ascends key xs → Ascends key ys → ((d : ℕ) → count d xs ≡ count d ys) → xs ≡ ys
same_list key [] [] a b h = refl
same_list key [] (y ∷ ys) a b h = absurd (omega (arith, h y, count_own y ys))
same_list key (x ∷ xs) [] a b h = absurd (omega (arith, h x, count_own x xs))
same_list key (x ∷ xs) (y ∷ ys) a b h =
    let same : x ≡ y = ⊎_elim
    (λ e. eqb-true x y e)
    (λ e. absurd (not_both key x y
    (above_in key x y xs a.0 (omega (arith, h y, ap unit e, count_own y ys, count-cons y x xs)))
    (above_in key y x ys b.0 (omega (arith, h x, ap unit (swapped x y e), count_own x xs, count-cons x y ys)))))
    (cases_Bool (eqb x y)) in
    let tails : xs ≡ ys = same_list key xs ys a.1 b.1 (λ d. omega (arith, h d, ap (λ n. unit (eqb n d)) same, count-cons d x xs, count-cons d y ys)) in
    λ i. same i ∷ tails i

-- AS MANY AS THERE ARE ARE ALL

-- each is there, and adds one
abbrev pub Each : (Row → ℕ) → Rows → List ℕ → Type 0
Each f rows [] = Unit {0}
Each f rows (x ∷ xs) = (amount f (fin.get rows x) ≡ 1) × Each f rows xs

-- what adds one is there
some_of : (f : Row → ℕ) (o : Option Row) → amount f o ≡ 1 → (row : Row) × (o ≡ Some row)
some_of f None e = absurd (omega (arith, e))
some_of f (Some row) e = (row, refl)

-- without the first the others are there as before
each_left : (key : ℕ → ℕ) (f : Row → ℕ) (rows left : Rows) (x : ℕ) (xs : List ℕ) → ((k : ℕ) → eqb k x ≡ false → fin.get left k ≡ fin.get rows k) → Above key x xs → Each f rows xs → Each f left xs
each_left key f rows left x [] others a e = tt
each_left key f rows left x (y ∷ ys) others a e = (ap (amount f) (others y (lt_apart key x y a.0)) ∙ e.0, each_left key f rows left x ys others a.1 e.1)

-- if the sum is nothing each adds nothing
none_left : (f : Row → ℕ) (rows : Rows) (d : ℕ) (o : Option Row) → fin.get rows d ≡ o → sum_of f rows ≡ 0 → amount f o ≡ 0
none_left f rows d None was e = refl
none_left f rows d (Some row) was e = let s = (removed rows d (Some row) was).sums f in omega (arith, s, e)

-- a list of all that add one has each of them once, and no other
pub all_are : (key : ℕ → ℕ) (f : Row → ℕ) (xs : List ℕ) (rows : Rows) → Ascends key xs → Each f rows xs → length xs ≡ sum_of f rows → (d : ℕ) → count d xs ≡ amount f (fin.get rows d)
all_are key f [] rows a e n d = sym (none_left f rows d (fin.get rows d) refl (sym n))
all_are key f (x ∷ xs) rows a e n d =
    let there = some_of f (fin.get rows x) e.0 in
    let gone = removed rows x (Some there.0) there.1 in
    let left = fin.remove rows x in
    let fewer : length xs ≡ sum_of f left = let s = gone.sums f in omega (arith, s, n, ap (amount f) there.1, e.0) in
    let rest : (k : ℕ) → count k xs ≡ amount f (fin.get left k) = all_are key f xs left a.1 (each_left key f rows left x xs gone.others a.0 e.1) fewer in
    by_number d x (λ k. count k (x ∷ xs) ≡ amount f (fin.get rows k))
    (omega (arith, count_own x xs, none_above key x xs a.0, e.0))
    (λ ne. omega (arith, count-cons d x xs, ap unit (swapped d x ne), rest d, ap (amount f) (gone.others d ne)))

-- THE DUE DIALOGUES OF THE LIST

-- their identifiers
abbrev pub locals : List Due → List ℕ
locals dues = map (λ (due : Due). due.local) dues

-- each due dialogue has its deadline
abbrev pub Timed : (ℕ → ℕ) → List Due → Type 0
Timed key [] = Unit {0}
Timed key (due ∷ dues) = (due.deadline ≡ key due.local) × Timed key dues

-- what the test of the order says if it holds,
first_lt : (a b x y : ℕ) → (nat_lt a b || (eqb a b && nat_lt x y)) ≡ true → (a ≤ b) × (a ≡ b → x < y)
first_lt a b x y e = (grind (arith, nat_tests), λ same. grind (arith, nat_tests))

-- and if it fails
later_lt : (a b x y : ℕ) → (nat_lt a b || (eqb a b && nat_lt x y)) ≡ false → eqb x y ≡ false → (b ≤ a) × (b ≡ a → y < x)
later_lt a b x y e ne = (grind (arith, nat_tests), λ same. grind (arith, nat_tests))

-- by the deadlines that they have
pub keyed : (key : ℕ → ℕ) (x y a b : ℕ) → a ≡ key x → b ≡ key y → (a ≤ b) × (a ≡ b → x < y) → Lt key x y
keyed key x y a b p q l = (omega (arith, p, q, l.0), λ same. l.1 (p ∙ same ∙ sym q))

-- the order is transitive
above_trans : (key : ℕ → ℕ) (x y : ℕ) (ys : List ℕ) → Lt key x y → Above key y ys → Above key x ys
above_trans key x y [] l a = tt
above_trans key x y (z ∷ zs) l a =
    ((omega (arith, l.0, a.0.0), λ same. let two : key x ≡ key y = omega (arith, l.0, a.0.0, same) in omega (arith, l.1 two, a.0.1 (sym two ∙ same))), above_trans key x y zs l a.1)

-- what comes before a due dialogue and a list comes before both together
above_placed : (key : ℕ → ℕ) (x : ℕ) (due : Due) (dues : List Due) → Lt key x due.local → Above key x (locals dues) → Above key x (locals (placed due dues))
above_placed key x due [] l a = (l, tt)
above_placed key x due (other ∷ others) l a =
    cond_both (comes_first due other) (due ∷ other ∷ others) (other ∷ placed due others) (λ d. Above key x (locals d)) (λ _. (l, a)) (λ _. (a.0, above_placed key x due others l a.1))

-- a due dialogue that is not in a list keeps its order in its place,
placed_ascends : (key : ℕ → ℕ) (due : Due) (dues : List Due) → due.deadline ≡ key due.local → Timed key dues → count due.local (locals dues) ≡ 0 → Ascends key (locals dues) → Ascends key (locals (placed due dues))
placed_ascends key due [] d t n a = (tt, tt)
placed_ascends key due (other ∷ others) d t n a =
    let parts = count-cons due.local other.local (locals others) in
    let ne = none_if (eqb other.local due.local) (omega (arith, n, parts)) in
    cond_both (comes_first due other) (due ∷ other ∷ others) (other ∷ placed due others) (λ d. Ascends key (locals d))
    (λ e. let l = keyed key due.local other.local due.deadline other.deadline d t.0 (first_lt due.deadline other.deadline due.local other.local e) in
    ((l, above_trans key due.local other.local (locals others) l a.0), a))
    (λ e. (
      above_placed key other.local due others (keyed key other.local due.local other.deadline due.deadline t.0 d
          (later_lt due.deadline other.deadline due.local other.local e (swapped other.local due.local ne))) a.0,
      placed_ascends key due others d t.1 (omega (arith, n, parts)) a.1,
    ))

-- has its deadline there,
timed_placed : (key : ℕ → ℕ) (due : Due) (dues : List Due) → due.deadline ≡ key due.local → Timed key dues → Timed key (placed due dues)
timed_placed key due [] d t = (d, tt)
timed_placed key due (other ∷ others) d t =
    cond_both (comes_first due other) (due ∷ other ∷ others) (other ∷ placed due others) (Timed key) (λ _. (d, t)) (λ _. (t.0, timed_placed key due others d t.1))

-- and is counted once more
count_placed : (k : ℕ) (due : Due) (dues : List Due) → count k (locals (placed due dues)) ≡ unit (eqb due.local k) + count k (locals dues)
count_placed k due [] = count-cons k due.local []
count_placed k due (other ∷ others) =
    cond_both (comes_first due other) (due ∷ other ∷ others) (other ∷ placed due others) (λ d. count k (locals d) ≡ unit (eqb due.local k) + count k (locals (other ∷ others)))
    (λ _. count-cons k due.local (locals (other ∷ others)))
    (λ _. omega (arith, count_placed k due others, count-cons k other.local (locals (placed due others)), count-cons k other.local (locals others)))

-- what is known of the due dialogues of a list
pub record InOrder (key : ℕ → ℕ) (moment : ℕ) (dialogues : List Dialogue) (dues : List Due) : Type 0 where
  pub timed : Timed key dues
  pub ascends : Ascends key (locals dues)
  pub few : (k : ℕ) → count k (locals dues) ≤ times k dialogues
  pub counts : (k : ℕ) (t : Dialogue) → found k dialogues ≡ Some t → count k (locals dues) ≡ unit (nat_le (next_due t.core) moment)

-- a list finds its first dialogue, or what the rest finds
found_in : (k : ℕ) (t u : Dialogue) (dialogues : List Dialogue) → found k (t ∷ dialogues) ≡ Some u → ((eqb t.local k ≡ true) × (t ≡ u)) ⊎ ((eqb t.local k ≡ false) × (found k dialogues ≡ Some u))
found_in k t u dialogues =
    cond_both (eqb t.local k) (Some t) (found k dialogues) (λ o. o ≡ Some u → ((eqb t.local k ≡ true) × (t ≡ u)) ⊎ ((eqb t.local k ≡ false) × (found k dialogues ≡ Some u)))
    (λ e at. inl (e, cc)) (λ e at. inr (e, at))

-- the due dialogues of a list are in order, each that is due once
pub in_order : (key : ℕ → ℕ) (moment : ℕ) (dialogues : List Dialogue) → ((k : ℕ) → times k dialogues ≤ 1) → ((k : ℕ) (t : Dialogue) → found k dialogues ≡ Some t → next_due t.core ≡ key k) → InOrder key moment dialogues (due_at moment dialogues)
in_order key moment [] once keys = record { timed = tt; ascends = tt; few = λ k. omega arith; counts = λ k t e. absurd (cc) }
in_order key moment (t ∷ dialogues) once keys =
    let first : (k : ℕ) → eqb t.local k ≡ true → found k (t ∷ dialogues) ≡ Some t = λ k e. ap (λ b. cond b (Some t) (found k dialogues)) e in
    let none : times t.local dialogues ≡ 0 = omega (arith, once t.local, times-cons t.local t dialogues, ap unit (eq-eqb t.local t.local refl)) in
    let rest : (k : ℕ) (u : Dialogue) → found k dialogues ≡ Some u → next_due u.core ≡ key k =
    λ k u at. by_number k t.local (λ k. found k dialogues ≡ Some u → next_due u.core ≡ key k)
    (λ at. absurd (let clash : None ≡ Some u = sym (not_found t.local dialogues none) ∙ at in cc))
    (λ ne at. keys k u (ap (λ b. cond b (Some t) (found k dialogues)) (swapped k t.local ne) ∙ at)) at in
    let o = in_order key moment dialogues (λ k. omega (arith, once k, times-cons k t dialogues)) rest in
    let deadline = keys t.local t (first t.local (eq-eqb t.local t.local refl)) in
    let due : Due = record { deadline = next_due t.core; local = t.local } in
    let dues = due_at moment dialogues in
    let own : count t.local (locals dues) ≡ 0 = omega (arith, o.few t.local, none) in
    let here : (k : ℕ) → eqb t.local k ≡ true → count k (locals dues) ≡ 0 = λ k e. ap (λ n. count n (locals dues)) (sym (eqb-true t.local k e)) ∙ own in
    cond_both (nat_le (next_due t.core) moment) (placed due dues) dues (InOrder key moment (t ∷ dialogues))
    (λ e. record {
      timed = timed_placed key due dues deadline o.timed;
      ascends = placed_ascends key due dues deadline o.timed own o.ascends;
      few = λ k. omega (arith, count_placed k due dues, o.few k, times-cons k t dialogues);
      counts = λ k one at. ⊎_elim
          (λ same. omega (arith, count_placed k due dues, ap unit same.0, here k same.0, ap unit (ap (λ (u : Dialogue). nat_le (next_due u.core) moment) (sym same.1) ∙ e)))
          (λ ne. omega (arith, count_placed k due dues, ap unit ne.0, o.counts k one ne.1))
          (found_in k t one dialogues at);
    })
    (λ e. record {
      timed = o.timed;
      ascends = o.ascends;
      few = λ k. omega (arith, o.few k, times-cons k t dialogues);
      counts = λ k one at. ⊎_elim
          (λ same. here k same.0 ∙ sym (ap unit (ap (λ (u : Dialogue). nat_le (next_due u.core) moment) (sym same.1) ∙ e)))
          (λ ne. o.counts k one ne.1)
          (found_in k t one dialogues at);
    })
