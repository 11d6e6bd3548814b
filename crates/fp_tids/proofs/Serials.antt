-- Serials in their order, and the queue of those that may be given.
use Rattle.std.proofs.Common.{Bool, List, Option, Some, [], ap, arith, drop, eqb, false, length, nat_lt, option_map, refl, slice_get, subst, suc, sym, take, true, zero, ℕ, ⊎_elim, ◌++◌, ◌%◌, ◌*◌, ◌+◌, ◌-◌, ◌<◌, ◌∙◌, ◌∷◌, ◌≡◌, ◌≤◌, ◌||◌, ◌^◌, append_assoc}
use Rattle.std.proofs.Math.Nat.{mod-eq_of_lt, mul-add-mod_self_right}
use Rattle.std.proofs.lemmas.Bool.{cases_Bool, eq-eqb, eqb-true, false≢true, or_cases, or_left, or_parts, or_right}
use Rattle.std.proofs.lemmas.Bool.Decides.{nat_tests}
use Rattle.std.proofs.lemmas.List.{append-nil, take-append-drop, take-append-le}
use Rattle.std.proofs.lemmas.List.Folds.{list_any-append}
use Rattle.std.proofs.lemmas.List.FromFn.{length-range_with_len}
use Rattle.std.proofs.lemmas.Map.Steps.{length-le_from_distinct_below}
use Rattle.std.specs.List.{AllByRecursion, IsDistinct, range_with_len}
use Rattle.fp_tids.specs.Identifiers.{AreSerials, IsKept, LocalIds, all_serials, base_of, first_of, identifier, is_free, serial_of, serials_above}
use Rattle.fp_tids.specs.Laws.{AllAreSerials, GivingLeavesSerials, ReturningKeepsSerials, SerialsComeBackLast}

-- numbers in their order, from one on

among_range : (q a n : ℕ) → a ≤ q → q < a + n → is_free q (range_with_len a n) ≡ true
among_range q a zero low high = absurd (omega (arith, low, high))
among_range q a (suc n) low high =
    ⊎_elim
    (λ (here : eqb q a ≡ true). or_left (eqb q a) (is_free q (range_with_len (a + 1) n)) here)
    (λ (other : eqb q a ≡ false).
    let ne : a + 1 ≤ q = grind (arith, nat_tests) in
    or_right (eqb q a) (is_free q (range_with_len (a + 1) n)) (among_range q (a + 1) n ne (omega (arith, high))))
    (cases_Bool (eqb q a))

within_range : (q a n : ℕ) → is_free q (range_with_len a n) ≡ true → (a ≤ q) × (q < a + n)
within_range q a zero is = absurd (false≢true is)
within_range q a (suc n) is =
    ⊎_elim
    (λ (here : eqb q a ≡ true). let same : q ≡ a = eqb-true q a here in (omega (arith, same), omega (arith, same)))
    (λ (there : is_free q (range_with_len (a + 1) n) ≡ true).
    let rest : (a + 1 ≤ q) × (q < a + 1 + n) = within_range q (a + 1) n there in
    let low : a + 1 ≤ q = rest.0 in
    let high : q < a + 1 + n = rest.1 in
    (omega (arith, low), omega (arith, high)))
    (or_cases (eqb q a) (is_free q (range_with_len (a + 1) n)) is)

-- a number that isn't among others is none of them, and the other way round
absent_all : (x : ℕ) (xs : List ℕ) → is_free x xs ≡ false → AllByRecursion (λ y. eqb x y ≡ false) xs
absent_all x [] absent = tt
absent_all x (y ∷ ys) absent = let parts = or_parts (eqb x y) (is_free x ys) absent in (parts.0, absent_all x ys parts.1)

all_absent : (x : ℕ) (xs : List ℕ) → AllByRecursion (λ y. eqb x y ≡ false) xs → is_free x xs ≡ false
all_absent x [] none = refl
all_absent x (y ∷ ys) none = ap (λ b. b || is_free x ys) none.0 ∙ all_absent x ys none.1

not_among : (b : Bool) → (b ≡ true → ⊥) → b ≡ false
not_among true never = absurd (never refl)
not_among false never = refl

distinct_range : (a n : ℕ) → IsDistinct eqb (range_with_len a n)
unfolding IsDistinct
distinct_range a zero = tt
distinct_range a (suc n) = (
  absent_all a (range_with_len (a + 1) n) (not_among (is_free a (range_with_len (a + 1) n)) (λ is. let low : a + 1 ≤ a = (within_range a (a + 1) n is).0 in omega (arith, low))),
  distinct_range (a + 1) n,
)

-- the serials above one

-- the first of them is the next one
pub above_next : (n : ℕ) → n < 131072 → serials_above n ≡ (n + 1) ∷ serials_above (n + 1)
unfolding serials_above
above_next n few = ap (range_with_len (n + 1)) (let more : 131072 - n ≡ suc (131072 - (n + 1)) = omega (arith, few) in more)

-- there is none above the last
pub above_last : (n : ℕ) → 131072 ≤ n → serials_above n ≡ []
unfolding serials_above
above_last n all = ap (range_with_len (n + 1)) (let none : 131072 - n ≡ zero = omega (arith, all) in none)

among_above : (n q : ℕ) → n < q → q ≤ 131072 → is_free q (serials_above n) ≡ true
unfolding serials_above
among_above n q low high = among_range q (n + 1) (131072 - n) (omega (arith, low)) (omega (arith, low, high))

length_above : (n : ℕ) → length (serials_above n) ≡ 131072 - n
unfolding serials_above
length_above n = length-range_with_len (n + 1) (131072 - n)

above_are : (n : ℕ) → AreSerials (serials_above n)
unfolding serials_above
above_are n = record {
  distinct = distinct_range (n + 1) (131072 - n);
  within = λ q is.
      let parts = within_range q (n + 1) (131072 - n) is in
      let low : n + 1 ≤ q = parts.0 in
      let high : q < n + 1 + (131072 - n) = parts.1 in
      (omega (arith, low), omega (arith, low, high));
}

pub all_are : AllAreSerials
all_are = (above_are 0, length_above 0)

-- a serial that isn't above is that one, or below
not_above : (n q : ℕ) → q ≤ 131072 → is_free q (serials_above n) ≡ false → q ≤ n
not_above n q most absent =
    ⊎_elim {C = q ≤ n}
    (λ (more : nat_lt n q ≡ true). let less : n < q = grind (arith, nat_tests) in absurd (false≢true (sym absent ∙ among_above n q less most)))
    (λ (few : nat_lt n q ≡ false). grind (arith, nat_tests))
    (cases_Bool (nat_lt n q))

-- queues

-- one that comes to the back
all_back : (P : ℕ → Type 0) (x : ℕ) (xs : List ℕ) → AllByRecursion P xs → P x → AllByRecursion P (xs ++ x ∷ [])
all_back P x [] all here = (here, tt)
all_back P x (y ∷ ys) all here = (all.0, all_back P x ys all.1 here)

distinct_back : (x : ℕ) (xs : List ℕ) → is_free x xs ≡ false → IsDistinct eqb xs → IsDistinct eqb (xs ++ x ∷ [])
unfolding IsDistinct
distinct_back x [] absent distinct = (tt, tt)
distinct_back x (y ∷ ys) absent distinct =
    let parts = or_parts (eqb x y) (is_free x ys) absent in
    let first : eqb x y ≡ false = parts.0 in
    let swapped : eqb y x ≡ false = grind (arith, nat_tests) in
    (all_back (λ z. eqb y z ≡ false) x ys distinct.0 swapped, distinct_back x ys parts.1 distinct.1)

-- what is among them then was, or is that one
among_back : (q x : ℕ) (xs : List ℕ) (P : ℕ → Type 0) → (is_free q xs ≡ true → P q) → P x → is_free q (xs ++ x ∷ []) ≡ true → P q
among_back q x xs P others here is =
    ⊎_elim others
    (λ (last : (eqb q x || false) ≡ true).
    ⊎_elim (λ (same : eqb q x ≡ true). subst P (sym (eqb-true q x same)) here) (λ (never : false ≡ true). absurd (false≢true never)) (or_cases (eqb q x) false last))
    (or_cases (is_free q xs) (is_free q (x ∷ [])) (sym (list_any-append (eqb q) xs (x ∷ [])) ∙ is))

-- distinct numbers from 1 to another are at most as many
few_below : (n : ℕ) (xs : List ℕ) → IsDistinct eqb xs → ((q : ℕ) → is_free q xs ≡ true → (0 < q) × (q ≤ n)) → length xs ≤ n
unfolding IsDistinct
few_below n xs distinct within =
    let zeroless : is_free 0 xs ≡ false = not_among (is_free 0 xs) (λ is. let some : 0 < 0 = (within 0 is).0 in omega (arith, some)) in
    let all : length (0 ∷ xs) ≤ n + 1 =
    length-le_from_distinct_below (0 ∷ xs) (n + 1) (absent_all 0 xs zeroless, distinct) (λ q is.
    ⊎_elim
    (λ (here : eqb q 0 ≡ true). let same : q ≡ 0 = eqb-true q 0 here in omega (arith, same))
    (λ (there : is_free q xs ≡ true). let most : q ≤ n = (within q there).1 in omega (arith, most))
    (or_cases (eqb q 0) (is_free q xs) is))
    in
    omega (arith, all)

pub giving_leaves : GivingLeavesSerials
unfolding IsDistinct
giving_leaves x xs are =
    let here = are.within x (or_left (eqb x x) (is_free x xs) (eq-eqb x x refl)) in
    (here.0, here.1, all_absent x xs are.distinct.0, record { distinct = are.distinct.1; within = λ q is. are.within q (or_right (eqb q x) (is_free q xs) is) })

pub returning_keeps : ReturningKeepsSerials
returning_keeps x xs some most absent are = record {
  distinct = distinct_back x xs absent are.distinct;
  within = λ q is. among_back q x xs (λ n. (0 < n) × (n ≤ 131072)) (are.within q) (some, most) is;
}

-- what isn't among numbers isn't among the first of them
pub come_back_last : SerialsComeBackLast
come_back_last queue more serial n absent few =
    let whole : (is_free serial (take n queue) || is_free serial (drop n queue)) ≡ false =
    sym (list_any-append (eqb serial) (take n queue) (drop n queue)) ∙ ap (is_free serial) (take-append-drop n queue) ∙ absent in
    ap (is_free serial) (take-append-le n queue (serial ∷ more) few) ∙ (or_parts (is_free serial (take n queue)) (is_free serial (drop n queue)) whole).0

-- the front of what there is
pub fresh_front : (fresh : ℕ) (returned : List ℕ) → fresh < 131072 → serials_above fresh ++ returned ≡ (fresh + 1) ∷ (serials_above (fresh + 1) ++ returned)
fresh_front fresh returned few = ap (λ xs. xs ++ returned) (above_next fresh few)

pub none_fresh : (fresh : ℕ) (returned : List ℕ) → 131072 ≤ fresh → serials_above fresh ++ returned ≡ returned
none_fresh fresh returned all = ap (λ xs. xs ++ returned) (above_last fresh all)

pub first_is : (base : ℕ) (serials : List ℕ) (first : Option ℕ) → slice_get serials 0 ≡ first → option_map (identifier base) first ≡ first_of base serials
first_is base [] first is = ap (option_map (identifier base)) (sym is)
first_is base (serial ∷ serials) first is = ap (option_map (identifier base)) (sym is)

-- what the type keeps

pub kept_new : (link tag capacity : ℕ) (returned : List ℕ) → link < 8 → tag ≤ 4094 → returned ≡ [] → capacity ≡ 131072 → IsKept link tag 0 returned capacity
unfolding IsDistinct
kept_new link tag capacity returned lt most none room = record {
  links = lt;
  tags = most;
  most = omega arith;
  distinct = subst (IsDistinct eqb) (sym none) tt;
  given = λ q is. absurd (false≢true (sym (ap (is_free q) none) ∙ is));
  places = omega (arith, room);
}

-- a serial that isn't in the queue was given
was_given : (fresh serial : ℕ) (returned : List ℕ) → serial ≤ 131072 → is_free serial (serials_above fresh ++ returned) ≡ false → (serial ≤ fresh) × (is_free serial returned ≡ false)
was_given fresh serial returned most absent =
    let parts = or_parts (is_free serial (serials_above fresh)) (is_free serial returned) (sym (list_any-append (eqb serial) (serials_above fresh) returned) ∙ absent) in
    (not_above fresh serial most parts.0, parts.1)

-- so there is a place for it, with those that came back
pub room_for : (link tag fresh serial capacity : ℕ) (returned : List ℕ) → IsKept link tag fresh returned capacity → 0 < serial → serial ≤ 131072 → is_free serial (serials_above fresh ++ returned) ≡ false → length returned < capacity
unfolding IsDistinct
room_for link tag fresh serial capacity returned k some most absent =
    let given = was_given fresh serial returned most absent in
    let few : length (serial ∷ returned) ≤ fresh =
    few_below fresh (serial ∷ returned) (absent_all serial returned given.1, k.distinct) (λ q is.
    ⊎_elim
    (λ (here : eqb q serial ≡ true). let same : q ≡ serial = eqb-true q serial here in let within : serial ≤ fresh = given.0 in (omega (arith, same, some), omega (arith, same, within)))
    (λ (there : is_free q returned ≡ true). k.given q there)
    (or_cases (eqb q serial) (is_free q returned) is))
    in
    omega (arith, few, k.most, k.places)

pub kept_returned : (link tag fresh serial capacity then : ℕ) (returned : List ℕ) → IsKept link tag fresh returned capacity → 0 < serial → serial ≤ 131072 → is_free serial (serials_above fresh ++ returned) ≡ false → then ≡ capacity
    → IsKept link tag fresh (returned ++ serial ∷ []) then
kept_returned link tag fresh serial capacity then returned k some most absent same =
    let given = was_given fresh serial returned most absent in
    record {
      links = k.links;
      tags = k.tags;
      most = k.most;
      distinct = distinct_back serial returned given.1 k.distinct;
      given = λ q is. among_back q serial returned (λ n. (0 < n) × (n ≤ fresh)) (k.given q) (some, given.0) is;
      places = omega (arith, k.places, same);
    }

-- the front one of those that came back is given
pub kept_taken : (link tag fresh serial capacity then : ℕ) (returned rest : List ℕ) → IsKept link tag fresh returned capacity → returned ≡ serial ∷ rest → then ≡ capacity → IsKept link tag fresh rest then
unfolding IsDistinct
kept_taken link tag fresh serial capacity then returned rest k is same = record {
  links = k.links;
  tags = k.tags;
  most = k.most;
  distinct = (subst (IsDistinct eqb) is k.distinct).1;
  given = λ q there. k.given q (ap (is_free q) is ∙ or_right (eqb q serial) (is_free q rest) there);
  places = omega (arith, k.places, same);
}

-- it is a serial
pub taken_within : (link tag fresh serial capacity : ℕ) (returned rest : List ℕ) → IsKept link tag fresh returned capacity → returned ≡ serial ∷ rest → serial ≤ 131072
taken_within link tag fresh serial capacity returned rest k is =
    let within : serial ≤ fresh = (k.given serial (ap (is_free serial) is ∙ or_left (eqb serial serial) (is_free serial rest) (eq-eqb serial serial refl))).1 in
    omega (arith, within, k.most)

pub first_within : (link tag fresh serial capacity : ℕ) (returned : List ℕ) → IsKept link tag fresh returned capacity → slice_get returned 0 ≡ Some serial → serial ≤ 131072
first_within link tag fresh serial capacity [] k is = absurd (cc)
first_within link tag fresh serial capacity (x ∷ xs) k is =
    let same : x ≡ serial = cc in
    taken_within link tag fresh serial capacity (x ∷ xs) xs k (ap (λ y. y ∷ xs) same)

-- an identifier shows its serial
pub shown : (link tag serial local : ℕ) → 0 < serial → serial ≤ 131072 → local ≡ identifier (base_of link tag) serial → serial_of local ≡ serial
shown link tag serial local some most is =
    let inside : local - 1 ≡ (link * 4096 + tag) * 2 ^ 17 + (serial - 1) = omega (arith, some, is) in
    ap (λ n. n % 2 ^ 17 + 1) inside ∙ ap (λ n. n + 1) (mul-add-mod_self_right (link * 4096 + tag) (2 ^ 17) (serial - 1) ∙ mod-eq_of_lt (omega (arith, some, most)))
    ∙ omega (arith, some)

-- what contracts see
pub new_view : (link tag : ℕ) → ◌≡◌ {A = LocalIds} (record { link = link; tag = tag; queue = serials_above 0 ++ [] }) (record { link = link; tag = tag; queue = all_serials })
new_view link tag = ap (λ queue. record { link = link; tag = tag; queue = queue }) (append-nil (serials_above 0))

pub returned_view : (link tag : ℕ) (front back : List ℕ) (serial : ℕ) → ◌≡◌ {A = LocalIds} (record { link = link; tag = tag; queue = front ++ (back ++ serial ∷ []) }) (record { link = link; tag = tag; queue = (front ++ back) ++ serial ∷ [] })
returned_view link tag front back serial = ap (λ queue. record { link = link; tag = tag; queue = queue }) (sym (append_assoc front back (serial ∷ [])))
