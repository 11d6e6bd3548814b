-- What a sum over dialogues is if one of them changes, comes or goes.
use Rattle.fp_book.proofs.Names.{Bool, Equal, Greater, Less, List, None, Option, Ordering, Row, Some, T, [], ap, arith, below_all, by_order, cond, eq-eqb, eq_by_cmp, eqb, eqb-true, false, is_eq, is_held, is_lt, keep, length, nat_cmp, nat_cmp_total, nat_tests, nil_from_length, refl, subst, sum_by, sum_by-cons, sum_by-le-sum_by, sum_of, sym, true, ℕ, ◌&&◌, ◌+◌, ◌∙◌, ◌∷◌, ◌≡◌, ◌≤◌}
use Rattle.std.specs.FinMap as map

abbrev pub Rows : Type 0
Rows = map.FinMap nat_cmp Row

-- what a dialogue adds to a sum, and nothing if there is none
abbrev pub amount : {X : Type 0} → (X → ℕ) → Option X → ℕ
amount f None = 0
amount f (Some x) = f x

-- what is left of a dialogue
abbrev pub left_of : Row → Option Row
left_of row = cond (is_held row) (Some row) None

-- what an entry of the map adds
abbrev of_entry : {X : Type 0} → (X → ℕ) → ℕ × X → ℕ
of_entry f entry = f entry.1

-- the sum over a list, and over a map
abbrev total : {X : Type 0} → (X → ℕ) → List (ℕ × X) → ℕ
total f es = sum_by (of_entry f) es

abbrev sum_over : {X : Type 0} → (X → ℕ) → map.FinMap nat_cmp X → ℕ
sum_over {X} f m = sum_by (λ (entry : ℕ × X). f entry.1) (map.entries m)

first : (a b : Bool) → T (a && b) → T a
first true b h = tt
first false b h = h

second : (a b : Bool) → T (a && b) → T b
second true b h = h
second false b h = absurd h

both : (a b : Bool) → T a → T b → T (a && b)
both true b h k = k
both false b h k = h

less : (o : Ordering) → T (is_lt o) → o ≡ Less
less Less h = refl
less Equal h = absurd h
less Greater h = absurd h

-- an identifier below another is below all that that one is below
below_less : {X : Type 0} (x y : ℕ) (es : List (ℕ × X)) → nat_cmp x y ≡ Less → T (below_all nat_cmp y es) → T (below_all nat_cmp x es)
below_less x y [] p h = tt
below_less x y (e ∷ es) p h =
    both (is_lt (nat_cmp x e.0)) (below_all nat_cmp x es)
    (subst (λ r. T (is_lt r)) (sym (nat_cmp_total.trans x y e.0 p (less (nat_cmp y e.0) (first (is_lt (nat_cmp y e.0)) (below_all nat_cmp y es) h)))) tt)
    (below_less x y es p (second (is_lt (nat_cmp y e.0)) (below_all nat_cmp y es) h))

-- it isn't found among them
none_below : {X : Type 0} (q : ℕ) (es : List (ℕ × X)) → T (below_all nat_cmp q es) → map.find nat_cmp q es ≡ None
none_below q [] h = refl
none_below q (e ∷ es) h =
    ap (λ r. cond (is_eq r) (Some e.1) (map.find nat_cmp q es)) (less (nat_cmp q e.0) (first (is_lt (nat_cmp q e.0)) (below_all nat_cmp q es) h))
    ∙ none_below q es (second (is_lt (nat_cmp q e.0)) (below_all nat_cmp q es) h)

-- one dialogue is put in its place
total-put : {X : Type 0} (f : X → ℕ) (k : ℕ) (v : X) (es : List (ℕ × X)) → T (map.is_sorted nat_cmp es) → total f (map.put nat_cmp k v es) + amount f (map.find nat_cmp k es) ≡ total f es + f v
total-put f k v [] h = omega arith
total-put f k v (e ∷ es) h =
    let under = first (below_all nat_cmp e.0 es) (map.is_sorted nat_cmp es) h in
    let sorted = second (below_all nat_cmp e.0 es) (map.is_sorted nat_cmp es) h in
    elim (nat_cmp k e.0) as (λ r. nat_cmp k e.0 ≡ r → total f (by_order r ((k, v) ∷ e ∷ es) ((e.0, v) ∷ es) (e ∷ map.put nat_cmp k v es)) + amount f (cond (is_eq r) (Some e.1) (map.find nat_cmp k es)) ≡ total f (e ∷ es) + f v) [
      | Less ↦ λ p.
          ap (λ o. total f ((k, v) ∷ e ∷ es) + amount f o) (none_below k es (below_less k e.0 es p under))
          ∙ omega (arith, sum_by-cons (of_entry f) (k, v) (e ∷ es))
      | Equal ↦ λ p. omega (arith, sum_by-cons (of_entry f) (e.0, v) es, sum_by-cons (of_entry f) e es)
      | Greater ↦ λ p. omega (arith, sum_by-cons (of_entry f) e (map.put nat_cmp k v es), sum_by-cons (of_entry f) e es, total-put f k v es sorted)
    ] refl

-- one dialogue comes, or changes
pub sum-insert : {X : Type 0} (f : X → ℕ) (rows : map.FinMap nat_cmp X) (local : ℕ) (row : X) → sum_over f (map.insert rows local row) + amount f (map.get rows local) ≡ sum_over f rows + f row
sum-insert f rows local row =
    ap (λ es. total f es + amount f (map.get rows local)) (map.entries-insert nat_cmp_total rows local row)
    ∙ ap (λ o. total f (map.put nat_cmp local row (map.entries rows)) + amount f o) (map.get-entries rows local)
    ∙ total-put f local row (map.entries rows) (map.entries_sorted rows)

pub eq_by_cmp-eqb : (q k : ℕ) → eq_by_cmp nat_cmp q k ≡ eqb q k
eq_by_cmp-eqb q k = grind (arith, nat_tests)

pub get-inserted : {X : Type 0} (rows : map.FinMap nat_cmp X) (local : ℕ) (row : X) (q : ℕ) → map.get (map.insert rows local row) q ≡ cond (eqb q local) (Some row) (map.get rows q)
get-inserted rows local row q = map.get-insert nat_cmp_total rows local row q ∙ ap (λ b. cond b (Some row) (map.get rows q)) (eq_by_cmp-eqb q local)

pub get-removed : {X : Type 0} (rows : map.FinMap nat_cmp X) (local q : ℕ) → map.get (map.remove rows local) q ≡ cond (eqb q local) None (map.get rows q)
get-removed rows local q = map.get-remove nat_cmp_total rows local q ∙ ap (λ b. cond b None (map.get rows q)) (eq_by_cmp-eqb q local)

-- what was there is there again
put_again : {X : Type 0} (rows : map.FinMap nat_cmp X) (local : ℕ) (row : X) → map.get rows local ≡ Some row → (q : ℕ) (b : Bool) → eqb q local ≡ b
    → cond b (Some row) (cond b None (map.get rows q)) ≡ map.get rows q
put_again rows local row was q true same = sym (ap (map.get rows) (eqb-true q local same) ∙ was)
put_again rows local row was q false same = refl

removed_and_put : {X : Type 0} (rows : map.FinMap nat_cmp X) (local : ℕ) (row : X) → map.get rows local ≡ Some row → map.insert (map.remove rows local) local row ≡ rows
removed_and_put rows local row was = map.same_map nat_cmp_total map.nat_cmp-IsAntisymmetric _ _ (λ q.
    get-inserted (map.remove rows local) local row q
    ∙ ap (cond (eqb q local) (Some row)) (get-removed rows local q)
    ∙ put_again rows local row was q (eqb q local) refl)

none_again : {X : Type 0} (rows : map.FinMap nat_cmp X) (local : ℕ) → map.get rows local ≡ None → (q : ℕ) (b : Bool) → eqb q local ≡ b → cond b None (map.get rows q) ≡ map.get rows q
none_again rows local was q true same = sym (ap (map.get rows) (eqb-true q local same) ∙ was)
none_again rows local was q false same = refl

none_removed : {X : Type 0} (rows : map.FinMap nat_cmp X) (local : ℕ) → map.get rows local ≡ None → map.remove rows local ≡ rows
none_removed rows local was = map.same_map nat_cmp_total map.nat_cmp-IsAntisymmetric _ _ (λ q.
    get-removed rows local q ∙ none_again rows local was q (eqb q local) refl)

gone_at : {X : Type 0} (rows : map.FinMap nat_cmp X) (local : ℕ) → map.get (map.remove rows local) local ≡ None
gone_at rows local = get-removed rows local local ∙ ap (λ b. cond b None (map.get rows local)) (eq-eqb local local refl)

sum-removed : {X : Type 0} (f : X → ℕ) (rows : map.FinMap nat_cmp X) (local : ℕ) (o : Option X) → map.get rows local ≡ o → sum_over f (map.remove rows local) + amount f o ≡ sum_over f rows
sum-removed f rows local None was = let same : sum_over f (map.remove rows local) ≡ sum_over f rows = ap (sum_over f) (none_removed rows local was) in omega arith
sum-removed f rows local (Some row) was =
    let again : sum_over f (map.insert (map.remove rows local) local row) ≡ sum_over f rows = ap (sum_over f) (removed_and_put rows local row was) in
    let none : amount f (map.get (map.remove rows local) local) ≡ 0 = ap (amount f) (gone_at rows local) in
    omega (arith, sum-insert f (map.remove rows local) local row)

-- one dialogue goes, if it is there
pub sum-remove : {X : Type 0} (f : X → ℕ) (rows : map.FinMap nat_cmp X) (local : ℕ) → sum_over f (map.remove rows local) + amount f (map.get rows local) ≡ sum_over f rows
sum-remove f rows local = sum-removed f rows local (map.get rows local) refl

-- one dialogue changes, comes or goes, and the others stay
pub record OneChanges (old new : Rows) (local : ℕ) (before left : Option Row) : Type 0 where
  pub was : map.get old local ≡ before
  pub there : map.get new local ≡ left
  pub others : (d : ℕ) → eqb d local ≡ false → map.get new d ≡ map.get old d
  pub sums : (f : Row → ℕ) → sum_of f new + amount f before ≡ sum_of f old + amount f left

pub inserted : (rows : Rows) (local : ℕ) (before : Option Row) (after : Row) → map.get rows local ≡ before → OneChanges rows (map.insert rows local after) local before (Some after)
inserted rows local before after was = record {
  was = was;
  there = get-inserted rows local after local ∙ ap (λ b. cond b (Some after) (map.get rows local)) (eq-eqb local local refl);
  others = λ d ne. get-inserted rows local after d ∙ ap (λ b. cond b (Some after) (map.get rows d)) ne;
  sums = λ f. ap (λ o. sum_of f (map.insert rows local after) + amount f o) (sym was) ∙ sum-insert f rows local after;
}

pub removed : (rows : Rows) (local : ℕ) (before : Option Row) → map.get rows local ≡ before → OneChanges rows (map.remove rows local) local before None
removed rows local before was = record {
  was = was;
  there = gone_at rows local;
  others = λ d ne. get-removed rows local d ∙ ap (λ b. cond b None (map.get rows d)) ne;
  sums = λ f. let same = sum-removed f rows local before was in omega arith;
}

kept_by : (rows : Rows) (local : ℕ) (before : Option Row) (after : Row) → map.get rows local ≡ before → (b : Bool)
    → OneChanges rows (cond b (map.insert rows local after) (map.remove rows local)) local before (cond b (Some after) None)
kept_by rows local before after was true = inserted rows local before after was
kept_by rows local before after was false = removed rows local before was

-- what is left of a dialogue stays
pub kept : (rows : Rows) (local : ℕ) (before : Option Row) (after : Row) → map.get rows local ≡ before → OneChanges rows (keep rows local after) local before (left_of after)
kept rows local before after was = kept_by rows local before after was (is_held after)

-- a dialogue each
total_of_ones : {X : Type 0} (es : List (ℕ × X)) → total (λ _. 1) es ≡ length es
total_of_ones [] = refl
total_of_ones (e ∷ es) = omega (arith, sum_by-cons (of_entry (λ _. 1)) e es, total_of_ones es)

pub len-sum : {X : Type 0} (rows : map.FinMap nat_cmp X) → map.len rows ≡ sum_over (λ _. 1) rows
len-sum rows = map.len-entries rows ∙ sym (total_of_ones (map.entries rows))

-- smaller numbers have a smaller sum
pub sum-le : (f g : Row → ℕ) (rows : Rows) → ((row : Row) → f row ≤ g row) → sum_of f rows ≤ sum_of g rows
sum-le f g rows le = sum_by-le-sum_by (of_entry f) (of_entry g) (map.entries rows) (λ e. le e.1)

abbrev pub zero_of : {X : Type 0} → X → ℕ
zero_of row = 0

total_of_zeros : {X : Type 0} (es : List (ℕ × X)) → total zero_of es ≡ 0
total_of_zeros [] = refl
total_of_zeros (e ∷ es) = omega (arith, sum_by-cons (of_entry zero_of) e es, total_of_zeros es)

pub sum-zero : {X : Type 0} (rows : map.FinMap nat_cmp X) → sum_over zero_of rows ≡ 0
sum-zero rows = total_of_zeros (map.entries rows)

-- no dialogue is there
pub sum-none : {X : Type 0} (f : X → ℕ) (rows : map.FinMap nat_cmp X) → ((q : ℕ) → map.get rows q ≡ None) → sum_over f rows ≡ 0
sum-none {X} f rows none =
    let empty : rows ≡ map.empty = map.same_map nat_cmp_total map.nat_cmp-IsAntisymmetric rows map.empty (λ q. none q ∙ sym (map.get-empty nat_cmp q)) in
    let entries_none : map.entries rows ≡ [] = nil_from_length (map.entries rows) (sym (map.len-entries rows) ∙ ap map.len empty ∙ map.len-empty nat_cmp X) in
    ap (total f) entries_none

pub find-cons : {X : Type 0} (e : ℕ × X) (es : List (ℕ × X)) (q : ℕ) → map.find nat_cmp q (e ∷ es) ≡ cond (eqb q e.0) (Some e.1) (map.find nat_cmp q es)
find-cons e es q = ap (λ b. cond b (Some e.1) (map.find nat_cmp q es)) (eq_by_cmp-eqb q e.0)

-- what a dialogue that was there, and what is left of it, add to two sums
abbrev Adds : {X Y : Type 0} → (X → ℕ) → (Y → ℕ) → (X → ℕ) → (Y → ℕ) → X → Option Y → Type 0
Adds a b c d row left = a row + amount b left ≤ c row + amount d left

rest_none : {X Y : Type 0} (e : ℕ × X) (es : List (ℕ × X)) (m : map.FinMap nat_cmp Y) → ((q : ℕ) → map.find nat_cmp q (e ∷ es) ≡ None → map.get m q ≡ None) → (q : ℕ) (b : Bool) → eqb q e.0 ≡ b
    → map.find nat_cmp q es ≡ None → cond b None (map.get m q) ≡ None
rest_none e es m none q true is found = refl
rest_none e es m none q false is found = none q (find-cons e es q ∙ ap (λ b. cond b (Some e.1) (map.find nat_cmp q es)) is ∙ found)

rest_adds : {X Y : Type 0} (a : X → ℕ) (b : Y → ℕ) (c : X → ℕ) (d : Y → ℕ) (e : ℕ × X) (es : List (ℕ × X)) (m : map.FinMap nat_cmp Y) → map.find nat_cmp e.0 es ≡ None
    → ((q : ℕ) (row : X) → map.find nat_cmp q (e ∷ es) ≡ Some row → Adds a b c d row (map.get m q)) → (q : ℕ) (row : X) (t : Bool) → eqb q e.0 ≡ t
    → map.find nat_cmp q es ≡ Some row → Adds a b c d row (cond t None (map.get m q))
rest_adds a b c d e es m none adds q row true is found =
    absurd (let clash : None ≡ Some row = sym none ∙ ap (λ k. map.find nat_cmp k es) (sym (eqb-true q e.0 is)) ∙ found in cc)
rest_adds a b c d e es m none adds q row false is found = adds q row (find-cons e es q ∙ ap (λ b. cond b (Some e.1) (map.find nat_cmp q es)) is ∙ found)

first_found : {X : Type 0} (e : ℕ × X) (es : List (ℕ × X)) → map.find nat_cmp e.0 (e ∷ es) ≡ Some e.1
first_found e es = find-cons e es e.0 ∙ ap (λ b. cond b (Some e.1) (map.find nat_cmp e.0 es)) (eq-eqb e.0 e.0 refl)

totals-le : {X Y : Type 0} (a : X → ℕ) (b : Y → ℕ) (c : X → ℕ) (d : Y → ℕ) (es : List (ℕ × X)) → T (map.is_sorted nat_cmp es) → (m : map.FinMap nat_cmp Y) → ((q : ℕ) → map.find nat_cmp q es ≡ None → map.get m q ≡ None)
    → ((q : ℕ) (row : X) → map.find nat_cmp q es ≡ Some row → Adds a b c d row (map.get m q)) → total a es + sum_over b m ≤ total c es + sum_over d m
totals-le a b c d [] h m none adds = let no : sum_over b m ≡ 0 = sum-none b m (λ q. none q refl) in omega arith
totals-le a b c d (e ∷ es) h m none adds =
    let under = first (below_all nat_cmp e.0 es) (map.is_sorted nat_cmp es) h in
    let sorted = second (below_all nat_cmp e.0 es) (map.is_sorted nat_cmp es) h in
    let m' = map.remove m e.0 in
    let here : a e.1 + amount b (map.get m e.0) ≤ c e.1 + amount d (map.get m e.0) = adds e.0 e.1 (first_found e es) in
    let rest : total a es + sum_over b m' ≤ total c es + sum_over d m' =
    totals-le a b c d es sorted m'
    (λ q found. get-removed m e.0 q ∙ rest_none e es m none q (eqb q e.0) refl found)
    (λ q row found. subst (Adds a b c d row) (sym (get-removed m e.0 q)) (rest_adds a b c d e es m (none_below e.0 es under) adds q row (eqb q e.0) refl found))
    in
    omega (arith, here, rest, sum-remove b m e.0, sum-remove d m e.0, sum_by-cons (of_entry a) e es, sum_by-cons (of_entry c) e es)

-- no dialogue comes, and each adds no more to one pair of sums than to another
pub sums-le : {X Y : Type 0} (a : X → ℕ) (b : Y → ℕ) (c : X → ℕ) (d : Y → ℕ) (old : map.FinMap nat_cmp X) (new : map.FinMap nat_cmp Y) → ((q : ℕ) → map.get old q ≡ None → map.get new q ≡ None)
    → ((q : ℕ) (row : X) → map.get old q ≡ Some row → a row + amount b (map.get new q) ≤ c row + amount d (map.get new q)) → sum_over a old + sum_over b new ≤ sum_over c old + sum_over d new
sums-le a b c d old new none adds =
    totals-le a b c d (map.entries old) (map.entries_sorted old) new
    (λ q found. none q (map.get-entries old q ∙ found)) (λ q row found. adds q row (map.get-entries old q ∙ found))

-- dialogues that are the same at each identifier are the same
pub same_rows : (m n : Rows) → ((q : ℕ) → map.get m q ≡ map.get n q) → m ≡ n
same_rows m n same = map.same_map nat_cmp_total map.nat_cmp-IsAntisymmetric m n same

-- what was put under an identifier is no longer there once that is taken away
off_by : (b : Bool) (row : Row) (o : Option Row) → cond b None (cond b (Some row) o) ≡ cond b None o
off_by true row o = refl
off_by false row o = refl

put_and_removed : (rows : Rows) (local : ℕ) (row : Row) → map.remove (map.insert rows local row) local ≡ map.remove rows local
put_and_removed rows local row = same_rows _ _ (λ q.
    get-removed (map.insert rows local row) local q
    ∙ ap (cond (eqb q local) None) (get-inserted rows local row q)
    ∙ off_by (eqb q local) row (map.get rows q)
    ∙ sym (get-removed rows local q))

-- so a dialogue that was changed in its place stays, or is taken off
pub keep_after : (rows new : Rows) (local : ℕ) (after : Row) (held : Bool) → held ≡ is_held after → new ≡ cond held (map.insert rows local after) (map.remove (map.insert rows local after) local)
    → new ≡ keep rows local after
keep_after rows new local after held is made =
    made ∙ ap (cond held (map.insert rows local after)) (put_and_removed rows local after) ∙ ap (λ b. cond b (map.insert rows local after) (map.remove rows local)) is

-- what is held is where it was
pub put_held : (rows : Rows) (local : ℕ) (after : Row) → is_held after ≡ true → map.insert rows local after ≡ keep rows local after
put_held rows local after held = ap (λ b. cond b (map.insert rows local after) (map.remove rows local)) (sym held)
