-- Entries seen as a finite map, no two of which have one identifier.
use Rattle.std.proofs.Common.{◌≡◌, ℕ, ◌+◌, false, cond, eqb, is_some, List, [], ◌∷◌, length, Some, None, Less, Equal, Greater, refl, sym, subst, ap, ◌∙◌, arith}
use Rattle.std.proofs.lemmas.Bool.Decides.{nat_tests}
use Rattle.std.proofs.lemmas.List.{nil_from_length}
use Rattle.std.proofs.lemmas.List.Sorted.{IsPermutation-cons, IsPermutation-middle, IsPermutation-refl, IsPermutation-trans, sum_by-IsPermutation}
use Rattle.std.specs.Cmp.{nat_cmp_total}
use Rattle.std.specs.FinMap as map
use Rattle.std.specs.FinMap.Entries.{by_order, find, put}
use Rattle.std.specs.List.{AllByRecursion, IsDistinct, sum_by}
use Rattle.std.specs.List.Sorted.{IsPermutation}
use Rattle.std.specs.Map.{keys_of, lookup}
use Rattle.std.specs.Ordering.{nat_cmp, eq_by_cmp, is_eq}

pub eq_by_cmp-eqb : (q k : ℕ) → eq_by_cmp nat_cmp q k ≡ eqb q k
eq_by_cmp-eqb q k = grind (arith, nat_tests)

module _ {X : Type 0} where
  abbrev pub map_of : List (ℕ × X) → map.FinMap nat_cmp X
  map_of entries = map.from_entries entries

  -- two maps are the same if each key has the same in both
  pub same : (m n : map.FinMap nat_cmp X) → ((q : ℕ) → map.get m q ≡ map.get n q) → m ≡ n
  same = map.same_map nat_cmp_total map.nat_cmp-IsAntisymmetric

  -- what a map has after an edit
  pub inserted : (m : map.FinMap nat_cmp X) (k : ℕ) (v : X) (q : ℕ) → map.get (map.insert m k v) q ≡ cond (eqb q k) (Some v) (map.get m q)
  inserted m k v q = map.get-insert nat_cmp_total m k v q ∙ ap (λ b. cond b (Some v) (map.get m q)) (eq_by_cmp-eqb q k)

  pub removed : (m : map.FinMap nat_cmp X) (k q : ℕ) → map.get (map.remove m k) q ≡ cond (eqb q k) None (map.get m q)
  removed m k q = map.get-remove nat_cmp_total m k q ∙ ap (λ b. cond b None (map.get m q)) (eq_by_cmp-eqb q k)

  -- to take a key out that isn't there changes nothing
  pub remove_absent : (m : map.FinMap nat_cmp X) (k : ℕ) → map.get m k ≡ None → m ≡ map.remove m k
  remove_absent m k is = same _ _ (λ q. grind (arith, nat_tests, removed m k q, is))

  -- what a key has in the map is what is looked up among the entries
  pub get-map_of : (es : List (ℕ × X)) (q : ℕ) → map.get (map_of es) q ≡ lookup (eqb q) es
  get-map_of [] q = map.get-empty nat_cmp q
  get-map_of (e ∷ es) q = inserted (map_of es) e.0 e.1 q ∙ ap (cond (eqb q e.0) (Some e.1)) (get-map_of es q)

  -- a key that is apart from all others isn't among them
  pub apart : (k : ℕ) (es : List (ℕ × X)) → AllByRecursion (λ y. eqb k y ≡ false) (keys_of es) → lookup (eqb k) es ≡ None
  apart k [] none = refl
  apart k (e ∷ es) none = ap (λ b. cond b (Some e.1) (lookup (eqb k) es)) none.0 ∙ apart k es none.1

  absent : (e : ℕ × X) (es : List (ℕ × X)) → IsDistinct eqb (keys_of (e ∷ es)) → map.get (map_of es) e.0 ≡ None
  unfolding IsDistinct
  absent e es distinct = get-map_of es e.0 ∙ apart e.0 es distinct.0

  rest : (e : ℕ × X) (es : List (ℕ × X)) → IsDistinct eqb (keys_of (e ∷ es)) → IsDistinct eqb (keys_of es)
  unfolding IsDistinct
  rest e es distinct = distinct.1

  -- as many keys as entries
  pub len-map_of : (es : List (ℕ × X)) → IsDistinct eqb (keys_of es) → map.len (map_of es) ≡ length es
  len-map_of [] distinct = map.len-empty nat_cmp X
  len-map_of (e ∷ es) distinct =
      map.len-insert nat_cmp_total (map_of es) e.0 e.1
      ∙ ap (λ o. cond (is_some o) (map.len (map_of es)) (map.len (map_of es) + 1)) (absent e es distinct)
      ∙ omega (arith, len-map_of es (rest e es distinct))

  -- a new key goes among the others
  put_new : (k : ℕ) (v : X) (es : List (ℕ × X)) → find nat_cmp k es ≡ None → IsPermutation ((k, v) ∷ es) (put nat_cmp k v es)
  put_new k v [] none = IsPermutation-refl _
  put_new k v (e ∷ es) none =
      elim (nat_cmp k e.0) as (λ r. cond (is_eq r) (Some e.1) (find nat_cmp k es) ≡ None → IsPermutation ((k, v) ∷ e ∷ es) (by_order r ((k, v) ∷ e ∷ es) ((e.0, v) ∷ es) (e ∷ put nat_cmp k v es))) [
        | Less ↦ λ _. IsPermutation-refl _
        | Equal ↦ λ here. absurd (let clash : Some e.1 ≡ None = here in cc)
        | Greater ↦ λ other.
            IsPermutation-trans _ _ _ (IsPermutation-middle ((k, v) ∷ []) e es)
            (IsPermutation-cons e _ _ (put_new k v es other))
      ] none

  -- the entries are those of the map, in some order
  pub entries-map_of : (es : List (ℕ × X)) → IsDistinct eqb (keys_of es) → IsPermutation es (map.entries (map_of es))
  entries-map_of [] distinct = subst (IsPermutation []) (sym (nil_from_length (map.entries (map.empty {X = X} {R = nat_cmp})) (sym (map.len-entries map.empty) ∙ map.len-empty nat_cmp X))) (IsPermutation-refl [])
  entries-map_of (e ∷ es) distinct =
      subst (IsPermutation (e ∷ es)) (sym (map.entries-insert nat_cmp_total (map_of es) e.0 e.1))
      (IsPermutation-trans _ _ _ (IsPermutation-cons e _ _ (entries-map_of es (rest e es distinct)))
      (put_new e.0 e.1 _ (sym (map.get-entries (map_of es) e.0) ∙ absent e es distinct)))

  -- a sum over the entries is that over the map's
  pub sum_over : (f : ℕ × X → ℕ) (es : List (ℕ × X)) → IsDistinct eqb (keys_of es) → sum_by f es ≡ sum_by f (map.entries (map_of es))
  sum_over f es distinct = sym (sum_by-IsPermutation f es _ (entries-map_of es distinct))
