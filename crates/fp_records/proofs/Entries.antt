-- What an insertion and a write do to a map's entries as contracts see them.
use Rattle.std.proofs.Common.{◌≡◌, ◌+◌, ◌≤◌, ℕ, List, [], ◌∷◌, Bool, true, false, cond, Some, None, length, refl, sym, ap, ◌∙◌, arith, if◌then◌else◌, ◌&&◌}
use Rattle.std.specs.Prelude.{bytes_eq}
use Rattle.std.specs.BTreeMap.{insert_entry, is_at}
use Rattle.std.specs.Cmp.Lexicographic.{slice_cmp, texts_ties, nat_list_cmp_total}
use Rattle.std.specs.List.{list_all}
use Rattle.std.specs.List.Sorted.{IsStrictlySortedBy}
use Rattle.std.specs.Map.{keys_of, lookup, set_value}
use Rattle.std.proofs.lemmas.Map.Entries.{lookup_at_gap}
use Rattle.std.specs.Ordering.{is_eq, match_ordering, nat_cmp, ordering_reverse}
use Rattle.std.specs.declared.cmp.Ordering.{Ordering}
use Rattle.std.specs.declared.cmp.Ordering.TheVariants.{Less, Equal, Greater}
use Rattle.std.proofs.lemmas.Map.Lookups.{exact_bytes}
use Rattle.fp_records.proofs.Lookups.{seen}

pub seen-insert_entry : {X Y : Type 0} (shown : X → Y) (entries : List (List ℕ × X)) (key : List ℕ) (value : X)
    → seen shown (insert_entry (slice_cmp nat_cmp) entries key value) ≡ insert_entry (slice_cmp nat_cmp) (seen shown entries) key (shown value)
seen-insert_entry shown [] key value = refl
seen-insert_entry shown (entry ∷ entries) key value = by (slice_cmp nat_cmp key entry.0) (seen-insert_entry shown entries key value)
  where
    by : (order : Ordering) → seen shown (insert_entry (slice_cmp nat_cmp) entries key value) ≡ insert_entry (slice_cmp nat_cmp) (seen shown entries) key (shown value)
        → seen shown (match_ordering order ((key, value) ∷ entry ∷ entries) ((entry.0, value) ∷ entries) (entry ∷ insert_entry (slice_cmp nat_cmp) entries key value))
        ≡ match_ordering order ((key, shown value) ∷ seen shown (entry ∷ entries)) ((entry.0, shown value) ∷ seen shown entries) ((entry.0, shown entry.1) ∷ insert_entry (slice_cmp nat_cmp) (seen shown entries) key (shown value))
    by Less more = refl
    by Equal more = refl
    by Greater more = rw more refl

-- a value that is written where the key is found is inserted there
pub set_value-found : {X : Type 0} (entries : List (List ℕ × X)) (key : List ℕ) (old new : X) → IsStrictlySortedBy (slice_cmp nat_cmp) (keys_of entries)
    → lookup (is_at (slice_cmp nat_cmp key)) entries ≡ Some old → set_value (is_at (slice_cmp nat_cmp key)) entries new ≡ insert_entry (slice_cmp nat_cmp) entries key new
unfolding IsStrictlySortedBy
set_value-found [] key old new sorted found = cc
set_value-found {X} (entry ∷ entries) key old new sorted found =
    by (slice_cmp nat_cmp key entry.0) refl (set_value-found entries key old new sorted.1)
  where
    rest : (order : Ordering) → slice_cmp nat_cmp key entry.0 ≡ order → is_eq order ≡ false → lookup (is_at (slice_cmp nat_cmp key)) entries ≡ Some old
    rest order is apart = rw (is, apart) at found

    by : (order : Ordering) → slice_cmp nat_cmp key entry.0 ≡ order
        → (lookup (is_at (slice_cmp nat_cmp key)) entries ≡ Some old → set_value (is_at (slice_cmp nat_cmp key)) entries new ≡ insert_entry (slice_cmp nat_cmp) entries key new)
        → cond (is_eq order) ((entry.0, new) ∷ entries) (entry ∷ set_value (is_at (slice_cmp nat_cmp key)) entries new)
        ≡ match_ordering order ((key, new) ∷ entry ∷ entries) ((entry.0, new) ∷ entries) (entry ∷ insert_entry (slice_cmp nat_cmp) entries key new)
    by Less is more =
        let none = lookup_at_gap nat_list_cmp_total key (entry ∷ entries) 0 sorted (λ j e low at. absurd (omega arith)) (λ e at. first e at is) in
        cc (none, found)
      where
        first : (e : List ℕ × X) → Some entry ≡ Some e → slice_cmp nat_cmp key entry.0 ≡ Less → slice_cmp nat_cmp key e.0 ≡ Less
        first e at less =
            let same : entry ≡ e = cc at in
            rw same at less
    by Equal is more = refl
    by Greater is more = rw (more (rest Greater is refl)) refl

-- so it is in what contracts see
pub seen-written : {X Y : Type 0} (shown : X → Y) (entries : List (List ℕ × X)) (key : List ℕ) (old new : X) → IsStrictlySortedBy (slice_cmp nat_cmp) (keys_of entries)
    → lookup (is_at (slice_cmp nat_cmp key)) entries ≡ Some old → seen shown (set_value (is_at (slice_cmp nat_cmp key)) entries new) ≡ insert_entry (slice_cmp nat_cmp) (seen shown entries) key (shown new)
seen-written shown entries key old new sorted found =
    ap (seen shown) (set_value-found entries key old new sorted found) ∙ seen-insert_entry shown entries key new

-- a value that looks as the old one changes nothing there
pub seen-rewritten : {X Y : Type 0} (shown : X → Y) (test : List ℕ → Bool) (entries : List (List ℕ × X)) (old new : X) → lookup test entries ≡ Some old → shown new ≡ shown old
    → seen shown (set_value test entries new) ≡ seen shown entries
seen-rewritten shown test [] old new found same = refl
seen-rewritten shown test (entry ∷ entries) old new found same = by (test entry.0) refl (λ later. seen-rewritten shown test entries old new later same)
  where
    by : (here : Bool) → test entry.0 ≡ here → (lookup test entries ≡ Some old → seen shown (set_value test entries new) ≡ seen shown entries)
        → seen shown (cond here ((entry.0, new) ∷ entries) (entry ∷ set_value test entries new)) ≡ seen shown (entry ∷ entries)
    by true is more =
        let was : entry.1 ≡ old = cc (rw is at found) in
        rw (same, was) refl
    by false is more = rw (more (rw is at found)) refl

-- digits are equal to themselves
itself : (key : List ℕ) → slice_cmp nat_cmp key key ≡ Equal
itself key = by (slice_cmp nat_cmp key key) (nat_list_cmp_total.antisymm key key)
  where
    by : (order : Ordering) → order ≡ ordering_reverse order → order ≡ Equal
    by Less is = cc
    by Equal is = refl
    by Greater is = cc

-- of two values that are inserted at a key the second one is there
pub inserted_again : {X : Type 0} (entries : List (List ℕ × X)) (key : List ℕ) (first second : X)
    → insert_entry (slice_cmp nat_cmp) (insert_entry (slice_cmp nat_cmp) entries key first) key second ≡ insert_entry (slice_cmp nat_cmp) entries key second
inserted_again [] key first second = rw (itself key) refl
inserted_again {X} (entry ∷ entries) key first second = by (slice_cmp nat_cmp key entry.0) refl (inserted_again entries key first second)
  where
    by : (order : Ordering) → slice_cmp nat_cmp key entry.0 ≡ order
        → insert_entry (slice_cmp nat_cmp) (insert_entry (slice_cmp nat_cmp) entries key first) key second ≡ insert_entry (slice_cmp nat_cmp) entries key second
        → insert_entry (slice_cmp nat_cmp) (match_ordering order ((key, first) ∷ entry ∷ entries) ((entry.0, first) ∷ entries) (entry ∷ insert_entry (slice_cmp nat_cmp) entries key first)) key second
        ≡ match_ordering order ((key, second) ∷ entry ∷ entries) ((entry.0, second) ∷ entries) (entry ∷ insert_entry (slice_cmp nat_cmp) entries key second)
    by Less is more = rw (itself key) refl
    by Equal is more = rw is refl
    by Greater is more = rw (is, more) refl

-- a value that looks as the one at its key changes nothing there
pub inserted_same : {X Y : Type 0} (shown : X → Y) (entries : List (List ℕ × X)) (key : List ℕ) (old new : X) → IsStrictlySortedBy (slice_cmp nat_cmp) (keys_of entries)
    → lookup (is_at (slice_cmp nat_cmp key)) entries ≡ Some old → shown new ≡ shown old → insert_entry (slice_cmp nat_cmp) (seen shown entries) key (shown new) ≡ seen shown entries
inserted_same shown entries key old new sorted found same =
    sym (seen-written shown entries key old new sorted found) ∙ seen-rewritten shown (is_at (slice_cmp nat_cmp key)) entries old new found same

-- equal digits are the same digits
pub same_digits : (a b : List ℕ) → bytes_eq a b ≡ true → a ≡ b
same_digits a b equal = by (slice_cmp nat_cmp a b) refl (sym (texts_ties a b) ∙ equal)
  where
    by : (order : Ordering) → slice_cmp nat_cmp a b ≡ order → is_eq order ≡ true → a ≡ b
    by Less is equal = cc
    by Equal is equal = exact_bytes a b is
    by Greater is equal = cc

-- what a look-up finds after an insertion
pub lookup-insert_entry : {X : Type 0} (digits key : List ℕ) (value : X) (entries : List (List ℕ × X))
    → lookup (bytes_eq digits) (insert_entry (slice_cmp nat_cmp) entries key value) ≡ (if bytes_eq digits key then Some value else lookup (bytes_eq digits) entries)
lookup-insert_entry digits key value [] = refl
lookup-insert_entry digits key value (entry ∷ entries) = by (slice_cmp nat_cmp key entry.0) refl (bytes_eq digits entry.0) refl (lookup-insert_entry digits key value entries)
  where
    by : (order : Ordering) → slice_cmp nat_cmp key entry.0 ≡ order → (here : Bool) → bytes_eq digits entry.0 ≡ here
        → lookup (bytes_eq digits) (insert_entry (slice_cmp nat_cmp) entries key value) ≡ (if bytes_eq digits key then Some value else lookup (bytes_eq digits) entries)
        → lookup (bytes_eq digits) (match_ordering order ((key, value) ∷ entry ∷ entries) ((entry.0, value) ∷ entries) (entry ∷ insert_entry (slice_cmp nat_cmp) entries key value))
        ≡ (if bytes_eq digits key then Some value else cond here (Some entry.1) (lookup (bytes_eq digits) entries))
    by Less is here test more = rw test refl
    by Equal is here test more = rw (exact_bytes key entry.0 is, test) (either here)
      where
        either : (h : Bool) → cond h (Some value) (lookup (bytes_eq digits) entries) ≡ (if h then Some value else cond h (Some entry.1) (lookup (bytes_eq digits) entries))
        either true = refl
        either false = refl
    by Greater is true test more =
        let same = same_digits digits entry.0 test in
        let apart : bytes_eq digits key ≡ false = rw (texts_ties digits key, same) (ap is_eq (nat_list_cmp_total.antisymm entry.0 key ∙ ap ordering_reverse is)) in
        rw (test, apart) refl
    by Greater is false test more = rw (test, more) refl

pub length-insert_entry : {X : Type 0} (key : List ℕ) (value : X) (entries : List (List ℕ × X)) → length (insert_entry (slice_cmp nat_cmp) entries key value) ≤ length entries + 1
length-insert_entry key value [] = omega arith
length-insert_entry key value (entry ∷ entries) = by (slice_cmp nat_cmp key entry.0) (length-insert_entry key value entries)
  where
    by : (order : Ordering) → length (insert_entry (slice_cmp nat_cmp) entries key value) ≤ length entries + 1
        → length (match_ordering order ((key, value) ∷ entry ∷ entries) ((entry.0, value) ∷ entries) (entry ∷ insert_entry (slice_cmp nat_cmp) entries key value)) ≤ length (entry ∷ entries) + 1
    by Less more = omega arith
    by Equal more = omega arith
    by Greater more = omega (arith, more)

-- what is so of each entry
pub list_all-insert_entry : {X : Type 0} (holds : List ℕ × X → Bool) (key : List ℕ) (value : X) (entries : List (List ℕ × X)) → holds (key, value) ≡ true → list_all holds entries ≡ true
    → list_all holds (insert_entry (slice_cmp nat_cmp) entries key value) ≡ true
list_all-insert_entry holds key value [] new old = rw new refl
list_all-insert_entry holds key value (entry ∷ entries) new old = by (holds entry) refl (λ rest. list_all-insert_entry holds key value entries new rest) old
  where
    at : (order : Ordering) → slice_cmp nat_cmp key entry.0 ≡ order → list_all holds (insert_entry (slice_cmp nat_cmp) entries key value) ≡ true → holds entry ≡ true → list_all holds entries ≡ true
        → list_all holds (match_ordering order ((key, value) ∷ entry ∷ entries) ((entry.0, value) ∷ entries) (entry ∷ insert_entry (slice_cmp nat_cmp) entries key value)) ≡ true
    at Less is more here rest = rw (new, here, rest) refl
    at Equal is more here rest =
        let same = exact_bytes key entry.0 is in
        let there : holds (entry.0, value) ≡ true = rw (← same) new in
        rw (there, rest) refl
    at Greater is more here rest = rw (here, more) refl

    by : (here : Bool) → holds entry ≡ here → (list_all holds entries ≡ true → list_all holds (insert_entry (slice_cmp nat_cmp) entries key value) ≡ true)
        → (here && list_all holds entries) ≡ true → list_all holds (insert_entry (slice_cmp nat_cmp) (entry ∷ entries) key value) ≡ true
    by true is more rest = at (slice_cmp nat_cmp key entry.0) refl (more rest) is rest
    by false is more rest = cc

-- digits that are no key's are found nowhere
pub lookup-apart : {X : Type 0} (holds : List ℕ → Bool) (digits : List ℕ) (entries : List (List ℕ × X)) → list_all (λ entry. holds entry.0) entries ≡ true → holds digits ≡ false
    → lookup (bytes_eq digits) entries ≡ None
lookup-apart holds digits [] all apart = refl
lookup-apart holds digits (entry ∷ entries) all apart = by (holds entry.0) refl (bytes_eq digits entry.0) refl (λ rest. lookup-apart holds digits entries rest apart) all
  where
    by : (here : Bool) → holds entry.0 ≡ here → (found : Bool) → bytes_eq digits entry.0 ≡ found → (list_all (λ e. holds e.0) entries ≡ true → lookup (bytes_eq digits) entries ≡ None)
        → (here && list_all (λ e. holds e.0) entries) ≡ true → cond found (Some entry.1) (lookup (bytes_eq digits) entries) ≡ None
    by true is true test more rest =
        let same = same_digits digits entry.0 test in
        let there : holds digits ≡ true = rw same is in
        cc (there, apart)
    by true is false test more rest = more rest
    by false is found test more rest = cc
