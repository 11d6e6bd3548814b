-- What a binary search by digits finds among entries in the order of their digits.
use Rattle.std.proofs.Common.{◌≡◌, ◌<◌, ◌≤◌, ◌⊎◌, ℕ, zero, suc, List, [], ◌∷◌, Result, Ok, Err, Some, None, MatchResult, inl, inr, get_or, length, refl, sym, ap, ◌∙◌, arith}
use Rattle.std.specs.Cmp.{eq_by_cmp_equiv}
use Rattle.std.specs.Cmp.Lexicographic.{slice_cmp, nat_list_cmp_total}
use Rattle.std.specs.List.{AllByRecursion}
use Rattle.std.specs.List.Sorted.{IsBinarySearchResult, IsNonDecreasingBy, IsSearchInRange, IsStrictlySortedBy}
use Rattle.std.specs.Map.{keys_of, lookup}
use Rattle.std.specs.Ordering.{is_eq, nat_cmp, ordering_index, ordering_reverse}
use Rattle.std.specs.declared.cmp.Ordering.{Ordering}
use Rattle.std.specs.declared.cmp.Ordering.TheVariants.{Less, Equal, Greater}
use Rattle.std.proofs.Math.Nat.{eq-or-lt_of_le}
use Rattle.std.proofs.lemmas.Map.Entries.{lookup_at_gap, lookup_from_place}
use Rattle.std.proofs.lemmas.Map.Keys.{IsDistinct-from_sorted}
use Rattle.std.proofs.lemmas.Map.Lookups.{exact_bytes}
use Rattle.std.proofs.lemmas.Option.{get_or_from_slice_get, slice_get-get_or, slice_get_within}

module _ {X : Type 0} where
  -- what is so of each key is so of that of an entry
  key_at : (P : List ℕ → Type 0) (entries : List (List ℕ × X)) (i : ℕ) (d : List ℕ × X) → AllByRecursion P (keys_of entries) → i < length entries → P (get_or entries i d).0
  key_at P [] i d all inside = absurd (omega arith)
  key_at P (entry ∷ entries) zero d all inside = all.0
  key_at P (entry ∷ entries) (suc i) d all inside = key_at P entries i d all.1 (omega arith)

  keys_rise : (entries : List (List ℕ × X)) (i j : ℕ) (d : List ℕ × X) → IsStrictlySortedBy (slice_cmp nat_cmp) (keys_of entries) → i < j → j < length entries
      → slice_cmp nat_cmp (get_or entries i d).0 (get_or entries j d).0 ≡ Less
  unfolding IsStrictlySortedBy
  keys_rise [] i j d sorted below inside = absurd (omega arith)
  keys_rise (entry ∷ entries) i zero d sorted below inside = absurd (omega arith)
  keys_rise (entry ∷ entries) zero (suc j) d sorted below inside = key_at (λ key. slice_cmp nat_cmp entry.0 key ≡ Less) entries j d sorted.0 (omega arith)
  keys_rise (entry ∷ entries) (suc i) (suc j) d sorted below inside = keys_rise entries i j d sorted.1 (omega arith) (omega arith)

  -- so their comparisons with any digits rise
  comparisons_rise : (entries : List (List ℕ × X)) (digits : List ℕ) → IsStrictlySortedBy (slice_cmp nat_cmp) (keys_of entries)
      → IsNonDecreasingBy (λ entry. ordering_index (slice_cmp nat_cmp entry.0 digits)) entries
  comparisons_rise entries digits sorted i j d order inside = either (eq-or-lt_of_le order)
    where
      low : Ordering → ℕ
      low lower = ordering_index lower

      most : (lower : Ordering) → low lower ≤ 2
      most Less = omega arith
      most Equal = omega arith
      most Greater = omega arith

      by : (lower upper : List ℕ) → slice_cmp nat_cmp lower upper ≡ Less → (at : Ordering) → slice_cmp nat_cmp upper digits ≡ at
          → ordering_index (slice_cmp nat_cmp lower digits) ≤ ordering_index at
      by lower upper rises Less is = rw (nat_list_cmp_total.trans lower upper digits rises is) (omega arith)
      by lower upper rises Equal is = rw (ap (slice_cmp nat_cmp lower) (sym (exact_bytes upper digits is)) ∙ rises) (omega arith)
      by lower upper rises Greater is = most (slice_cmp nat_cmp lower digits)

      either : (i ≡ j) ⊎ (i < j) → ordering_index (slice_cmp nat_cmp (get_or entries i d).0 digits) ≤ ordering_index (slice_cmp nat_cmp (get_or entries j d).0 digits)
      either (inl same) = rw same (omega arith)
      either (inr below) = by (get_or entries i d).0 (get_or entries j d).0 (keys_rise entries i j d sorted below inside) (slice_cmp nat_cmp (get_or entries j d).0 digits) refl

  -- a binary search ends at the entry of the digits, or there is none
  pub searched : (entries : List (List ℕ × X)) (digits : List ℕ) (r : Result ℕ ℕ) → IsStrictlySortedBy (slice_cmp nat_cmp) (keys_of entries) → IsSearchInRange r (length entries)
      → IsBinarySearchResult (λ entry. slice_cmp nat_cmp entry.0 digits) entries r
      → MatchResult r (λ at. (d : List ℕ × X) → lookup (λ key. is_eq (slice_cmp nat_cmp digits key)) entries ≡ Some (get_or entries at d).1) (λ at. lookup (λ key. is_eq (slice_cmp nat_cmp digits key)) entries ≡ None)
  searched entries digits (Ok at) sorted inside equal = λ d.
      let same : (get_or entries at d).0 ≡ digits = exact_bytes (get_or entries at d).0 digits (equal d) in
      rw (← same) (lookup_from_place (eq_by_cmp_equiv nat_list_cmp_total) entries at (get_or entries at d).0 (get_or entries at d).1 (IsDistinct-from_sorted (slice_cmp nat_cmp) (keys_of entries) sorted)
      (slice_get-get_or entries at d inside))
  searched entries digits (Err at) sorted inside parted =
      let parts = parted (comparisons_rise entries digits sorted) in
      lookup_at_gap nat_list_cmp_total digits entries at sorted
      (λ j entry before there. nat_list_cmp_total.antisymm digits entry.0 ∙ ap ordering_reverse (rw (get_or_from_slice_get entries j entry entry there) at (parts.0 j entry (omega arith) before)))
      (λ entry there. nat_list_cmp_total.antisymm digits entry.0 ∙ ap ordering_reverse (rw (get_or_from_slice_get entries at entry entry there) at (parts.1 at entry (omega arith) (slice_get_within entries at entry there))))
