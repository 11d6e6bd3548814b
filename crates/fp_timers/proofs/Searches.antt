-- What a binary search by an identifier finds among timers in the order of their identifiers.
use Rattle.fp_timers.proofs.Names.{Err, IfErr, IfOk, IsAt, IsBinarySearchResult, IsGapFor, IsInOrder, IsNonDecreasingBy, IsNonDecreasingBy-from_default, IsSearchInRange, List, None, Ok, Result, Timer, ap, arith, get, length, nat_cmp, nat_tests, ordering_index, ranked, sym, timer_at, ℕ, ◌∙◌, ◌≡◌, ◌≤◌}
use Rattle.fp_timers.proofs.Lookups.{deadline_in_absent}
use Rattle.fp_timers.proofs.Maps.{map_of, get-map_of}
use Rattle.fp_timers.proofs.Order.{past_end}

module _ (l : List Timer) (sorted : IsInOrder l) (k : ℕ) where
  -- the comparisons with the identifier rise along the list, as a binary search asks
  comparisons_rise : IsNonDecreasingBy (λ (t : Timer). ordering_index (nat_cmp t.local k)) l
  comparisons_rise = IsNonDecreasingBy-from_default (λ (t : Timer). ordering_index (nat_cmp t.local k)) l past_end (λ i j le in_range.
      let rise : (timer_at l i).local ≤ (timer_at l j).local = grind (arith, sorted i j, λ (same : i ≡ j). ap (λ n. (timer_at l n).local) same) in
      grind (arith, nat_tests))

  -- a binary search ends at the identifier, or at the gap for it
  pub searched : (r : Result ℕ ℕ) → IsSearchInRange r (length l) → IsBinarySearchResult (λ (t : Timer). nat_cmp t.local k) l r → record { found : IfOk r (IsAt l k); missing : IfErr r (IsGapFor l k) }
  searched (Ok at) in_range equal = record { found = record { in_range = in_range; has_local = ranked _ k _ (sym (equal past_end)) }; missing = tt }
  searched (Err at) in_range parted = record {
    found = tt;
    missing = record {
      in_range = in_range;
      smaller_before = λ j lt. ranked _ k _ (sym ((parted comparisons_rise).0 j past_end (omega arith) lt));
      greater_after = λ j le lt. ranked _ k _ (sym ((parted comparisons_rise).1 j past_end le lt));
    };
  }

-- an identifier that has a gap has no deadline
pub absent : (l : List Timer) (k at : ℕ) → IsGapFor l k at → get (map_of l) k ≡ None
absent l k at gap = get-map_of l k ∙ deadline_in_absent l k (λ j lt same. grind (arith, gap.smaller_before j, gap.greater_after j))
