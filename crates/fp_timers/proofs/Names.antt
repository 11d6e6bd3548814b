-- The names that the proofs of this crate use: of std and of `specs/`.
pub use Rattle.fp_timers.specs.Deadlines.{ComesAfter, HasRoom, IsEarliestDueAfter}
pub use Rattle.fp_timers.specs.Limits.{most_deadlines}
pub use Rattle.fp_timers.specs.Timers.{AreApart, AreFew, IsAt, IsEarliestAfter, IsGapFor, IsInOrder, IsInTimeOrder, IsPlaceAfter, IsPlaceFor, IsTimerAt, IsWith, comes_before, earlier, entries, is_after, joined, timer_at}
pub use Rattle.fp_timers.specs.declared.timers.Timer.{Timer}
pub use Rattle.std.proofs.Common.{Bool, Err, IfErr, IfOk, List, None, Ok, OnErr, OnOk, Option, Result, Some, [], ap, arith, cond, drop, eqb, false, get_or, inl, inr, is_some, length, nat_lt, not, refl, rules, set, subst, suc, sym, take, true, zero, ℕ, ◌&&◌, ◌++◌, ◌+◌, ◌-◌, ◌<◌, ◌==◌, ◌∙◌, ◌∷◌, ◌≡◌, ◌≢◌, ◌≤◌, ◌⊎◌}
pub use Rattle.std.proofs.lemmas.Bool.{and_parts, cases_lt, cases_order, eqb-true, ltb-true, not-false, not-true, or_cases}
pub use Rattle.std.proofs.lemmas.Bool.Decides.{nat_tests}
pub use Rattle.std.proofs.lemmas.Cmp.{ranked}
pub use Rattle.std.proofs.lemmas.List.{get_or_default, set-get_or, set_split, take-append-drop}
pub use Rattle.std.proofs.lemmas.List.Edits.{get_or-insert_above, get_or-insert_at, get_or-insert_below, length-insert, length-remove, get_or-remove_below, get_or-remove_above}
pub use Rattle.std.proofs.lemmas.List.Sorted.{IsNonDecreasingBy-from_default, IsPartitionPoint-from_clause, answers_always}
pub use Rattle.std.proofs.lemmas.List.{append-nil, append_assoc, get_or-append-add, get_or_append_left, length-append}
pub use Rattle.std.proofs.lemmas.List.Elements.{All-append, All-weaker}
pub use Rattle.std.proofs.Math.Seq.{drop-append-add, drop-append_seam, take-append_seam}
pub use Rattle.std.specs.Cmp.{nat_cmp_total}
pub use Rattle.std.specs.FinMap.{FinMap, contains_key, find, from_entries, get, get-from_entries, get-insert, get-remove, insert as map_insert, len, len-empty, len-insert, len-remove, nat_cmp-IsAntisymmetric, remove as map_remove, same_map}
pub use Rattle.std.specs.List.{All, insert, remove}
pub use Rattle.std.specs.List.Sorted.{IsBinarySearchResult, IsNonDecreasingBy, IsPartitionedBy, IsSearchInRange}
pub use Rattle.std.specs.Ordering.{eq_by_cmp, nat_cmp, ordering_index}
