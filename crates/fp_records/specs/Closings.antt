-- The closed days of a file by their numbers, while it is read.
use Rattle.std.specs.Prelude.{◌≡◌, ℕ, ℤ, ◌+◌, List, [], Bool, bytes_eq, length, map, nat_lt, if◌then◌else◌}
use Rattle.std.specs.BTreeMap.{insert_entry}
use Rattle.std.specs.BTreeSet.{BTreeSet, insert_key}
use Rattle.std.specs.Cmp.Lexicographic.{slice_cmp}
use Rattle.std.specs.Map.{lookup}
use Rattle.std.specs.Option.{unwrap_or}
use Rattle.std.specs.Ordering.{int_cmp, nat_cmp}
use Rattle.fp_records.specs.Closed.{closed_days}
use Rattle.fp_records.specs.declared.closed.ClosedDay.{ClosedDay}

-- how many closed days there are, and the days of each number
pub record Closings : Type 0 where
  pub count : ℕ
  pub days : List (List ℕ × List ℤ)

-- the entries of a map of sets, each its number and its days
abbrev pub listed_days : List (List ℕ × BTreeSet ℤ) → List (List ℕ × List ℤ)
listed_days entries = map (λ entry. (entry.0, entry.1.keys)) entries

-- the days at a number
abbrev pub at_number : List ℕ → List (List ℕ × List ℤ) → List ℤ
at_number digits entries = unwrap_or (lookup (bytes_eq digits) entries) []

-- the entries with a day in the set at a number
abbrev pub with_day : List (List ℕ × List ℤ) → List ℕ → ℤ → List (List ℕ × List ℤ)
with_day entries number day = insert_entry (slice_cmp nat_cmp) entries number (insert_key int_cmp (at_number number entries) day)

-- there is a place for one more
abbrev pub has_place : Closings → Bool
has_place closings = nat_lt closings.count 10000

-- these are the closed days before, by their numbers
pub record Closes (before : List ClosedDay) (closings : Closings) : Type 0 where
  pub count : closings.count ≡ length before
  pub each : (digits : List ℕ) → at_number digits closings.days ≡ closed_days digits before

-- the old closed days with one more
pub record ClosesMore (old : Closings) (closed : ClosedDay) (new : Closings) : Type 0 where
  pub count : new.count ≡ old.count + 1
  pub each : (digits : List ℕ) → at_number digits new.days
      ≡ (if bytes_eq digits closed.number then insert_key int_cmp (at_number closed.number old.days) closed.day else at_number digits old.days)
