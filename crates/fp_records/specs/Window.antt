-- A window of the day, in minutes from midnight: from the first minute on, up to and without the second one,
-- over midnight where the first is the later.
use Rattle.std.specs.Prelude.{◌≢◌, ℕ, ◌+◌, ◌-◌, ◌*◌, ◌<◌, ◌≤◌, List, Bool, ◌&&◌, ◌||◌, ◌==◌, Option, Some, None, length, nat_lt, nat_le, slice_index, if◌then◌else◌}
use Rattle.std.specs.Char.{is_ascii_digit}

pub record Period : Type 0 where
  pub from : ℕ
  pub to : ℕ

-- from 00:00 to 23:59, up to 00:00 to 24:00, and not the same
pub record IsPeriod (period : Period) : Type 0 where
  pub first : period.from < 1440
  pub last : period.to ≤ 1440
  pub differ : period.from ≢ period.to

-- the window between two minutes, where they differ
abbrev pub period_between : ℕ → ℕ → Option Period
period_between from to = if from == to then None else Some (record { from = from; to = to })

-- whether a window holds a minute of the day
abbrev pub holds_minute : Period → ℕ → Bool
holds_minute period minute =
    if nat_lt period.from period.to then nat_le period.from minute && nat_lt minute period.to
    else nat_le period.from minute || nat_lt minute period.to

-- the number that two decimal digits write
abbrev pub two_digits : ℕ → ℕ → Option ℕ
two_digits tens ones =
    if is_ascii_digit tens && is_ascii_digit ones then Some (10 * (tens - 48) + (ones - 48)) else None

-- the minute of the day at an hour and a minute of it, where it is no later than the last one
abbrev pub minute_at : ℕ → Option ℕ → Option ℕ → Option ℕ
minute_at last None minute = None
minute_at last (Some hour) None = None
minute_at last (Some hour) (Some minute) =
    if nat_lt minute 60 && nat_le (60 * hour + minute) last then Some (60 * hour + minute) else None

-- the minute of the day that a text HH:MM writes
abbrev pub time_of : ℕ → List ℕ → Option ℕ
time_of last text =
    if (length text == 5) && (slice_index text 2 == 58)
    then minute_at last (two_digits (slice_index text 0) (slice_index text 1)) (two_digits (slice_index text 3) (slice_index text 4))
    else None
