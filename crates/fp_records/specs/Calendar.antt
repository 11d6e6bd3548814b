-- Local time by arithmetic alone: whole minutes since 1970-01-01T00:00 local time, which was a Thursday. Divisions go
-- down, below 0 too.
use Rattle.std.specs.Prelude.{ℕ, ◌+◌, ◌/◌, ℤ, pos, ◌+ℤ◌, unsigned_abs}
use Rattle.std.specs.Int.{int_div_euclid, int_rem_euclid}

-- the local minutes at a moment, which is in milliseconds, with local time this number of minutes east of UTC
abbrev pub local_minutes : ℕ → ℤ → ℤ
local_minutes moment offset = pos (moment / 60000) +ℤ offset

-- the minute of the day, 0 to 1439
abbrev pub minute_of_day : ℤ → ℕ
minute_of_day minutes = unsigned_abs (int_rem_euclid minutes (pos 1440))

-- the weekday, 1 for Monday to 7 for Sunday
abbrev pub weekday_of : ℤ → ℕ
weekday_of minutes = unsigned_abs (int_rem_euclid (int_div_euclid minutes (pos 1440) +ℤ pos 3) (pos 7)) + 1

-- the number of the day, 0 for 1970-01-01
abbrev pub day_of : ℤ → ℤ
day_of minutes = int_div_euclid minutes (pos 1440)
