-- Dates by arithmetic alone: the number of a day, from 1970-01-01, which is day 0. From 1969 to 2100 every fourth year
-- is a leap year, except 2100.
use Rattle.std.specs.Prelude.{ℕ, ◌+◌, ◌-◌, ◌*◌, ◌/◌, ◌%◌, ℤ, pos, neg_ℤ, ◌-ℤ◌, List, [], ◌∷◌, Bool, not, ◌&&◌, ◌||◌, ◌==◌, Option, Some, None, get_or, int_le, length, nat_le, slice_index, if◌then◌else◌}
use Rattle.fp_records.specs.Window.{two_digits}

-- every fourth year, but of the centuries only every fourth
abbrev pub is_leap_year : ℕ → Bool
is_leap_year year = (year % 4 == 0) && (not (year % 100 == 0) || (year % 400 == 0))

-- the days of a month, which is 1 to 12
abbrev pub days_in_month : ℕ → ℕ → ℕ
days_in_month year month =
    if month == 2 then (if is_leap_year year then 29 else 28)
    else (if (month == 4) || (month == 6) || (month == 9) || (month == 11) then 30 else 31)

-- the days of a common year before the first of a month
abbrev pub days_before : ℕ → ℕ
days_before month = get_or (0 ∷ 31 ∷ 59 ∷ 90 ∷ 120 ∷ 151 ∷ 181 ∷ 212 ∷ 243 ∷ 273 ∷ 304 ∷ 334 ∷ []) (month - 1) 0

-- the 29 February before the first of a month
abbrev pub leap_day_before : ℕ → ℕ → ℕ
leap_day_before year month = if is_leap_year year && nat_le 3 month then 1 else 0

-- the number of the day of a date from 1969 to 2100: 1969-01-01 is day -365
abbrev pub day_number : ℕ → ℕ → ℕ → ℤ
day_number year month day =
    pos (365 * (year - 1969) + (year - 1969) / 4 + days_before month + leap_day_before year month + (day - 1)) -ℤ pos 365

-- whether the calendar has a date from 1969 to 2100
abbrev pub is_date : ℕ → ℕ → ℕ → Bool
is_date year month day =
    (nat_le 1969 year && nat_le year 2100) && ((nat_le 1 month && nat_le month 12) && (nat_le 1 day && nat_le day (days_in_month year month)))

-- from 1969-12-31 to 2100-01-01, the days that a moment can fall on in local time
abbrev pub is_reached : ℤ → Bool
is_reached day = int_le (neg_ℤ (pos 1)) day && int_le day (pos 47482)

-- the number of the day of a date that the calendar has
abbrev pub number_of_date : ℕ → ℕ → ℕ → Option ℤ
number_of_date year month day = if is_date year month day then Some (day_number year month day) else None

-- a day, if a moment can fall on it
abbrev pub if_reached : Option ℤ → Option ℤ
if_reached None = None
if_reached (Some day) = if is_reached day then Some day else None

-- the number of the day of a date, if a moment can fall on it
abbrev pub day_at : ℕ → ℕ → ℕ → Option ℤ
day_at year month day = if_reached (number_of_date year month day)

-- the same, of a year in two parts
abbrev pub day_from : Option ℕ → Option ℕ → Option ℕ → Option ℕ → Option ℤ
day_from None years month day = None
day_from (Some hundreds) None month day = None
day_from (Some hundreds) (Some years) None day = None
day_from (Some hundreds) (Some years) (Some month) None = None
day_from (Some hundreds) (Some years) (Some month) (Some day) = day_at (100 * hundreds + years) month day

-- the number of the day that a text YYYY-MM-DD writes
abbrev pub date_of : List ℕ → Option ℤ
date_of text =
    if (length text == 10) && ((slice_index text 4 == 45) && (slice_index text 7 == 45))
    then day_from (two_digits (slice_index text 0) (slice_index text 1)) (two_digits (slice_index text 2) (slice_index text 3))
    (two_digits (slice_index text 5) (slice_index text 6)) (two_digits (slice_index text 8) (slice_index text 9))
    else None
