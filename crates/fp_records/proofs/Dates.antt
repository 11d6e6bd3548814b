-- The day numbers of the calendar are those of the arithmetic.
use Rattle.std.proofs.Common.{◌≡◌, ℕ, ◌+◌, ◌-◌, ◌*◌, ◌/◌, ◌≤◌, ℤ, pos, Bool, true, false, Some, cond, nat_le, nat_lt, arith, refl, ◌∙◌}
use Rattle.std.proofs.lemmas.Bool.Decides.{nat_tests}
use Rattle.jiff_core.proofs.CalendarLemmas.{day_count-day_of_year, days_from_civil-day_count, days_of_months_table}
use Rattle.jiff_core.proofs.MarchLemmas.{day_count-early, leap_day}
use Rattle.jiff_core.proofs.SignedLemmas.{signed_arith}
use Rattle.jiff_core.specs.Calendar.{day_count, days_from_civil, days_of_months}
use Rattle.jiff_core.specs.Date.{IsYmd, epoch_day}
use Rattle.jiff_core.specs.declared.civil.date.Date.{Date}
use Rattle.fp_records.specs.Date.{day_number, days_before, days_in_month, is_date, leap_day_before, number_of_date}

-- the days before a year
year_start : (year : ℕ) → 1969 ≤ year → year ≤ 2100 → day_count (pos year) 1 1 + 365 ≡ 4_371_953 + (365 * (year - 1969) + (year - 1969) / 4)
year_start year low high =
    let early = day_count-early (pos year) (year + 9999) 1 1 (omega (arith, signed_arith)) (omega arith) (omega arith) (omega arith) in
    omega (arith, early)

-- the days before a month of a year
month_start : (year month : ℕ) → 1 ≤ month → month ≤ 12 → days_of_months (pos year) (month - 1) ≡ days_before month + leap_day_before year month
month_start year month low high =
    let table = days_of_months_table (pos year) (month - 1) (omega arith) in
    rw table (by (nat_le 3 month) refl)
  where
    by : (late : Bool) → nat_le 3 month ≡ late → days_before month + cond (nat_lt 1 (month - 1)) (leap_day (pos year)) 0 ≡ days_before month + leap_day_before year month
    by true is =
        let past : nat_lt 1 (month - 1) ≡ true = grind (arith, nat_tests) in
        rw past (grind arith)
    by false is =
        let past : nat_lt 1 (month - 1) ≡ false = grind (arith, nat_tests) in
        rw past (grind arith)

pub day_number-is : (year month day : ℕ) → 1969 ≤ year → year ≤ 2100 → 1 ≤ month → month ≤ 12 → 1 ≤ day → days_from_civil (pos year) month day ≡ day_number year month day
day_number-is year month day low high first last some =
    let count = day_count-day_of_year (pos year) month day some in
    let start = year_start year low high in
    let months = month_start year month first last in
    let number = days_from_civil-day_count (pos year) month day in
    omega (arith, signed_arith, count, start, months, number)

-- a date of the calendar is one of the arithmetic
is_date-of : (year month day : ℕ) (date : Date) → 1969 ≤ year → year ≤ 2100 → IsYmd (pos year) (pos month) (pos day) date → is_date year month day ≡ true
is_date-of year month day date low high ymd =
    let month_is : date.month ≡ month = omega (arith, signed_arith, ymd.1) in
    let day_is : date.day ≡ day = omega (arith, signed_arith, ymd.2) in
    let month_in = rw month_is at date.month_in in
    let day_in = rw (ymd.0, month_is, day_is) at date.day_in in
    let last : nat_le day (days_in_month year month) ≡ true = grind (arith, nat_tests, day_in) in
    rw last (grind (arith, nat_tests))

pub number_of_date-is : (year month day : ℕ) (date : Date) (n : ℤ) → 1969 ≤ year → year ≤ 2100 → IsYmd (pos year) (pos month) (pos day) date → n ≡ epoch_day date
    → number_of_date year month day ≡ Some n
number_of_date-is year month day date n low high ymd is =
    let month_is : date.month ≡ month = omega (arith, signed_arith, ymd.1) in
    let day_is : date.day ≡ day = omega (arith, signed_arith, ymd.2) in
    let month_in = rw month_is at date.month_in in
    let day_in = rw (ymd.0, month_is, day_is) at date.day_in in
    let number : n ≡ day_number year month day =
    rw (ymd.0, month_is, day_is) at is ∙ day_number-is year month day low high month_in.0 month_in.1 day_in.0 in
    rw (is_date-of year month day date low high ymd, ← number) refl
