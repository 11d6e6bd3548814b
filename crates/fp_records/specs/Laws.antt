-- What holds of the closed days of every file.
use Rattle.std.specs.Prelude.{◌≡◌, ℕ, ℤ, List, ◌&&◌, bytes_eq}
use Rattle.std.specs.List.{list_any}
use Rattle.std.specs.Ordering.{int_eq}
use Rattle.fp_records.specs.Choice.{is_closed_on}
use Rattle.fp_records.specs.Closed.{closed_days}
use Rattle.fp_records.specs.declared.closed.ClosedDay.{ClosedDay}

-- a number is closed on a day exactly if one of the closed days has this number and this day
abbrev pub ClosedDaysAreThoseOfTheFile : Type 0
ClosedDaysAreThoseOfTheFile =
    (digits : List ℕ) (day : ℤ) (closed : List ClosedDay)
    → is_closed_on day (closed_days digits closed) ≡ list_any (λ c. bytes_eq digits c.number && int_eq day c.day) closed
