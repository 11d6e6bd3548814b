-- A closed day: `closed`, a number, and the date on which no rule of the number fits.
use Rattle.std.specs.Prelude.{ℕ, ℤ, List, [], ◌∷◌, Option, Some, None, Result, Ok, Err, bytes_eq, filter, fold, map}
use Rattle.std.specs.BTreeSet.{insert_key}
use Rattle.std.specs.Ordering.{int_cmp}
use Rattle.fp_records.specs.Date.{date_of}
use Rattle.fp_records.specs.Digits.{some_digits_of}
use Rattle.fp_records.specs.declared.closed.ClosedDay.{ClosedDay}
use Rattle.fp_records.specs.declared.fault.Reason.{Reason}
use Rattle.fp_records.specs.declared.fault.Reason.TheVariants.{BadClosed}

-- the closed day with this number and this date, if each has its form
abbrev pub closed_from : Option (List ℕ) → Option ℤ → Result ClosedDay Reason
closed_from None day = Err BadClosed
closed_from (Some number) None = Err BadClosed
closed_from (Some number) (Some day) = Ok (record { number = number; day = day })

-- what a record that begins with `closed` reads as: three fields, the number and the date in their places
abbrev pub closed_in : List (List ℕ) → Result ClosedDay Reason
closed_in [] = Err BadClosed
closed_in (name ∷ []) = Err BadClosed
closed_in (name ∷ number ∷ []) = Err BadClosed
closed_in (name ∷ number ∷ date ∷ []) = closed_from (some_digits_of number) (date_of date)
closed_in (name ∷ number ∷ date ∷ more ∷ rest) = Err BadClosed

-- days, each once and in rising order
abbrev pub as_set : List ℤ → List ℤ
as_set days = fold (insert_key int_cmp) [] days

-- the days on which a number is closed, each once and in rising order
abbrev pub closed_days : List ℕ → List ClosedDay → List ℤ
closed_days digits closed = as_set (map (λ c. c.day) (filter (λ c. bytes_eq digits c.number) closed))
