-- A number as people read it: decimal digits, with a comma before each three of them from the end on, as 1,234,567; and a
-- rate a second.
use Rattle.std.specs.Prelude.{ℕ, zero, suc, List, ◌++◌, ◌+◌, ◌*◌, ◌/◌, ◌%◌, ◌==◌, ◌&&◌, codes, decimal, nat_lt, if◌then◌else◌}
use Rattle.fp_counters.specs.Counted.{capped}

-- three digits of a number below 1,000, with zeros before it
abbrev pub three_digits : ℕ → List ℕ
three_digits number = decimal (number / 100) ++ (decimal (number / 10 % 10) ++ decimal (number % 10))

-- a number, with at most this many commas
abbrev pub grouped_by : ℕ → ℕ → List ℕ
grouped_by zero number = decimal number
grouped_by (suc commas) number =
    if nat_lt number 1000 then decimal number
    else grouped_by commas (number / 1000) ++ (codes "," ++ three_digits (number % 1000))

-- a number of 64 bits, which is below 1,000 to the power of 7
abbrev pub grouped : ℕ → List ℕ
grouped number = grouped_by 6 number

-- a number of tenths, with a decimal point
abbrev pub tenths_text : ℕ → List ℕ
tenths_text tenths = decimal (tenths / 10) ++ (codes "." ++ decimal (tenths % 10))

-- this many times a number in a period, divided by the length of the period: the nearest whole number, as far as 64 bits
-- hold it; a half is rounded up
abbrev pub nearest : ℕ → ℕ → ℕ → ℕ
nearest times number width = capped ((number * times + width / 2) / width)

-- a rate that has this many tenths a second, and is the nearest to this whole number
abbrev pub rounded_text : ℕ → ℕ → ℕ → List ℕ
rounded_text number tenths whole =
    if nat_lt tenths 1000 then (if tenths == 0 && nat_lt 0 number then codes "under 0.1" else tenths_text tenths)
    else grouped whole

-- a number in a period of this many milliseconds, as a rate a second: in tenths below 100, and else as a whole number
abbrev pub rate_text : ℕ → ℕ → List ℕ
rate_text number width = rounded_text number (nearest 10000 number width) (nearest 1000 number width)
