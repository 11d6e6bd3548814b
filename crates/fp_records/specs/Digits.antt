-- The decimal digits of a number or a prefix, and the text that writes them.
use Rattle.std.specs.Prelude.{ℕ, ◌-◌, List, Bool, ◌&&◌, Option, Some, None, length, map, nat_lt, nat_le, if◌then◌else◌}
use Rattle.std.specs.Char.{is_ascii_digit}
use Rattle.std.specs.List.{list_all}

-- the digits that a text writes, where it is at most 15 decimal digits
abbrev pub digits_of : List ℕ → Option (List ℕ)
digits_of text =
    if nat_le (length text) 15 && list_all is_ascii_digit text then Some (map (λ octet. octet - 48) text) else None

-- the same, of 1 digit or more
abbrev pub some_digits_of : List ℕ → Option (List ℕ)
some_digits_of text = if nat_lt 0 (length text) then digits_of text else None

-- at most 15 digits, each a decimal one
abbrev pub is_decimal : List ℕ → Bool
is_decimal digits = nat_le (length digits) 15 && list_all (λ digit. nat_lt digit 10) digits

-- digits that are at most 15 decimal ones
abbrev pub decimal_of : List ℕ → Option (List ℕ)
decimal_of digits = if is_decimal digits then Some digits else None
