-- Plain decimal numbers: one digit or more and nothing else, in a text of any length.
use Rattle.std.specs.Prelude.{ℕ, ◌+◌, ◌-◌, ◌*◌, List, ◌&&◌, Option, Some, None, fold, length, nat_lt, nat_le, if◌then◌else◌}
use Rattle.std.specs.Char.{is_ascii_digit}
use Rattle.std.specs.List.{list_all}

-- the number that digits write after those of n
abbrev pub number_after : ℕ → List ℕ → ℕ
number_after n text = fold (λ m octet. 10 * m + (octet - 48)) n text

-- the number that digits write
abbrev pub number_of : List ℕ → ℕ
number_of text = number_after 0 text

-- the number of a text, where it is one or more digits and writes at most `most`
abbrev pub number_up_to : ℕ → List ℕ → Option ℕ
number_up_to most text =
    if nat_lt 0 (length text) && (list_all is_ascii_digit text && nat_le (number_of text) most) then Some (number_of text) else None
