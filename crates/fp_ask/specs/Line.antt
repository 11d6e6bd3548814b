-- What a line of the input says, and the line that is written for a frame.
use Rattle.std.specs.Prelude.{ℕ, ◌+◌, ◌-◌, ◌*◌, List, [], ◌∷◌, ◌++◌, ◌&&◌, Option, Some, None, Result, Ok, Err, fold, drop, length, nat_eq, nat_le, if◌then◌else◌, codes}
use Rattle.std.specs.Char.{is_ascii_digit}
use Rattle.std.specs.List.{flat_map, list_all, starts_with}
use Rattle.hex.specs.Hex.{decode_of, encode_upper}
use Rattle.hex.specs.declared.error.FromHexError.{FromHexError}

-- the octets of a message, or the milliseconds of a wait
pub data Input : Type 0 where
  message : List ℕ → Input
  wait : ℕ → Input

-- the number that decimal digits write
abbrev pub number_of : List ℕ → ℕ
number_of digits = fold (λ n digit. 10 * n + (digit - 48)) 0 digits

-- how many digits a wait may have, and how many octets a message
abbrev pub most_digits : ℕ
most_digits = 13

abbrev pub most_octets : ℕ
most_octets = 4096

-- the number of 1 to 13 decimal digits
abbrev pub wait_in : List ℕ → Option ℕ
wait_in digits =
    if nat_le 1 (length digits) && (nat_le (length digits) most_digits && list_all is_ascii_digit digits)
    then Some (number_of digits) else None

-- a message of 1 to 4,096 octets
abbrev pub message_in : Result (List ℕ) FromHexError → Option Input
message_in (Ok octets) = if nat_le 1 (length octets) && nat_le (length octets) most_octets then Some (message octets) else None
message_in (Err e) = None

-- a wait, if there is one
abbrev pub some_wait : Option ℕ → Option Input
some_wait (Some milliseconds) = Some (wait milliseconds)
some_wait None = None

-- What a line says: `+` and 1 to 13 decimal digits are a wait, the hexadecimal text of 1 to 4,096 octets is a message,
-- and any other line says nothing that is taken.
abbrev pub line_in : List ℕ → Option Input
line_in text =
    if starts_with nat_eq text (codes "+") then some_wait (wait_in (drop 1 text)) else message_in (decode_of text)

-- the line that is written for a frame: its message, without the head, as hexadecimal digits in upper case, and a line
-- feed
abbrev pub line_for : List ℕ → List ℕ
line_for frame = encode_upper (drop 4 frame) ++ 10 ∷ []

-- the lines of frames, one after the other
abbrev pub text_of : List (List ℕ) → List ℕ
text_of frames = flat_map line_for frames
