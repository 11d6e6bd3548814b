-- What holds of the lines of all octets.
use Rattle.std.specs.Prelude.{◌≡◌, ℕ, ◌<◌, List, [], ◌∷◌, ◌++◌, length}
use Rattle.std.specs.List.{All}
use Rattle.fp_streams.specs.Following.{ended}
use Rattle.fp_streams.specs.Line.{BeginsLong, IsOneLine, lines_of}

-- a line feed ends a line, whatever follows
abbrev pub LineFeedEndsLine : Type 0
LineFeedEndsLine = (line rest : List ℕ) → IsOneLine line → lines_of (line ++ 10 ∷ rest) ≡ line ∷ lines_of rest

-- the end of the octets ends a line in which something is
abbrev pub EndEndsLine : Type 0
EndEndsLine = (line : List ℕ) → IsOneLine line → 0 < length line → lines_of line ≡ line ∷ []

-- after the last line feed there is no line if there is no octet
abbrev pub NoneHasNoLine : Type 0
NoneHasNoLine = lines_of [] ≡ []

-- lines with a line feed each, and what comes after the last one, are these lines
abbrev pub EndedLines : Type 0
EndedLines = (lines : List (List ℕ)) (rest : List ℕ) → All IsOneLine lines → lines_of (ended lines ++ rest) ≡ lines ++ lines_of rest

-- a line that is begun and too long already is too long, whatever follows
abbrev pub LongStaysLong : Type 0
LongStaysLong = (most : ℕ) (begun rest : List ℕ) → IsOneLine begun → most < length begun → BeginsLong most (lines_of (begun ++ rest))
