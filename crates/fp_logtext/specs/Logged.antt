-- The text of log lines, and where the lines of a link are between its book and the thread that writes the log; and
-- where text is between that thread and the device.
use Rattle.std.specs.Prelude.{◌≡◌, ℕ, ◌<◌, List, [], ◌∷◌, ◌++◌, drop, length, take}
use Rattle.std.specs.declared.option.Option.{Option}
use Rattle.std.specs.Io.KnownBytes.{Appends}
use Rattle.fp_book.specs.declared.line.Line.{Line}
use Rattle.fp_replay.specs.Format.{text_of}

-- the text of a line, with its line feed
abbrev pub line_text : Line → List ℕ
line_text line = text_of line ++ 10 ∷ []

-- the text of lines, the oldest first
abbrev pub lines_text : List Line → List ℕ
lines_text [] = []
lines_text (line ∷ lines) = line_text line ++ lines_text lines

-- text that was made, the lines whose text comes after it, and how many lines got their text so far
pub record LogPart : Type 0 where
  pub text : List ℕ
  pub lines : List Line
  pub line_count : ℕ

abbrev pub no_text : LogPart
no_text = record { text = []; lines = []; line_count = 0 }

-- before its last line this text is shorter than this number of octets
pub record EndsBelow (most : ℕ) (text : List ℕ) : Type 0 where
  pub before : List ℕ
  pub last : Line
  pub below : length before < most
  pub with_last : text ≡ before ++ line_text last

-- The text of the lines that came is the text that was handed to the writing thread, the text that was made, and then
-- that of the lines whose text is being made, that wait, and that were moved out of the book.
pub record Logged (came : List Line) (handed : List ℕ) (part : LogPart) (waiting moved : List Line) : Type 0 where
  pub in_order : lines_text came ≡ handed ++ (part.text ++ lines_text (part.lines ++ (waiting ++ moved)))

-- so it stays
pub record KeepsLines : Type 0 where
  -- before any line came
  pub begins : Logged [] [] no_text [] []
  -- after lines were moved out of the book
  pub drains : (came more : List Line) (handed : List ℕ) (part : LogPart) (waiting moved : List Line)
      → Logged came handed part waiting moved → Logged (came ++ more) handed part waiting (moved ++ more)
  -- after these were taken in
  pub takes_in : (came : List Line) (handed : List ℕ) (part : LogPart) (waiting moved : List Line)
      → Logged came handed part waiting moved → Logged came handed part (waiting ++ moved) []
  -- after lines that wait were taken, to make their text
  pub refills : (came : List Line) (handed : List ℕ) (part : LogPart) (waiting moved : List Line) → part.lines ≡ []
      → Logged came handed part waiting moved → Logged came handed (record part { lines = waiting }) [] moved
  -- after all lines of the book left it at once, as no others are between it and the text
  pub exchanges : (came more : List Line) (handed : List ℕ) (part : LogPart) → part.lines ≡ []
      → Logged came handed part [] [] → Logged (came ++ more) handed (record part { lines = more }) [] []
  -- after text was made
  pub makes : (came : List Line) (handed : List ℕ) (old new : LogPart) (waiting moved : List Line)
      → new.text ++ lines_text new.lines ≡ old.text ++ lines_text old.lines
      → Logged came handed old waiting moved → Logged came handed new waiting moved
  -- after the writing thread took the text
  pub hands : (came : List Line) (handed : List ℕ) (part : LogPart) (waiting moved : List Line)
      → Logged came handed part waiting moved → Logged came (handed ++ part.text) (record part { text = [] }) waiting moved

-- The text that the writing thread was handed is what the device of the log took since it had these contents, and then
-- what it hasn't taken.
pub record Written (before now : Option (List ℕ)) (handed unwritten : List ℕ) : Type 0 where
  pub has : List ℕ
  pub appends : Appends before now has
  pub in_order : handed ≡ has ++ unwritten

-- so it stays
pub record KeepsText : Type 0 where
  -- before any text was handed
  pub begins : (before : Option (List ℕ)) → Written before before [] []
  -- after more was
  pub adds : (before now : Option (List ℕ)) (handed unwritten more : List ℕ)
      → Written before now handed unwritten → Written before now (handed ++ more) (unwritten ++ more)
  -- after the device took this number of octets
  pub writes : (before now later : Option (List ℕ)) (handed unwritten : List ℕ) (count : ℕ)
      → Appends now later (take count unwritten)
      → Written before now handed unwritten → Written before later handed (drop count unwritten)
