-- What holds of the text of all lines.
use Rattle.std.specs.Prelude.{◌≡◌}
use Rattle.fp_book.specs.declared.line.Line.{Line}
use Rattle.fp_replay.specs.Format.{IsLine, text_of}

-- no two lines have one text
abbrev pub TextIsOfOneLine : Type 0
TextIsOfOneLine = (a b : Line) → IsLine a → IsLine b → text_of a ≡ text_of b → a ≡ b
