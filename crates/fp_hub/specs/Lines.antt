-- Lines of a log in a list.
use Rattle.std.specs.Prelude.{◌≡◌, List, length, take}
use Rattle.fp_book.specs.declared.line.Line.{Line}

-- what was there before is still at the front
abbrev pub KeepsFront : List Line → List Line → Type 0
KeepsFront old new = take (length old) new ≡ old
