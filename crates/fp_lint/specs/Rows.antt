-- The records of a text as they are read.
use Rattle.std.specs.Prelude.{ℕ, List, Bool, true, false, map}
use Rattle.csv.specs.Records.{fields_of}
use Rattle.fp_lint.specs.declared.rows.Row.{Row}
use Rattle.fp_records.specs.declared.version.Version.{Version}
use Rattle.fp_records.specs.declared.version.Version.TheVariants.{One, Two}

-- their fields
abbrev pub rows_in : List Row → List (List (List ℕ))
rows_in rows = map (λ row. fields_of row.fields) rows

-- the version of a file: 2 or 1
abbrev pub version_if : Bool → Version
version_if true = Two
version_if false = One
