-- The version of a records file. A file of version 2 has a line that says so before its head; a file of version 1
-- begins with its head.
use Rattle.std.specs.Prelude.{ℕ, List, [], ◌∷◌, Bool, false, Option, Some, None, codes, bytes_eq, if◌then◌else◌}
use Rattle.fp_records.specs.declared.version.Version.{Version}
use Rattle.fp_records.specs.declared.version.Version.TheVariants.{One, Two}

-- whether the first field of a record is this word
abbrev pub begins_with : List ℕ → List (List ℕ) → Bool
begins_with word [] = false
begins_with word (name ∷ fields) = bytes_eq name word

-- whether a record has two fields, of which the second is 2
abbrev pub names_two : List (List ℕ) → Bool
names_two [] = false
names_two (name ∷ []) = false
names_two (name ∷ number ∷ []) = bytes_eq number (codes "2")
names_two (name ∷ number ∷ more ∷ rest) = false

-- the version of a file with this first record, None if there is no such version
abbrev pub version_of : List (List ℕ) → Option Version
version_of fields =
    if begins_with (codes "fprecords") fields then (if names_two fields then Some Two else None) else Some One

-- the line of version 2
abbrev pub version_line : List (List ℕ)
version_line = codes "fprecords" ∷ codes "2" ∷ []

-- the records of a text from the head on, and how many come before it
pub record Start : Type 0 where
  pub version : Version
  pub others : ℕ
  pub rows : List (List (List ℕ))

abbrev pub start_by : Option Version → List (List ℕ) → List (List (List ℕ)) → Option Start
start_by None first rows = None
start_by (Some One) first rows = Some (record { version = One; others = 0; rows = first ∷ rows })
start_by (Some Two) first rows = Some (record { version = Two; others = 1; rows = rows })

-- where the head of a text's records should be, None if there is no such version
abbrev pub start_of : List (List (List ℕ)) → Option Start
start_of [] = Some (record { version = One; others = 0; rows = [] })
start_of (first ∷ rows) = start_by (version_of first) first rows
