-- What reading a text up to its head gives.
use Rattle.std.specs.Prelude.{◌≡◌, ℕ, ◌+◌, List, ◌∷◌, Some, Result, Ok, Err}
use Rattle.fp_records.specs.File.{FaultHeaded, FirstFault}
use Rattle.fp_records.specs.Unread.{Unread}
use Rattle.fp_records.specs.Version.{start_of}
use Rattle.fp_records.specs.declared.fault.RecordsFault.{RecordsFault}
use Rattle.fp_records.specs.declared.fault.RecordsFault.TheVariants.{Record, Memory}
use Rattle.fp_records.specs.declared.version.Version.{Version}
use Rattle.fp_records.specs.declared.version.Version.TheVariants.{Two}

-- an answer to the records of a text: the version and the record that should be the head, with the records after it
-- still to be read, or why there is none; or memory ran out
abbrev pub Starts : List (List (List ℕ)) → Unread → List (List ℕ) → Result Version RecordsFault → Type 0
Starts rows left fields (Ok version) =
    (others : ℕ) × (start_of rows ≡ Some (record { version = version; others = others; rows = fields ∷ left.rows })) × (left.place ≡ others + 1)
Starts rows left fields (Err (Record at reason)) = FirstFault rows at reason
Starts rows left fields (Err Memory) = Unit {0}

-- the same of the records after the line of version 2
abbrev pub StartsAfter : List (List (List ℕ)) → Unread → List (List ℕ) → Result Version RecordsFault → Type 0
StartsAfter rows left fields (Ok version) = (version ≡ Two) × (rows ≡ fields ∷ left.rows) × (left.place ≡ 2)
StartsAfter rows left fields (Err (Record at reason)) = FaultHeaded Two 1 rows at reason
StartsAfter rows left fields (Err Memory) = Unit {0}
