-- The records of a text that are still to be read, and how many were read.
use Rattle.std.specs.Prelude.{◌≡◌, ℕ, ◌+◌, ◌<◌, List, [], ◌∷◌, Bool, true, false, Option, Some, None, length}
use Rattle.std.specs.Borrow.{Bor}
use Rattle.std.specs.Option.{unwrap_or}
use Rattle.csv.specs.Machine.{ends_at_end}
use Rattle.csv.specs.Reading.{Ready, default_config, records_from, source_of}
use Rattle.csv.specs.declared.parser.State.{State}
use Rattle.csv.specs.declared.reader.Reader.{Reader}
use Rattle.csv.specs.declared.reader.Trim.TheVariants as trim

-- how many records were read, and those that are left
pub record Unread : Type 0 where
  pub place : ℕ
  pub rows : List (List (List ℕ))

-- the octets that a reader of a text has left
abbrev pub octets_left : Reader (Bor (List ℕ)) → List ℕ
octets_left reader = unwrap_or (source_of (λ text. Some text.now) reader) []

-- the records that octets are, from a state
abbrev pub rows_from : State → List ℕ → List (List (List ℕ))
rows_from state octets = records_from default_config (length octets + 1) state octets

-- the records that a reader has left, none where it has ended
abbrev pub rows_left : Bool → Reader (Bor (List ℕ)) → List (List (List ℕ))
rows_left true reader = []
rows_left false reader = rows_from reader.state (octets_left reader)

-- a reader is between records, and the records before it with the octets that are left fit a size
pub record IsBetween (reader : Reader (Bor (List ℕ))) (place : ℕ) : Type 0 where
  pub trim : reader.trim ≡ trim.None
  pub ready : Ready reader
  pub config : reader.config ≡ default_config
  pub outside : ends_at_end reader.state ≡ false
  pub source : source_of (λ text. Some text.now) reader ≡ Some (octets_left reader)
  pub size : place + length (octets_left reader) < 18446744073709551615

-- so it does until it has ended
abbrev pub IsReading : Bool → Reader (Bor (List ℕ)) → ℕ → Type 0
IsReading true reader place = Unit {0}
IsReading false reader place = IsBetween reader place

-- what a read gives: the place and the fields of the next record, or nothing where none is left
abbrev pub ReadsNext : Unread → Unread → List (List ℕ) → Option ℕ → Type 0
ReadsNext old new fields None = old.rows ≡ []
ReadsNext old new fields (Some at) = (at ≡ old.place + 1) × (new.place ≡ at) × (old.rows ≡ fields ∷ new.rows)
