-- All faults of a records file: those that each record has by itself, in the order of the records, and of the parts in a
-- record. The forms of the fields and the tests of a rule are those of fp_records.
use Rattle.std.specs.Prelude.{◌≡◌, ℕ, ◌+◌, ◌⊎◌, List, [], ◌∷◌, ◌++◌, Bool, true, false, not, ◌||◌, Option, Some, None, Result, Ok, Err, bytes_eq, codes, drop, is_some, take, if◌then◌else◌}
use Rattle.std.specs.List.{enumerate_from, flat_map}
use Rattle.csv.specs.Records.{field_at}
use Rattle.fp_records.specs.Date.{date_of}
use Rattle.fp_records.specs.Digits.{some_digits_of}
use Rattle.fp_records.specs.Fields.{Check, checks, has_count, has_form, verb_of}
use Rattle.fp_records.specs.File.{FirstFault}
use Rattle.fp_records.specs.Head.{offset_of}
use Rattle.fp_records.specs.Number.{number_up_to}
use Rattle.fp_records.specs.Table.{Contents}
use Rattle.fp_records.specs.Version.{Start, begins_with, start_of}
use Rattle.fp_records.specs.declared.fault.Reason.{Reason}
use Rattle.fp_records.specs.declared.fault.Reason.TheVariants.{BadAction, BadClosed, BadDays, BadDestination, BadHead, BadNumber, BadPrefix, BadTime, BadVersion, BadWeight, FieldCount, TooMany}
use Rattle.fp_records.specs.declared.fault.RecordsFault.{RecordsFault}
use Rattle.fp_records.specs.declared.fault.RecordsFault.TheVariants.{Record, Memory}
use Rattle.fp_records.specs.declared.version.Version.{Version}
use Rattle.fp_records.specs.declared.version.Version.TheVariants.{One, Two}
use Rattle.fp_lint.specs.declared.fault.Fault.{Fault}
use Rattle.fp_lint.specs.declared.fault.Part.{Part}
use Rattle.fp_lint.specs.declared.fault.Part.TheVariants.{Whole, Field, Times}

-- the fault of a part, unless it is good
abbrev pub unless_good : Bool → ℕ → Part → Reason → List Fault
unless_good true at part reason = []
unless_good false at part reason = record { at = at; part = part; reason = reason } ∷ []

-- the parts that the first checks of a rule look at
abbrev pub rule_parts : List Part
rule_parts = Field 0 ∷ Field 1 ∷ Field 2 ∷ Field 3 ∷ Field 4 ∷ Times ∷ Field 5 ∷ Field 6 ∷ []

-- the faults of parts, each by its check
abbrev pub faults_by : ℕ → List (List ℕ) → List Part → List Check → List Fault
faults_by at fields [] tests = []
faults_by at fields (part ∷ parts) [] = []
faults_by at fields (part ∷ parts) (check ∷ tests) = unless_good (check.passes fields) at part check.fault ++ faults_by at fields parts tests

-- the fields are as many as the action takes, or it is no action
abbrev pub count_fits : List (List ℕ) → Bool
count_fits fields = not (has_form verb_of (field_at fields 6)) || has_count fields

-- the faults of the fields after the action
abbrev pub destination_faults : ℕ → List (List ℕ) → List Fault
destination_faults at fields =
    flat_map (λ field. unless_good (is_some (some_digits_of field.1)) at (Field field.0) BadDestination) (enumerate_from 7 (drop 7 fields))

-- the faults of a rule
abbrev pub rule_faults : ℕ → List (List ℕ) → List Fault
rule_faults at fields =
    faults_by at fields rule_parts (take 8 checks) ++ (unless_good (count_fits fields) at Whole FieldCount ++ destination_faults at fields)

-- the faults of a closed day
abbrev pub closed_faults : ℕ → List (List ℕ) → List Fault
closed_faults at (name ∷ number ∷ date ∷ []) =
    unless_good (is_some (some_digits_of number)) at (Field 1) BadClosed ++ unless_good (is_some (date_of date)) at (Field 2) BadClosed
closed_faults at [] = unless_good false at Whole BadClosed
closed_faults at (name ∷ []) = unless_good false at Whole BadClosed
closed_faults at (name ∷ number ∷ []) = unless_good false at Whole BadClosed
closed_faults at (name ∷ number ∷ date ∷ more ∷ rest) = unless_good false at Whole BadClosed

-- the faults of a head
abbrev pub head_faults : ℕ → List (List ℕ) → List Fault
head_faults at (name ∷ key ∷ offset ∷ []) =
    unless_good (bytes_eq name (codes "key")) at (Field 0) BadHead
    ++ (unless_good (is_some (number_up_to 2147483647 key)) at (Field 1) BadHead ++ unless_good (is_some (offset_of offset)) at (Field 2) BadHead)
head_faults at [] = unless_good false at Whole BadHead
head_faults at (name ∷ []) = unless_good false at Whole BadHead
head_faults at (name ∷ key ∷ []) = unless_good false at Whole BadHead
head_faults at (name ∷ key ∷ offset ∷ more ∷ rest) = unless_good false at Whole BadHead

-- the part of a first record that should be the line of version 2: what is in the place of the 2, if there are two fields
abbrev pub version_part : List (List ℕ) → Part
version_part [] = Whole
version_part (name ∷ []) = Whole
version_part (name ∷ number ∷ []) = Field 1
version_part (name ∷ number ∷ more ∷ rest) = Whole

-- the faults of a record after the head
abbrev pub item_faults : Version → ℕ → List (List ℕ) → List Fault
item_faults One at fields = rule_faults at fields
item_faults Two at fields = if begins_with (codes "closed") fields then closed_faults at fields else rule_faults at fields

-- those of records, of which the first has this number
abbrev pub items_faults : Version → ℕ → List (List (List ℕ)) → List Fault
items_faults version at [] = []
items_faults version at (row ∷ rows) = item_faults version at row ++ items_faults version (at + 1) rows

-- those of the records from the head on, after this number of others
abbrev pub headed_faults : Version → ℕ → List (List (List ℕ)) → List Fault
headed_faults version others [] = unless_good false (others + 1) Whole BadHead
headed_faults version others (first ∷ rows) = head_faults (others + 1) first ++ items_faults version (others + 2) rows

-- those of a file; one whose first line names no version is looked at as one of version 2
abbrev pub started_faults : Option Start → List (List (List ℕ)) → List Fault
started_faults (Some start) rows = headed_faults start.version start.others start.rows
started_faults None [] = []
started_faults None (first ∷ rows) = unless_good false 1 (version_part first) BadVersion ++ headed_faults Two 1 rows

-- the faults that the records of a text have by themselves
abbrev pub own_faults : List (List (List ℕ)) → List Fault
own_faults rows = started_faults (start_of rows) rows

-- the record that is the first one too many
abbrev pub one_too_many : ℕ → Fault
one_too_many at = record { at = at; part = Whole; reason = TooMany }

-- faults are all faults of the records of a text: before those that each has by itself there is the first one that is
-- too many, if the records before it have no fault
abbrev pub AreFaults : List (List (List ℕ)) → List Fault → Type 0
AreFaults rows faults =
    ((at : ℕ) × FirstFault rows at TooMany × (faults ≡ one_too_many at ∷ own_faults rows))
    ⊎ (((at : ℕ) → FirstFault rows at TooMany → ⊥) × (faults ≡ own_faults rows))

-- faults begin with one of this record and for this reason
abbrev pub BeginWith : ℕ → Reason → List Fault → Type 0
BeginWith at reason [] = ⊥
BeginWith at reason (fault ∷ faults) = (fault.at ≡ at) × (fault.reason ≡ reason)

-- the fault of a record for this reason, if it is one too many
abbrev pub limit_fault : ℕ → Reason → List Fault
limit_fault at BadVersion = []
limit_fault at BadHead = []
limit_fault at FieldCount = []
limit_fault at BadNumber = []
limit_fault at BadPrefix = []
limit_fault at BadDays = []
limit_fault at BadTime = []
limit_fault at BadWeight = []
limit_fault at BadAction = []
limit_fault at BadDestination = []
limit_fault at BadClosed = []
limit_fault at TooMany = one_too_many at ∷ []

-- faults are those of records of which `Table::read` says this
abbrev pub AreFound : Result Contents RecordsFault → List (List (List ℕ)) → List Fault → Type 0
AreFound (Ok table) rows faults = faults ≡ []
AreFound (Err (Record at reason)) rows faults = faults ≡ limit_fault at reason ++ own_faults rows
AreFound (Err Memory) rows faults = ⊥
