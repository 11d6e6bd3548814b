-- What a file of records says, or which of its records is the first faulty one.
use Rattle.std.specs.Prelude.{◌≡◌, ℕ, ℤ, ◌+◌, ◌≤◌, ◌⊎◌, List, [], ◌∷◌, ◌++◌, Option, Some, None, Result, Ok, Err, bytes_eq, filter, length, map}
use Rattle.csv.specs.Reading.{default_config, records, strip_bom}
use Rattle.fp_records.specs.Head.{head_of}
use Rattle.fp_records.specs.Items.{all_closed, all_rules, item_in}
use Rattle.fp_records.specs.Version.{Start, start_of}
use Rattle.fp_records.specs.declared.head.Head.{Head}
use Rattle.fp_records.specs.declared.fault.Reason.{Reason}
use Rattle.fp_records.specs.declared.fault.Reason.TheVariants.{BadHead, BadVersion, TooMany}
use Rattle.fp_records.specs.declared.fields.NumberedRule.{NumberedRule}
use Rattle.fp_records.specs.declared.item.Item.{Item}
use Rattle.fp_records.specs.declared.item.Item.TheVariants as item
use Rattle.fp_records.specs.declared.rule.Rule.{Rule}
use Rattle.fp_records.specs.declared.version.Version.{Version}

-- the service key, the minutes that local time is east of UTC, and the rules and closed days, in the file's order
pub record File : Type 0 where
  pub key : ℕ
  pub offset : ℤ
  pub items : List Item

-- the records of a text, each a list of fields
abbrev pub records_of : List ℕ → List (List (List ℕ))
records_of text = records default_config (strip_bom text)

-- the rules of a number, in the file's order
abbrev pub rules_of : List ℕ → List NumberedRule → List Rule
rules_of digits rules = map (λ numbered. numbered.rule) (filter (λ numbered. bytes_eq digits numbered.number) rules)

-- records are these items: 100,000 rules at most, 1,000 at most of each number, and 10,000 closed days at most
pub record AreItems (version : Version) (rows : List (List (List ℕ))) (items : List Item) : Type 0 where
  pub read : map (item_in version) rows ≡ map Ok items
  pub all : length (all_rules items) ≤ 100000
  pub each : (digits : List ℕ) → length (rules_of digits (all_rules items)) ≤ 1000
  pub closed : length (all_closed items) ≤ 10000

-- the records from the head on are this file: the head, and the items after it
abbrev pub IsHeaded : Version → List (List (List ℕ)) → File → Type 0
IsHeaded version [] file = ⊥
IsHeaded version (first ∷ rows) file = (head_of first ≡ Some (record { key = file.key; offset = file.offset })) × AreItems version rows file.items

abbrev pub IsStarted : Option Start → File → Type 0
IsStarted None file = ⊥
IsStarted (Some start) file = IsHeaded start.version start.rows file

-- the records of a text are this file
abbrev pub IsFile : List (List (List ℕ)) → File → Type 0
IsFile rows file = IsStarted (start_of rows) file

-- what a record reads as is refused after these items: for its own fault, a rule if 100,000 rules or 1,000 of its
-- number are among them, a closed day if 10,000 closed days are
abbrev pub Refuses : List Item → Result Item Reason → Reason → Type 0
Refuses items (Err fault) reason = reason ≡ fault
Refuses items (Ok (item.Rule numbered)) reason =
    (reason ≡ TooMany) × ((length (all_rules items) ≡ 100000) ⊎ (length (rules_of numbered.number (all_rules items)) ≡ 1000))
Refuses items (Ok (item.Closed day)) reason = (reason ≡ TooMany) × (length (all_closed items) ≡ 10000)

-- records that come after this number of others of the text, split at one: those before it are items, and it is
-- refused after them. Its place is one more than the number of records before it.
pub record SplitsAt (version : Version) (others : ℕ) (rows : List (List (List ℕ))) (at : ℕ) (reason : Reason) (before : List (List (List ℕ))) (fields : List (List ℕ)) (after : List (List (List ℕ))) (items : List Item) : Type 0 where
  pub split : rows ≡ before ++ fields ∷ after
  pub place : at ≡ others + length before + 1
  pub are_items : AreItems version before items
  pub refused : Refuses items (item_in version fields) reason

-- the first of such records that is refused has this place and this fault
abbrev pub FirstRefused : Version → ℕ → List (List (List ℕ)) → ℕ → Reason → Type 0
FirstRefused version others rows at reason =
    (before : List (List (List ℕ))) × (fields : List (List ℕ)) × (after : List (List (List ℕ))) × (items : List Item)
    × SplitsAt version others rows at reason before fields after items

-- the first fault after the head, if its record, after this number of others, reads as this
abbrev pub FaultUnder : Version → ℕ → Option Head → List (List (List ℕ)) → ℕ → Reason → Type 0
FaultUnder version others None rows at reason = (at ≡ others + 1) × (reason ≡ BadHead)
FaultUnder version others (Some head) rows at reason = FirstRefused version (others + 1) rows at reason

-- the first fault of the records from the head on
abbrev pub FaultHeaded : Version → ℕ → List (List (List ℕ)) → ℕ → Reason → Type 0
FaultHeaded version others [] at reason = (at ≡ others + 1) × (reason ≡ BadHead)
FaultHeaded version others (first ∷ rows) at reason = FaultUnder version others (head_of first) rows at reason

abbrev pub FaultStarted : Option Start → ℕ → Reason → Type 0
FaultStarted None at reason = (at ≡ 1) × (reason ≡ BadVersion)
FaultStarted (Some start) at reason = FaultHeaded start.version start.others start.rows at reason

-- the first faulty record of a text has this place, counted from 1, and this fault; a text without records has no head,
-- nor has one of version 2 without a second record
abbrev pub FirstFault : List (List (List ℕ)) → ℕ → Reason → Type 0
FirstFault rows at reason = FaultStarted (start_of rows) at reason
