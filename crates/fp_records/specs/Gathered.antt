-- The rules and the closed days of a file by their numbers, while it is read.
use Rattle.std.specs.Prelude.{◌≡◌, ℕ, List, Bool, IsTrue, Result, Ok, Err, if◌then◌else◌}
use Rattle.fp_records.specs.Closings.{Closes, ClosesMore, has_place}
use Rattle.fp_records.specs.Digits.{is_decimal}
use Rattle.fp_records.specs.File.{AreItems, FirstRefused}
use Rattle.fp_records.specs.Groups.{Adds, Groups, has_room}
use Rattle.fp_records.specs.Items.{all_closed, all_rules, item_in}
use Rattle.fp_records.specs.Steps.{and_then}
use Rattle.fp_records.specs.declared.fault.Reason.{Reason}
use Rattle.fp_records.specs.declared.fault.Reason.TheVariants.{TooMany}
use Rattle.fp_records.specs.declared.fault.RecordsFault.{RecordsFault}
use Rattle.fp_records.specs.declared.fault.RecordsFault.TheVariants.{Record, Memory}
use Rattle.fp_records.specs.declared.gathering.Gathering.{Gathering}
use Rattle.fp_records.specs.declared.item.Item.{Item}
use Rattle.fp_records.specs.declared.item.Item.TheVariants.{Rule, Closed}
use Rattle.fp_records.specs.declared.version.Version.{Version}

-- these are the items before, by their numbers
pub record Gathered (before : List Item) (gathering : Gathering) : Type 0 where
  pub rules : Groups (all_rules before) gathering.rules
  pub closed : Closes (all_closed before) gathering.closed

-- there is room for an item
abbrev pub has_room_for : Gathering → Item → Bool
has_room_for gathering (Rule numbered) = has_room gathering.rules numbered.number
has_room_for gathering (Closed closed) = has_place gathering.closed

-- and the number of a rule is decimal digits
abbrev pub HasRoom : Gathering → Item → Type 0
HasRoom gathering (Rule numbered) = IsTrue (has_room gathering.rules numbered.number) × IsTrue (is_decimal numbered.number)
HasRoom gathering (Closed closed) = IsTrue (has_place gathering.closed)

-- the item that a record is, if there is room for it
abbrev pub with_room : Gathering → Item → Result Item Reason
with_room gathering item = if has_room_for gathering item then Ok item else Err TooMany

abbrev pub accepted : Gathering → Version → List (List ℕ) → Result Item Reason
accepted gathering version fields = and_then (item_in version fields) (with_room gathering)

-- the old ones with one more item
abbrev pub Takes : Gathering → Item → Gathering → Type 0
Takes old (Rule numbered) new = Adds old.rules numbered new.rules × (new.closed ≡ old.closed)
Takes old (Closed closed) new = (new.rules ≡ old.rules) × ClosesMore old.closed closed new.closed

-- an answer to records that come after this number of others of the text: their items by their numbers, or the first
-- that is refused; or memory ran out
abbrev pub Gathers : Version → ℕ → List (List (List ℕ)) → Result Gathering RecordsFault → Type 0
Gathers version others rows (Ok gathering) = (items : List Item) × AreItems version rows items × Gathered items gathering
Gathers version others rows (Err (Record at reason)) = FirstRefused version others rows at reason
Gathers version others rows (Err Memory) = Unit {0}
