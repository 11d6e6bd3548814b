-- What the records after the head say: rules of numbers and, from version 2 on, days on which numbers are closed.
use Rattle.std.specs.Prelude.{ℕ, List, Option, Some, None, Result, Ok, codes, if◌then◌else◌}
use Rattle.std.specs.List.{filter_map}
use Rattle.fp_records.specs.Closed.{closed_in}
use Rattle.fp_records.specs.Fields.{numbered_in}
use Rattle.fp_records.specs.Steps.{and_then}
use Rattle.fp_records.specs.Version.{begins_with}
use Rattle.fp_records.specs.declared.closed.ClosedDay.{ClosedDay}
use Rattle.fp_records.specs.declared.fault.Reason.{Reason}
use Rattle.fp_records.specs.declared.fields.NumberedRule.{NumberedRule}
use Rattle.fp_records.specs.declared.item.Item.{Item}
use Rattle.fp_records.specs.declared.item.Item.TheVariants.{Rule, Closed}
use Rattle.fp_records.specs.declared.version.Version.{Version}
use Rattle.fp_records.specs.declared.version.Version.TheVariants.{One, Two}

-- what a record reads as by its own form
abbrev pub as_rule : List (List ℕ) → Result Item Reason
as_rule fields = and_then (numbered_in fields) (λ numbered. Ok (Rule numbered))

abbrev pub as_closed : List (List ℕ) → Result Item Reason
as_closed fields = and_then (closed_in fields) (λ day. Ok (Closed day))

-- what a record of a file of this version reads as: in version 2 a closed day if it begins with `closed`, else a rule
abbrev pub item_in : Version → List (List ℕ) → Result Item Reason
item_in One fields = as_rule fields
item_in Two fields = if begins_with (codes "closed") fields then as_closed fields else as_rule fields

-- the rule or the closed day that an item is
abbrev pub rule_of : Item → Option NumberedRule
rule_of (Rule numbered) = Some numbered
rule_of (Closed day) = None

abbrev pub closed_of : Item → Option ClosedDay
closed_of (Rule numbered) = None
closed_of (Closed day) = Some day

-- the rules and the closed days among them, in the file's order
abbrev pub all_rules : List Item → List NumberedRule
all_rules items = filter_map rule_of items

abbrev pub all_closed : List Item → List ClosedDay
all_closed items = filter_map closed_of items
