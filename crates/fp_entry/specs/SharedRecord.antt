-- The record of a share.
use Rattle.std.specs.Arc.{arc_value}
use Rattle.fp_records.specs.Choice.{Rules}
use Rattle.fp_entry.specs.declared.shared_record.Share.{Share}
use Rattle.fp_entry.specs.declared.shared_record.Share.TheVariants.{Direct, Nested}

-- its rules, however its shares are counted
abbrev pub value_of : Share → Rules
value_of (Direct found) = arc_value found
value_of (Nested found) = arc_value (arc_value found)
