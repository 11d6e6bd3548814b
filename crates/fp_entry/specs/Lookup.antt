-- The record whose shares a look-up counts apart.
use Rattle.std.specs.Prelude.{◌≡◌, ⊤, Option, None, Some}
use Rattle.fp_records.specs.Table.{Contents, record_at}
use Rattle.fp_entry.specs.declared.lookup.OwnRecord.{OwnRecord}

-- the table has this record for these digits
abbrev pub IsOwn : Contents → Option OwnRecord → Type 0
IsOwn contents None = ⊤
IsOwn contents (Some own) = record_at contents own.digits ≡ Some own.record
