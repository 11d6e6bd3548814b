-- What the table has of the number that an InitialDP asks for: the first that fits.
use Rattle.std.specs.Prelude.{ℕ, Option, Some, None, ◌==◌, if◌then◌else◌}
use Rattle.fp_digits.specs.declared.number.Number.{Number}
use Rattle.fp_inap.specs.declared.initial_dp.InitialDp.{InitialDp}
use Rattle.fp_records.specs.Choice.{Rules}
use Rattle.fp_records.specs.Table.{Contents, record_at}
use Rattle.fp_entry.specs.declared.found.Found.{Found}
use Rattle.fp_entry.specs.declared.found.Found.TheVariants.{Missing, WrongKey, NoRecord, Record}

-- the record, if there is one
abbrev pub found_record : Option Rules → Found
found_record None = NoRecord
found_record (Some rules) = Record rules

-- of a service key and a called number, each of which may be absent
abbrev pub found_of : Contents → Option ℕ → Option Number → Found
found_of contents None called = Missing
found_of contents (Some key) None = Missing
found_of contents (Some key) (Some called) =
    if key == contents.key then found_record (record_at contents called.digits) else WrongKey

abbrev pub found : Contents → InitialDp → Found
found contents dp = found_of contents dp.key dp.called
