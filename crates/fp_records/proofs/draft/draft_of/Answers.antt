use Rattle.std.proofs.Common.{sym}
use Rattle.csv.specs.Records.{fields_of}
use Rattle.fp_records.specs.File.{records_of}
use Rattle.fp_records.proofs.Tables.{drafts}
use Rattle.fp_records.proofs.draft.draft_of.Goals as goal

pub returns-clause-answer : goal.returns-clause-answer
returns-clause-answer c =
    let (others, start, place) = rw c.new-records.ensures at c.in_ok-version.ensures in
    let (items, are, holds) = c.in_ok-gathering.ensures in
    drafts (records_of c.args.text.now) c.in_ok-version.version others (fields_of c.read_start.new.row) c.read_start.new.records.rows
    (record { head = c.in-Some.head; gathering = c.in_ok-gathering.gathering }) items start (sym c.in-Some.ensures.value) are holds
