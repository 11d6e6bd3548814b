use Rattle.fp_records.specs.File.{records_of}
use Rattle.fp_records.proofs.Migrating.{migrated-again, migrated-file, migrated-table}
use Rattle.fp_records.proofs.migration.migrate.Goals as goal

pub returns-clause-same : goal.returns-clause-same
returns-clause-same c =
    let (file, is, table, index) = c.in_ok-read.ensures.answer in
    (file, is, migrated-file (records_of c.args.text.now) file is)

pub returns-clause-again : goal.returns-clause-again
returns-clause-again c =
    let (file, is, table, index) = c.in_ok-read.ensures.answer in
    migrated-again (records_of c.args.text.now) file is

pub returns-clause-tables : goal.returns-clause-tables
returns-clause-tables c = migrated-table (records_of c.args.text.now)
