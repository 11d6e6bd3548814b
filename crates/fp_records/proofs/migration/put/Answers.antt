use Rattle.csv.specs.Records.{fields_of}
use Rattle.fp_records.proofs.Migrating.{written-more}
use Rattle.fp_records.proofs.migration.put.Goals as goal

pub returns : goal.returns
returns c = λ text has. written-more c.args.writer.now c.write_byte_record.new.self text (fields_of c.args.row.now) has c.in-Ok.ensures.setup c.in-Ok.ensures.ended c.in-Ok.ensures.clean c.in-Ok.ensures.bytes
