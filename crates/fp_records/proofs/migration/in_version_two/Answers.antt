use Rattle.std.proofs.Common.{◌≡◌, ◌++◌, [], append_assoc, ◌∙◌}
use Rattle.csv.specs.Records.{fields_of}
use Rattle.csv.specs.Writing.{default_writer, row_text}
use Rattle.fp_records.specs.Migration.{text_of}
use Rattle.fp_records.specs.Version.{version_line}
use Rattle.fp_records.proofs.Migrating.{written-none}
use Rattle.fp_records.proofs.migration.in_version_two.Goals as goal

pub returns : goal.returns
returns c =
    let (others, start, place) = rw c.new-records.ensures at c.in_ok-read_start.ensures in
    let none = written-none c.from_writer-writer.result c.new-2.result c.from_writer-writer.ensures.wtr c.new-2.ensures.items c.from_writer-writer.ensures.empty
    (c.from_writer-writer.ensures.cfg ∙ rw c.new.ensures at c.flexible.ensures) c.from_writer-writer.ensures.fields c.from_writer-writer.ensures.wrote in
    let line = c.in_ok-put_version.ensures [] none in
    let head = c.in_ok-put.ensures _ line in
    let all = c.in_ok-put_others.ensures _ head in
    let out = c.put_others.new.writer.wtr in
    let first = row_text default_writer version_line in
    let second = row_text default_writer (fields_of c.read_start.new.row) in
    let text : out.inner.items ++ out.buf ≡ (first ++ second) ++ text_of c.read_start.new.records.rows = cc all.written in
    rw start (c.in-Ok.ensures.ok ∙ text ∙ append_assoc first second (text_of c.read_start.new.records.rows))
