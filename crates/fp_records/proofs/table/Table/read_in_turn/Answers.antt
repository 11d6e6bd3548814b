use Rattle.fp_records.specs.File.{records_of}
use Rattle.fp_records.proofs.Tables.{reads}
use Rattle.fp_records.proofs.table.Table.read_in_turn.Goals as goal

pub returns : goal.returns
returns c = reads (records_of c.args.text.now) c.in_ok-draft.draft c.of.result c.in_ok-draft.ensures.answer c.of.ensures.table c.of.ensures.fault
