use Rattle.fp_records.specs.File.{records_of}
use Rattle.fp_records.proofs.Running.{reads-fault, reads-file}
use Rattle.fp_records.proofs.table.Table.read_and_free.Goals as goal

pub returns : goal.returns
returns c = record {
  answer = c.read_then_free.ensures;
  file = λ file is. reads-file c.read_then_free.result (records_of c.args.text.items) file c.read_then_free.ensures is;
  fault = λ at reason is. reads-fault c.read_then_free.result (records_of c.args.text.items) at reason c.read_then_free.ensures is;
}
