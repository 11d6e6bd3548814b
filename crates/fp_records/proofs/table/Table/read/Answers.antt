use Rattle.fp_records.specs.File.{records_of}
use Rattle.fp_records.proofs.Running.{reads-fault, reads-file}
use Rattle.fp_records.proofs.table.Table.read.Goals as goal

pub returns : goal.returns
returns c = record {
  answer = c.read_in_turn.ensures;
  file = λ file is. reads-file c.read_in_turn.result (records_of c.args.text.now) file c.read_in_turn.ensures is;
  fault = λ at reason is. reads-fault c.read_in_turn.result (records_of c.args.text.now) at reason c.read_in_turn.ensures is;
}
