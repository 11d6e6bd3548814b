use Rattle.std.proofs.Common.{◌+◌, arith, filter}
use Rattle.jiff_core.specs.Weekday.{monday_zero}
use Rattle.fp_records.specs.Choice.{fits, of_length}
use Rattle.fp_records.proofs.Shares.{first_above-draw}
use Rattle.fp_records.proofs.record.rule_at.Goals as goal

pub loop-kept-init : goal.loop-kept-init
loop-kept-init c = record {
  few = c.requires;
  low = omega arith;
  so_far = first_above-draw c.args.draw (of_length c.args.longest (filter (fits c.args.call.now.calling.now (monday_zero c.args.call.now.time.weekday + 1) c.args.call.now.time.minute) c.args.rules.now));
}
