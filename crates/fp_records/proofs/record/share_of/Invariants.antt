use Rattle.std.proofs.Common.{◌≡◌, ◌≤◌, ◌+◌, ◌*◌, filter, length, take}
use Rattle.jiff_core.specs.Weekday.{monday_zero}
use Rattle.fp_records.specs.Choice.{fits, longest_prefix, most_exact, total_weight}
use Rattle.fp_records.proofs.record.share_of.Given as goal

abbrev pub invariant-loop-kept : goal.invariant-loop-kept
invariant-loop-kept l = record {
  few : length l.rules ≤ 1000;
  low : l.share.total ≤ 1000 * l.kept-index;
  longest : l.share.longest ≡ longest_prefix (filter (fits l.call.calling.now (monday_zero l.call.time.weekday + 1) l.call.time.minute) (take l.kept-index l.rules));
  total : l.share.total ≡ total_weight (most_exact (filter (fits l.call.calling.now (monday_zero l.call.time.weekday + 1) l.call.time.minute) (take l.kept-index l.rules)));
}
