use Rattle.std.proofs.Common.{◌≡◌, ◌≤◌, ◌+◌, ◌*◌, drop, filter, length}
use Rattle.jiff_core.specs.Weekday.{monday_zero}
use Rattle.fp_records.specs.Choice.{fits, of_length, rule_at_draw}
use Rattle.fp_records.proofs.Shares.{first_above}
use Rattle.fp_records.proofs.record.rule_at.Given as goal

abbrev pub invariant-loop-kept : goal.invariant-loop-kept
invariant-loop-kept l = record {
  few : length l.rules ≤ 1000;
  low : l.before ≤ 1000 * l.kept-index;
  so_far : first_above l.draw l.before (of_length l.longest (filter (fits l.call.calling.now (monday_zero l.call.time.weekday + 1) l.call.time.minute) (drop l.kept-index l.rules)))
      ≡ rule_at_draw l.draw (of_length l.longest (filter (fits l.call.calling.now (monday_zero l.call.time.weekday + 1) l.call.time.minute) l.rules));
}
