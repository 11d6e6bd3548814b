use Rattle.fp_timers.proofs.Names.{IsPartitionPoint-from_clause, Timer, arith, comes_before, rules}
use Rattle.fp_timers.proofs.Order.{past_end}
use Rattle.fp_timers.proofs.Times.{parted}
use Rattle.fp_timers.proofs.timers.place_in_time.Goals as goal

-- the closure says which timers come before this one
pub returns : goal.returns
returns c =
    let facts = c.partition_point.ensures in
    let point = IsPartitionPoint-from_clause (λ (t : Timer). comes_before t c.args.timer) c.args.timers.now.items c.partition_point.result facts.partitioned (parted _ c.requires c.args.timer) (λ a r g called. search rules) in
    record {
      in_range = omega (arith, facts.bound, c.args.timers.now.ok.0);
      earlier_before = λ i lt. point.0 i past_end (omega arith) lt;
      none_after = λ i le lt. point.1 i past_end le lt;
    }
