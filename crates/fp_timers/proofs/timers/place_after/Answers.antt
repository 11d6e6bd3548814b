use Rattle.fp_timers.proofs.Names.{IsPartitionPoint-from_clause, IsPlaceAfter, Timer, arith, comes_before, not, not-false, not-true, rules, subst, sym}
use Rattle.fp_timers.proofs.Order.{past_end}
use Rattle.fp_timers.proofs.Times.{parted_after}
use Rattle.fp_timers.proofs.timers.place_after.Goals as goal

-- the closure says which timers don't come after the last
pub returns : goal.returns
returns c =
    let facts = c.partition_point.ensures in
    let point = IsPartitionPoint-from_clause (λ (t : Timer). not (comes_before c.in-Some.last t)) c.args.timers.now.items c.partition_point.result facts.partitioned (parted_after _ c.requires c.in-Some.last) (λ a r g called. search rules) in
    subst (λ last. IsPlaceAfter c.args.timers.now.items last c.partition_point.result) (sym c.in-Some.is) (record {
      in_range = omega (arith, facts.bound, c.args.timers.now.ok.0);
      none_before = λ i lt. not-true _ (point.0 i past_end (omega arith) lt);
      all_after = λ i le lt. not-false _ (point.1 i past_end le lt);
    })
