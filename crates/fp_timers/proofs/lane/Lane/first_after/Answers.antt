use Rattle.fp_timers.proofs.Names.{IsEarliestAfter, Some, arith, refl, subst}
use Rattle.fp_timers.proofs.Times.{earliest_after}
use Rattle.fp_timers.proofs.lane.Lane.first_after.Goals as goal

-- in order, it comes before all that follow it
pub returns : goal.returns
returns c =
    subst
    (λ l. IsEarliestAfter c.args.last l (Some c.in-Some.first.now))
    c.self.view_is
    (earliest_after _ c.self.invariant.in_order c.args.last c.in-Some.first.now c.place_after-place.result c.place_after-place.ensures (omega (arith, c.self.inside.timers.ok.0, c.in-Some.ensures.variant.0 refl)) c.in-Some.ensures.lookup)
