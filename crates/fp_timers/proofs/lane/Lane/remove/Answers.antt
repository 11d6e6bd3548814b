use Rattle.fp_timers.proofs.Names.{IsInTimeOrder, IsWith, arith, comes_before, subst, sym, true, ◌≡◌}
use Rattle.fp_timers.proofs.Lanes.{with_removed}
use Rattle.fp_timers.proofs.Order.{rises_remove}
use Rattle.fp_timers.proofs.lane.Lane.remove.Goals as goal

-- the timer at the place found is removed
pub returns-clause-removed : goal.returns-clause-removed
returns-clause-removed c =
    let removed = c.take_away.ensures.items in
    λ _. subst (λ l. IsWith l c.args.timer c.args.self.now) (sym removed) (subst (IsWith _ c.args.timer) c.self.view_is (with_removed _ _ _ c.in-Some.ensures.found))

pub invariant_of-self : goal.invariant_of-self
invariant_of-self c = record {
  in_order = subst IsInTimeOrder (sym c.take_away.ensures.items) (rises_remove (λ a b. comes_before a b ≡ true) _ c.self.invariant.in_order _ c.in-Some.ensures.found.in_range);
  room = omega (arith, c.self.invariant.room, c.take_away.ensures.capacity);
}
