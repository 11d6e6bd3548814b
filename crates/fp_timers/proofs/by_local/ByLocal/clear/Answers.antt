use Rattle.fp_timers.proofs.Names.{IsInOrder, arith, length, length-remove, subst, ◌<◌, ap, get, map_remove, sym, ◌∙◌}
use Rattle.fp_timers.proofs.Maps.{map_of, apart_in_order, present, map_of-remove, remove_absent}
use Rattle.fp_timers.proofs.Order.{rises_remove}
use Rattle.fp_timers.proofs.Searches.{absent}
use Rattle.fp_timers.proofs.by_local.ByLocal.clear.Goals as goal

-- the timer at the place found is removed
pub returns-in-Ok-clause-before : goal.returns-in-Ok-clause-before
returns-in-Ok-clause-before c =
    present _ (apart_in_order _ c.self.invariant.in_order) _ _ c.in-Ok.ensures.found _ c.index.ensures
    ∙ ap (λ m. get m c.args.local) c.self.view_is

pub returns-in-Ok-clause-after : goal.returns-in-Ok-clause-after
returns-in-Ok-clause-after c =
    let found = c.in-Ok.ensures.found in
    ap map_of c.take_away.ensures.items
    ∙ map_of-remove _ (apart_in_order _ c.self.invariant.in_order) _ _ found
    ∙ ap (λ m. map_remove m c.args.local) c.self.view_is

pub invariant_of-self : goal.invariant_of-self
invariant_of-self c =
    let found = c.in-Ok.ensures.found in
    let items = c.take_away.ensures.items in
    record {
      in_order = subst IsInOrder (sym items) (rises_remove (λ a b. a.local < b.local) _ c.self.invariant.in_order _ found.in_range);
      most = omega (arith, ap length items, length-remove _ _ found.in_range, c.self.invariant.most);
      room = omega (arith, c.self.invariant.room, c.take_away.ensures.capacity);
    }

-- no timer is the identifier's
pub returns-in-Err-clause-before : goal.returns-in-Err-clause-before
returns-in-Err-clause-before c =
    sym (absent _ _ _ c.in-Err.ensures.missing) ∙ ap (λ m. get m c.args.local) c.self.view_is

pub returns-in-Err-clause-after : goal.returns-in-Err-clause-after
returns-in-Err-clause-after c = remove_absent _ _ (sym (returns-in-Err-clause-before c))
