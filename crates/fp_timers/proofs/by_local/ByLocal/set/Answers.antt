use Rattle.fp_timers.proofs.Names.{HasRoom, IsInOrder, ap, arith, get, length, length-insert, map_insert, subst, sym, ◌<◌, ◌∙◌}
use Rattle.fp_timers.proofs.Maps.{map_of, apart_in_order, present, map_of-set, map_of-insert, room}
use Rattle.fp_timers.proofs.Order.{rises_insert}
use Rattle.fp_timers.proofs.Searches.{absent}
use Rattle.fp_timers.proofs.by_local.ByLocal.set.Goals as goal

-- the identifier's timer is written over
pub returns-in-Ok-clause-before : goal.returns-in-Ok-clause-before
returns-in-Ok-clause-before c =
    present _ (apart_in_order _ c.self.invariant.in_order) _ _ c.in-Ok.ensures.found _ c.index.ensures
    ∙ ap (λ m. get m c.args.timer.local) c.self.view_is

pub returns-in-Ok-clause-after : goal.returns-in-Ok-clause-after
returns-in-Ok-clause-after c =
    map_of-set _ (apart_in_order _ c.self.invariant.in_order) _ _ c.in-Ok.ensures.found c.args.timer.deadline
    ∙ ap (λ m. map_insert m c.args.timer.local c.args.timer.deadline) c.self.view_is

pub returns-in-Err-clause-before : goal.returns-in-Err-clause-before
returns-in-Err-clause-before c =
    sym (absent _ _ _ c.in-Err.ensures.missing) ∙ ap (λ m. get m c.args.timer.local) c.self.view_is

pub put_at-requires-clause-room : goal.put_at-requires-clause-room
put_at-requires-clause-room c =
    let fewer = room _ (apart_in_order _ c.self.invariant.in_order) _ (absent _ _ _ c.in-Err.ensures.missing) (subst (λ m. HasRoom m c.args.timer.local) (sym c.self.view_is) c.requires) in
    omega (arith, fewer, c.self.invariant.room)

pub returns-in-Err-clause-after : goal.returns-in-Err-clause-after
returns-in-Err-clause-after c =
    ap map_of c.put_at.ensures.items
    ∙ map_of-insert _ (apart_in_order _ c.self.invariant.in_order) _ (absent _ _ _ c.in-Err.ensures.missing) _ c.args.timer.deadline
    ∙ ap (λ m. map_insert m c.args.timer.local c.args.timer.deadline) c.self.view_is

pub invariant_of-self-in-Err : goal.invariant_of-self-in-Err
invariant_of-self-in-Err c =
    let gap = c.in-Err.ensures.missing in
    let items = c.put_at.ensures.items in
    let fewer = room _ (apart_in_order _ c.self.invariant.in_order) _ (absent _ _ _ gap) (subst (λ m. HasRoom m c.args.timer.local) (sym c.self.view_is) c.requires) in
    record {
      in_order = subst IsInOrder (sym items) (rises_insert (λ a b. a.local < b.local) _ c.self.invariant.in_order _ c.args.timer gap.in_range gap.smaller_before gap.greater_after);
      most = omega (arith, ap length items, length-insert _ _ c.args.timer gap.in_range, fewer);
      room = omega (arith, c.self.invariant.room, c.put_at.ensures.capacity);
    }
