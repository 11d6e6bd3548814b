use Rattle.std.proofs.Common.{arith, deque_capacity, length, subst, sym, ◌++◌, ◌<◌, ◌≡◌}
use Rattle.fp_tids.specs.Identifiers.{IsGiven, LocalIds, serial_of, serials_above}
use Rattle.fp_tids.proofs.Serials.{kept_returned, returned_view, room_for, shown}
use Rattle.fp_tids.proofs.local_ids.LocalIds.end.Goals as goal

-- the identifier is one that was given
pub put_last-requires : goal.put_last-requires
put_last-requires c =
    let b = c.self.inside in
    let g = subst (λ (ids : LocalIds). IsGiven ids c.args.local) (sym c.self.view_is) c.requires in
    let room : length b.returned.items < deque_capacity b.returned = room_for b.link b.tag b.fresh g.0 (deque_capacity b.returned) b.returned.items c.self.invariant g.1 g.2 g.4 in
    omega (arith, room, b.returned.ok)

-- its serial is what is put at the back
same : (c : goal.After-put_last) → (g : IsGiven (record { link = c.self.inside.link; tag = c.self.inside.tag; queue = serials_above c.self.inside.fresh ++ c.self.inside.returned.items }) c.args.local) → serial_of c.args.local ≡ g.0
same c g = shown c.self.inside.link c.self.inside.tag g.0 c.args.local g.1 g.2 g.3

pub invariant_of-self : goal.invariant_of-self
invariant_of-self c =
    let b = c.self.inside in
    let g = subst (λ (ids : LocalIds). IsGiven ids c.args.local) (sym c.self.view_is) c.requires in
    rw (c.put_last.ensures.items, same c g) (kept_returned b.link b.tag b.fresh g.0 (deque_capacity b.returned) (deque_capacity c.put_last.new.returned) b.returned.items c.self.invariant g.1 g.2 g.4 c.put_last.ensures.capacity)

pub returns : goal.returns
returns c =
    let b = c.self.inside in
    rw (← c.self.view_is, c.put_last.ensures.items) (returned_view b.link b.tag (serials_above b.fresh) b.returned.items (serial_of c.args.local))
