use Rattle.std.proofs.Common.{◌∙◌, rules, sym, subst, List}
use Rattle.fp_entry.specs.declared.prepared.Prepared.{Prepared}
use Rattle.fp_linkstate.specs.Arrivals.{Adds, IsReadBy}
use Rattle.fp_linkstate.proofs.Adding.{adds_one}
use Rattle.fp_linkstate.proofs.Orders.{one_moved}
use Rattle.fp_linkstate.proofs.arrivals.prepare_front.Goals as goal

pub loop-count-preserved : goal.loop-count-preserved
loop-count-preserved c =
    let before = c.loop-count.invariant in
    let pushed = c.push_back_reserved.ensures.items in
    let is_read = IsReadBy c.args.reading.now in
    let moved = one_moved c.loop-count.messages.items c.prepare.result c.pop_front.new.self.items in
    record {
      order = cc (pushed, moved, c.prepare.ensures.frame, c.in-Some.ensures.items, before.order);
      read = subst (λ (l : List Prepared). Adds is_read c.args.messages.now.items l) (sym pushed)
          (adds_one is_read c.args.messages.now.items c.loop-count.messages.items c.prepare.result before.read (rw before.same at c.prepare.ensures.read));
      same = c.prepare.ensures.same ∙ before.same;
      count = search rules;
      few = search rules;
      room = search rules;
    }
