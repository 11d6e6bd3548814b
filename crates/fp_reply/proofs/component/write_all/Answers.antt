-- The component at an index, and those after it.
use Rattle.std.proofs.Common.{◌≡◌, map, drop, refl, arith}
use Rattle.std.proofs.Math.Seq.{drop-length}
use Rattle.fp_ber.specs.Putting.{before_others, drop_before}
use Rattle.fp_q773.specs.Written.{component_tree, component_trees}
use Rattle.fp_reply.specs.Reply.{component_value}
use Rattle.fp_reply.proofs.component.write_all.Goals as goal

pub components-init : goal.components-init
components-init c = rw (drop-length c.args.components.now) (record { exact = refl; sound = tt })

pub components-preserved : goal.components-preserved
components-preserved c =
    let i = c.components.index in
    let item = c.index-components-index in
    let so_far = c.components.invariant in
    let behind = map component_value (drop i c.args.components.now) in
    rw (drop_before c.args.components.now i item.result (omega arith) (omega arith) item.is)
    (record {
      exact = before_others (component_tree (component_value item.result)) (component_trees behind) c.args.out.now _ _ c.in_ok-write_component.ensures.exact so_far.exact;
      sound = (c.in_ok-write_component.ensures.component, so_far.sound);
    })

pub returns-clause-exact : goal.returns-clause-exact
returns-clause-exact c =
    let none_left : c.components.index ≡ 0 = omega arith in rw none_left at c.components.invariant.exact

pub returns-clause-components : goal.returns-clause-components
returns-clause-components c =
    let none_left : c.components.index ≡ 0 = omega arith in rw none_left at c.components.invariant.sound
