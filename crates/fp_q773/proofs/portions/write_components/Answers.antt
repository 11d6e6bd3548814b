-- The component at a place, and those behind it.
use Rattle.std.proofs.Common.{◌≡◌, ◌-◌, map, drop, refl, arith}
use Rattle.std.proofs.Math.Seq.{drop-length}
use Rattle.std.proofs.lemmas.List.Elements.{All-cons, All-nil}
use Rattle.fp_q773.specs.View.{component_of}
use Rattle.fp_q773.specs.Written.{component_tree, component_trees, IsReadBack}
use Rattle.fp_q773.proofs.Parts.{writable_at, tags_at, room_at}
use Rattle.fp_ber.specs.Putting.{before_others, drop_before, end_of_end}
use Rattle.fp_q773.proofs.portions.write_components.Goals as goal

pub write-requires-clause-writable : goal.write-requires-clause-writable
write-requires-clause-writable c =
    let item = c.index-components-index in rw item.is (writable_at c.args.components.now (c.components.index - 1) item.result (omega arith) c.requires.writable)

pub write-requires-clause-tags : goal.write-requires-clause-tags
write-requires-clause-tags c =
    let item = c.index-components-index in rw item.is (tags_at c.args.components.now (c.components.index - 1) item.result (omega arith) c.requires.tags)

pub write-requires-clause-room : goal.write-requires-clause-room
write-requires-clause-room c =
    let item = c.index-components-index in
    let room = room_at c.args.components.now (c.components.index - 1) item.result (omega arith) in rw item.is (omega arith)

pub components-init : goal.components-init
components-init c = rw (drop-length c.args.components.now) (record { exact = refl; found = All-nil IsReadBack })

pub components-preserved : goal.components-preserved
components-preserved c =
    let i = c.components.index in
    let item = c.index-components-index in
    let so_far = c.components.invariant in
    let behind = map component_of (drop i c.args.components.now) in
    rw (drop_before c.args.components.now i item.result (omega arith) (omega arith) item.is)
    (record {
      exact = before_others (component_tree (component_of item.result)) (component_trees behind) c.args.out.now _ _ c.in_ok-write.ensures.exact so_far.exact;
      found = All-cons IsReadBack (component_of item.result) behind c.in_ok-write.ensures.found so_far.found;
    })

pub returns-clause-exact : goal.returns-clause-exact
returns-clause-exact c =
    let none_left : c.components.index ≡ 0 = omega arith in rw none_left at c.components.invariant.exact

pub returns-clause-found : goal.returns-clause-found
returns-clause-found c =
    let none_left : c.components.index ≡ 0 = omega arith in rw none_left at c.components.invariant.found

pub returns-in_err-write-clause-stays : goal.returns-in_err-write-clause-stays
returns-in_err-write-clause-stays c = end_of_end _ _ _ c.in_err-write.ensures.stays (record { front = _; is = c.components.invariant.exact })
