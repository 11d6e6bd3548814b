-- The next element was copied.
use Rattle.std.proofs.Common.{refl, arith}
use Rattle.fp_ber.proofs.Parts.{forest_of-push}
use Rattle.fp_ber.proofs.Forests.{forest_of-take}
use Rattle.fp_ber.proofs.cloning.+clone.Goals as goal

pub clone_all-elements-preserved : goal.clone_all-elements-preserved
clone_all-elements-preserved t c =
    let next = forest_of-take c.args.elements.now c.elements.element-index c.element-item.result (omega arith) c.element-item.is in
    rw (c.in_ok-push.ensures.items, forest_of-push, c.in_ok-copy.ensures, c.elements.invariant, next) refl
