-- One copy more, and none left to copy.
use Rattle.std.proofs.Common.{ap, arith}
use Rattle.fp_ber.specs.Tree.{nesting_of_all}
use Rattle.fp_ber.proofs.Forests.{one_copied, all_copied}
use Rattle.fp_ber.proofs.lent_copy.+lent.Goals as goal

pub copy_all-elements-preserved : goal.copy_all-elements-preserved
copy_all-elements-preserved t c =
    let so_far = c.elements.invariant in record {
      whole = rw c.in_ok-push.ensures.items (one_copied _ _ _ _ _ _ so_far.whole c.in-Some.ensures c.in_ok-copy.ensures);
      nested = omega (arith, so_far.nested, ap nesting_of_all c.in-Some.ensures);
    }

pub copy_all-returns : goal.copy_all-returns
copy_all-returns t c = all_copied _ _ _ c.elements.invariant.whole c.in_default.ensures
