use Rattle.fp_lint.proofs.Loops.{joined-nine}
use Rattle.fp_lint.proofs.faults.rule_faults.Goals as goal

pub returns : goal.returns
returns c =
    let e1 = rw c.in_ok-number.ensures at c.in_ok-push_unless.ensures in
    let e2 = rw c.in_ok-prefix.ensures at c.in_ok-push_unless-2.ensures in
    let e3 = rw c.in_ok-days.ensures at c.in_ok-push_unless-3.ensures in
    let e4 = rw c.in_ok-from.ensures at c.in_ok-push_unless-4.ensures in
    let e5 = rw c.in_ok-to.ensures at c.in_ok-push_unless-5.ensures in
    let e6 = rw c.in_ok-window.ensures at c.in_ok-push_unless-6.ensures in
    let e7 = rw c.in_ok-weight.ensures at c.in_ok-push_unless-7.ensures in
    let e8 = rw c.in_ok-action.ensures at c.in_ok-push_unless-8.ensures in
    let e9 = rw c.in_ok-count.ensures at c.in_ok-push_unless-9.ensures in
    joined-nine _ _ _ _ _ _ _ _ _ _ _ _ _ _ _ _ _ _ _ _ _ e1 e2 e3 e4 e5 e6 e7 e8 e9 c.in_ok-destination_faults.ensures
