use Rattle.fp_lint.proofs.Loops.{joined-two}
use Rattle.fp_lint.proofs.faults.closed_faults.Goals as goal

pub returns : goal.returns
returns c =
    let e1 = rw c.in_ok-is_number.ensures at c.in_ok-push_unless-2.ensures in
    let e2 = rw c.in_ok-is_date.ensures at c.in_ok-push_unless-3.ensures in
    rw c.in-Some.ensures (joined-two _ _ _ _ _ e1 e2)
