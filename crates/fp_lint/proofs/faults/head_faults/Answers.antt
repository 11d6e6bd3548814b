use Rattle.fp_lint.proofs.Loops.{joined-three}
use Rattle.fp_lint.proofs.faults.head_faults.Goals as goal

pub returns : goal.returns
returns c =
    let e1 = rw c.in_ok-is_name.ensures at c.in_ok-push_unless-2.ensures in
    let e2 = rw c.in_ok-is_service_key.ensures at c.in_ok-push_unless-3.ensures in
    let e3 = rw c.in_ok-is_good.ensures at c.in_ok-push_unless-4.ensures in
    rw c.in-Some.ensures (joined-three _ _ _ _ _ _ _ e1 e2 e3)
