use Rattle.std.proofs.Common.{◌≤◌, length, ap, arith}
use Rattle.fp_ism.proofs.Sound.{length-filter-take}
use Rattle.fp_ism.proofs.active.ActiveInvocations.without.Goals as goal

pub push-requires : goal.push-requires
push-requires c =
    let fits : length c.loop-invocation.left ≤ c.loop-invocation.invocation-index =
    rw c.loop-invocation.invariant (length-filter-take _ _ _ (omega arith)) in
    omega (arith, ap length c.as_slice-active.ensures.value)
