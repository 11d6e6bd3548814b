use Rattle.std.proofs.Common.{arith}
use Rattle.fp_ism.proofs.Sound.{AreInvocations-filter, length-filter_le, length-those_due}
use Rattle.fp_ism.proofs.invocations.Invocations.due.Goals as goal

pub invariant_of-self : goal.invariant_of-self
invariant_of-self c = rw c.due_after-self-inside.ensures (AreInvocations-filter _ _ _ c.self.invariant)

pub overflow_sub-result : goal.overflow_sub-result
overflow_sub-result c =
    rw (c.len.ensures.value, c.len-before.ensures.value, c.due_after-self-inside.ensures) (length-filter_le _ _)

pub returns-clause-count : goal.returns-clause-count
returns-clause-count c =
    rw (c.len.ensures.value, c.len-before.ensures.value, c.due_after-self-inside.ensures, ← c.self.view_is)
    (omega (arith, length-those_due c.args.moment c.self.inside.active))
