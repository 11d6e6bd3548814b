use Rattle.fp_ism.proofs.Sound.{AreInvocations-filter}
use Rattle.fp_ism.proofs.invocations.Invocations.reject.Goals as goal

pub invariant_of-self : goal.invariant_of-self
invariant_of-self c = rw c.without-self-inside.ensures (AreInvocations-filter _ _ _ c.self.invariant)
