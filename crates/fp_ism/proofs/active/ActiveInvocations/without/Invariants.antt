use Rattle.std.proofs.Common.{◌≡◌, take}
use Rattle.fp_ism.specs.Invocation.{without}
use Rattle.fp_ism.proofs.active.ActiveInvocations.without.Given as goal

-- the invocations so far that have another identifier
abbrev pub invariant-loop-invocation : goal.invariant-loop-invocation
invariant-loop-invocation l = l.left ≡ without l.identifier (take l.invocation-index l.active)
