use Rattle.std.proofs.Common.{◌≡◌, take}
use Rattle.fp_ism.specs.Due.{those_left}
use Rattle.fp_ism.proofs.active.ActiveInvocations.due_after.Given as goal

-- those so far that aren't due yet
abbrev pub invariant-loop-invocation : goal.invariant-loop-invocation
invariant-loop-invocation l = l.left ≡ those_left l.moment (take l.invocation-index l.active)
