use Rattle.fp_octets.proofs.Padding.{IsPadded-over}
use Rattle.fp_octets.proofs.octets.Octets.from_slice.Goals as goal

pub invariant_of-result : goal.invariant_of-result
invariant_of-result g c = rw c.copy_from_slice.ensures.after (IsPadded-over _ c.args.octets.now c.requires c.if-octets.false)
