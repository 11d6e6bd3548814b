use Rattle.fp_digits.proofs.Writing.{WritesOn-step}
use Rattle.fp_digits.proofs.called_octets.CalledOctets.push_digits.Goals as goal

pub loop-rest-preserved : goal.loop-rest-preserved
loop-rest-preserved c =
    WritesOn-step _ _ _ _ c.loop-rest.invariant c.in-len2-up.len_at_least c.push.ensures
