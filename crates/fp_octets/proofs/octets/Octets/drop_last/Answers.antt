use Rattle.std.proofs.Common.{◌≡◌, length, sym, ◌∙◌, ap, arith}
use Rattle.fp_octets.specs.Padded.{length-take-padded}
use Rattle.fp_octets.proofs.Padding.{IsPadded-drop_last}
use Rattle.fp_octets.proofs.octets.Octets.drop_last.Goals as goal

pub invariant_of-self : goal.invariant_of-self
invariant_of-self g c =
    let used_is : length c.args.self.now ≡ c.self.inside.used =
    sym (ap length c.self.view_is) ∙ length-take-padded _ c.self.inside.places c.self.inside.used c.self.invariant in
    rw c.from.ensures (IsPadded-drop_last _ _ _ _ c.self.invariant (omega arith))
