use Rattle.std.proofs.Common.{◌≡◌, length, sym, ◌∙◌, ap, arith}
use Rattle.fp_ism.specs.Padded.{length-take-padded}
use Rattle.fp_ism.specs.Vacant.{vacant}
use Rattle.fp_ism.proofs.Padding.{IsPadded-push}
use Rattle.fp_ism.proofs.active.ActiveInvocations.push.Goals as goal

pub invariant_of-self : goal.invariant_of-self
invariant_of-self c =
    let used_is : length c.args.self.now ≡ c.self.inside.used =
    sym (ap length c.self.view_is) ∙ length-take-padded 8 vacant c.self.inside.places c.self.inside.used c.self.invariant in
    IsPadded-push 8 vacant c.self.inside.places c.self.inside.used c.args.invocation c.self.invariant (omega arith)
