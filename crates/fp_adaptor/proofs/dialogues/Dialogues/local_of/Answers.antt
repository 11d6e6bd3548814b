use Rattle.std.proofs.Common.{◌≡◌, Some, rules, ap, sym, subst, ◌∙◌}
use Rattle.fp_adaptor.specs.Dialogues.{HasLocal}
use Rattle.fp_adaptor.specs.Seen.{at_exchange}
use Rattle.fp_adaptor.proofs.Found.{found}
use Rattle.fp_adaptor.proofs.dialogues.Dialogues.local_of.Goals as goal

pub returns : goal.returns
returns c = λ known sees.
    let is : at_exchange c.args.self.now c.key_of-key.result ≡ c.copied.result = search rules in
    subst (λ o. HasLocal known o c.copied.result) (ap Some c.key_of-key.ensures ∙ sym c.in-Some.is)
    (found _ _ known sees c.key_of-key.result _ is)
