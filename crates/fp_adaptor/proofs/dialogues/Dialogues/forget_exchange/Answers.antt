use Rattle.std.proofs.Common.{Some, ap, sym, ◌∙◌}
use Rattle.std.specs.Map.{lookup}
use Rattle.fp_adaptor.specs.Dialogues.{unless_exchange}
use Rattle.fp_adaptor.proofs.Following.{forget_none, forget_one, said_as}
use Rattle.fp_adaptor.proofs.dialogues.Dialogues.forget_exchange.Goals as goal

pub returns-in_default : goal.returns-in_default
returns-in_default c = λ known sees. said_as _ _ _ _ (λ i q. unless_exchange (sym c.in_default.is i) (known q)) sees

pub returns-in_default-remove : goal.returns-in_default-remove
returns-in_default-remove c = λ known sees.
    let same = ap Some c.key_of-key.ensures ∙ sym c.in-Some.is in
    said_as _ _ _ _ (λ i q. unless_exchange (same i) (known q))
    (forget_none _ _ known sees c.key_of-key.result (sym c.remove.ensures.value ∙ c.in_default-remove.is) _
    (λ p. ap (lookup _) c.in_default-remove.ensures.unchanged))

pub returns : goal.returns
returns c = λ known sees.
    let there = sym c.remove.ensures.value ∙ c.in-Some-remove.is ∙ ap Some (sym c.key_of.ensures) in
    let same = ap Some c.key_of-key.ensures ∙ sym c.in-Some.is in
    said_as _ _ _ _ (λ i q. unless_exchange (same i) (known q))
    (forget_one _ _ known sees c.key_of-key.result c.key_of.result there _ _ c.remove-forgotten.ensures.updates.0 c.remove.ensures.updates.0)
