use Rattle.fp_adaptor.specs.Dialogues.{unless_exchange, unless_local}
use Rattle.fp_adaptor.proofs.Following.{said_as}
use Rattle.fp_adaptor.proofs.dialogues.Dialogues.hear.Goals as goal

pub returns : goal.returns
returns c = λ known sees.
    said_as _ _ _ _ (λ i q. unless_local (c.finished.ensures i) q (unless_exchange (c.begun.ensures i) (known q)))
    (c.forget_local.ensures _ (c.forget_exchange.ensures known sees))
